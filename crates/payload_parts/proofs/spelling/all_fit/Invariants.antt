use Rattle.std.proofs.Common.{◌≡◌, drop}
use Rattle.commit_payloads.specs.Forms.{all_fit}
use Rattle.payload_parts.proofs.spelling.all_fit.Given as goal

abbrev pub invariant-loop-definition : goal.invariant-loop-definition
invariant-loop-definition l = all_fit (drop l.definition-index l.list) ≡ all_fit l.list
