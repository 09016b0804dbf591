use Rattle.std.proofs.Common.{◌↔◌, drop}
use Rattle.std.specs.List.{AllByRecursion}
use Rattle.commit_payloads.specs.Forms.{IsProgress}
use Rattle.payload_parts.proofs.spelling.all_progress.Given as goal

abbrev pub invariant-loop-cursor : goal.invariant-loop-cursor
invariant-loop-cursor l = AllByRecursion IsProgress (drop l.cursor-index l.cursors) ↔ AllByRecursion IsProgress l.cursors
