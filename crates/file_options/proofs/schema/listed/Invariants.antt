use Rattle.std.proofs.Common.{◌≡◌, length}
use Rattle.file_options.specs.Schemas.{listed}
use Rattle.file_options.proofs.Lists.{behind}
use Rattle.file_options.proofs.schema.listed.Given as goal

-- the columns found, and those that are left, are those of all tokens
abbrev pub invariant-loop-name : goal.invariant-loop-name
invariant-loop-name l = behind l.columns (listed l.left) ≡ listed l.fn.lexemes

abbrev pub decreases-loop-name : goal.decreases-loop-name
decreases-loop-name l = length l.left
