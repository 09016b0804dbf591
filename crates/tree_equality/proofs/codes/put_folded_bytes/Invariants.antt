use Rattle.std.proofs.Common.{◌≡◌, ◌++◌, take}
use Rattle.value_core.specs.NameFold.{folded}
use Rattle.tree_equality.proofs.codes.put_folded_bytes.Given as goal

-- the bytes so far in lower case
abbrev pub invariant-loop-byte : goal.invariant-loop-byte
invariant-loop-byte l = l.code ≡ l.initial.code ++ folded (take l.byte-index l.text)
