use Rattle.std.proofs.Common.{◌≡◌, ◌++◌, take}
use Rattle.tree_equality.proofs.codes.put_bytes.Given as goal

-- the bytes so far
abbrev pub invariant-loop-byte : goal.invariant-loop-byte
invariant-loop-byte l = l.code ≡ l.initial.code ++ take l.byte-index l.text
