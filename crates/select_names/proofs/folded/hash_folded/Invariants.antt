use Rattle.std.proofs.Common.{◌≡◌, take, fold, flat_map}
use Rattle.std.specs.Hash as fed
use Rattle.value_core.specs.NameFold.{folded}
use Rattle.select_names.proofs.folded.hash_folded.Given as goal

-- the bytes so far were written
abbrev pub invariant-loop-byte : goal.invariant-loop-byte
invariant-loop-byte g l = l.state ≡ fold g.H.Hasher.write l.initial.state (flat_map fed.u8 (folded (take l.byte-index l.text)))
