use Rattle.std.proofs.Common.{◌≡◌, take}
use Rattle.std.specs.Prelude.{flat_map}
use Rattle.state_model.specs.Saved.{least_of}
use Rattle.store_folding.proofs.ReaderLemmas.{versions_of_reader}
use Rattle.store_folding.proofs.readers.least_reader.Given as goal

abbrev pub invariant-loop-place : goal.invariant-loop-place
invariant-loop-place l = l.now ≡ least_of l.least (flat_map (versions_of_reader l.name) (take l.place l.contents))
