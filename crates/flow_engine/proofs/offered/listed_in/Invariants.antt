use Rattle.std.proofs.Common.{◌≡◌, drop}
use Rattle.flow_engine.specs.Flows.{listing_in}
use Rattle.flow_engine.proofs.offered.listed_in.Given as goal

abbrev pub invariant-loop-one : goal.invariant-loop-one
invariant-loop-one l = listing_in (drop l.one-index l.listings) l.dir ≡ listing_in l.listings l.dir
