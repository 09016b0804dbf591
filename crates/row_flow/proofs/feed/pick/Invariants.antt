use Rattle.std.proofs.Common.{◌≡◌, ◌++◌, drop}
use Rattle.flow_model.specs.Feed.{pick}
use Rattle.row_flow.proofs.feed.pick.Given as goal

abbrev pub invariant-loop-at : goal.invariant-loop-at
invariant-loop-at l = l.values ++ pick (drop l.at-index l.places) l.row ≡ pick l.places l.row
