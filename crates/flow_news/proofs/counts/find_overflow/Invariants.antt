use Rattle.std.proofs.Common.{◌≡◌, drop}
use Rattle.flow_model.specs.Counts.{count_stop}
use Rattle.flow_news.proofs.counts.find_overflow.Given as goal

-- the first stop is among those of the expectations that are left
abbrev pub invariant-loop-x : goal.invariant-loop-x
invariant-loop-x l = count_stop (drop l.x-index l.expectations) l.kept l.more ≡ count_stop l.expectations l.fn.kept l.fn.more
