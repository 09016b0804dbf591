use Rattle.std.proofs.Common.{◌≡◌, ◌++◌, take}
use Rattle.flow_news.proofs.source.append.Given as goal

abbrev pub invariant-loop-row : goal.invariant-loop-row
invariant-loop-row l = l.rows ≡ l.fn.rows ++ take l.row-index l.more
