use Rattle.std.proofs.Common.{◌≡◌, ◌-◌, ◌≤◌, drop, length}
use Rattle.segment_rows.specs.Reading.{items_at}
use Rattle.segment_rows.proofs.LoopLemmas.{with_front}
use Rattle.segment_rows.proofs.list.take_items.Given as goal

abbrev pub invariant-loop : goal.invariant-loop
invariant-loop g l = record {
  read : with_front l.items (items_at g.T.Field.reading (l.count - l.counter) (drop l.place l.bytes)) ≡ items_at g.T.Field.reading l.count (drop l.at l.bytes);
  after : l.at ≤ l.place;
  within : l.place ≤ length l.bytes;
}
