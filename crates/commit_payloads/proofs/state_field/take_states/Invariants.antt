use Rattle.std.proofs.Common.{◌≡◌, ◌-◌, ◌≤◌, drop, length}
use Rattle.segment_rows.specs.Reading.{items_at}
use Rattle.commit_payloads.specs.Reading.{dataset_state_at}
use Rattle.commit_payloads.proofs.StateLemmas.{with_front}
use Rattle.commit_payloads.proofs.state_field.take_states.Given as goal

abbrev pub invariant-loop : goal.invariant-loop
invariant-loop l = record {
  read : with_front l.states (items_at dataset_state_at (l.count - l.counter) (drop l.place l.bytes)) ≡ items_at dataset_state_at l.count (drop l.at l.bytes);
  after : l.at ≤ l.place;
  within : l.place ≤ length l.bytes;
}
