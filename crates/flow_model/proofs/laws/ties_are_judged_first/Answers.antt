use Rattle.flow_model.specs.Halts.{readings}
use Rattle.flow_model.proofs.HaltLemmas.{all_in_front, events_are_given, seen_are_upserts, stop_from}
use Rattle.flow_model.proofs.laws.ties_are_judged_first.Goals as goal

pub returns : goal.returns
returns c = record {
  stop = λ cdc xs rows old. stop_from cdc xs 1 rows old;
  whole = λ cdc xs rows none. all_in_front 1 (readings cdc xs rows) none;
  events = λ cdc xs rows. events_are_given cdc xs 1 rows;
  seen = λ cdc xs rows. seen_are_upserts cdc xs rows;
}
