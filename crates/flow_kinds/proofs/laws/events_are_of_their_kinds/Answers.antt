use Rattle.flow_kinds.specs.EventKinds.{is_event_of}
use Rattle.flow_kinds.proofs.EventFits.{fresh_fit, given_fit}
use Rattle.flow_kinds.proofs.laws.events_are_of_their_kinds.Goals as goal

pub returns : goal.returns
returns c = record { all = given_fit; of_them = λ sequences keys columns old events fit. fresh_fit (is_event_of sequences keys columns) old events fit }
