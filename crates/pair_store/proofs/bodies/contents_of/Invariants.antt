use Rattle.std.proofs.Common.{◌≡◌, ◌+◌, length, map, take}
use Rattle.commit_gate.specs.Log.{records}
use Rattle.state_model.specs.Dataset.{empty_state}
use Rattle.pair_state.specs.Leads.{LeadsTo}
use Rattle.pair_store.proofs.bodies.contents_of.Given as goal

abbrev pub invariant-loop-body : goal.invariant-loop-body
invariant-loop-body g l =
    let before = map (λ body. body.items) (take l.body-index l.body-items) in
    record {
      leads : LeadsTo empty_state before l.contents;
      place : l.at ≡ 17 + length (records before);
    }
