use Rattle.std.proofs.Common.{◌≡◌, ◌+◌, length, map, take}
use Rattle.commit_gate.specs.Log.{records}
use Rattle.store_state.specs.State.{empty_state}
use Rattle.store_core.specs.State.{LeadsTo}
use Rattle.store_core.proofs.bodies.contents_of.Given as goal

abbrev pub invariant-loop-body : goal.invariant-loop-body
invariant-loop-body l =
    let before = map (λ body. body.items) (take l.body-index l.body-items) in
    record {
      leads : LeadsTo empty_state before l.contents;
      place : l.at ≡ 17 + length (records before);
    }
