-- Payloads of which each front is allowed.
use Rattle.std.specs.Prelude.{◌≡◌, ◌⊎◌, List, ◌++◌}
use Rattle.landing_core.specs.declared.landing.LandingFile.{LandingFile}
use Rattle.commit_payloads.specs.declared.payload.Payload.{Payload}
use Rattle.plan_core.specs.declared.plan.Dataset.{Dataset as Part}
use Rattle.state_model.specs.Dataset.{State}
use Rattle.update_plan.specs.Commits.{AllCommit}

-- each front of these payloads may be committed one after the other, and leads to the datasets that were there, or to these
abbrev pub FrontsCommit : List Part → List LandingFile → State → List Payload → List Part → Type 0
FrontsCommit parts ever state tried after =
    (front behind : List Payload) → tried ≡ front ++ behind → (now : List Part) × AllCommit parts ever state front now × ((now ≡ parts) ⊎ (now ≡ after))
