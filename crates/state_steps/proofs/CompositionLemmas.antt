-- Each step keeps a store standing.
use Rattle.std.proofs.Common.{◌≡◌, List, [], refl, sym, ap, ◌∙◌, subst, rules}
use Rattle.landing_core.specs.declared.landing.LandingFile.{LandingFile}
use Rattle.plan_core.specs.declared.plan.Dataset.{Dataset as Part}
use Rattle.commit_payloads.specs.declared.payload.Payload.{Payload}
use Rattle.commit_payloads.specs.declared.payload.Payload.TheVariants as payload
use Rattle.state_model.specs.After.{after_payload}
use Rattle.state_model.specs.Dataset.{State}
use Rattle.state_model.specs.Saved.{compacted, read_back}
use Rattle.state_model.proofs.StateLemmas.{saved-read_back}
use Rattle.state_steps.specs.Parts.{IsOf, definition_of}
use Rattle.state_steps.specs.Stands.{Stands}
use Rattle.state_steps.specs.Steps.{Commits, Situation, Step, Commit, Grow, Steps, Done, More}
use Rattle.state_steps.proofs.CompactLemmas.{compact_stands}
use Rattle.state_steps.proofs.DefineLemmas.{define_stands, grow_stands}
use Rattle.state_steps.proofs.ResetLemmas.{reset_stands}
use Rattle.state_steps.proofs.StepLemmas.{refresh_stands, take_stands}

pub commit_stands : (parts new : List Part) (ever : List LandingFile) (state : State) (body : Payload) → Stands parts ever state → Commits parts ever state body new → Stands new ever (after_payload state body)
commit_stands parts new ever state (payload.Define is_fresh list) stands commits = define_stands parts new ever state is_fresh list stands commits
commit_stands parts new ever state (payload.Take batch) stands commits = subst (λ p. Stands p ever (after_payload state (payload.Take batch))) (sym commits.0) (take_stands parts ever state batch stands commits.1)
commit_stands parts new ever state (payload.Refresh refresh) stands commits = subst (λ p. Stands p ever (after_payload state (payload.Refresh refresh))) (sym commits.0) (refresh_stands parts ever state refresh stands commits.1)
commit_stands parts new ever state (payload.Reset names) stands commits = subst (λ p. Stands p ever (after_payload state (payload.Reset names))) (sym commits.0) (reset_stands parts ever state names stands commits.1.closed)
commit_stands parts new ever state (payload.Base base) stands commits =
    let folded : read_back base ≡ compacted state = ap read_back commits.1 ∙ saved-read_back (compacted state) in
    subst (λ p. Stands p ever (read_back base)) (sym commits.0) (subst (Stands parts ever) (sym folded) (compact_stands parts ever state stands))

abbrev pub IsStanding : Situation → Type 0
IsStanding at = Stands at.parts at.ever at.state

pub step_stands : (was now : Situation) → Step was now → IsStanding was → IsStanding now
step_stands was now (Commit parts new ever state body commits) stands = commit_stands parts new ever state body stands commits
step_stands was now (Grow parts ever more state grown) stands = grow_stands parts ever more state stands grown

pub steps_stand : (was now : Situation) → Steps was now → IsStanding was → IsStanding now
steps_stand was now (Done at) stands = stands
steps_stand was now (More first next last step steps) stands = steps_stand next last steps (step_stands first next step stands)

pub none_stands : (ever : List LandingFile) → Stands [] ever []
none_stands ever = record { sound = record { names_differ = search rules; each_dataset = search rules }; each = tt }

pub is_of_parts : (plan : List Part) (part : Part) → IsOf part (definition_of plan part)
is_of_parts plan part = record { name = refl; text = refl; body = refl; columns = refl; expectations = refl; flows = refl; keys = refl }
