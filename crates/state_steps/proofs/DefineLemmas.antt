-- A definition, and files that grow, keep a store standing.
use Rattle.std.proofs.Common.{List, ◌++◌, map, length, drop, Bool, true, false, ℕ, sym, ap, ◌∙◌, subst}
use Rattle.std.specs.Option.{option_or}
use Rattle.std.proofs.lemmas.List.Folds.{find-append}
use Rattle.landing_core.specs.declared.landing.LandingFile.{LandingFile}
use Rattle.landing_history.specs.Taken.{HaveGrown}
use Rattle.plan_core.specs.declared.plan.Dataset.{Dataset as Part}
use Rattle.commit_payloads.specs.declared.definition.Definition.{Definition}
use Rattle.state_model.specs.After.{begun, defined}
use Rattle.state_model.specs.Dataset.{State, dataset_of, is_named}
use Rattle.state_steps.specs.Stands.{AllStand, Stands}
use Rattle.state_steps.specs.Steps.{Defines}
use Rattle.state_steps.proofs.AllLemmas.{all_grow, all_keep, all_stay, goes_same, same_streamed, streamed_more}
use Rattle.state_steps.proofs.EmptyLemmas.{all_more, begun_stand}
use Rattle.state_steps.proofs.Lookups.{Goes}
use Rattle.state_steps.proofs.VersionLemmas.{IsStreamedOn}

-- datasets behind those that are there hide none of them
goes_before : (state more : State) (name : List ℕ) → Goes IsStreamedOn state (state ++ more) name
goes_before state more name old e = (old, find-append (is_named name) state more ∙ ap (λ o. option_or o (dataset_of more name)) e, same_streamed old)

pub define_stands : (parts new : List Part) (ever : List LandingFile) (state : State) (is_fresh : Bool) (list : List Definition) → Stands parts ever state → Defines parts new state is_fresh list
    → Stands new ever (defined is_fresh list state)
define_stands parts new ever state true list stands defines = record { sound = defines.sound; each = begun_stand ever (map begun list) new list defines.begins }
define_stands parts new ever state false list stands defines =
    let begins = defines.begins in
    let more : List Part = begins.1.0 in
    let behind : State = map begun (drop (length state) list) in
    let old : AllStand ever (state ++ behind) parts state =
    all_stay ever ever state (state ++ behind) (λ name. streamed_more state (state ++ behind) name (goes_before state behind name)) parts state
    (all_keep ever state (state ++ behind) (goes_before state behind) parts) stands.each in
    let all : AllStand ever (state ++ behind) (parts ++ more) (state ++ behind) =
    all_more ever (state ++ behind) parts more state behind old (begun_stand ever (state ++ behind) more (drop (length state) list) begins.1.2) in
    record { sound = defines.sound; each = subst (λ p. AllStand ever (state ++ behind) p (state ++ behind)) (sym begins.1.1) all }

pub grow_stands : (parts : List Part) (ever now : List LandingFile) (state : State) → Stands parts ever state → HaveGrown ever now → Stands parts now state
grow_stands parts ever now state stands grown =
    record { sound = stands.sound; each = all_stay ever now state state (λ name. streamed_more state state name (goes_same state name)) parts state (all_grow ever now state grown parts) stands.each }
