-- An allowed commit follows the state of a store that stands, and the store keeps its shape.
use Rattle.std.proofs.Common.{◌≡◌, List, [], ◌∷◌, map, drop, length, Bool, true, false, sym, ap, ◌∙◌, subst, arith}
use Rattle.std.specs.List.{AllByRecursion}
use Rattle.landing_core.specs.declared.landing.LandingFile.{LandingFile}
use Rattle.plan_core.specs.declared.plan.Dataset.{Dataset as Part}
use Rattle.commit_payloads.specs.declared.definition.Definition.{Definition}
use Rattle.commit_payloads.specs.declared.payload.Payload.{Payload}
use Rattle.commit_payloads.specs.declared.payload.Payload.TheVariants as payload
use Rattle.commit_payloads.specs.declared.state.State.{State as Saved}
use Rattle.commit_payloads.specs.declared.take.Refresh.{Refresh}
use Rattle.commit_payloads.specs.declared.take.Take.{Take}
use Rattle.commit_payloads.specs.Forms.{AreDefinitions, IsBase}
use Rattle.state_model.specs.After.{after_payload, refreshed, taken}
use Rattle.state_model.specs.Dataset.{State, dataset_of}
use Rattle.state_model.specs.Follows.{Fits, FitsRefresh, FitsTake, IsStore, all_fit}
use Rattle.state_model.specs.Saved.{compacted, folded_for, read_back, saved}
use Rattle.state_model.proofs.StateLemmas.{saved-read_back}
use Rattle.state_steps.specs.Shapes.{AllHaveShape, AllWithin, IsKeptWell, written_on}
use Rattle.state_steps.specs.Stands.{Stands}
use Rattle.state_steps.specs.Steps.{Commits, Defines, Refreshes, Situation, Step, Commit, Grow, Steps, Done, More, Takes}
use Rattle.state_steps.proofs.BaseLemmas.{is_base}
use Rattle.state_steps.proofs.CommitShapes.{BatchFits, commit_keeps, folded_definitions, renewal_shape, still_typed, take_shape}
use Rattle.state_keeps.specs.Stored.{IsStored}
use Rattle.state_keeps.proofs.FoldLemmas.{later}
use Rattle.state_steps.proofs.CompactLemmas.{compact_stands}
use Rattle.state_steps.proofs.CompositionLemmas.{step_stands}
use Rattle.state_steps.proofs.FitsLemmas.{HasShape, commit_fits, defined_are, refresh_fits, some_fits, take_fits}
use Rattle.state_steps.proofs.RowShapes.{compacted_shaped}
use Rattle.state_steps.proofs.StoreLemmas.{is_store}
use Rattle.state_steps.proofs.WellLemmas.{begun_all, behind_all, folded_all, refreshed_well, reset_all, some_there, taken_well, updated_all}
use Rattle.state_steps.proofs.WritableLemmas.{all_forms, refresh_writable, take_writable}

-- ---- a folded store

within_folded : (whole ds : State) → AllWithin ds → AllWithin (map (folded_for whole) ds)
within_folded whole [] limits = tt
within_folded whole (d ∷ ds) limits = (omega (arith, (later whole d).now, limits.0), within_folded whole ds limits.1)

module _ (parts : List Part) (ever : List LandingFile) (state : State) (stands : Stands parts ever state) (shape : AllHaveShape parts state) where
  folded_shape : AllHaveShape parts (compacted state)
  folded_shape = record {
    rows = compacted_shaped state shape.rows;
    kept = folded_all state state shape.kept;
    typed = still_typed parts ever state stands shape (compacted state) (folded_definitions parts ever state stands shape state state);
  }

  folded_is : (base : Saved) → base ≡ saved (compacted state) → read_back base ≡ compacted state
  folded_is base e = ap read_back e ∙ saved-read_back (compacted state)

  pub stored : AllWithin state → IsStored state
  stored limits = record { store = is_store parts ever state stands shape limits; form = is_base parts ever state stands shape }

  folded_store : AllWithin state → IsStore (compacted state)
  folded_store limits = is_store parts ever (compacted state) (compact_stands parts ever state stands) folded_shape (within_folded state state limits)

  -- ---- an allowed commit follows

  batch_shape : (batch : Take) → Takes parts ever state batch → HasShape state (payload.Take batch)
  batch_shape batch takes = some_fits (λ d. BatchFits d batch) (dataset_of state batch.table) takes.dataset takes.found.dataset_is (take_shape parts ever state stands shape batch takes)

  view_shape : (refresh : Refresh) → Refreshes parts state refresh → HasShape state (payload.Refresh refresh)
  view_shape refresh r =
      some_fits (λ d. all_fit d.definition.columns refresh.change.added ≡ true) (dataset_of state refresh.view) r.dataset r.found.dataset_is (renewal_shape parts ever state stands shape refresh r)

  has_shape : (new : List Part) (commit : Payload) → AllWithin state → Commits parts ever state commit new → HasShape state commit
  has_shape new (payload.Define is_fresh list) limits commits = tt
  has_shape new (payload.Take batch) limits commits = batch_shape batch commits.1
  has_shape new (payload.Refresh refresh) limits commits = view_shape refresh commits.1
  has_shape new (payload.Reset names) limits commits = tt
  has_shape new (payload.Base base) limits commits = subst IsStore (sym (folded_is base commits.1)) (folded_store limits)

  pub commit_follows : (new : List Part) (commit : Payload) → AllWithin state → Commits parts ever state commit new → Fits (written_on state commit) commit
  commit_follows new commit limits commits = commit_fits parts new ever state commit stands commits (has_shape new commit limits commits)

  pub folded_form : IsBase (saved (compacted state))
  folded_form = is_base parts ever (compacted state) (compact_stands parts ever state stands) folded_shape

  pub definitions_have_forms : (new : List Part) (is_fresh : Bool) (list : List Definition) → Defines parts new state is_fresh list → AreDefinitions list
  definitions_have_forms new is_fresh list defines = all_forms new new list (defined_are parts new ever state is_fresh list stands defines) defines.typed

  -- ---- each dataset stays as it is kept

  taken_all : (batch : Take) → Takes parts ever state batch → AllByRecursion IsKeptWell (after_payload state (payload.Take batch))
  taken_all batch takes =
      let fits = take_fits parts ever state batch stands takes (batch_shape batch takes) in
      updated_all (taken batch) batch.table state
      (λ d e well. let one : FitsTake state batch d = some_there (FitsTake state batch) (dataset_of state batch.table) d fits e in
      taken_well batch d well one.table (take_writable parts ever state batch takes).1) shape.kept

  refreshed_all : (refresh : Refresh) → Refreshes parts state refresh → AllByRecursion IsKeptWell (after_payload state (payload.Refresh refresh))
  refreshed_all refresh r =
      let fits = refresh_fits parts ever state refresh stands r (view_shape refresh r) in
      updated_all (refreshed refresh) refresh.view state
      (λ d e well. let one : FitsRefresh state refresh d = some_there (FitsRefresh state refresh) (dataset_of state refresh.view) d fits e in
      refreshed_well refresh state d well one (refresh_writable parts state refresh r).1) shape.kept

  kept_after : (new : List Part) (commit : Payload) → Commits parts ever state commit new → AllByRecursion IsKeptWell (after_payload state commit)
  kept_after new (payload.Define true list) commits = begun_all list
  kept_after new (payload.Define false list) commits = behind_all state (drop (length state) list) shape.kept
  kept_after new (payload.Take batch) commits = taken_all batch commits.1
  kept_after new (payload.Refresh refresh) commits = refreshed_all refresh commits.1
  kept_after new (payload.Reset names) commits = reset_all names state shape.kept
  kept_after new (payload.Base base) commits = subst (AllByRecursion IsKeptWell) (sym (folded_is base commits.1)) (folded_all state state shape.kept)

  pub shape_after : (new : List Part) (commit : Payload) → Commits parts ever state commit new → AllHaveShape new (after_payload state commit)
  shape_after new commit commits = commit_keeps parts ever state stands shape new commit commits (kept_after new commit commits)

-- ---- steps

abbrev pub Both : Situation → Type 0
Both at = Stands at.parts at.ever at.state × AllHaveShape at.parts at.state

step_keeps : (was now : Situation) → Step was now → Both was → Both now
step_keeps was now (Commit parts new ever state body commits) both =
    (step_stands was now (Commit parts new ever state body commits) both.0, shape_after parts ever state both.0 both.1 new body commits)
step_keeps was now (Grow parts ever more state grown) both = (step_stands was now (Grow parts ever more state grown) both.0, both.1)

pub steps_keep : (was now : Situation) → Steps was now → Both was → Both now
steps_keep was now (Done at) both = both
steps_keep was now (More first next last step steps) both = steps_keep next last steps (step_keeps first next step both)
