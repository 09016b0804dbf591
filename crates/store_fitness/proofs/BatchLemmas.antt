-- A batch leaves a store ready.
use Rattle.std.proofs.Common.{◌≡◌, ◌⊎◌, inl, inr, ℕ, List, [], ◌∷◌, true, Option, Some, None, IsTrue, refl, sym, ap, ◌∙◌, subst}
use Rattle.std.specs.Prelude.{⊤, IfSome, IsSomeAnd, find, option_and_then}
use Rattle.std.specs.List.{AllByRecursion}
use Rattle.value_core.specs.declared.cursor.Cursor.{Cursor}
use Rattle.plan_core.specs.declared.plan.Body.{Body}
use Rattle.plan_core.specs.declared.plan.Body.TheVariants as body
use Rattle.plan_core.specs.declared.plan.Dataset.{Dataset as Part}
use Rattle.plan_core.specs.Sound.{dataset_named}
use Rattle.plan_core.specs.Sound as sound
use Rattle.commit_payloads.specs.declared.definition.Definition.{Definition}
use Rattle.commit_payloads.specs.declared.definition.StoredBody.{StoredBody}
use Rattle.commit_payloads.specs.declared.definition.StoredFlow.{StoredFlow}
use Rattle.commit_payloads.specs.declared.payload.Payload.TheVariants as payload
use Rattle.commit_payloads.specs.declared.take.Take.{Take}
use Rattle.pair_state.specs.Leads.{IsReachable}
use Rattle.state_keeps.specs.Stored.{IsStored}
use Rattle.state_keeps.proofs.NameLemmas.{AreFound, all_found}
use Rattle.state_model.specs.After.{after_payload, taken, updated}
use Rattle.state_model.specs.Dataset.{Dataset, State, cursor_of, dataset_of, definitions_of, flow_of, is_flow}
use Rattle.state_model.specs.Follows.{Fits, FitsTake, is_append, is_append_body}
use Rattle.state_model.proofs.StateLemmas.{definitions-updated}
use Rattle.state_steps.specs.Parts.{definition_of, stored_body}
use Rattle.state_steps.proofs.AllLemmas.{same_streamed}
use Rattle.state_steps.proofs.Lookups.{Goes, found_after, some_and, some_same}
use Rattle.state_steps.proofs.VersionLemmas.{IsStreamedOn}
use Rattle.update_plan.proofs.LookupLemmas.{found_all}
use Rattle.store_fitness.specs.Fitness.{AreAppends, AreStored, EndsAtSource, FitsPlan, FlowFits, IsAlike, IsReady, IsSourceNow, PositionFits, ReadsOn, position_of}
use Rattle.store_fitness.proofs.FlowLemmas.{Moves, all_there, cursor_moves, if_moved, map_all, name_itself, position_stays, source_fits}

-- ---- a batch of an append table removes nothing

body_appends : (b : Body) → IsTrue (sound.is_append b) → is_append_body (stored_body b) ≡ true
body_appends (body.Append flows) is = refl
body_appends (body.Cdc cdc) is = cc
body_appends (body.View query) is = cc

alike_appends : (plan : List Part) (name : List ℕ) (definition : Definition) (o : Option Part) → dataset_named plan name ≡ o → AreAppends plan → IsSomeAnd o (λ part. definition ≡ definition_of plan part) → is_append definition ≡ true
alike_appends plan name definition None found appends alike = absurd alike
alike_appends plan name definition (Some part) found appends alike =
    ap is_append alike ∙ body_appends part.body (found_all (λ (p : Part). IsTrue (sound.is_append p.body)) plan name part appends found).1

removed_by : (plan : List Part) (state : State) (batch : Take) (o : Option Dataset) → dataset_of state batch.table ≡ o → AreAppends plan → AllByRecursion (IsAlike plan) (definitions_of state) → IsSomeAnd o (FitsTake state batch) → batch.change.removed ≡ []
removed_by plan state batch None found appends alike fits = absurd fits
removed_by plan state batch (Some target) found appends alike fits =
    fits.table.removes_none
    (alike_appends plan target.definition.name target.definition (dataset_named plan target.definition.name) refl appends (all_there (IsAlike plan) state batch.table target alike found))

-- ---- the store after it

taken_on : (batch : Take) (d : Dataset) → batch.change.removed ≡ [] → IsStreamedOn d (taken batch d)
taken_on batch d none = record { is_more = record { definition = refl; base = refl; rows = refl; more = batch.change ∷ []; changes = refl }; none = (none, tt) }

module _ (state : State) (batch : Take) (none : batch.change.removed ≡ []) (ends : EndsAtSource state batch) where
  abbrev pub now : State
  now = updated batch.table (taken batch) state

  pub goes : (name : List ℕ) → Goes IsStreamedOn state now name
  goes name old e =
      elim (found_after (taken batch) (λ d. refl) batch.table name state old e) [
        | inl h ↦ (old, h, same_streamed old)
        | inr h ↦ (taken batch old, h.0, taken_on batch old none)
      ]

  -- where the batch's flow ends, in its dataset
  ends_by : (o : Option Dataset) (target : Dataset) → o ≡ Some target → IsSomeAnd o (λ d. IfSome (flow_of d batch.flow) (λ flow. IsSourceNow state flow.origin batch.cursor)) → IfSome (flow_of target batch.flow) (λ flow. IsSourceNow state flow.origin batch.cursor)
  ends_by None target e h = absurd h
  ends_by (Some d) target e h = subst (λ (w : Dataset). IfSome (flow_of w batch.flow) (λ flow. IsSourceNow state flow.origin batch.cursor)) (some_same d target e) h

  -- what a flow's position becomes
  abbrev Becomes : Dataset → List ℕ → Option Cursor → Option Cursor → Type 0
  Becomes d name was at = (at ≡ was) ⊎ ((at ≡ Some batch.cursor) × IfSome (flow_of d name) (λ flow. IsSourceNow state flow.origin batch.cursor))

  becomes_by : (d : Dataset) (name : List ℕ) → dataset_of state batch.table ≡ Some d → Moves d.definition.flows name batch.flow (cursor_of d name) (cursor_of (taken batch d) name) batch.cursor → Becomes d name (cursor_of d name) (cursor_of (taken batch d) name)
  becomes_by d name is moves =
      elim moves [
        | inl h ↦ inl h
        | inr h ↦ inr (h.0, subst (λ (o : Option StoredFlow). IfSome o (λ flow. IsSourceNow state flow.origin batch.cursor)) (sym h.1) (ends_by (dataset_of state batch.table) d is ends))
      ]

  position_becomes : (d : Dataset) (name : List ℕ) → dataset_of state d.definition.name ≡ Some d → Becomes d name (position_of state d.definition.name name) (position_of now d.definition.name name)
  position_becomes d name is =
      let was : position_of state d.definition.name name ≡ cursor_of d name = ap (λ (o : Option Dataset). option_and_then (λ x. cursor_of x name) o) is in
      elim (found_after (taken batch) (λ x. refl) batch.table d.definition.name state d is) [
        | inl h ↦ inl (ap (λ (o : Option Dataset). option_and_then (λ x. cursor_of x name) o) h ∙ sym was)
        | inr h ↦
            let at : position_of now d.definition.name name ≡ cursor_of (taken batch d) name = ap (λ (o : Option Dataset). option_and_then (λ x. cursor_of x name) o) h.0 in
            elim (becomes_by d name h.1 (cursor_moves name batch.flow batch.cursor d.definition.flows d.cursors)) [ inl k ↦ inl (at ∙ k ∙ sym was) | inr k ↦ inr (at ∙ k.0, k.1) ]
      ]

  fits_by : (b : StoredBody) (o : Option StoredFlow) (was at : Option Cursor) → (at ≡ was) ⊎ ((at ≡ Some batch.cursor) × IfSome o (λ flow. IsSourceNow state flow.origin batch.cursor))
      → IfSome o (λ flow. IfSome was (PositionFits state b flow.origin)) → IfSome o (λ flow. IfSome at (PositionFits now b flow.origin))
  fits_by b None was at becomes fits = tt
  fits_by b (Some flow) was at becomes fits =
      elim becomes [
        | inl h ↦ subst (λ (c : Option Cursor). IfSome c (PositionFits now b flow.origin)) (sym h) (if_moved (PositionFits state b flow.origin) (PositionFits now b flow.origin) was (position_stays state now goes b flow.origin) fits)
        | inr h ↦ subst (λ (c : Option Cursor). IfSome c (PositionFits now b flow.origin)) (sym h.0) (source_fits state now goes b flow.origin batch.cursor h.1)
      ]

  flow_on : (d : Dataset) (name : List ℕ) → dataset_of state d.definition.name ≡ Some d → FlowFits state d.definition name → FlowFits now d.definition name
  flow_on d name is fits =
      fits_by d.definition.body (find (is_flow name) d.definition.flows) (position_of state d.definition.name name) (position_of now d.definition.name name) (position_becomes d name is) fits

  all_on : (ds : State) → AreFound state ds → AllByRecursion (ReadsOn state) (definitions_of ds) → AllByRecursion (ReadsOn now) (definitions_of ds)
  all_on [] found all = tt
  all_on (d ∷ ds) found all = (
    map_all (λ (flow : StoredFlow). FlowFits state d.definition flow.name) (λ (flow : StoredFlow). FlowFits now d.definition flow.name) d.definition.flows
        (λ flow. flow_on d flow.name (found.0 d.definition.name (name_itself d.definition.name))) all.0,
    all_on ds found.1 all.1,
  )

  same_definitions : definitions_of now ≡ definitions_of state
  same_definitions = definitions-updated batch.table (taken batch) state (λ d. refl)

  pub fits_after : (plan : List Part) → IsStored state → FitsPlan plan state → FitsPlan plan now
  fits_after plan is fits = record {
    alike = subst (AllByRecursion (IsAlike plan)) (sym same_definitions) fits.alike;
    read_on = subst (AllByRecursion (ReadsOn now)) (sym same_definitions) (all_on state (all_found state is.store.distinct) fits.read_on);
  }

  pub stored_after : (plan : List Part) → AreStored plan state → AreStored plan now
  stored_after plan stored =
      map_all (λ (part : Part). IsSomeAnd (dataset_of state part.name) (λ _. ⊤)) (λ (part : Part). IsSomeAnd (dataset_of now part.name) (λ _. ⊤)) plan
      (λ part there. some_and IsStreamedOn (λ _. ⊤) (λ _. ⊤) (dataset_of state part.name) (dataset_of now part.name) (goes part.name) (λ a b r h. tt) there) stored

pub stays_ready : (plan : List Part) (state : State) (batch : Take) → (IsReachable state → IsStored state) → AreAppends plan → IsReady plan state → Fits state (payload.Take batch) → EndsAtSource state batch
    → IsReachable (after_payload state (payload.Take batch)) → IsReady plan (after_payload state (payload.Take batch))
stays_ready plan state batch stored_of appends ready fits ends reached =
    let none = removed_by plan state batch (dataset_of state batch.table) refl appends ready.fits.alike fits in
    record {
      reached = reached;
      stored = stored_after state batch none ends plan ready.stored;
      fits = fits_after state batch none ends plan (stored_of ready.reached) ready.fits;
    }
