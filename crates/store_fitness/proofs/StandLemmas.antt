-- A store that stands fits the plan of its parts.
use Rattle.std.proofs.Common.{◌≡◌, ℕ, List, [], ◌∷◌, map, Bool, true, false, cond, if◌then◌else◌, Option, Some, None, refl, sym, ap, ◌∙◌, subst}
use Rattle.std.specs.Prelude.{⊤, IfSome, IsSomeAnd, find, option_and_then}
use Rattle.std.specs.List.{AllByRecursion}
use Rattle.value_core.specs.declared.cursor.Cursor.{Cursor}
use Rattle.value_core.specs.declared.cursor.Cursor.TheVariants.{Files, At, Never}
use Rattle.landing_core.specs.declared.landing.LandingFile.{LandingFile}
use Rattle.plan_core.specs.declared.expectation.Expectation.{Expectation}
use Rattle.plan_core.specs.declared.flow.AppendFlow.{AppendFlow}
use Rattle.plan_core.specs.declared.flow.Origin.{Origin}
use Rattle.plan_core.specs.declared.flow.Origin.TheVariants as origin
use Rattle.plan_core.specs.declared.plan.Body.{Body}
use Rattle.plan_core.specs.declared.plan.Body.TheVariants as body
use Rattle.plan_core.specs.declared.plan.Dataset.{Dataset as Part}
use Rattle.plan_core.specs.Sound.{IsSoundBody, dataset_named}
use Rattle.commit_payloads.specs.declared.definition.Definition.{Definition}
use Rattle.commit_payloads.specs.declared.definition.StoredBody.{StoredBody}
use Rattle.commit_payloads.specs.declared.definition.StoredBody.TheVariants.{View}
use Rattle.commit_payloads.specs.declared.definition.StoredFlow.{StoredFlow}
use Rattle.commit_payloads.specs.declared.definition.StoredOrigin.TheVariants.{Table}
use Rattle.state_keeps.proofs.NameLemmas.{AreFound, all_found}
use Rattle.state_model.specs.Dataset.{Dataset, State, cursor_in, cursor_of, dataset_of, definitions_of, is_flow}
use Rattle.state_steps.specs.Consumed.{CursorStands, IsStreamed, StreamStands, StreamsStand}
use Rattle.state_steps.specs.Parts.{AreTyped, IsOf, IsTyped, definition_of, stored_flow, stored_body, stored_flows, stored_origin}
use Rattle.state_steps.specs.Stands.{AllStand, BodyStands, DatasetStands, Stands, origins_of}
use Rattle.state_steps.proofs.FitsLemmas.{distinct_list, stored_are}
use Rattle.update_plan.specs.Commits.{AreOfPlan}
use Rattle.update_plan.proofs.LookupLemmas.{found_all, named_alike}
use Rattle.update_plan.proofs.PartLemmas.{from_all, typed_old}
use Rattle.store_fitness.specs.Fitness.{CanGoOn, FitsPlan, FlowFits, IsAlike, PositionFits, ReadsOn}
use Rattle.store_fitness.proofs.FlowLemmas.{can_of, name_itself}

-- ---- definitions

-- a stored definition of parts is the one that a plan gives them
same_definition : (plan : List Part) (part : Part) (definition : Definition) → IsOf part definition → IsTyped plan part definition → definition ≡ definition_of plan part
same_definition plan part definition is typed = λ i. record {
  name = is.name i;
  text = is.text i;
  body = is.body i;
  columns = is.columns i;
  expectations = is.expectations i;
  flows = is.flows i;
  keys = is.keys i;
  sequence = typed.sequence i;
}

module _ (plan : List Part) (ever : List LandingFile) (whole : State) where
  alike_one : (part : Part) (d : Dataset) → IsOf part d.definition → IsTyped plan part d.definition → dataset_named plan part.name ≡ Some part → IsAlike plan d.definition
  alike_one part d is typed found =
      subst (λ (o : Option Part). IsSomeAnd o (λ p. d.definition ≡ definition_of plan p)) (sym (ap (dataset_named plan) is.name ∙ found)) (same_definition plan part d.definition is typed)

  all_alike : (parts : List Part) (ds : State) → AllStand ever whole parts ds → AreTyped plan parts (definitions_of ds) → AreOfPlan plan parts → AllByRecursion (IsAlike plan) (definitions_of ds)
  all_alike [] [] stand typed are = tt
  all_alike [] (d ∷ ds) stand typed are = absurd stand
  all_alike (p ∷ ps) [] stand typed are = tt
  all_alike (p ∷ ps) (d ∷ ds) stand typed are = (alike_one p d stand.0.is_of typed.0 are.0, all_alike ps ds stand.1 typed.1 are.1)

-- ---- positions, one a flow

-- each position fits, in the order of the flows
abbrev PlacesFit : State → StoredBody → List StoredFlow → List Cursor → Type 0
PlacesFit state b [] cursors = ⊤
PlacesFit state b (flow ∷ flows) [] = ⊤
PlacesFit state b (flow ∷ flows) (cursor ∷ cursors) = PositionFits state b flow.origin cursor × PlacesFit state b flows cursors

none_asked : (o : Option StoredFlow) → IfSome o (λ flow. ⊤)
none_asked None = tt
none_asked (Some flow) = tt

module _ (state : State) (b : StoredBody) (name : List ℕ) where
  named_by : (here : Bool) (flow : StoredFlow) (flows : List StoredFlow) (cursor : Cursor) (cursors : List Cursor) → PositionFits state b flow.origin cursor
      → IfSome (find (is_flow name) flows) (λ f. IfSome (cursor_in flows cursors name) (PositionFits state b f.origin))
      → IfSome (cond here (Some flow) (find (is_flow name) flows)) (λ f. IfSome (if here then Some cursor else cursor_in flows cursors name) (PositionFits state b f.origin))
  named_by true flow flows cursor cursors fits behind = fits
  named_by false flow flows cursor cursors fits behind = behind

  named_fits : (flows : List StoredFlow) (cursors : List Cursor) → PlacesFit state b flows cursors → IfSome (find (is_flow name) flows) (λ f. IfSome (cursor_in flows cursors name) (PositionFits state b f.origin))
  named_fits [] cursors fit = tt
  named_fits (flow ∷ flows) [] fit = none_asked (find (is_flow name) (flow ∷ flows))
  named_fits (flow ∷ flows) (cursor ∷ cursors) fit = named_by (is_flow name flow) flow flows cursor cursors fit.0 (named_fits flows cursors fit.1)

  -- so does that of a flow of this name in a dataset that is found by its own name
  flow_fits : (d : Dataset) → dataset_of state d.definition.name ≡ Some d → d.definition.body ≡ b → PlacesFit state b d.definition.flows d.cursors → FlowFits state d.definition name
  flow_fits d found is fit =
      subst (λ (o : Option Dataset). IfSome (find (is_flow name) d.definition.flows) (λ f. IfSome (option_and_then (λ x. cursor_of x name) o) (PositionFits state d.definition.body f.origin))) (sym found)
      (subst (λ (c : StoredBody). IfSome (find (is_flow name) d.definition.flows) (λ f. IfSome (cursor_of d name) (PositionFits state c f.origin))) (sym is) (named_fits d.definition.flows d.cursors fit))

some_can : (b : StoredBody) (v : ℕ) (o : Option Dataset) → IsSomeAnd o (IsStreamed v) → IsSomeAnd o (CanGoOn b v)
some_can b v None h = h
some_can b v (Some d) h = can_of b v d h

module _ (ever : List LandingFile) (state : State) where
  stream_fits : (b : StoredBody) (from : Origin) (cursor : Cursor) → StreamStands ever state from cursor → PositionFits state b (stored_origin from) cursor
  stream_fits b (origin.Files dir shape) cursor stands = tt
  stream_fits b (origin.Table name) (Files places) stands = tt
  stream_fits b (origin.Table name) Never stands = tt
  stream_fits b (origin.Table name) (At v) stands = some_can b v (dataset_of state name) stands

  streams_fit : (b : StoredBody) (flows : List AppendFlow) (cursors : List Cursor) → StreamsStand ever state (origins_of flows) cursors → PlacesFit state b (map stored_flow flows) cursors
  streams_fit b [] cursors stand = tt
  streams_fit b (flow ∷ flows) [] stand = tt
  streams_fit b (flow ∷ flows) (cursor ∷ cursors) stand = (stream_fits b flow.origin cursor stand.0, streams_fit b flows cursors stand.1)

  view_fits : (source : List ℕ) (cursor : Cursor) → CursorStands ever state (origin.Table source) cursor → PositionFits state View (Table source) cursor
  view_fits source (Files places) stands = tt
  view_fits source Never stands = tt
  view_fits source (At v) stands = stands

  body_fits : (part : Part) (xs : List Expectation) (body : Body) (b : StoredBody) (d : Dataset) → BodyStands ever state xs body d → (body_is : b ≡ stored_body body) → PlacesFit state b (stored_flows part body) d.cursors
  body_fits part xs (body.Append flows) b d stands is = streams_fit b flows d.cursors stands.reads
  body_fits part xs (body.Cdc cdc) b d stands is =
      subst (PlacesFit state b (stored_flows part (body.Cdc cdc))) (sym stands.one_flow) (stream_fits b cdc.origin stands.cursor stands.reads, tt)
  body_fits part xs (body.View query) b d stands is =
      subst (PlacesFit state b (stored_flows part (body.View query))) (sym stands.one_flow)
      (subst (λ (c : StoredBody). PlacesFit state c (stored_flows part (body.View query)) (stands.cursor ∷ [])) (sym is) (view_fits query.origin stands.cursor stands.reads, tt))

  dataset_fits : (part : Part) (d : Dataset) → DatasetStands ever state part d → PlacesFit state d.definition.body d.definition.flows d.cursors
  dataset_fits part d stands =
      subst (λ (flows : List StoredFlow). PlacesFit state d.definition.body flows d.cursors) (sym stands.is_of.flows) (body_fits part part.expectations part.body d.definition.body d stands.fills stands.is_of.body)

  each_fits : (definition : Definition) (flows : List StoredFlow) → ((name : List ℕ) → FlowFits state definition name) → AllByRecursion (λ (flow : StoredFlow). FlowFits state definition flow.name) flows
  each_fits definition [] fits = tt
  each_fits definition (flow ∷ flows) fits = (fits flow.name, each_fits definition flows fits)

  all_read_on : (parts : List Part) (ds : State) → AllStand ever state parts ds → AreFound state ds → AllByRecursion (ReadsOn state) (definitions_of ds)
  all_read_on [] [] stand found = tt
  all_read_on [] (d ∷ ds) stand found = absurd stand
  all_read_on (p ∷ ps) [] stand found = tt
  all_read_on (p ∷ ps) (d ∷ ds) stand found = (
    each_fits d.definition d.definition.flows (λ name. flow_fits state d.definition.body name d (found.0 d.definition.name (name_itself d.definition.name)) refl (dataset_fits p d stand.0)),
    all_read_on ps ds stand.1 found.1,
  )

-- ---- what the parts have, the plan has

in_plan : (plan parts : List Part) → AreOfPlan plan parts → (name : List ℕ) (part : Part) → dataset_named parts name ≡ Some part → dataset_named plan name ≡ Some part
in_plan plan parts are name part e =
    let found = found_all (λ (p : Part). dataset_named plan p.name ≡ Some p) parts name part are e in
    sym (named_alike plan part.name name found.0) ∙ found.1

pub fits_its_plan : (plan parts : List Part) (ever : List LandingFile) (state : State) → Stands parts ever state → AreTyped parts parts (definitions_of state) → AreOfPlan plan parts → FitsPlan plan state
fits_its_plan plan parts ever state stands typed are =
    let in_parts = from_all (λ (part : Part). IsSoundBody parts part part.body) parts stands.sound.each_dataset in
    let typed_here = typed_old parts plan (in_plan plan parts are) parts (definitions_of state) in_parts typed in
    let distinct = distinct_list parts (definitions_of state) stands.sound.names_differ (stored_are ever state parts state stands.each) in
    record {
      alike = all_alike plan ever state parts state stands.each typed_here are;
      read_on = all_read_on ever state parts state stands.each (all_found state distinct);
    }
