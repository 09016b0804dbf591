-- A flow of a store that stands.
use Rattle.std.proofs.Common.{◌≡◌, Bool, true, false, cond, if◌then◌else◌, List, [], ◌∷◌, ℕ, map, Option, Some, None, refl, sym, ap, ◌∙◌, subst}
use Rattle.std.specs.Prelude.{nat_lt, find, option_and_then, All, ◌&&◌}
use Rattle.std.proofs.lemmas.List.Elements.{All-head, All-tail}
use Rattle.value_core.specs.declared.cursor.Cursor.{Cursor}
use Rattle.value_core.specs.declared.schema.Column.{Column}
use Rattle.value_core.specs.NameFold.{same_name}
use Rattle.landing_core.specs.declared.landing.LandingFile.{LandingFile}
use Rattle.plan_core.specs.declared.flow.AppendFlow.{AppendFlow}
use Rattle.plan_core.specs.declared.plan.Body.TheVariants as body
use Rattle.plan_core.specs.declared.plan.Dataset.{Dataset as Part}
use Rattle.plan_core.specs.declared.flow.Origin.TheVariants as origin
use Rattle.plan_core.specs.Sound.{IsSoundBody, IsSoundFlow, dataset_named, flow_columns, is_append}
use Rattle.state_model.specs.Dataset.{Dataset, State, cursor_in, cursor_of, dataset_of}
use Rattle.state_steps.specs.Consumed.{StreamStands, StreamsStand}
use Rattle.state_steps.specs.Parts.{stored_flow, stored_flows}
use Rattle.state_steps.specs.Stands.{AllStand, AppendStands, BodyStands, DatasetStands, Stands, origins_of}
use Rattle.state_steps.specs.Steps.{flow_named}
use Rattle.state_steps.proofs.Lookups.{paired, some_same}

module _ (ever : List LandingFile) (state : State) (name : List ℕ) where
  stream_by : (f : AppendFlow) (fs : List AppendFlow) (c : Cursor) (cs : List Cursor) (here : Bool) → same_name f.name name ≡ here
      → ((flow : AppendFlow) (old : Cursor) → flow_named fs name ≡ Some flow → cursor_in (map stored_flow fs) cs name ≡ Some old → StreamStands ever state flow.origin old)
      → (flow : AppendFlow) (old : Cursor) → cond here (Some f) (flow_named fs name) ≡ Some flow → cond here (Some c) (cursor_in (map stored_flow fs) cs name) ≡ Some old → StreamStands ever state f.origin c
      → StreamStands ever state flow.origin old
  stream_by f fs c cs true is behind flow old e g stands =
      subst (λ w. StreamStands ever state flow.origin w) (some_same c old g) (subst (λ w. StreamStands ever state w.origin c) (some_same f flow e) stands)
  stream_by f fs c cs false is behind flow old e g stands = behind flow old e g

  -- each flow of a table stands where its cursor does
  pub stream_of : (flows : List AppendFlow) (cursors : List Cursor) (flow : AppendFlow) (old : Cursor) → flow_named flows name ≡ Some flow → cursor_in (map stored_flow flows) cursors name ≡ Some old
      → StreamsStand ever state (origins_of flows) cursors → StreamStands ever state flow.origin old
  stream_of [] cursors flow old e g stands = cc
  stream_of (f ∷ fs) [] flow old e g stands = cc
  stream_of (f ∷ fs) (c ∷ cs) flow old e g stands =
      stream_by f fs c cs (same_name f.name name) refl (λ flow' old' e' g'. stream_of fs cs flow' old' e' g' stands.1) flow old e g stands.0

-- what is known of a dataset of a store that stands, where it is an append table
pub record StoodTable (ever : List LandingFile) (state : State) (part : Part) (flows : List AppendFlow) (target : Dataset) : Type 0 where
  pub flows_are : target.definition.flows ≡ map stored_flow flows
  pub stands : AppendStands ever state part.expectations flows target

stood_part : (ever : List LandingFile) (state : State) (part : Part) (flows : List AppendFlow) (target : Dataset) → part.body ≡ body.Append flows → DatasetStands ever state part target → StoodTable ever state part flows target
stood_part ever state part flows target body_is stood = record {
  flows_are = stood.is_of.flows ∙ ap (stored_flows part) body_is;
  stands = subst (λ b. BodyStands ever state part.expectations b target) body_is stood.fills;
}

pub stood_table : (ever : List LandingFile) (state : State) (parts : List Part) (part : Part) (flows : List AppendFlow) (target : Dataset) → Stands parts ever state → dataset_named parts part.name ≡ Some part → part.body ≡ body.Append flows
    → dataset_of state part.name ≡ Some target → StoodTable ever state part flows target
stood_table ever state parts part flows target stood named body_is there =
    let found = paired ever state parts state part.name stood.each target there in
    let same : found.0 ≡ part = some_same found.0 part (sym found.1 ∙ named) in
    stood_part ever state part flows target body_is (subst (λ p. DatasetStands ever state p target) same found.2)

-- its flow stands where its cursor does
pub stood_stream : (ever : List LandingFile) (state : State) (part : Part) (flows : List AppendFlow) (target : Dataset) (flow : AppendFlow) (old : Cursor) → StoodTable ever state part flows target
    → flow_named flows flow.name ≡ Some flow → cursor_of target flow.name ≡ Some old → StreamStands ever state flow.origin old
stood_stream ever state part flows target flow old stood is_flow from =
    stream_of ever state flow.name flows target.cursors flow old is_flow (ap (λ list. cursor_in list target.cursors flow.name) (sym stood.flows_are) ∙ from) stood.stands.reads

-- ---- what is there

pub found_by : {A : Type 0} (P : A → Type 0) (x : A) (xs : List A) (here : Bool) (rest : Option A) → P x → ((y : A) → rest ≡ Some y → P y) → (y : A) → cond here (Some x) rest ≡ Some y → P y
found_by P x xs true rest p behind y e = subst P (some_same x y e) p
found_by P x xs false rest p behind y e = behind y e

-- what is found in a list is as each of it is
pub found_all : {A : Type 0} (P : A → Type 0) (test : A → Bool) (xs : List A) → All P xs → (y : A) → find test xs ≡ Some y → P y
found_all P test [] all y e = cc
found_all P test (x ∷ xs) all y e = found_by P x xs (test x) (find test xs) (All-head P x xs all) (found_all P test xs (All-tail P x xs all)) y e

module _ (ever : List LandingFile) (whole : State) where
  there_by : (p : Part) (ps : List Part) (d : Dataset) (ds : State) (name : List ℕ) (here : Bool) → same_name p.name name ≡ here → d.definition.name ≡ p.name
      → ((part : Part) → dataset_named ps name ≡ Some part → (target : Dataset) × (dataset_of ds name ≡ Some target))
      → (part : Part) → cond here (Some p) (dataset_named ps name) ≡ Some part → (target : Dataset) × (dataset_of (d ∷ ds) name ≡ Some target)
  there_by p ps d ds name true is same behind part e = (d, ap (λ (k : List ℕ). cond (same_name k name) (Some d) (dataset_of ds name)) same ∙ ap (λ (b : Bool). cond b (Some d) (dataset_of ds name)) is)
  there_by p ps d ds name false is same behind part e =
      let go = behind part e in
      (go.0, ap (λ (k : List ℕ). cond (same_name k name) (Some d) (dataset_of ds name)) same ∙ ap (λ (b : Bool). cond b (Some d) (dataset_of ds name)) is ∙ go.1)

  -- the dataset of parts that are found is found by the same name
  pub there_too : (parts : List Part) (state : State) (name : List ℕ) → AllStand ever whole parts state → (part : Part) → dataset_named parts name ≡ Some part → (target : Dataset) × (dataset_of state name ≡ Some target)
  there_too [] state name all part e = cc
  there_too (p ∷ ps) [] name all part e = absurd all
  there_too (p ∷ ps) (d ∷ ds) name all part e = there_by p ps d ds name (same_name p.name name) refl all.0.is_of.name (there_too ps ds name all.1) part e

  cursor_by : (f : AppendFlow) (fs : List AppendFlow) (c : Cursor) (cs : List Cursor) (name : List ℕ) (here : Bool)
      → ((flow : AppendFlow) → flow_named fs name ≡ Some flow → (old : Cursor) × (cursor_in (map stored_flow fs) cs name ≡ Some old))
      → (flow : AppendFlow) → cond here (Some f) (flow_named fs name) ≡ Some flow → (old : Cursor) × (cond here (Some c) (cursor_in (map stored_flow fs) cs name) ≡ Some old)
  cursor_by f fs c cs name true behind flow e = (c, refl)
  cursor_by f fs c cs name false behind flow e = behind flow e

  -- a flow that is found has a cursor
  pub cursor_too : (flows : List AppendFlow) (cursors : List Cursor) (name : List ℕ) → StreamsStand ever whole (origins_of flows) cursors → (flow : AppendFlow) → flow_named flows name ≡ Some flow
      → (old : Cursor) × (cursor_in (map stored_flow flows) cursors name ≡ Some old)
  cursor_too [] cursors name stands flow e = cc
  cursor_too (f ∷ fs) [] name stands flow e = absurd stands
  cursor_too (f ∷ fs) (c ∷ cs) name stands flow e = cursor_by f fs c cs name (same_name f.name name) (cursor_too fs cs name stands.1) flow e

named_by : (level : ℕ) (o : Option Part) (columns : List Column) → option_and_then (λ source. if nat_lt source.level level && is_append source.body then Some source.columns else None) o ≡ Some columns → (source : Part) × (o ≡ Some source)
named_by level None columns e = cc
named_by level (Some source) columns e = (source, refl)

-- the source of a flow of a sound plan is there
pub source_there : (ever : List LandingFile) (state : State) (parts : List Part) (part : Part) (flows : List AppendFlow) (flow : AppendFlow) (name : List ℕ) → Stands parts ever state → dataset_named parts part.name ≡ Some part
    → part.body ≡ body.Append flows → flow_named flows flow.name ≡ Some flow → flow.origin ≡ origin.Table name → (source : Dataset) × (dataset_of state name ≡ Some source)
source_there ever state parts part flows flow name stands named body_is is_flow is_table =
    let whole : IsSoundBody parts part part.body = found_all (λ p. IsSoundBody parts p p.body) (λ p. same_name p.name part.name) parts stands.sound.each_dataset part named in
    let table : IsSoundBody parts part (body.Append flows) = subst (λ b. IsSoundBody parts part b) body_is whole in
    let sound : IsSoundFlow parts part flow = found_all (IsSoundFlow parts part) (λ f. same_name f.name flow.name) flows table.each_flow flow is_flow in
    let reads : flow_columns parts part.level (origin.Table name) ≡ Some sound.source = ap (flow_columns parts part.level) (sym is_table) ∙ sound.reads in
    let found = named_by part.level (dataset_named parts name) sound.source reads in
    there_too ever state parts state name stands.each found.0 found.1
