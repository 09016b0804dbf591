-- A flow of a store that is ready for its plan: where it stands.
use Rattle.std.proofs.Common.{◌≡◌, Bool, true, false, cond, List, [], ◌∷◌, ℕ, map, Option, Some, refl, ap, ◌∙◌, subst}
use Rattle.std.specs.Prelude.{IfSome, find, option_and_then}
use Rattle.std.specs.List.{AllByRecursion}
use Rattle.value_core.specs.declared.cursor.Cursor.{Cursor}
use Rattle.value_core.specs.NameFold.{same_name}
use Rattle.commit_payloads.specs.declared.definition.StoredBody.TheVariants.{Append}
use Rattle.commit_payloads.specs.declared.definition.StoredFlow.{StoredFlow}
use Rattle.commit_payloads.specs.declared.definition.StoredOrigin.{StoredOrigin}
use Rattle.commit_payloads.specs.Forms.{IsProgress}
use Rattle.plan_core.specs.declared.flow.AppendFlow.{AppendFlow}
use Rattle.plan_core.specs.declared.plan.Body.TheVariants as body
use Rattle.plan_core.specs.declared.plan.Dataset.{Dataset as Part}
use Rattle.state_model.specs.After.{begun_cursor}
use Rattle.state_model.specs.Dataset.{Dataset, State, cursor_in, cursor_of, flow_of, is_flow}
use Rattle.state_model.specs.Follows.{CursorsFit, MovesOn}
use Rattle.state_steps.specs.Parts.{stored_body, stored_flow, stored_flows, stored_origin}
use Rattle.state_steps.specs.Steps.{flow_named}
use Rattle.state_steps.proofs.Lookups.{some_same}
use Rattle.store_fitness.specs.Fitness.{FlowFits, PositionFits, position_of}
use Rattle.flow_news.proofs.ReadyLemmas.{ReadyTable, found_each}

-- a position of a flow over this origin: it comes of where the flow began, and is a version that is kept, or places
pub record IsPosition (state : State) (from : StoredOrigin) (old : Cursor) : Type 0 where
  pub moved : MovesOn state from (begun_cursor from) old
  pub form : IsProgress old
  pub fits : PositionFits state Append from old

-- the flow of a name among stored ones, and how far it has read
pub record IsAmong (state : State) (flows : List StoredFlow) (cursors : List Cursor) (name : List ℕ) (flow : AppendFlow) : Type 0 where
  pub old : Cursor
  pub cursor_is : cursor_in flows cursors name ≡ Some old
  pub flow_is : find (is_flow name) flows ≡ Some (stored_flow flow)
  pub moved : MovesOn state (stored_origin flow.origin) (begun_cursor (stored_origin flow.origin)) old
  pub form : IsProgress old

module _ (state : State) (name : List ℕ) where
  among_by : (f : AppendFlow) (fs : List AppendFlow) (c : Cursor) (cs : List Cursor) (here : Bool) → same_name f.name name ≡ here → MovesOn state (stored_origin f.origin) (begun_cursor (stored_origin f.origin)) c → IsProgress c
      → ((flow : AppendFlow) → flow_named fs name ≡ Some flow → IsAmong state (map stored_flow fs) cs name flow)
      → (flow : AppendFlow) → cond here (Some f) (flow_named fs name) ≡ Some flow → IsAmong state (map stored_flow (f ∷ fs)) (c ∷ cs) name flow
  among_by f fs c cs true is moved form behind flow e = record {
    old = c;
    cursor_is = ap (λ (b : Bool). cond b (Some c) (cursor_in (map stored_flow fs) cs name)) is;
    flow_is = ap (λ (b : Bool). cond b (Some (stored_flow f)) (find (is_flow name) (map stored_flow fs))) is ∙ ap (λ w. Some (stored_flow w)) (some_same f flow e);
    moved = subst (λ w. MovesOn state (stored_origin w.origin) (begun_cursor (stored_origin w.origin)) c) (some_same f flow e) moved;
    form = form;
  }
  among_by f fs c cs false is moved form behind flow e =
      let go = behind flow e in
      record {
        old = go.old;
        cursor_is = ap (λ (b : Bool). cond b (Some c) (cursor_in (map stored_flow fs) cs name)) is ∙ go.cursor_is;
        flow_is = ap (λ (b : Bool). cond b (Some (stored_flow f)) (find (is_flow name) (map stored_flow fs))) is ∙ go.flow_is;
        moved = go.moved;
        form = go.form;
      }

  among : (fs : List AppendFlow) (cs : List Cursor) → CursorsFit state (map stored_flow fs) cs → AllByRecursion IsProgress cs → (flow : AppendFlow) → flow_named fs name ≡ Some flow → IsAmong state (map stored_flow fs) cs name flow
  among [] cs fit forms flow e = cc
  among (f ∷ fs) [] fit forms flow e = absurd fit
  among (f ∷ fs) (c ∷ cs) fit forms flow e = among_by f fs c cs (same_name f.name name) refl fit.0 forms.0 (among fs cs fit.1 forms.1) flow e

-- the flow of a dataset, and its position
pub record ReadyFlow (state : State) (target : Dataset) (flow : AppendFlow) : Type 0 where
  pub old : Cursor
  pub cursor_is : cursor_of target flow.name ≡ Some old
  pub flow_is : flow_of target flow.name ≡ Some (stored_flow flow)
  pub position : IsPosition state (stored_origin flow.origin) old

if_there : {A : Type 0} (P : A → Type 0) (o : Option A) (a : A) → o ≡ Some a → IfSome o P → P a
if_there P o a e h = subst (λ w. IfSome w P) e h

module _ (plan : List Part) (state : State) (part : Part) (flows : List AppendFlow) (target : Dataset) (flow : AppendFlow) (ready : ReadyTable plan state part target) (body_is : part.body ≡ body.Append flows) where
  -- the position that is found by names fits
  fits_at : (old : Cursor) → cursor_of target flow.name ≡ Some old → find (is_flow flow.name) target.definition.flows ≡ Some (stored_flow flow) → PositionFits state Append (stored_origin flow.origin) old
  fits_at old cursor_is flow_is =
      let each : FlowFits state target.definition flow.name = found_each (λ f. FlowFits state target.definition f.name) (is_flow flow.name) target.definition.flows ready.reads_on (stored_flow flow) flow_is in
      let one =
      if_there (λ f. IfSome (position_of state target.definition.name flow.name) (PositionFits state target.definition.body f.origin)) (find (is_flow flow.name) target.definition.flows) (stored_flow flow) flow_is each in
      let is : position_of state target.definition.name flow.name ≡ Some old = ap (option_and_then (λ d. cursor_of d flow.name)) ready.own ∙ cursor_is in
      let body_as : target.definition.body ≡ Append = ap (λ d. d.body) ready.defined ∙ ap stored_body body_is in
      subst (λ b. PositionFits state b (stored_origin flow.origin) old) body_as (if_there (PositionFits state target.definition.body (stored_origin flow.origin)) (position_of state target.definition.name flow.name) old is one)

  pub ready_flow : flow_named flows flow.name ≡ Some flow → ReadyFlow state target flow
  ready_flow is_there =
      let are : target.definition.flows ≡ map stored_flow flows = ap (λ d. d.flows) ready.defined ∙ ap (stored_flows part) body_is in
      let found = among state flow.name flows target.cursors (subst (λ list. CursorsFit state list target.cursors) are ready.fits.cursors) ready.form.cursors flow is_there in
      let cursor_is : cursor_of target flow.name ≡ Some found.old = ap (λ list. cursor_in list target.cursors flow.name) are ∙ found.cursor_is in
      let flow_is : find (is_flow flow.name) target.definition.flows ≡ Some (stored_flow flow) = ap (find (is_flow flow.name)) are ∙ found.flow_is in
      record {
        old = found.old;
        cursor_is = cursor_is;
        flow_is = flow_is;
        position = record { moved = found.moved; form = found.form; fits = fits_at found.old cursor_is flow_is };
      }
