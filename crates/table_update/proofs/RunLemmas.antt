-- What an update comes to once its store is loaded.
use Rattle.std.proofs.Common.{◌≡◌, inl, inr, ℕ, ◌+◌, ◌≤◌, Bool, true, false, List, [], ◌∷◌, length, Some, None, Ok, refl, sym, ap, ◌∙◌, subst, arith}
use Rattle.std.specs.Prelude.{◌==◌}
use Rattle.std.proofs.lemmas.Bool.Decides.{Decides-eqb}
use Rattle.disk_model.specs.Disk.{DiskState}
use Rattle.value_core.specs.declared.cursor.FilePlace.{FilePlace}
use Rattle.landing_core.specs.declared.landing.LandingFile.{LandingFile}
use Rattle.commit_records.specs.declared.definition.Definition.{Definition}
use Rattle.commit_records.specs.declared.payload.Payload.{Payload}
use Rattle.store_state.specs.Dataset.{Dataset, State, empty_state, after_payload, definitions_of}
use Rattle.commit_gate.specs.AtRest.{log_end}
use Rattle.store_core.specs.Store.{store_state, store_log, IsAsLeft}
use Rattle.store_core.specs.declared.store.Store.{Store}
use Rattle.table_update.specs.declared.end.UpdateEnd.{UpdateEnd}
use Rattle.table_update.specs.declared.end.UpdateEnd.TheVariants as update
use Rattle.table_update.specs.declared.table.AppendTable.{AppendTable}
use Rattle.table_update.specs.Commit.{CommitEnds, FlowRan, UpdateRan, Stores}
use Rattle.table_update.specs.Flow.{behind, FlowEnds}
use Rattle.table_update.specs.Table.{define, IsDefinedBy}
use Rattle.table_update.specs.Update.{Flows, IsSuccess, JudgeEnds, MayRun, NoTableEnds}
use Rattle.table_update.proofs.CrashLemmas.{stores_joined}

-- ---- the stored definitions

module _ (definitions : List Definition) (state : State) (answer : Bool) (are : definitions ≡ definitions_of state) (test : answer ≡ (length definitions == 0)) where
  pub none_counted : answer ≡ true → length (definitions_of state) ≡ 0
  none_counted holds = ap (λ (list : List Definition). length list) (sym are) ∙ (Decides-eqb (length definitions) 0).0 (sym test ∙ holds)

  pub some_counted : answer ≡ false → length (definitions_of state) ≡ 0 → ⊥
  some_counted fails none =
      let holds : answer ≡ true = test ∙ (Decides-eqb (length definitions) 0).1 (ap (λ (list : List Definition). length list) are ∙ none) in
      cc

-- where there are none, the store is empty
pub is_empty : (state : State) → length (definitions_of state) ≡ 0 → state ≡ []
is_empty [] none = refl
is_empty (of ∷ state) none = absurd (omega (arith, none))

-- where there are some, they are the table's
pub is_defined : (table : AppendTable) (state : State) → (length (definitions_of state) ≡ 0 → ⊥) → MayRun table state → IsDefinedBy table state
is_defined table state some (inl empty) = absurd (some (ap (λ (s : State). length (definitions_of s)) empty))
is_defined table state some (inr is) = is

-- ---- there is no table

pub ran_nothing : (timed : Type 0) (files : List LandingFile) (room : ℕ) (end : UpdateEnd) (store : Store) (disk : DiskState) → NoTableEnds (store_state store) end → Stores timed (store_state store) [] [] disk disk → IsAsLeft store disk
    → UpdateRan timed None files room (log_end (store_log store)) (store_state store) end store disk disk
ran_nothing timed files room end store disk ends stores left = record {
  acked = [];
  tried = [];
  ends = (ends, refl, refl);
  stores = stores;
  left = λ success. record { as_left = left; state_is = refl; ends = refl };
}

-- ---- the store is refused

pub judged : (table : AppendTable) (state : State) (end : UpdateEnd) → JudgeEnds table state end → IsSuccess end → ⊥
judged table state update.Current ends success = ends
judged table state (update.Completed read version) ends success = ends
judged table state end ends success = success

module _ (timed : Type 0) (table : AppendTable) (files : List LandingFile) (room at : ℕ) (state : State) where
  pub run_refused : (end : UpdateEnd) (store : Store) (disk : DiskState) → JudgeEnds table state end → Stores timed state [] [] disk disk → UpdateRan timed (Some table) files room at state end store disk disk
  run_refused end store disk ends stores = record {
    acked = [];
    tried = [];
    ends = inl (ends, refl, refl);
    stores = stores;
    left = λ success. absurd (judged table state end ends success);
  }

  -- ---- the table is there

  pub run_there : (end : UpdateEnd) (store : Store) (old new : DiskState) → IsDefinedBy table state → FlowRan timed table files room at state end store old new → UpdateRan timed (Some table) files room at state end store old new
  run_there end store old new is ran = record {
    acked = ran.acked;
    tried = ran.tried;
    ends = inr (inr (inr (is, ran.flows)));
    stores = ran.stores;
    left = ran.left;
  }

-- behind a payload that was acknowledged
flow_behind : (table : AppendTable) (files : List LandingFile) (room at : ℕ) (of : Dataset) (places : List FilePlace) (first : Payload) (acked tried : List Payload) (end : UpdateEnd)
    → FlowEnds table files room at of places [] acked tried end → FlowEnds table files room at of places (first ∷ []) (first ∷ acked) (first ∷ tried) end
flow_behind table files room at of places first acked tried (update.Completed read version) ends =
    (ends.0, ends.1, ap (λ (list : List Payload). first ∷ list) ends.2, ap (λ (list : List Payload). first ∷ list) ends.3)
flow_behind table files room at of places first acked tried end ends = (ends.0, ap (λ (list : List Payload). first ∷ list) ends.1, ap (λ (list : List Payload). first ∷ list) ends.2)

module _ (timed : Type 0) (table : AppendTable) (files : List LandingFile) (room at : ℕ) (state : State) (payload : Payload) (empty : state ≡ []) (is : payload ≡ define table) where
  flows_behind : (acked tried : List Payload) (end : UpdateEnd) → Flows table files room (behind at payload) (after_payload state payload) [] acked tried end
      → Flows table files room (behind at (define table)) (after_payload empty_state (define table)) (define table ∷ []) (payload ∷ acked) (payload ∷ tried) end
  flows_behind acked tried end flows =
      let more : Flows table files room (behind at payload) (after_payload state payload) (payload ∷ []) (payload ∷ acked) (payload ∷ tried) end = record {
        dataset = flows.dataset;
        places = flows.places;
        holds = flows.holds;
        ends = flow_behind table files room (behind at payload) flows.dataset flows.places payload acked tried end flows.ends;
      } in
      subst (λ (s : State). Flows table files room (behind at (define table)) (after_payload s (define table)) (define table ∷ []) (payload ∷ acked) (payload ∷ tried) end) empty
      (subst (λ (p : Payload). Flows table files room (behind at p) (after_payload state p) (p ∷ []) (payload ∷ acked) (payload ∷ tried) end) is more)

  run_joined : (end : UpdateEnd) (store : Store) (old mid new : DiskState) → CommitEnds state room at payload (Ok tt) → Stores timed state (payload ∷ []) (payload ∷ []) old mid
      → FlowRan timed table files room (behind at payload) (after_payload state payload) end store mid new → UpdateRan timed (Some table) files room at state end store old new
  run_joined end store old mid new ends stores ran = record {
    acked = payload ∷ ran.acked;
    tried = payload ∷ ran.tried;
    ends = inr (inr (inl (empty, subst (λ (p : Payload). behind at p + 1 ≤ room) is ends.1, flows_behind ran.acked ran.tried end ran.flows)));
    stores = stores_joined timed state payload ran.acked ran.tried old mid new stores ran.stores;
    left = ran.left;
  }

  pub run_defined : (end : UpdateEnd) (store : Store) (old mid new : DiskState) (room_now at_now : ℕ) (state_now : State) → room_now ≡ room → at_now ≡ behind at payload → state_now ≡ after_payload state payload
      → CommitEnds state room at payload (Ok tt) → Stores timed state (payload ∷ []) (payload ∷ []) old mid
      → FlowRan timed table files room_now at_now state_now end store mid new → UpdateRan timed (Some table) files room at state end store old new
  run_defined end store old mid new room_now at_now state_now same_room same_at same_state ends stores ran =
      run_joined end store old mid new ends stores
      (subst (λ (r : ℕ). FlowRan timed table files r (behind at payload) (after_payload state payload) end store mid new) same_room
      (subst (λ (n : ℕ). FlowRan timed table files room_now n (after_payload state payload) end store mid new) same_at
      (subst (λ (s : State). FlowRan timed table files room_now at_now s end store mid new) same_state ran)))
