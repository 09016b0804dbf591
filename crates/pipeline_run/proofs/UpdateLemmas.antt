-- What follows from how an update ended.
use Rattle.std.proofs.Common.{◌≡◌, inl, inr, ℕ, List, [], ◌∷◌, ◌++◌, Bool, true, false, Option, Some, None, refl, sym, ap, subst, ◌∙◌, append-nil}
use Rattle.value_core.specs.declared.cursor.FilePlace.{FilePlace}
use Rattle.landing_core.specs.declared.landing.LandingFile.{LandingFile}
use Rattle.commit_records.specs.declared.payload.Payload.{Payload}
use Rattle.store_state.specs.State.{Dataset, State}
use Rattle.disk_model.specs.Disk.{DiskState}
use Rattle.plan_core.specs.declared.plan.Dataset.{Dataset as Planned}
use Rattle.table_update.specs.declared.end.UpdateEnd.{UpdateEnd}
use Rattle.table_update.specs.declared.end.UpdateEnd.TheVariants as ends
use Rattle.table_update.specs.declared.table.AppendTable.{AppendTable}
use Rattle.table_update.specs.Crash.{HasThem, Leaves, Updated as HasUpdated}
use Rattle.table_update.specs.Flow.{FlowEnds}
use Rattle.table_update.specs.Update.{Found, LoadedEnds, Updates, IsSuccess}
use Rattle.pipeline_run.specs.declared.command.Command.TheVariants.{Update}
use Rattle.pipeline_run.specs.declared.outcome.Outcome.TheVariants.{Updated}
use Rattle.pipeline_run.specs.Crash.{LeavesAll, HasOutcome}
use Rattle.pipeline_run.specs.Pipeline.{HasPlan}
use Rattle.pipeline_run.specs.Run.{Around, found_by}
use Rattle.pipeline_run.specs.Table.{name_of, plan_of}
use Rattle.pipeline_run.specs.Update.{Ended, EndsWith, acked_by}
use Rattle.pipeline_run.proofs.CrashLemmas.{WentWell}

-- an update that didn't load the store acknowledged nothing
unloaded_none : (plan : Option AppendTable) (found : Found) (loaded : Bool) (acked tried : List Payload) (end : UpdateEnd) → Updates plan found loaded acked tried end → loaded ≡ false → acked ≡ []
unloaded_none plan found false acked tried end updates not_loaded = updates.1
unloaded_none plan found true acked tried end updates not_loaded = absurd cc

pub unloaded_acked : (plan : Option AppendTable) (found : Found) (ended : Ended) (after : List ℕ) → EndsWith plan found ended after → ended.loaded ≡ false → acked_by (ended ∷ []) ≡ []
unloaded_acked plan found ended after is not_loaded = append-nil ended.acked ∙ unloaded_none plan found ended.loaded ended.acked ended.tried ended.end is.updates not_loaded

-- ---- success

-- one that succeeded loaded the store, and acknowledged what it tried
abbrev IsWhole : Bool → List Payload → List Payload → Type 0
IsWhole loaded acked tried = (loaded ≡ true) × (acked ≡ tried)

same_flow : (table : AppendTable) (files : List LandingFile) (room at : ℕ) (dataset : Dataset) (places : List FilePlace) (before acked tried : List Payload) (end : UpdateEnd)
    → IsSuccess end → FlowEnds table files room at dataset places before acked tried end → acked ≡ tried
same_flow table files room at dataset places before acked tried ends.Current success flow = flow.1 ∙ sym flow.2
same_flow table files room at dataset places before acked tried (ends.Completed read version) success flow = flow.2 ∙ sym flow.3
same_flow table files room at dataset places before acked tried _ success flow = absurd success

same_loaded : (plan : Option AppendTable) (files : List LandingFile) (room : ℕ) (state : State) (at : ℕ) (acked tried : List Payload) (end : UpdateEnd)
    → IsSuccess end → LoadedEnds plan files room state at acked tried end → acked ≡ tried
same_loaded None files room state at acked tried end success ends = ends.1 ∙ sym ends.2
same_loaded (Some table) files room state at acked tried end success (inl judged) = judged.1 ∙ sym judged.2
same_loaded (Some table) files room state at acked tried ends.Current success (inr (inl defined)) = absurd defined.1
same_loaded (Some table) files room state at acked tried (ends.Completed read version) success (inr (inl defined)) = absurd defined.1
same_loaded (Some table) files room state at acked tried _ success (inr (inl defined)) = absurd success
same_loaded (Some table) files room state at acked tried end success (inr (inr (inl first))) =
    let flows = first.2 in
    same_flow table files room _ flows.dataset flows.places _ acked tried end success flows.ends
same_loaded (Some table) files room state at acked tried end success (inr (inr (inr later))) =
    let flows = later.1 in
    same_flow table files room at flows.dataset flows.places _ acked tried end success flows.ends

whole_if_well : (plan : Option AppendTable) (found : Found) (loaded : Bool) (acked tried : List Payload) (end : UpdateEnd) → IsSuccess end → Updates plan found loaded acked tried end → IsWhole loaded acked tried
whole_if_well plan found false acked tried ends.Current success updates = absurd updates.0
whole_if_well plan found false acked tried (ends.Completed read version) success updates = absurd updates.0
whole_if_well plan found false acked tried _ success updates = absurd success
whole_if_well plan found true acked tried end success updates = (refl, same_loaded plan found.landing found.room updates.0 updates.1 acked tried end success updates.3)

pub one_went_well : (plan : Option AppendTable) (found : Found) (ended : Ended) (after : List ℕ) → EndsWith plan found ended after → IsSuccess ended.end → WentWell (ended ∷ []) found.bytes after
one_went_well plan found ended after is success =
    let whole = whole_if_well plan found ended.loaded ended.acked ended.tried ended.end success is.updates in
    record {
      acked = ap (λ (payloads : List Payload). payloads ++ []) whole.1;
      loaded = λ not_loaded. absurd (let no : true ≡ false = sym whole.0 ∙ not_loaded in cc);
      reads = subst (λ (payloads : List Payload). HasThem found.bytes payloads after) (sym (append-nil ended.tried)) (is.reads success);
    }

pub none_went_well : (bytes : List ℕ) → WentWell [] bytes bytes
none_went_well bytes = record { acked = refl; loaded = λ e. refl; reads = λ state has. has }

-- ---- one update as a command

one_leaves : (timed : Type 0) (ended : Ended) (old new : DiskState) → Leaves timed ended.loaded (ended.end ≡ ends.LoadFailed) old.now.left ended.acked ended.tried old new → LeavesAll timed (ended ∷ []) old new
one_leaves timed ended old new leaves = record {
  leaves = subst (λ (acked : List Payload). Leaves timed ended.loaded (ended.end ≡ ends.LoadFailed) old.now.left acked (ended.tried ++ []) old new) (sym (append-nil ended.acked))
      (subst (λ (tried : List Payload). Leaves timed ended.loaded (ended.end ≡ ends.LoadFailed) old.now.left ended.acked tried old new) (sym (append-nil ended.tried)) leaves);
  none = λ e. absurd cc;
}

pub outcome_of_update : (timed : Type 0) (plan : Option AppendTable) (around : Around) (datasets : List Planned) (end : UpdateEnd) (old new : DiskState) → HasPlan around.text datasets → datasets ≡ plan_of plan
    → HasUpdated timed plan (found_by around old.now.left) end old new → HasOutcome timed Update around (Updated (name_of plan) end) old new
outcome_of_update timed plan around datasets end old new has is updated =
    let ended : Ended = record { loaded = updated.loaded; acked = updated.acked; tried = updated.tried; end = end } in
    record {
      updates = ended ∷ [];
      comes = (
        plan,
        subst (HasPlan around.text) is has,
        refl,
        (ended, refl, refl, record { updates = updated.updates; small = updated.small; reads = updated.reads; goes_on = updated.goes_on }),
      );
      leaves = one_leaves timed ended old new updated.leaves;
    }
