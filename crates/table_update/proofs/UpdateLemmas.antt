-- What an update comes to, and what a crash leaves of it.
use Rattle.std.proofs.Common.{◌≡◌, ◌≢◌, ℕ, ◌≤◌, ◌^◌, List, [], true, false, length, Result, Ok, Err, Option, refl, sym, ap, ◌∙◌, subst, arith}
use Rattle.disk_model.specs.declared.disk.Side.TheVariants.{Left}
use Rattle.disk_model.specs.Disk.{DiskState, Alone, IsHonest, file}
use Rattle.disk_model.specs.Moments.{LeavesOnly}
use Rattle.landing_core.specs.declared.landing.LandingFile.{LandingFile}
use Rattle.commit_gate.specs.AtRest.{log_end, log_epoch}
use Rattle.commit_gate.specs.Log.{HasBodies}
use Rattle.store_state.specs.State.{State}
use Rattle.store_core.specs.Begin.{KeepsSynced, Loads}
use Rattle.store_core.specs.Load.{LoadAnswers}
use Rattle.store_core.specs.Reach.{EndsAt}
use Rattle.store_core.specs.State.{HasState, KeepsState}
use Rattle.store_core.specs.Store.{store_state, store_log}
use Rattle.store_core.specs.declared.store.Store.{Store}
use Rattle.store_core.specs.declared.refusal.StoreRefusal.{StoreRefusal}
use Rattle.store_core.specs.declared.refusal.StoreRefusal.TheVariants.{Foreign, Damaged, Full, Failed, Memory}
use Rattle.store_core.proofs.LoadLemmas.{left_state}
use Rattle.store_core.proofs.ReachLemmas.{one_end}
use Rattle.store_core.proofs.StateLemmas.{one_state}
use Rattle.table_update.specs.declared.end.UpdateEnd.{UpdateEnd}
use Rattle.table_update.specs.declared.end.UpdateEnd.TheVariants as update
use Rattle.table_update.specs.declared.table.AppendTable.{AppendTable}
use Rattle.table_update.specs.Commit.{UpdateRan}
use Rattle.table_update.specs.Crash.{Leaves, Updated}
use Rattle.table_update.specs.Update.{Found, LoadEnds, end_after, end_of_load}
use Rattle.table_update.proofs.CrashLemmas.{has_them, leaves_failed, leaves_loaded, leaves_refused}

-- what an update finds on a disk
abbrev pub found_on : DiskState → ℕ → List LandingFile → Found
found_on disk room files = record { bytes = disk.now.left; room = room; landing = files }

-- the load did not fail
abbrev Stood : StoreRefusal → Type 0
Stood refusal = ◌≢◌ {A = Result Store StoreRefusal} (Err refusal) (Err Failed)

-- ---- the store was not loaded

module _ (timed : Type 0) (plan : Option AppendTable) (files : List LandingFile) (room : ℕ) (old new : DiskState) (loads : Loads old new) where
  refused : (end : UpdateEnd) → LoadEnds (found_on old room files) end → Leaves timed false (end ≡ update.LoadFailed) old.now.left [] [] old new → (end ≢ update.LoadFailed → length old.now.left ≤ 2 ^ 40)
      → Updated timed plan (found_on old room files) end old new
  refused update.Current ends leaves small = absurd ends
  refused (update.Completed read version) ends leaves small = absurd ends
  refused end ends leaves small = record {
    loaded = false;
    acked = [];
    tried = [];
    updates = (ends, refl, refl);
    leaves = leaves;
    small = small;
    reads = λ success. absurd success;
    goes_on = λ success. absurd success;
  }

  pub updated_refused : (refusal : StoreRefusal) → LoadAnswers room old.now.left (Err refusal) → (Stood refusal → length old.now.left ≤ 2 ^ 40) → (timed → LeavesOnly (λ _. Alone Left KeepsState) old new)
      → (timed → Stood refusal → LeavesOnly (KeepsSynced old.now.left) old new) → Updated timed plan (found_on old room files) (end_of_load refusal) old new
  updated_refused (Foreign side len) answers small by_moment synced =
      refused (update.Foreign len) answers.1 (leaves_refused timed _ old.now.left old new loads (λ told. synced told (λ same. cc same))) (λ other. small (λ same. cc same))
  updated_refused (Damaged side at) answers small by_moment synced =
      refused (update.Damaged at) answers.1 (leaves_refused timed _ old.now.left old new loads (λ told. synced told (λ same. cc same))) (λ other. small (λ same. cc same))
  updated_refused (Full end free) answers small by_moment synced =
      refused (update.Full end free) answers (leaves_refused timed _ old.now.left old new loads (λ told. synced told (λ same. cc same))) (λ other. small (λ same. cc same))
  updated_refused Failed answers small by_moment synced =
      refused update.LoadFailed tt (leaves_failed timed _ old.now.left old new loads refl by_moment) (λ other. absurd (other refl))
  updated_refused Memory answers small by_moment synced =
      refused update.Memory tt (leaves_refused timed _ old.now.left old new loads (λ told. synced told (λ same. cc same))) (λ other. small (λ same. cc same))

-- ---- it was loaded

module _ (timed : Type 0) (plan : Option AppendTable) (files : List LandingFile) (room : ℕ) (old : DiskState) (first : Store)
    (answers : LoadAnswers room old.now.left (Ok first)) (ends : EndsAt (log_end (store_log first)) old.now.left) (small : length old.now.left ≤ 2 ^ 40) where
  one : (other : State) → HasState old.now.left other → other ≡ store_state first
  one other has = one_state old.now.left other (store_state first) (omega (arith, small)) has answers.0

  updated_ran : (end : UpdateEnd) (store : Store) (mid new : DiskState) → Loads old mid → (timed → LeavesOnly (KeepsSynced old.now.left) old mid)
      → UpdateRan timed plan files room (log_end (store_log first)) (store_state first) end store mid new → IsHonest new → Updated timed plan (found_on old room files) end old new
  updated_ran end store mid new loads synced ran honest = record {
    loaded = true;
    acked = ran.acked;
    tried = ran.tried;
    updates = (store_state first, log_end (store_log first), record { is = answers.0; ends = ends; room = answers.1 }, ran.ends);
    leaves = leaves_loaded old.now.left (store_state first) one timed (end ≡ update.LoadFailed) ran.acked ran.tried old mid new loads synced ran.stores;
    small = λ other. small;
    reads = λ success.
        let left = ran.left success in
        has_them old.now.left (store_state first) one ran.tried (file Left new.now) (subst (HasState (file Left new.now)) left.state_is (left_state store new left.as_left new.now honest));
    goes_on = λ success at other.
        let left = ran.left success in
        let epoch = log_epoch (store_log store) in
        record {
          epoch = epoch;
          bodies = left.as_left.bodies;
          contents = subst (λ side. HasBodies epoch left.as_left.bodies (file side new.now)) left.as_left.side left.as_left.at_rest.contents;
          place = ap (λ (n : ℕ). end_after n ran.tried) (one_end old.now.left at (log_end (store_log first)) (omega (arith, small)) other ends) ∙ sym left.ends ∙ left.as_left.at_rest.end;
        };
  }

  pub updated_loaded : (end : UpdateEnd) (store : Store) (mid new : DiskState) (room_now : ℕ) → room_now ≡ room → Loads old mid → (timed → LeavesOnly (KeepsSynced old.now.left) old mid)
      → UpdateRan timed plan files room_now (log_end (store_log first)) (store_state first) end store mid new → IsHonest new → Updated timed plan (found_on old room files) end old new
  updated_loaded end store mid new room_now same loads synced ran honest =
      updated_ran end store mid new loads synced (subst (λ (r : ℕ). UpdateRan timed plan files r (log_end (store_log first)) (store_state first) end store mid new) same ran) honest

-- ---- a load stops no flow

pub load_never_stops : (refusal : StoreRefusal) (name : List ℕ) (cursor size : ℕ) → end_of_load refusal ≡ update.Shrunk name cursor size → ⊥
load_never_stops (Foreign side len) name cursor size is = cc
load_never_stops (Damaged side at) name cursor size is = cc
load_never_stops (Full end free) name cursor size is = cc
load_never_stops Failed name cursor size is = cc
load_never_stops Memory name cursor size is = cc
