-- What an update leaves alone of the store's file.
use Rattle.std.proofs.Common.{◌≡◌, inl, inr, ℕ, ◌^◌, ◌≤◌, Bool, true, false, List, length, Option, None, Some, arith}
use Rattle.disk_model.specs.declared.disk.Side.TheVariants.{Left}
use Rattle.disk_model.specs.Disk.{DiskState, file}
use Rattle.landing_core.specs.declared.landing.LandingFile.{LandingFile}
use Rattle.commit_records.specs.declared.payload.Payload.{Payload}
use Rattle.store_state.specs.State.{State}
use Rattle.store_core.specs.Reach.{EndsAt, IsLogEnd}
use Rattle.store_core.specs.Spared.{IsRefusedFile, IsSpared, LogGoesOn}
use Rattle.store_core.proofs.ReachLemmas.{one_end}
use Rattle.store_core.proofs.SparedLemmas.{goes_on_on, log_within, spared_goes_on}
use Rattle.table_update.specs.declared.end.UpdateEnd.{UpdateEnd}
use Rattle.table_update.specs.declared.end.UpdateEnd.TheVariants.{Foreign, Damaged}
use Rattle.table_update.specs.declared.table.AppendTable.{AppendTable}
use Rattle.table_update.specs.Update.{Found, IsStoreRefused, LoadedEnds, Updates}

-- ---- where the file is refused

some_never : (table : AppendTable) (files : List LandingFile) (room : ℕ) (state : State) (at : ℕ) (acked tried : List Payload) (end : UpdateEnd) → IsStoreRefused end → LoadedEnds (Some table) files room state at acked tried end → ⊥
some_never table files room state at acked tried (Foreign len) is (inl judged) = judged.0
some_never table files room state at acked tried (Foreign len) is (inr (inl defined)) = defined.1
some_never table files room state at acked tried (Foreign len) is (inr (inr (inl first))) = first.2.ends.0
some_never table files room state at acked tried (Foreign len) is (inr (inr (inr there))) = there.1.ends.0
some_never table files room state at acked tried (Damaged place) is (inl judged) = judged.0
some_never table files room state at acked tried (Damaged place) is (inr (inl defined)) = defined.1
some_never table files room state at acked tried (Damaged place) is (inr (inr (inl first))) = first.2.ends.0
some_never table files room state at acked tried (Damaged place) is (inr (inr (inr there))) = there.1.ends.0
some_never table files room state at acked tried end is ends = is

none_never : (files : List LandingFile) (room : ℕ) (state : State) (at : ℕ) (acked tried : List Payload) (end : UpdateEnd) → IsStoreRefused end → LoadedEnds None files room state at acked tried end → ⊥
none_never files room state at acked tried (Foreign len) is ends = ends.0
none_never files room state at acked tried (Damaged place) is ends = ends.0
none_never files room state at acked tried end is ends = is

loaded_never : (plan : Option AppendTable) (files : List LandingFile) (room : ℕ) (state : State) (at : ℕ) (acked tried : List Payload) (end : UpdateEnd) → IsStoreRefused end → LoadedEnds plan files room state at acked tried end → ⊥
loaded_never None files room state at acked tried end is ends = none_never files room state at acked tried end is ends
loaded_never (Some table) files room state at acked tried end is ends = some_never table files room state at acked tried end is ends

unloaded : (plan : Option AppendTable) (found : Found) (acked tried : List Payload) (end : UpdateEnd) → Updates plan found false acked tried end → IsStoreRefused end → IsRefusedFile found.room found.bytes
unloaded plan found acked tried (Foreign len) ends is = inl (len, ends.0)
unloaded plan found acked tried (Damaged place) ends is = inr (inl (place, ends.0))
unloaded plan found acked tried end ends is = absurd is

-- an end that refuses the file has its cause in the file
pub refused_file : (plan : Option AppendTable) (found : Found) (loaded : Bool) (acked tried : List Payload) (end : UpdateEnd) → Updates plan found loaded acked tried end → IsStoreRefused end → IsRefusedFile found.room found.bytes
refused_file plan found false acked tried end ends is = unloaded plan found acked tried end ends is
refused_file plan found true acked tried end ends is = absurd (loaded_never plan found.landing found.room ends.0 ends.1 acked tried end is ends.3)

-- ---- where a live log is there

-- it was loaded, and went on from there
pub loaded_goes_on : (timed : Type 0) (at end : ℕ) (old mid new : DiskState) → IsLogEnd at (file Left old.now) → EndsAt end (file Left old.now) → length (file Left old.now) ≤ 2 ^ 40
    → IsSpared timed old mid → LogGoesOn timed end mid new → LogGoesOn timed at old new
loaded_goes_on timed at end old mid new log ends small spares goes =
    let bytes = file Left old.now in
    let same : at ≡ end = one_end bytes at end (omega (arith, small)) (inl log) ends in
    goes_on_on timed at end old mid new (omega (arith, same)) (spared_goes_on timed at old mid (log_within at bytes log) spares) goes
