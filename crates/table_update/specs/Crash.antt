-- What a crash leaves of the store, during an update and after it.
use Rattle.std.specs.Prelude.{◌≡◌, ◌≢◌, ◌⊎◌, ℕ, ◌≤◌, ◌^◌, List, ◌++◌, length, Bool, false, Option}
use Rattle.disk_model.specs.declared.disk.Side.TheVariants.{Left}
use Rattle.disk_model.specs.Disk.{DiskState, Alone, Follows, file}
use Rattle.disk_model.specs.Moments.{LeavesOnly}
use Rattle.commit_records.specs.declared.payload.Payload.{Payload}
use Rattle.store_state.specs.State.{State, state_from}
use Rattle.store_core.specs.Reach.{EndsAt, IsLogEnd}
use Rattle.store_core.specs.State.{HasState, KeepsState}
use Rattle.table_update.specs.declared.end.UpdateEnd.{UpdateEnd}
use Rattle.table_update.specs.declared.end.UpdateEnd.TheVariants.{LoadFailed}
use Rattle.table_update.specs.declared.table.AppendTable.{AppendTable}
use Rattle.table_update.specs.Update.{Found, Updates, IsSuccess, end_after}

-- an image has the state of these bytes with these payloads
abbrev pub HasThem : List ℕ → List Payload → List ℕ → Type 0
HasThem bytes payloads image = (state : State) → HasState bytes state → HasState image (state_from state payloads)

-- an image has the state of these bytes with a front of the payloads
pub record HasFrontOf (bytes : List ℕ) (tried : List Payload) (image : List ℕ) : Type 0 where
  pub front : List Payload
  pub behind : List Payload
  pub parts : tried ≡ front ++ behind
  pub has : HasThem bytes front image

-- an image has the state of these bytes with a front of the payloads, or, where it may be older, the state of the image
-- that it comes from
abbrev pub IsImage : Type 0 → List ℕ → List Payload → List ℕ → List ℕ → Type 0
IsImage may_be_older bytes tried was image = HasFrontOf bytes tried image ⊎ (may_be_older × KeepsState was image)

-- an image has the payloads that were acknowledged, or all that were tried
abbrev pub IsSettled : Type 0 → List ℕ → List Payload → List Payload → List ℕ → List ℕ → Type 0
IsSettled may_be_older bytes acked tried was image = HasThem bytes acked image ⊎ HasThem bytes tried image ⊎ (may_be_older × KeepsState was image)

-- What a crash leaves of the left file, which had these bytes when the call began. `loaded` says that the store was
-- loaded, and `failed` that the load failed; `timed`, that the disk tells its moments.
pub record Leaves (timed : Type 0) (loaded : Bool) (failed : Type 0) (bytes : List ℕ) (acked tried : List Payload) (old new : DiskState) : Type 0 where
  -- once the call has ended
  pub settled : Follows (Alone Left (IsSettled (loaded ≡ false) bytes acked tried)) old.may_leave new.may_leave
  -- at each moment of it
  pub each : timed → LeavesOnly (λ calls. Alone Left (IsImage ((calls ≡ 0) ⊎ failed) bytes tried)) old new

-- an update: how it ended, which payloads it committed, and what a crash leaves
pub record Updated (timed : Type 0) (plan : Option AppendTable) (found : Found) (end : UpdateEnd) (old new : DiskState) : Type 0 where
  pub loaded : Bool
  pub acked : List Payload
  pub tried : List Payload
  pub updates : Updates plan found loaded acked tried end
  pub leaves : Leaves timed loaded (end ≡ LoadFailed) found.bytes acked tried old new
  -- a file that could be read isn't longer
  pub small : end ≢ LoadFailed → length found.bytes ≤ 2 ^ 40
  -- the file of an update that succeeded: it has all payloads, and the next record goes behind theirs
  pub reads : IsSuccess end → HasThem found.bytes tried (file Left new.now)
  pub goes_on : IsSuccess end → (at : ℕ) → EndsAt at found.bytes → IsLogEnd (end_after at tried) (file Left new.now)
