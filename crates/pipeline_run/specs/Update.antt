-- Updates of one pipeline, one after another.
use Rattle.std.specs.Prelude.{◌≡◌, ◌≢◌, ℕ, ◌≤◌, ◌^◌, List, [], ◌∷◌, ◌++◌, length, Bool, false, Option}
use Rattle.commit_records.specs.declared.payload.Payload.{Payload}
use Rattle.store_core.specs.Reach.{EndsAt, IsLogEnd}
use Rattle.table_update.specs.declared.end.UpdateEnd.{UpdateEnd}
use Rattle.table_update.specs.declared.end.UpdateEnd.TheVariants.{LoadFailed}
use Rattle.table_update.specs.declared.table.AppendTable.{AppendTable}
use Rattle.table_update.specs.Crash.{HasThem}
use Rattle.table_update.specs.Update.{Found, Updates, IsSuccess, end_after}

-- an update that has ended: whether the store was loaded, and which payloads were acknowledged and which were tried
pub record Ended : Type 0 where
  pub loaded : Bool
  pub acked : List Payload
  pub tried : List Payload
  pub end : UpdateEnd

-- It ended so for a pipeline of this table, or of none, with what it found, and these are the bytes of the store's file then.
pub record EndsWith (plan : Option AppendTable) (found : Found) (ended : Ended) (after : List ℕ) : Type 0 where
  pub updates : Updates plan found ended.loaded ended.acked ended.tried ended.end
  -- a file that could be read isn't longer
  pub small : ended.end ≢ LoadFailed → length found.bytes ≤ 2 ^ 40
  -- the file of an update that succeeded: it has all payloads, and the next record goes behind theirs
  pub reads : IsSuccess ended.end → HasThem found.bytes ended.tried after
  pub goes_on : IsSuccess ended.end → (at : ℕ) → EndsAt at found.bytes → IsLogEnd (end_after at ended.tried) after

-- ---- updates in order, of which each but the last one has succeeded

-- the payloads that they acknowledged
abbrev pub acked_by : List Ended → List Payload
acked_by [] = []
acked_by (ended ∷ more) = ended.acked ++ acked_by more

-- those that they tried
abbrev pub tried_by : List Ended → List Payload
tried_by [] = []
tried_by (ended ∷ more) = ended.tried ++ tried_by more

-- the first of them has loaded the store, and so have those behind it
abbrev pub loaded_by : List Ended → Bool
loaded_by [] = false
loaded_by (ended ∷ more) = ended.loaded

-- the disk failed while the first of them loaded the store
abbrev pub LoadFails : List Ended → Type 0
LoadFails [] = ⊥
LoadFails (ended ∷ more) = ended.end ≡ LoadFailed
