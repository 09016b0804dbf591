-- What the flow of a table comes to where it takes nothing.
use Rattle.std.proofs.Common.{ℕ, List, [], refl}
use Rattle.disk_model.specs.Disk.{DiskState}
use Rattle.value_core.specs.declared.cursor.FilePlace.{FilePlace}
use Rattle.landing_core.specs.declared.landing.LandingFile.{LandingFile}
use Rattle.commit_gate.specs.AtRest.{log_end}
use Rattle.store_state.specs.Dataset.{Dataset}
use Rattle.store_core.specs.Store.{store_state, store_log, IsAsLeft}
use Rattle.store_core.specs.declared.store.Store.{Store}
use Rattle.table_update.specs.declared.end.UpdateEnd.{UpdateEnd}
use Rattle.table_update.specs.declared.end.UpdateEnd.TheVariants as update
use Rattle.table_update.specs.declared.table.AppendTable.{AppendTable}
use Rattle.table_update.specs.Commit.{FlowRan, Stores}
use Rattle.table_update.specs.Flow.{FindsNone, FlowEnds}
use Rattle.table_update.specs.News.{IsOfNews}
use Rattle.table_update.specs.Table.{HoldsTable}

found_none : (table : AppendTable) (files : List LandingFile) (room at : ℕ) (of : Dataset) (places : List FilePlace) (end : UpdateEnd) → IsOfNews end → FindsNone table files places end → FlowEnds table files room at of places [] [] [] end
found_none table files room at of places update.LandingFailed own finds = (finds, refl, refl)
found_none table files room at of places (update.Shrunk file cursor size) own finds = (finds, refl, refl)
found_none table files room at of places update.Current own finds = (finds, refl, refl)
found_none table files room at of places update.Memory own finds = (finds, refl, refl)
found_none table files room at of places end own finds = absurd own

pub ran_none : (timed : Type 0) (table : AppendTable) (files : List LandingFile) (room : ℕ) (of : Dataset) (places : List FilePlace) (end : UpdateEnd) (store : Store) (disk : DiskState) → HoldsTable table (store_state store) of places
    → IsOfNews end → FindsNone table files places end → Stores timed (store_state store) [] [] disk disk → IsAsLeft store disk → FlowRan timed table files room (log_end (store_log store)) (store_state store) end store disk disk
ran_none timed table files room of places end store disk holds own finds stores left = record {
  acked = [];
  tried = [];
  flows = record { dataset = of; places = places; holds = holds; ends = found_none table files room (log_end (store_log store)) of places end own finds };
  stores = stores;
  left = λ success. record { as_left = left; state_is = refl; ends = refl };
}
