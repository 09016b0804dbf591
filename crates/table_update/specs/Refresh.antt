-- What a completed update's table is beside one that is read anew.
use Rattle.std.specs.Prelude.{List, []}
use Rattle.value_core.specs.Bags.{SameBag}
use Rattle.value_core.specs.Order.{Row}
use Rattle.landing_core.specs.declared.landing.LandingFile.{LandingFile}
use Rattle.landing_history.specs.Readings.{AreListed}
use Rattle.store_state.specs.State.{State}
use Rattle.table_update.specs.declared.table.AppendTable.{AppendTable}
use Rattle.table_update.specs.Flow.{listing, reach}
use Rattle.table_update.specs.Stands.{content, rows_up_to, TableStands}

-- the rows that a table reads that has read nothing before
abbrev pub rows_anew : AppendTable → List LandingFile → List Row
rows_anew table files = rows_up_to table files (reach table files [])

-- no file that the table has read from is gone
abbrev pub NoneGone : {table : AppendTable} {ever : List LandingFile} {state : State} → List LandingFile → TableStands table ever state → Type 0
NoneGone {table} files stands = AreListed stands.places (listing table files)

-- the table's content is that of a full refresh
abbrev pub IsFresh : {table : AppendTable} {ever : List LandingFile} {state : State} → List LandingFile → TableStands table ever state → Type 0
IsFresh {table} files stands = SameBag (content stands.dataset) (rows_anew table files)
