-- What was found in the folder of a table.
use Rattle.std.specs.Prelude.{◌≡◌, List, length}
use Rattle.value_core.specs.declared.cursor.FilePlace.{FilePlace}
use Rattle.value_core.specs.Bags.{in_row_order}
use Rattle.landing_core.specs.declared.ends.LineEnd.{LineEnd}
use Rattle.landing_core.specs.declared.ends.LineEnd.TheVariants as line
use Rattle.landing_core.specs.declared.landing.LandingFile.{LandingFile}
use Rattle.table_update.specs.declared.end.UpdateEnd.{UpdateEnd}
use Rattle.table_update.specs.declared.end.UpdateEnd.TheVariants.{LandingFailed, Shrunk, Current, Memory}
use Rattle.table_update.specs.declared.news.News.{News}
use Rattle.table_update.specs.declared.table.AppendTable.{AppendTable}
use Rattle.table_update.specs.Flow.{lines, reach, HasNews}
use Rattle.table_update.specs.Table.{rows_of}

-- it is what is new behind these places
pub record IsNews (table : AppendTable) (files : List LandingFile) (places : List FilePlace) (news : News) : Type 0 where
  pub is_new : HasNews table files places
  pub rows : news.rows ≡ in_row_order (rows_of table (lines table files places))
  pub read : news.read ≡ length (lines table files places)
  pub places_now : news.places ≡ reach table files places

-- an end where there is nothing to take
abbrev pub IsOfNews : UpdateEnd → Type 0
IsOfNews LandingFailed = Unit {0}
IsOfNews (Shrunk file cursor size) = Unit {0}
IsOfNews Current = Unit {0}
IsOfNews Memory = Unit {0}
IsOfNews end = ⊥

-- an end where the folder wasn't listed
abbrev pub IsOfList : UpdateEnd → Type 0
IsOfList LandingFailed = Unit {0}
IsOfList Memory = Unit {0}
IsOfList end = ⊥

-- why no lines were read, as the end of an update
abbrev pub end_of_lines : LineEnd → UpdateEnd
end_of_lines (line.Shrunk file cursor size) = Shrunk file cursor size
end_of_lines line.Failed = LandingFailed
end_of_lines line.Memory = Memory
