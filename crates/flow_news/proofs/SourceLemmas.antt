-- What is new of a source that is there.
use Rattle.std.proofs.Common.{◌≡◌, Option, Some, None, sym, subst}
use Rattle.std.specs.Prelude.{option_map, Result, Ok, Err, IfOk}
use Rattle.std.specs.declared.alloc.AllocError.{AllocError}
use Rattle.value_core.specs.declared.cursor.Cursor.{Cursor}
use Rattle.table_versions.specs.Versions.{Versions}
use Rattle.plan_core.specs.declared.flow.Origin.{Origin}
use Rattle.store_tables.specs.Parts.{table_of}
use Rattle.state_model.specs.Dataset.{Dataset}
use Rattle.state_steps.proofs.Lookups.{some_same}
use Rattle.flow_news.specs.declared.news.News.{News}
use Rattle.flow_news.specs.Finds.{OfSource, OfTable, found_of}

pub source_found : (source : Option Dataset) (table : Versions) (cursor : Cursor) (from : Origin) (result : Result News AllocError) → Some table ≡ option_map table_of source → IfOk result (λ news. OfTable table cursor (found_of from news))
    → IfOk result (λ news. OfSource source cursor (found_of from news))
source_found None table cursor from result e comes = cc
source_found (Some source) table cursor from (Ok news) e comes = subst (λ t. OfTable t cursor (found_of from news)) (some_same table source.table e) comes
source_found (Some source) table cursor from (Err end) e comes = tt
