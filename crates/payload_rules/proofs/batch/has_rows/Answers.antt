use Rattle.state_model.specs.Dataset.{dataset_of}
use Rattle.store_tables.specs.Parts.{table_of}
use Rattle.table_versions.specs.Versions.{content_now}
use Rattle.value_core.specs.Changes.{Holds}
use Rattle.payload_rules.proofs.FoundLemmas.{some_of}
use Rattle.payload_rules.proofs.batch.has_rows.Goals as goal

pub returns : goal.returns
returns g c = some_of table_of (dataset_of c.args.contents.now c.args.name.now) c.in-Some.table.now (λ table. Holds (content_now table) c.args.rows.now) c.in_ok-are.are c.in-Some.ensures c.in_ok-are.ensures
