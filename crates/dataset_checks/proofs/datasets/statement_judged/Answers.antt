use Rattle.std.specs.Prelude.{slice_get}
use Rattle.dataset_checks.specs.Ends.{at_statement}
use Rattle.dataset_checks.specs.Tables.{table_parts}
use Rattle.dataset_checks.specs.Viewing.{view_by}
use Rattle.dataset_checks.proofs.datasets.statement_judged.Goals as goal

pub returns-in-Table : goal.returns-in-Table
returns-in-Table c =
    rw c.in-Table.is
    (c.dataset_filled.ensures (table_parts c.args.statements.now c.args.resolved.now c.args.sofar.now c.args.place c.in-Table.name c.in-Table.items c.in-Table.select) c.table_parts.ensures)

pub returns-in-View : goal.returns-in-View
returns-in-View c =
    let view = view_by c.in-View.name c.in-View.select c.args.sofar.now (slice_get c.args.resolved.now c.args.place) in
    rw c.in-View.is (c.dataset_filled-in-View.ensures (at_statement c.args.place view) (c.numbered.ensures view (rw c.at.ensures at c.view_by.ensures)))
