use Rattle.std.proofs.Common.{rules}
use Rattle.std.specs.List.{list_all}
use Rattle.std.proofs.lemmas.Bool.{and_parts}
use Rattle.line_rows.specs.Lines.{keeps_text}
use Rattle.table_update.specs.Table.{is_column_of}
use Rattle.table_update.proofs.RowLemmas.{selected_fits}
use Rattle.table_update.proofs.rows.row.Goals as goal

pub returns-clause-fits : goal.returns-clause-fits
returns-clause-fits c =
    let table = c.args.table.now in
    let both = and_parts (keeps_text table.shape) (list_all (is_column_of table.shape.columns) table.outputs) c.requires in
    search (rules, selected_fits)
