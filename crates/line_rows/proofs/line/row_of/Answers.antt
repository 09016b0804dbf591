use Rattle.std.proofs.Common.{◌≡◌, rules}
use Rattle.std.specs.Option.{option_copied}
use Rattle.line_rows.specs.Lines as spec
use Rattle.line_rows.proofs.FitLemmas.{row_fits_columns}
use Rattle.line_rows.proofs.line.row_of.Goals as goal

pub returns-clause-fits : goal.returns-clause-fits
returns-clause-fits c keeps =
    let is : c.if-has_rescued.row ≡ spec.row_of c.args.shape.now (option_copied c.args.head) c.args.line.now = search rules in
    rw is (row_fits_columns c.args.shape.now (option_copied c.args.head) c.args.line.now keeps)
