use Rattle.row_expr.proofs.Typed.{fits_any, fits_kind}
use Rattle.row_expr.proofs.laws.a_typed_value_fits_its_kind.Goals as goal

pub returns-clause-of_its_kind : goal.returns-clause-of_its_kind
returns-clause-of_its_kind c = fits_kind

pub returns-clause-of_any_kind : goal.returns-clause-of_any_kind
returns-clause-of_any_kind c = fits_any
