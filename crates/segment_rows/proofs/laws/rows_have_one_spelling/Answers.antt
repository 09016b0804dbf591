use Rattle.segment_rows.specs.ValueLaws.{rows_exact}
use Rattle.segment_rows.specs.FieldLaws.{whole_law}
use Rattle.segment_rows.proofs.laws.rows_have_one_spelling.Goals as goal

pub returns : goal.returns
returns c = λ a b is js e. whole_law rows_exact a b is js e
