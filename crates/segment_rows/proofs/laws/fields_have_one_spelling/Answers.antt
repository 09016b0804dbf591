use Rattle.segment_rows.specs.FieldLaws.{prefix_law}
use Rattle.segment_rows.proofs.laws.fields_have_one_spelling.Goals as goal

pub returns : goal.returns
returns g c = λ a b x y is js e. prefix_law g.met.T.Field.exact a b x y is js e
