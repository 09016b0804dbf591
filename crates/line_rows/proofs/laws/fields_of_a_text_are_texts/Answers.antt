use Rattle.line_rows.proofs.FieldTexts.{fields_texts}
use Rattle.line_rows.proofs.laws.fields_of_a_text_are_texts.Goals as goal

pub returns : goal.returns
returns c = fields_texts
