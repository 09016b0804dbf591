use Rattle.type_check.proofs.Texts.{checked_texts}
use Rattle.type_check.proofs.laws.checked_tables_keep_text.Goals as goal

pub returns : goal.returns
returns c = checked_texts c.rescued_columns_are_texts.ensures
