use Rattle.file_options.proofs.Columns.{read_text}
use Rattle.file_options.proofs.laws.rescued_columns_are_texts.Goals as goal

pub returns : goal.returns
returns c = read_text
