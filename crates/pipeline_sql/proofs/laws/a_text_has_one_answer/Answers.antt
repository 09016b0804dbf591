use Rattle.pipeline_sql.proofs.OneAnswer.{read_once, refused_once, read_or_refused}
use Rattle.pipeline_sql.proofs.laws.a_text_has_one_answer.Goals as goal

pub returns-clause-read : goal.returns-clause-read
returns-clause-read c = read_once

pub returns-clause-refused : goal.returns-clause-refused
returns-clause-refused c = refused_once

pub returns-clause-apart : goal.returns-clause-apart
returns-clause-apart c = read_or_refused
