use Rattle.plan_texts.proofs.Readable.{parts_apart}
use Rattle.plan_texts.proofs.laws.prints_tell_parts_apart.Goals as goal

pub returns : goal.returns
returns c = parts_apart c.answers_are_one.ensures.short c.equal_prints_have_equal_statements.ensures
