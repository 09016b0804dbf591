use Rattle.plan_texts.proofs.Judging.{checked}
use Rattle.plan_texts.proofs.OneText.{are_one}
use Rattle.plan_texts.proofs.laws.datasets_of_one_text_are_one.Goals as goal

pub returns : goal.returns
returns c = λ first second old new parts read also checks others sound stored texts.
    are_one first second old new parts c.options_have_one_answer.ensures (λ some more. c.prints_tell_parts_apart.ensures first second some more read also)
    (c.plans_are_judged.ensures first old checks) (c.plans_are_judged.ensures second new others) (checked first old checks).0 (checked second new others).0 sound stored texts
