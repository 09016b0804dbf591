use Rattle.std.proofs.Common.{◌≡◌, ℕ, List, ◌∙◌, ap}
use Rattle.plan_check.specs.Visits.{declared_places, visits_of, visits_with}
use Rattle.plan_check.proofs.Differ.{differ_by}
use Rattle.plan_check.proofs.checking.walked.Goals as goal

pub planned-requires : goal.planned-requires
planned-requires c datasets walked =
    let visits : c.as_slice-3.result.now ≡ visits_of c.args.statements.now c.args.levels.now =
    c.as_slice-3.ensures.value ∙ c.in_ok-visits.ensures ∙ ap (λ (p : List ℕ). visits_with p c.args.levels.now) (c.as_slice.ensures.value ∙ c.in_ok-places.ensures) in
    let places : c.as_slice-4.result.now ≡ declared_places c.args.statements.now = c.as_slice-4.ensures.value ∙ c.in_ok-places.ensures in
    differ_by c.args.statements.now c.as_slice-2.result.now c.args.levels.now c.as_slice-3.result.now c.as_slice-4.result.now datasets visits places c.requires.declared c.requires.levels walked
