use Rattle.state_steps.proofs.FollowLemmas.{shape_after, steps_keep}
use Rattle.state_steps.proofs.laws.steps_keep_the_shape.Goals as goal

pub returns : goal.returns
returns c = record {
  one = λ parts new ever state body stands shape commits. shape_after parts ever state stands shape new body commits;
  many = λ was now steps stands shape. (steps_keep was now steps (stands, shape)).1;
}
