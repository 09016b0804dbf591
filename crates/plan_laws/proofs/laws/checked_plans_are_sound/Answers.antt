use Rattle.plan_laws.proofs.PlanSound.{plan_sound}
use Rattle.plan_laws.proofs.laws.checked_plans_are_sound.Goals as goal

pub returns : goal.returns
returns c = plan_sound
    (record {
      streams = c.checked_streams_are_sound.ensures;
      views = c.checked_views_are_sound.ensures;
      expectations = c.checked_expectations_are_sound.ensures;
      feeds = c.feeds_are_sound.ensures;
      targets = c.targets_have_kinds.ensures;
    })
    c.plans_have_different_names.ensures
