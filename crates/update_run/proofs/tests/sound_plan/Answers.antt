use Rattle.std.proofs.Common.{List, sym, subst}
use Rattle.plan_core.specs.declared.plan.Dataset.{Dataset as Part}
use Rattle.plan_core.specs.Sound.{IsSoundPlan}
use Rattle.update_run.proofs.TablesLemmas.{is_sound}
use Rattle.update_run.proofs.tests.sound_plan.Goals as goal

pub returns-clause-sound : goal.returns-clause-sound
returns-clause-sound c = subst (λ (plan : List Part). IsSoundPlan plan) (sym c.in_ok-plan.ensures) is_sound
