use Rattle.view_patches.proofs.TouchLemmas.{applied}
use Rattle.view_patches.proofs.patch.Patches.apply.Goals as goal

pub returns-clause-turned : goal.returns-clause-turned
returns-clause-turned g c = λ removed added patches. applied c.args.query.now removed added c.args.self.now.map.entries c.args.groups.now c.walk.new.groups c.in_ok-sides.sides c.walk.ensures.ordered c.in_ok-sides.ensures.walked patches
