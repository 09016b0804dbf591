use Rattle.view_patches.proofs.walk.step.Goals as goal

pub returns : goal.returns
returns c = record { turned = c.in_ok-turned.turned; touches = c.in_ok-turned.ensures; before = c.in_ok-before.ensures; after = c.in_ok-after.ensures }
