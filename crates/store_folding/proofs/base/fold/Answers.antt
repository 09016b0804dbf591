use Rattle.std.proofs.Common.{◌≡◌, ap, ◌∙◌}
use Rattle.commit_payloads.specs.declared.payload.Payload.TheVariants.{Base}
use Rattle.store_folding.proofs.FoldingLemmas.{saved_parts}
use Rattle.store_folding.proofs.base.fold.Goals as goal

pub returns : goal.returns
returns g c = rw (c.in_ok-list.ensures, c.in_ok-states.ensures, c.as_slice.ensures, c.definitions.ensures.definitions) (ap Base (saved_parts c.args.contents.now))
