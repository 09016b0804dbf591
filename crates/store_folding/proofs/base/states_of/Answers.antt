use Rattle.std.proofs.Common.{◌≡◌, sym, ◌∙◌}
use Rattle.store_folding.proofs.FoldingLemmas.{states_step}
use Rattle.store_folding.specs.Folding.{folded_states}
use Rattle.store_tables.specs.Kept.{dataset_of_kept}
use Rattle.store_folding.proofs.base.states_of.Goals as goal

pub loop-place-preserved : goal.loop-place-preserved
loop-place-preserved g c =
    rw (c.in_ok-push.ensures.ok, c.in_ok-folded_state.ensures, c.loop-place.invariant)
    (sym (states_step c.args.contents.now c.loop-place.place (dataset_of_kept c.in-Some.kept) c.in-Some.ensures.kept))
