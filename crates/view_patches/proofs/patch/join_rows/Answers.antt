use Rattle.std.proofs.Common.{◌++◌, subst, sym, ap, ◌∙◌, take, arith}
use Rattle.flow_model.specs.Views.{share, shares_of, fault_stop, first_of}
use Rattle.view_patches.specs.Patches.{PatchesFor}
use Rattle.view_patches.proofs.PatchLemmas.{shares_longer, no_stop_more, none_of}
use Rattle.view_patches.proofs.patch.join_rows.Goals as goal

pub loop-row-preserved : goal.loop-row-preserved
loop-row-preserved g c = record {
  looks = omega arith;
  stop = ap first_of (sym (no_stop_more (λ row. fault_stop row (share c.args.query.now row)) c.args.rows.now c.loop-row.row-index c.row-item.result c.loop-row-test.true c.row-item.is
      (sym c.in_ok-stop.ensures.stop ∙ none_of c.in_ok-stop.stop c.if-is_some.ensures))) ∙ c.loop-row.invariant.stop;
  patches = λ outs mores patches. subst (λ o. PatchesFor c.join_row.new.patches.entries outs o)
      (shares_longer c.args.query.now c.args.rows.now c.loop-row.row-index c.row-item.result mores c.loop-row-test.true c.row-item.is)
      (c.in_ok-stop.ensures.patches outs (mores ++ shares_of c.args.query.now (take c.loop-row.row-index c.args.rows.now)) (c.loop-row.invariant.patches outs mores patches));
}
