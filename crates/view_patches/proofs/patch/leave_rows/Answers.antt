use Rattle.std.proofs.Common.{◌++◌, subst, sym, take, append-nil, arith}
use Rattle.std.proofs.lemmas.List.{take_all}
use Rattle.flow_model.specs.Views.{shares_of}
use Rattle.view_patches.specs.Patches.{PatchesFor}
use Rattle.view_patches.proofs.PatchLemmas.{shares_longer}
use Rattle.view_patches.proofs.patch.leave_rows.Goals as goal

pub loop-row-init : goal.loop-row-init
loop-row-init g c = record { looks = omega arith; patches = λ outs mores patches. subst (λ o. PatchesFor c.args.patches.now.entries o mores) (sym (append-nil outs)) patches }

pub loop-row-preserved : goal.loop-row-preserved
loop-row-preserved g c = record {
  looks = omega arith;
  patches = λ outs mores patches. subst (λ o. PatchesFor c.leave_row.new.patches.entries o mores)
      (shares_longer c.args.query.now c.args.rows.now c.loop-row.row-index c.row-item.result outs c.loop-row-test.true c.row-item.is)
      (c.in_ok-leave_row.ensures (outs ++ shares_of c.args.query.now (take c.loop-row.row-index c.args.rows.now)) mores (c.loop-row.invariant.patches outs mores patches));
}

pub returns-clause-patches : goal.returns-clause-patches
returns-clause-patches g c = λ outs mores patches. subst (λ rows. PatchesFor c.loop-row.patches.entries (outs ++ shares_of c.args.query.now rows) mores) (take_all c.loop-row.row-index c.args.rows.now c.loop-row-test.false)
    (c.loop-row.invariant.patches outs mores patches)
