use Rattle.std.proofs.Common.{sym, subst, ◌∙◌}
use Rattle.std.specs.Prelude.{[]}
use Rattle.flow_model.specs.Views.{shares_of}
use Rattle.view_groups.proofs.WalkLemmas.{ok_from}
use Rattle.view_patches.specs.Patches.{PatchesFor}
use Rattle.view_patches.proofs.KeyLemmas.{patches_of}
use Rattle.view_patches.proofs.PatchLemmas.{no_patches}
use Rattle.view_patches.proofs.patch.patches_of.Goals as goal

pub returns-in-Ok-None-clause-patches : goal.returns-in-Ok-None-clause-patches
returns-in-Ok-None-clause-patches g c = (
  sym c.in-Ok-None.ensures.stop ∙ c.in-Ok-None.field-0-is,
  patches_of (record { map = c.join_rows.new.patches }) (shares_of c.args.query.now c.args.removed.now) (shares_of c.args.query.now c.args.added.now) c.stand_in_order.ensures
      (c.in-Ok-None.ensures.patches c.in-Ok-None.field-0-is (shares_of c.args.query.now c.args.removed.now) [] (ok_from c.leave_rows.result c.leave_rows.ensures.patches (sym c.if-is_err.ensures.value) [] [] (subst (λ entries. PatchesFor entries [] []) (sym c.new-map.ensures.empty) no_patches))),
)
