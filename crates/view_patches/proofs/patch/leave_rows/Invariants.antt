use Rattle.std.specs.Prelude.{◌≡◌, ◌+◌, ◌++◌, List, take}
use Rattle.flow_model.specs.Views.{Share, shares_of}
use Rattle.view_patches.specs.Patches.{PatchesFor}
use Rattle.view_patches.proofs.patch.leave_rows.Given as goal

abbrev pub invariant-loop-row : goal.invariant-loop-row
invariant-loop-row g l = record {
  looks : l.steps ≡ l.initial.steps + l.row-index;
  patches : (outs mores : List Share) → PatchesFor l.initial.patches.entries outs mores → PatchesFor l.patches.entries (outs ++ shares_of l.query (take l.row-index l.rows)) mores;
}
