use Rattle.std.specs.Prelude.{◌≡◌, ◌+◌, ◌++◌, List, take, drop, filter_map}
use Rattle.flow_model.specs.Views.{Share, share, shares_of, fault_stop, first_of}
use Rattle.view_patches.specs.Patches.{PatchesFor}
use Rattle.view_patches.proofs.patch.join_rows.Given as goal

abbrev pub invariant-loop-row : goal.invariant-loop-row
invariant-loop-row g l = record {
  looks : l.steps ≡ l.initial.steps + l.row-index;
  stop : first_of (filter_map (λ row. fault_stop row (share l.query row)) (drop l.row-index l.rows)) ≡ first_of (filter_map (λ row. fault_stop row (share l.query row)) l.rows);
  patches : (outs mores : List Share) → PatchesFor l.initial.patches.entries outs mores → PatchesFor l.patches.entries outs (mores ++ shares_of l.query (take l.row-index l.rows));
}
