use Rattle.pair_store.specs.Compact.{base_of}
use Rattle.commit_trails.proofs.TrailLemmas.{base_folds, reaches_base, reaches_base_by_gate, trail_of_one, trail_of_tried}
use Rattle.commit_trails.proofs.laws.a_compaction_leaves_a_trail.Goals as goal

pub returns : goal.returns
returns g c = record {
  folded = base_folds;
  trail = λ before state result old new reaches by_gate.
      trail_of_one g.D.Disk.tells_moments before state (base_of state) result (g.D.Disk.state old) (g.D.Disk.state new)
      (reaches_base state result (g.D.Disk.state old) (g.D.Disk.state new) reaches)
      (λ told. reaches_base_by_gate state result (g.D.Disk.state old) (g.D.Disk.state new) before (by_gate told));
  tried = λ before state result was now old new held reaches by_gate early.
      trail_of_tried g.D.Disk.state g.D.Disk.tells_moments before state (base_of state) result was now old new held
      (reaches_base state result (g.D.Disk.state old) (g.D.Disk.state new) reaches)
      (λ told. reaches_base_by_gate state result (g.D.Disk.state old) (g.D.Disk.state new) before (by_gate told)) early;
}
