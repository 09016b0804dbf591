use Rattle.commit_trails.proofs.TrailLemmas.{trail_of_one, trail_of_tried}
use Rattle.commit_trails.proofs.laws.a_commit_leaves_a_trail.Goals as goal

pub returns : goal.returns
returns g c = record {
  trail = λ before state payload result old new. trail_of_one g.D.Disk.tells_moments before state payload result (g.D.Disk.state old) (g.D.Disk.state new);
  tried = trail_of_tried g.D.Disk.state g.D.Disk.tells_moments;
}
