use Rattle.commit_trails.proofs.TrailLemmas.{trail_ours, trail_whole}
use Rattle.commit_trails.proofs.laws.a_trail_leaves_states.Goals as goal

pub returns : goal.returns
returns g c = record {
  ours = λ state acked tried old new trail. trail_ours g.D.Disk.tells_moments state acked (g.D.Disk.state old) (g.D.Disk.state new) tried trail;
  whole = λ state acked old new trail. trail_whole g.D.Disk.tells_moments state acked (g.D.Disk.state old) (g.D.Disk.state new) trail;
}
