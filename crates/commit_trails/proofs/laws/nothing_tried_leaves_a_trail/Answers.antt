use Rattle.pair_store.proofs.ImageLemmas.{left_state}
use Rattle.commit_trails.proofs.TrailLemmas.{trail_of_none}
use Rattle.commit_trails.proofs.laws.nothing_tried_leaves_a_trail.Goals as goal

pub returns : goal.returns
returns g c = record {
  at_rest = λ store disk left. left_state store (g.D.Disk.state disk) left;
  trail = λ state disk held. trail_of_none g.D.Disk.tells_moments state (g.D.Disk.state disk) held;
}
