use Rattle.commit_trails.proofs.LoadTrailLemmas.{idle_trail, unloaded_trail}
use Rattle.commit_trails.proofs.laws.a_refused_load_leaves_a_trail.Goals as goal

pub returns : goal.returns
returns g c = record {
  refused = λ old new. unloaded_trail g.D.Disk.tells_moments (g.D.Disk.state old) (g.D.Disk.state new);
  idle = λ disk. idle_trail g.D.Disk.tells_moments (g.D.Disk.state disk);
}
