use Rattle.standing_store.proofs.DiskLemmas.{moment_of_none, moments_join}
use Rattle.standing_store.proofs.laws.moments_of_standing_join.Goals as goal

pub returns : goal.returns
returns g c = record {
  joined = λ ever old mid new. moments_join ever (g.D.Disk.state old) (g.D.Disk.state mid) (g.D.Disk.state new);
  none = λ ever disk. moment_of_none ever (g.D.Disk.state disk);
}
