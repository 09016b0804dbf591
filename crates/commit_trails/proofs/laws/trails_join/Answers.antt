use Rattle.commit_trails.proofs.TrailLemmas.{trail_of_both}
use Rattle.commit_trails.proofs.laws.trails_join.Goals as goal

pub returns : goal.returns
returns g c = λ state first acked tried old mid new. trail_of_both g.D.Disk.tells_moments state first acked tried (g.D.Disk.state old) (g.D.Disk.state mid) (g.D.Disk.state new)
