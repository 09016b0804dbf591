use Rattle.commit_trails.proofs.StintLemmas.{stints_joined}
use Rattle.commit_trails.proofs.laws.stints_join.Goals as goal

pub returns : goal.returns
returns g c = λ first second old mid new. stints_joined g.D.Disk.tells_moments (g.D.Disk.state old) (g.D.Disk.state mid) (g.D.Disk.state new) first second
