use Rattle.commit_trails.proofs.LoadTrailLemmas.{loaded_trail}
use Rattle.commit_trails.proofs.laws.a_load_leads_a_trail.Goals as goal

pub returns : goal.returns
returns g c = λ state acked tried old mid new. loaded_trail g.D.Disk.tells_moments state acked tried (g.D.Disk.state old) (g.D.Disk.state mid) (g.D.Disk.state new)
