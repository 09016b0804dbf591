use Rattle.standing_store.proofs.DiskLemmas.{stands_ours}
use Rattle.standing_store.proofs.laws.a_standing_store_is_ours.Goals as goal

pub returns : goal.returns
returns g c = λ ever disk. stands_ours ever (g.D.Disk.state disk)
