use Rattle.standing_store.proofs.DiskLemmas.{read_stands}
use Rattle.standing_store.proofs.laws.a_loaded_store_stands.Goals as goal

pub returns : goal.returns
returns g c = λ ever state disk. read_stands c.a_pair_has_one_state.ensures.one ever state (g.D.Disk.state disk)
