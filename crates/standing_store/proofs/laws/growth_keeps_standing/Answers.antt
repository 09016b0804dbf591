use Rattle.standing_store.proofs.DiskLemmas.{grown_on_disk, grown_stands}
use Rattle.standing_store.proofs.laws.growth_keeps_standing.Goals as goal

pub returns : goal.returns
returns g c = record {
  store = grown_stands c.growth_keeps_a_store_standing.ensures;
  disk = λ ever now disk. grown_on_disk c.growth_keeps_a_store_standing.ensures ever now (g.D.Disk.state disk);
}
