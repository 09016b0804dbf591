use Rattle.standing_store.proofs.DiskLemmas.{loaded_on_disk, loaded_throughout, stint_on_disk, stint_throughout, unloaded_on_disk, unloaded_throughout}
use Rattle.standing_store.proofs.laws.trails_keep_standing.Goals as goal

pub returns : goal.returns
returns g c = record {
  loaded = λ ever state acked tried old new. loaded_on_disk g.D.Disk.tells_moments ever (g.D.Disk.state old) (g.D.Disk.state new) state acked tried;
  loaded_throughout = λ ever state acked tried old new. loaded_throughout g.D.Disk.tells_moments ever (g.D.Disk.state old) (g.D.Disk.state new) state acked tried;
  unloaded = λ ever old new. unloaded_on_disk g.D.Disk.tells_moments ever (g.D.Disk.state old) (g.D.Disk.state new);
  unloaded_throughout = λ ever old new. unloaded_throughout g.D.Disk.tells_moments ever (g.D.Disk.state old) (g.D.Disk.state new);
  stint = λ ever stint old new. stint_on_disk g.D.Disk.tells_moments ever (g.D.Disk.state old) (g.D.Disk.state new) stint;
  stint_throughout = λ ever stint old new. stint_throughout g.D.Disk.tells_moments ever (g.D.Disk.state old) (g.D.Disk.state new) stint;
}
