use Rattle.commit_gate.proofs.ShutLemmas.{shuts_told, shuts_told_in_time}
use Rattle.commit_gate.proofs.log.Log.shut.Goals as goal

pub returns-clause-shuts : goal.returns-clause-shuts
returns-clause-shuts g c = λ told honest on_disk.
    shuts_told c.args.side (g.D.Disk.state c.args.disk.now) c.make_dead.result (g.D.Disk.state c.make_dead.new.disk) (c.make_dead.ensures.shuts told honest) on_disk

pub returns-clause-time : goal.returns-clause-time
returns-clause-time g c = λ told timed honest on_disk.
    shuts_told_in_time c.args.side (g.D.Disk.state c.args.disk.now) (g.D.Disk.state c.make_dead.new.disk) (c.make_dead.ensures.time told timed honest) on_disk
