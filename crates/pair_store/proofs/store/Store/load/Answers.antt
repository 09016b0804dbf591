use Rattle.pair_store.proofs.LoadLemmas.{answers_of, exact, ends, same_epoch, on_disk, refused, store_loads, moments, moments_synced, ours_after, not_failed}
use Rattle.log_pair.specs.Load.{calls_before_first}
use Rattle.commit_gate.specs.Head.{IsUntouched}
use Rattle.pair_store.proofs.store.Store.load.Goals as goal

pub returns-clause-answers : goal.returns-clause-answers
returns-clause-answers g c = λ told. answers_of (g.D.Disk.room c.args.disk.now) (g.D.Disk.state c.args.disk.now).now c.load-loaded.result c.finish.result (c.load-loaded.ensures.answers told) c.finish.ensures

pub returns-clause-exact : goal.returns-clause-exact
returns-clause-exact g c = λ told.
    exact (g.D.Disk.room c.args.disk.now) (g.D.Disk.state c.args.disk.now).now c.finish.result (returns-clause-answers g c told)
    (λ other. c.load-loaded.ensures.small told (not_failed c.load-loaded.result c.finish.result c.finish.ensures other))

pub returns-clause-ends : goal.returns-clause-ends
returns-clause-ends g c = λ told honest.
    ends (g.D.Disk.room c.args.disk.now) (g.D.Disk.state c.args.disk.now).now (g.D.Disk.state c.load-loaded.new.disk) c.load-loaded.result c.finish.result c.finish.ensures (c.load-loaded.ensures.answers told) (c.load-loaded.ensures.at_rest told honest)

pub returns-clause-same_epoch : goal.returns-clause-same_epoch
returns-clause-same_epoch g c = λ told.
    same_epoch (g.D.Disk.room c.args.disk.now) (g.D.Disk.state c.args.disk.now).now c.load-loaded.result c.finish.result c.finish.ensures (c.load-loaded.ensures.answers told)

pub returns-clause-on_disk : goal.returns-clause-on_disk
returns-clause-on_disk g c = λ told honest. on_disk (g.D.Disk.state c.load-loaded.new.disk) c.load-loaded.result c.finish.result c.finish.ensures (c.load-loaded.ensures.at_rest told honest)

pub returns-clause-refused : goal.returns-clause-refused
returns-clause-refused g c = λ told other.
    refused (g.D.Disk.room c.args.disk.now) (g.D.Disk.state c.args.disk.now).now (IsUntouched (g.D.Disk.state c.args.disk.now) (g.D.Disk.state c.load-loaded.new.disk)) c.load-loaded.result c.finish.result
    (c.load-loaded.ensures.answers told) c.finish.ensures (c.load-loaded.ensures.refused told (not_failed c.load-loaded.result c.finish.result c.finish.ensures other)) (c.load-loaded.ensures.spared told)

pub returns-clause-loads : goal.returns-clause-loads
returns-clause-loads g c = λ told honest. store_loads (g.D.Disk.state c.args.disk.now) (g.D.Disk.state c.load-loaded.new.disk) (c.load-loaded.ensures.loads told honest)

pub returns-clause-by_moment : goal.returns-clause-by_moment
returns-clause-by_moment g c = λ told timed honest.
    moments (calls_before_first (g.D.Disk.state c.args.disk.now).now) (g.D.Disk.state c.args.disk.now) (g.D.Disk.state c.load-loaded.new.disk) (c.load-loaded.ensures.by_moment told timed honest)

pub returns-clause-synced : goal.returns-clause-synced
returns-clause-synced g c = λ told timed honest other.
    moments_synced (g.D.Disk.state c.args.disk.now).now (g.D.Disk.state c.args.disk.now) (g.D.Disk.state c.load-loaded.new.disk)
    (c.load-loaded.ensures.synced told timed honest (not_failed c.load-loaded.result c.finish.result c.finish.ensures other))

pub returns-clause-ours : goal.returns-clause-ours
returns-clause-ours g c = λ told honest was. ours_after (g.D.Disk.state c.args.disk.now) (g.D.Disk.state c.load-loaded.new.disk) (c.load-loaded.ensures.loads told honest) was
