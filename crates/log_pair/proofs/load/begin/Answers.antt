use Rattle.std.proofs.Common.{◌≤◌, ◌+◌, Ok, Err, None, OnErr, ◌≡◌, arith}
use Rattle.std.proofs.lemmas.Result.{err_from_is_err_and}
use Rattle.log_pair.specs.Load.{BeginAnswers}
use Rattle.log_pair.proofs.BeginLemmas.{fill_refusal, only_failed, shut_loads, shut_moments, fill_loads, fill_moments, begun_at}
use Rattle.log_pair.proofs.load.begin.Goals as goal

pub returns-in_err-shut-clause-loads : goal.returns-in_err-shut-clause-loads
returns-in_err-shut-clause-loads g c = λ told honest.
    let old = g.D.Disk.state c.args.disk.now in
    let mid = g.D.Disk.state c.shut.new.disk in
    let begun = c.requires.unbegun told in
    let on = c.requires.on_disk told honest in
    let shuts = c.shut.ensures.shuts told honest on.0 in
    shut_loads old mid begun on.0 on.1 c.shut.result shuts

pub returns-in_err-shut-clause-by_moment : goal.returns-in_err-shut-clause-by_moment
returns-in_err-shut-clause-by_moment g c = λ told timed honest.
    let old = g.D.Disk.state c.args.disk.now in
    let mid = g.D.Disk.state c.shut.new.disk in
    let begun = c.requires.unbegun told in
    let on = c.requires.on_disk told honest in
    let shuts = c.shut.ensures.shuts told honest on.0 in
    shut_moments old mid begun on.0 on.1 c.shut.result shuts (c.shut.ensures.time told timed honest on.0)

pub returns-in_err-log-clause-answers : goal.returns-in_err-log-clause-answers
returns-in_err-log-clause-answers g c =
    let p = err_from_is_err_and c.from_residual-in_err-log.result c.from_residual-in_err-log.ensures.1 in
    let fits : 18 ≤ g.D.Disk.room c.shut.new.disk = omega (arith, c.shut.ensures.room, c.room-room.ensures.room, c.if-room-lt-NEW_LOG_LEN.false) in
    rw (p.1, p.2) (fill_refusal (g.D.Disk.room c.args.disk.now) (g.D.Disk.room c.shut.new.disk) c.in_err-log.field-0.0 c.fill.result c.in_err-log.was fits c.fill.ensures.full c.fill.ensures.full_by)

pub returns-in_err-log-clause-full_changes_nothing : goal.returns-in_err-log-clause-full_changes_nothing
returns-in_err-log-clause-full_changes_nothing g c = λ other.
    let p = err_from_is_err_and c.from_residual-in_err-log.result c.from_residual-in_err-log.ensures.1 in
    let room = g.D.Disk.room c.args.disk.now in
    let fits : 18 ≤ room = omega (arith, c.room-room.ensures.room, c.if-room-lt-NEW_LOG_LEN.false) in
    let later : 18 ≤ g.D.Disk.room c.shut.new.disk = omega (arith, c.shut.ensures.room, fits) in
    let answers : BeginAnswers room c.from_residual-in_err-log.result =
    rw (p.1, p.2) (fill_refusal room (g.D.Disk.room c.shut.new.disk) c.in_err-log.field-0.0 c.fill.result c.in_err-log.was later c.fill.ensures.full c.fill.ensures.full_by) in
    only_failed (OnErr c.from_residual-in_err-log.result (c.fill.new.disk ≡ c.args.disk.now)) room c.from_residual-in_err-log.result fits answers c.from_residual-in_err-log.ensures.0 other

pub returns-in_err-log-clause-loads : goal.returns-in_err-log-clause-loads
returns-in_err-log-clause-loads g c = λ told honest.
    let old = g.D.Disk.state c.args.disk.now in
    let mid = g.D.Disk.state c.shut.new.disk in
    let begun = c.requires.unbegun told in
    let on = c.requires.on_disk told honest in
    let shuts = c.shut.ensures.shuts told honest on.0 in
    fill_loads old mid begun on.0 on.1 c.shut.result shuts (g.D.Disk.state c.fill.new.disk) c.fill.result (c.fill.ensures.fills told (shuts.honesty.0 honest))

pub returns-in_err-log-clause-by_moment : goal.returns-in_err-log-clause-by_moment
returns-in_err-log-clause-by_moment g c = λ told timed honest.
    let old = g.D.Disk.state c.args.disk.now in
    let mid = g.D.Disk.state c.shut.new.disk in
    let begun = c.requires.unbegun told in
    let on = c.requires.on_disk told honest in
    let shuts = c.shut.ensures.shuts told honest on.0 in
    fill_moments old mid begun on.0 on.1 c.shut.result shuts (g.D.Disk.state c.fill.new.disk) c.fill.result (c.fill.ensures.fills told (shuts.honesty.0 honest)) (c.in_ok-shut.ensures.calls told timed) (c.shut.ensures.time told timed honest on.0) (c.fill.ensures.by_gate told timed (shuts.honesty.0 honest))

pub returns-clause-at_rest : goal.returns-clause-at_rest
returns-clause-at_rest g c = λ told honest.
    let old = g.D.Disk.state c.args.disk.now in
    let mid = g.D.Disk.state c.shut.new.disk in
    let begun = c.requires.unbegun told in
    let on = c.requires.on_disk told honest in
    let shuts = c.shut.ensures.shuts told honest on.0 in
    let fills = c.in_ok-log.ensures.fills told (shuts.honesty.0 honest) in
    let log = c.in_ok-log.ensures.log in
    begun_at old mid begun on.0 on.1 c.shut.result shuts (g.D.Disk.state c.fill.new.disk) (Ok c.in_ok-log.log) fills c.in_ok-log.log log.0 log.1 fills.acknowledged

pub returns-clause-loads : goal.returns-clause-loads
returns-clause-loads g c = λ told honest.
    let old = g.D.Disk.state c.args.disk.now in
    let mid = g.D.Disk.state c.shut.new.disk in
    let begun = c.requires.unbegun told in
    let on = c.requires.on_disk told honest in
    let shuts = c.shut.ensures.shuts told honest on.0 in
    fill_loads old mid begun on.0 on.1 c.shut.result shuts (g.D.Disk.state c.fill.new.disk) c.fill.result (c.fill.ensures.fills told (shuts.honesty.0 honest))

pub returns-clause-by_moment : goal.returns-clause-by_moment
returns-clause-by_moment g c = λ told timed honest.
    let old = g.D.Disk.state c.args.disk.now in
    let mid = g.D.Disk.state c.shut.new.disk in
    let begun = c.requires.unbegun told in
    let on = c.requires.on_disk told honest in
    let shuts = c.shut.ensures.shuts told honest on.0 in
    fill_moments old mid begun on.0 on.1 c.shut.result shuts (g.D.Disk.state c.fill.new.disk) c.fill.result (c.fill.ensures.fills told (shuts.honesty.0 honest)) (c.in_ok-shut.ensures.calls told timed) (c.shut.ensures.time told timed honest on.0) (c.fill.ensures.by_gate told timed (shuts.honesty.0 honest))

pub returns-clause-calls : goal.returns-clause-calls
returns-clause-calls g c = λ told timed honest.
    let begun = c.requires.unbegun told in
    let on = c.requires.on_disk told honest in
    let shuts = c.shut.ensures.shuts told honest on.0 in
    omega (arith, c.in_ok-shut.ensures.calls told timed, (c.in_ok-log.ensures.by_gate told timed (shuts.honesty.0 honest)).calls)
