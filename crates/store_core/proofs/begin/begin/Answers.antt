use Rattle.std.proofs.Common.{◌≤◌, None, Err, ap, ◌∙◌, arith}
use Rattle.std.proofs.lemmas.Result.{err_from_is_err_and}
use Rattle.disk_model.specs.declared.disk.Side.TheVariants.{Left}
use Rattle.disk_model.specs.Disk.{file}
use Rattle.commit_gate.proofs.RestLemmas.{leaves_on, shut_leaves, fill_leaves}
use Rattle.store_core.specs.State.{IsBegun}
use Rattle.store_core.proofs.BeginLemmas.{begun_on_disk, begun_after_shut, loads_shut, loads_fill, loads_on, moments_shut, moments_fill, moments_on, fill_refusal}
use Rattle.store_core.proofs.SparedLemmas.{fill_failed}
use Rattle.store_core.proofs.begin.begin.Goals as goal

-- ---- what is left alone

pub returns-in_err-log-clause-refused : goal.returns-in_err-log-clause-refused
returns-in_err-log-clause-refused g c =
    let p = err_from_is_err_and c.from_residual-in_err-log.result c.from_residual-in_err-log.ensures.1 in
    let room = g.D.Disk.room c.shut.new.disk in
    let fits : 18 ≤ room = omega (arith, c.shut.ensures.room) in
    let failed = fill_failed room c.in_err-log.field-0.0 c.fill.result c.in_err-log.was fits c.fill.ensures.full c.fill.ensures.full_by in
    λ other. absurd (other (p.1 ∙ ap Err (p.2 ∙ failed)))

-- ---- the calls

pub returns-in_err-shut-clause-loads : goal.returns-in_err-shut-clause-loads
returns-in_err-shut-clause-loads g c = λ told honest.
    let old = g.D.Disk.state c.args.disk.now in
    let mid = g.D.Disk.state c.shut.new.disk in
    let begun : IsBegun (file Left old.now) = (c.requires.dead told, omega (arith, c.requires.len told)) in
    let on_disk = c.requires.on_disk told honest in
    loads_shut old mid (begun_on_disk old begun on_disk) c.shut.result (c.shut.ensures.shuts told honest on_disk)

pub returns-in_err-shut-clause-by_moment : goal.returns-in_err-shut-clause-by_moment
returns-in_err-shut-clause-by_moment g c = λ told timed honest.
    let old = g.D.Disk.state c.args.disk.now in
    let mid = g.D.Disk.state c.shut.new.disk in
    let begun : IsBegun (file Left old.now) = (c.requires.dead told, omega (arith, c.requires.len told)) in
    let on_disk = c.requires.on_disk told honest in
    moments_shut old mid (begun_on_disk old begun on_disk) (c.shut.ensures.time told timed honest on_disk)

pub fill-requires-clause-shut : goal.fill-requires-clause-shut
fill-requires-clause-shut g c = λ told later.
    let honest = (c.shut.ensures.honesty told).1 later in
    (c.in_ok-shut.ensures.shuts told honest (c.requires.on_disk told honest)).shut

pub returns-in_err-log-clause-answers : goal.returns-in_err-log-clause-answers
returns-in_err-log-clause-answers g c =
    let p = err_from_is_err_and c.from_residual-in_err-log.result c.from_residual-in_err-log.ensures.1 in
    let old = g.D.Disk.room c.args.disk.now in
    let room = g.D.Disk.room c.shut.new.disk in
    let fits : 18 ≤ room = omega (arith, c.shut.ensures.room) in
    rw (p.1, p.2) (fill_refusal c.args.len old room c.in_err-log.field-0.0 c.fill.result c.in_err-log.was fits c.fill.ensures.full c.fill.ensures.full_by)

pub returns-in_err-log-clause-loads : goal.returns-in_err-log-clause-loads
returns-in_err-log-clause-loads g c = λ told honest.
    let old = g.D.Disk.state c.args.disk.now in
    let mid = g.D.Disk.state c.shut.new.disk in
    let new = g.D.Disk.state c.fill.new.disk in
    let begun : IsBegun (file Left old.now) = (c.requires.dead told, omega (arith, c.requires.len told)) in
    let on_disk = c.requires.on_disk told honest in
    let all = begun_on_disk old begun on_disk in
    let shuts = c.shut.ensures.shuts told honest on_disk in
    loads_on old mid new (loads_shut old mid all c.shut.result shuts)
    (loads_fill mid new (begun_after_shut old mid all c.shut.result shuts) c.fill.result (c.fill.ensures.fills told (shuts.honesty.0 honest)))

pub returns-in_err-log-clause-by_moment : goal.returns-in_err-log-clause-by_moment
returns-in_err-log-clause-by_moment g c = λ told timed honest.
    let old = g.D.Disk.state c.args.disk.now in
    let mid = g.D.Disk.state c.shut.new.disk in
    let new = g.D.Disk.state c.fill.new.disk in
    let begun : IsBegun (file Left old.now) = (c.requires.dead told, omega (arith, c.requires.len told)) in
    let on_disk = c.requires.on_disk told honest in
    let all = begun_on_disk old begun on_disk in
    let shuts = c.shut.ensures.shuts told honest on_disk in
    moments_on old mid new (loads_shut old mid all c.shut.result shuts) (moments_shut old mid all (c.shut.ensures.time told timed honest on_disk))
    (moments_fill mid new (begun_after_shut old mid all c.shut.result shuts) c.fill.result (c.fill.ensures.by_gate told timed (shuts.honesty.0 honest)))

pub returns-in_err-log-clause-untouched : goal.returns-in_err-log-clause-untouched
returns-in_err-log-clause-untouched g c = λ told honest.
    let old = g.D.Disk.state c.args.disk.now in
    let mid = g.D.Disk.state c.shut.new.disk in
    let new = g.D.Disk.state c.fill.new.disk in
    let shuts = c.shut.ensures.shuts told honest (c.requires.on_disk told honest) in
    leaves_on _ old mid new (shut_leaves Left c.shut.result old mid shuts) (fill_leaves Left 1 None c.fill.result mid new (c.fill.ensures.fills told (shuts.honesty.0 honest)))

pub returns-clause-loads : goal.returns-clause-loads
returns-clause-loads g c = λ told honest.
    let old = g.D.Disk.state c.args.disk.now in
    let mid = g.D.Disk.state c.shut.new.disk in
    let new = g.D.Disk.state c.fill.new.disk in
    let begun : IsBegun (file Left old.now) = (c.requires.dead told, omega (arith, c.requires.len told)) in
    let on_disk = c.requires.on_disk told honest in
    let all = begun_on_disk old begun on_disk in
    let shuts = c.shut.ensures.shuts told honest on_disk in
    loads_on old mid new (loads_shut old mid all c.shut.result shuts)
    (loads_fill mid new (begun_after_shut old mid all c.shut.result shuts) c.fill.result (c.fill.ensures.fills told (shuts.honesty.0 honest)))

pub returns-clause-by_moment : goal.returns-clause-by_moment
returns-clause-by_moment g c = λ told timed honest.
    let old = g.D.Disk.state c.args.disk.now in
    let mid = g.D.Disk.state c.shut.new.disk in
    let new = g.D.Disk.state c.fill.new.disk in
    let begun : IsBegun (file Left old.now) = (c.requires.dead told, omega (arith, c.requires.len told)) in
    let on_disk = c.requires.on_disk told honest in
    let all = begun_on_disk old begun on_disk in
    let shuts = c.shut.ensures.shuts told honest on_disk in
    moments_on old mid new (loads_shut old mid all c.shut.result shuts) (moments_shut old mid all (c.shut.ensures.time told timed honest on_disk))
    (moments_fill mid new (begun_after_shut old mid all c.shut.result shuts) c.fill.result (c.fill.ensures.by_gate told timed (shuts.honesty.0 honest)))
