use Rattle.std.proofs.Common.{arith}
use Rattle.commit_gate.specs.AtRest.{log_end}
use Rattle.disk_model.specs.declared.disk.Side.TheVariants.{Right}
use Rattle.commit_gate.proofs.RestLemmas.{leaves_on}
use Rattle.store_core.specs.Store.{store_state, store_log}
use Rattle.store_core.proofs.LoadLemmas.{left_state}
use Rattle.store_core.proofs.SparedLemmas.{end_within, goes_on_on, still_goes_on}
use Rattle.table_update.proofs.CrashLemmas.{stores_still}
use Rattle.table_update.proofs.ReachLemmas.{reachable_holds}
use Rattle.table_update.proofs.RunLemmas.{is_defined, is_empty, none_counted, some_counted, run_defined, run_refused, run_there}
use Rattle.table_update.proofs.run.run.Goals as goal

pub returns-in-Err-clause-ran : goal.returns-in-Err-clause-ran
returns-in-Err-clause-ran g c = λ told landed honest.
    let disk = g.D.Disk.state c.args.disk.now in
    let timed = g.D.Disk.tells_moments in
    let store = c.args.store.now in
    run_refused timed c.args.table.now (g.L.Landing.present c.args.landing.now) (g.D.Disk.room c.args.disk.now) (log_end (store_log store)) (store_state store) c.in-Err.end store disk c.in-Err.ensures.err
    (stores_still timed (store_state store) disk (left_state store disk (c.requires.at_rest told)))

pub flow-requires-clause-holds : goal.flow-requires-clause-holds
flow-requires-clause-holds g c =
    let state = store_state c.args.store.now in
    let some = some_counted c.definitions.result.now state c.is_empty.result c.definitions.ensures c.is_empty.ensures c.if-not-is_empty.true in
    reachable_holds c.args.table.now state c.requires.reached (is_defined c.args.table.now state some c.in-Ok.ensures.ok.1)

pub returns-then-not-is_empty-clause-ran : goal.returns-then-not-is_empty-clause-ran
returns-then-not-is_empty-clause-ran g c = λ told landed honest.
    let store = c.args.store.now in
    let state = store_state store in
    let some = some_counted c.definitions.result.now state c.is_empty.result c.definitions.ensures c.is_empty.ensures c.if-not-is_empty.true in
    run_there g.D.Disk.tells_moments c.args.table.now (g.L.Landing.present c.args.landing.now) (g.D.Disk.room c.args.disk.now) (log_end (store_log store)) state
    c.flow.result c.flow.new.store (g.D.Disk.state c.args.disk.now) (g.D.Disk.state c.flow.new.disk) (is_defined c.args.table.now state some c.in-Ok.ensures.ok.1) (c.flow.ensures.ran told landed honest)

pub flow-requires-in-Ok-commit-clause-at_rest : goal.flow-requires-in-Ok-commit-clause-at_rest
flow-requires-in-Ok-commit-clause-at_rest g c = λ told. c.in-Ok-commit.ensures.at_rest told (c.requires.honest told)

pub returns-in-Ok-commit-clause-ran : goal.returns-in-Ok-commit-clause-ran
returns-in-Ok-commit-clause-ran g c = λ told landed honest.
    let store = c.args.store.now in
    let state = store_state store in
    let later = c.commit.new.store in
    let none = none_counted c.definitions.result.now state c.is_empty.result c.definitions.ensures c.is_empty.ensures c.if-not-is_empty.false in
    let empty = is_empty state none in
    run_defined g.D.Disk.tells_moments c.args.table.now (g.L.Landing.present c.args.landing.now) (g.D.Disk.room c.args.disk.now) (log_end (store_log store)) state c.in-Ok.define empty c.in-Ok.ensures.ok.0
    c.flow-in-Ok-commit.result c.flow-in-Ok-commit.new.store (g.D.Disk.state c.args.disk.now) (g.D.Disk.state c.commit.new.disk) (g.D.Disk.state c.flow-in-Ok-commit.new.disk)
    (g.D.Disk.room c.commit.new.disk) (log_end (store_log later)) (store_state later)
    c.commit.ensures.room (c.in-Ok-commit.ensures.grows told honest) c.in-Ok-commit.ensures.state
    c.in-Ok-commit.ensures.answers (c.in-Ok-commit.ensures.stores told honest)
    (c.flow-in-Ok-commit.ensures.ran told landed (c.in-Ok-commit.ensures.honest told honest))

pub returns-in-Ok-commit-clause-ours : goal.returns-in-Ok-commit-clause-ours
returns-in-Ok-commit-clause-ours g c = λ told honest ours.
    c.flow-in-Ok-commit.ensures.ours told (c.in-Ok-commit.ensures.honest told honest) (c.in-Ok-commit.ensures.ours told honest ours)

pub returns-in-Err-clause-goes_on : goal.returns-in-Err-clause-goes_on
returns-in-Err-clause-goes_on g c = λ told honest.
    let disk = g.D.Disk.state c.args.disk.now in
    let store = c.args.store.now in
    still_goes_on g.D.Disk.tells_moments (log_end (store_log store)) disk (end_within store disk (c.requires.at_rest told))

pub returns-in-Ok-commit-clause-goes_on : goal.returns-in-Ok-commit-clause-goes_on
returns-in-Ok-commit-clause-goes_on g c = λ told honest.
    goes_on_on g.D.Disk.tells_moments (log_end (store_log c.args.store.now)) (log_end (store_log c.commit.new.store)) (g.D.Disk.state c.args.disk.now) (g.D.Disk.state c.commit.new.disk) (g.D.Disk.state c.flow-in-Ok-commit.new.disk)
    (omega (arith, c.in-Ok-commit.ensures.grows told honest)) (c.in-Ok-commit.ensures.goes_on told honest) (c.flow-in-Ok-commit.ensures.goes_on told (c.in-Ok-commit.ensures.honest told honest))

pub returns-in-Ok-commit-clause-kept : goal.returns-in-Ok-commit-clause-kept
returns-in-Ok-commit-clause-kept g c = λ told honest.
    leaves_on Right (g.D.Disk.state c.args.disk.now) (g.D.Disk.state c.commit.new.disk) (g.D.Disk.state c.flow-in-Ok-commit.new.disk)
    (c.in-Ok-commit.ensures.kept told honest) (c.flow-in-Ok-commit.ensures.kept told (c.in-Ok-commit.ensures.honest told honest))
