use Rattle.std.proofs.Common.{subst}
use Rattle.store_core.specs.Store.{store_state, store_log}
use Rattle.store_core.proofs.LoadLemmas.{left_state}
use Rattle.commit_gate.specs.AtRest.{log_end}
use Rattle.store_core.proofs.SparedLemmas.{end_within, still_goes_on}
use Rattle.table_update.specs.Commit.{IsOfNothing}
use Rattle.table_update.proofs.CrashLemmas.{stores_still}
use Rattle.table_update.proofs.RunLemmas.{ran_nothing}
use Rattle.table_update.proofs.one_update.go_on.Goals as goal

pub returns-in-None-clause-ran : goal.returns-in-None-clause-ran
returns-in-None-clause-ran g c = λ told landed honest.
    let disk = g.D.Disk.state c.args.disk.now in
    let timed = g.D.Disk.tells_moments in
    let store = c.args.store.now in
    let left = c.requires.at_rest told in
    rw c.in-None.is (ran_nothing timed (g.L.Landing.present c.args.landing.now) (g.D.Disk.room c.args.disk.now) c.nothing.result store disk c.nothing.ensures.ends
    (stores_still timed (store_state store) disk (left_state store disk left)) left)

pub returns-in-None-clause-goes_on : goal.returns-in-None-clause-goes_on
returns-in-None-clause-goes_on g c = λ told honest.
    let disk = g.D.Disk.state c.args.disk.now in
    let store = c.args.store.now in
    still_goes_on g.D.Disk.tells_moments (log_end (store_log store)) disk (end_within store disk (c.requires.at_rest told))

pub returns-in-None-clause-shrunk_of : goal.returns-in-None-clause-shrunk_of
returns-in-None-clause-shrunk_of g c = λ name cursor size is. absurd (subst IsOfNothing is c.nothing.ensures.own)
