use Rattle.std.proofs.Common.{Result, sym, ap, subst}
use Rattle.store_core.specs.Store.{store_state}
use Rattle.store_core.proofs.LoadLemmas.{left_state}
use Rattle.table_update.specs.declared.end.UpdateEnd.{UpdateEnd}
use Rattle.table_update.specs.Commit.{Stores, acked_by, tried_by}
use Rattle.table_update.proofs.CommitLemmas.{commit_stores, mapped}
use Rattle.table_update.proofs.commit.commit.Goals as goal

pub returns-clause-stores : goal.returns-clause-stores
returns-clause-stores g c = λ told honest.
    let old = g.D.Disk.state c.args.disk.now in
    let new = g.D.Disk.state c.commit.new.disk in
    let timed = g.D.Disk.tells_moments in
    let state = store_state c.args.store.now in
    subst (λ (answer : Result (Unit {0}) UpdateEnd). Stores timed state (acked_by c.args.payload answer) (tried_by c.args.payload answer) old new)
    (sym (mapped c.commit.result c.map_err.result c.map_err.ensures.cases))
    (commit_stores timed state c.args.payload old new _ (λ same. ap g.D.Disk.state same.1) (left_state c.args.store.now old (c.requires.at_rest told))
    c.commit.result (c.commit.ensures.commits told honest c.requires.whole) (λ told_moments. c.commit.ensures.by_gate told told_moments honest c.requires.whole) c.commit.ensures.early)
