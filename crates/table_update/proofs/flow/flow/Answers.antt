use Rattle.std.proofs.Common.{◌≡◌, List, subst}
use Rattle.value_core.specs.declared.cursor.FilePlace.{FilePlace}
use Rattle.store_core.specs.Store.{store_state, store_log}
use Rattle.store_core.proofs.LoadLemmas.{left_state}
use Rattle.commit_gate.specs.AtRest.{log_end}
use Rattle.store_core.proofs.SparedLemmas.{end_within, still_goes_on}
use Rattle.table_update.specs.Flow.{FindsNone}
use Rattle.table_update.specs.News.{IsNews}
use Rattle.table_update.proofs.CrashLemmas.{stores_still}
use Rattle.table_update.proofs.FlowLemmas.{ran_none}
use Rattle.table_update.proofs.flow.flow.Goals as goal

pub returns-in-Err-clause-ran : goal.returns-in-Err-clause-ran
returns-in-Err-clause-ran g c = λ told landed honest.
    let disk = g.D.Disk.state c.args.disk.now in
    let timed = g.D.Disk.tells_moments in
    let files = g.L.Landing.present c.args.landing.now in
    let store = c.args.store.now in
    let left = c.requires.at_rest told in
    let holds = c.requires.holds in
    let same : c.places_read.result.now ≡ holds.1 = c.places_read.ensures.places holds.0 holds.1 holds.2 in
    ran_none timed c.args.table.now files (g.D.Disk.room c.args.disk.now) holds.0 holds.1 c.in-Err.end store disk holds.2 c.in-Err.ensures.own
    (subst (λ (places : List FilePlace). FindsNone c.args.table.now files places c.in-Err.end) same (c.in-Err.ensures.err landed))
    (stores_still timed (store_state store) disk (left_state store disk left)) left

pub returns-clause-ran : goal.returns-clause-ran
returns-clause-ran g c = λ told landed honest.
    let files = g.L.Landing.present c.args.landing.now in
    let holds = c.requires.holds in
    let same : c.places_read.result.now ≡ holds.1 = c.places_read.ensures.places holds.0 holds.1 holds.2 in
    c.take.ensures.ran told honest files holds.0 holds.1 holds.2 (subst (λ (places : List FilePlace). IsNews c.args.table.now files places c.in-Ok.news) same (c.in-Ok.ensures.ok landed))

pub returns-in-Err-clause-goes_on : goal.returns-in-Err-clause-goes_on
returns-in-Err-clause-goes_on g c = λ told honest.
    let disk = g.D.Disk.state c.args.disk.now in
    let store = c.args.store.now in
    still_goes_on g.D.Disk.tells_moments (log_end (store_log store)) disk (end_within store disk (c.requires.at_rest told))
