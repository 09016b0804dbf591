use Rattle.commit_gate.specs.AtRest.{log_end}
use Rattle.store_core.specs.Store.{store_log}
use Rattle.store_core.proofs.SparedLemmas.{end_within, still_goes_on}
use Rattle.table_update.proofs.flow.take.Goals as goal

pub returns-in_default-clause-goes_on : goal.returns-in_default-clause-goes_on
returns-in_default-clause-goes_on g c = λ told honest.
    let disk = g.D.Disk.state c.args.disk.now in
    let store = c.args.store.now in
    still_goes_on g.D.Disk.tells_moments (log_end (store_log store)) disk (end_within store disk (c.requires.at_rest told))
