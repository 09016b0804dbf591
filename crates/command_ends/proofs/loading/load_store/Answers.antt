use Rattle.log_pair.specs.AtRest.{pair_side}
use Rattle.pair_store.specs.Store.{store_pair}
use Rattle.command_ends.proofs.LoadLemmas.{epoch_of_bodies}
use Rattle.command_ends.proofs.loading.load_store.Goals as goal

pub returns-in-Ok-clause-loaded : goal.returns-in-Ok-clause-loaded
returns-in-Ok-clause-loaded g c = λ tells honest.
    let files = (g.D.Disk.state c.args.disk.now).now in
    let pair = store_pair c.in-Ok.store in
    let loads = c.in-Ok.ensures in
    let answers = loads.answers tells in
    record {
      has = answers.0;
      small = loads.small tells (λ same. cc);
      fits = answers.1;
      ends = (pair_side pair, loads.ends tells honest);
      epoch_is = epoch_of_bodies files answers.0.bodies pair (loads.first tells) (loads.same_epoch tells) answers.0.contents;
    }
