use Rattle.std.proofs.Common.{[], Ok, Err, sym, subst}
use Rattle.log_pair.specs.AtRest.{pair_epoch}
use Rattle.log_pair.specs.Switch.{calls_before_gate}
use Rattle.pair_store.specs.Store.{store_pair, store_state}
use Rattle.message_text.specs.Messages.{compacted_line}
use Rattle.message_text.specs.declared.refusal.Refusal.{Refusal}
use Rattle.command_ends.specs.Ends.{succeeded}
use Rattle.store_commands.specs.Folding.{HasFolded, refusal_by}
use Rattle.store_commands.proofs.ComeLemmas.{none_printed}
use Rattle.store_commands.proofs.FoldLemmas.{acked_at, folds_ended, folds_told, tried_at}
use Rattle.store_commands.proofs.compacting.fold.Goals as goal

pub returns-in-Ok-clause-folded : goal.returns-in-Ok-clause-folded
returns-in-Ok-clause-folded g c = λ tells.
    let d = g.D.Disk in
    let store = c.args.store in
    let old = c.args.disk.now in
    let new = c.compact.new.disk in
    let result = Ok c.in-Ok.epoch in
    let honest = c.requires.honest tells in
    let folds = c.in-Ok.ensures in
    record {
      acked = acked_at store result;
      tried = tried_at store result;
      text = compacted_line c.in-Ok.epoch;
      is = folds_told store (d.room old) (d.faults old) (d.faults new) c.requires.whole c.in-Ok.epoch (succeeded c.tell.result) folds.answers c.tell.ensures.told;
      trail = c.a_compaction_leaves_a_trail.ensures.tried (calls_before_gate (store_pair store) (d.state old).now) (store_state store) result store c.compact.new.self old new
          (c.nothing_tried_leaves_a_trail.ensures.at_rest store old (c.requires.at_rest tells)) (folds.compacts tells honest c.requires.whole) (λ timed. folds.by_gate tells timed honest c.requires.whole) folds.early;
      printed = c.tell.ensures.printed;
    }

pub returns-clause-folded : goal.returns-clause-folded
returns-clause-folded g c = λ tells.
    let d = g.D.Disk in
    let s = g.S.Sink in
    let store = c.args.store in
    let old = c.args.disk.now in
    let new = c.compact.new.disk in
    let result = Err c.in-Err.end in
    let honest = c.requires.honest tells in
    let folds = c.in-Err.ensures in
    subst (λ (why : Refusal). HasFolded d.tells_moments s.tells (d.room old) (store_state store) (pair_epoch (store_pair store)) (Err why) (d.state old) (d.state new) (s.written c.args.out.now) (s.written c.args.out.now))
    (sym c.refusal_of.ensures)
    (record {
      acked = acked_at store result;
      tried = tried_at store result;
      text = [];
      is = folds_ended store (d.room old) (d.faults old) (d.faults new) c.requires.whole c.in-Err.end folds.answers;
      trail = c.a_compaction_leaves_a_trail.ensures.tried (calls_before_gate (store_pair store) (d.state old).now) (store_state store) result store c.compact.new.self old new
          (c.nothing_tried_leaves_a_trail.ensures.at_rest store old (c.requires.at_rest tells)) (folds.compacts tells honest c.requires.whole) (λ timed. folds.by_gate tells timed honest c.requires.whole) folds.early;
      printed = λ t. none_printed (Err (refusal_by c.in-Err.end)) (s.written c.args.out.now);
    })
