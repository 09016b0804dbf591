use Rattle.std.proofs.Common.{ℕ, subst}
use Rattle.log_pair.specs.AtRest.{pair_end, pair_epoch}
use Rattle.pair_store.specs.Store.{store_pair, store_state}
use Rattle.command_ends.specs.Ends.{succeeded}
use Rattle.store_commands.specs.Commands.{Folds}
use Rattle.store_commands.specs.Folding.{ending_over}
use Rattle.store_commands.proofs.ComeLemmas.{comes_loaded, comes_refused}
use Rattle.store_commands.proofs.compacting.compact.Goals as goal

pub returns-in-Ok-clause-comes : goal.returns-in-Ok-clause-comes
returns-in-Ok-clause-comes g c = λ tells.
    let d = g.D.Disk in
    let s = g.S.Sink in
    let store = c.in-Ok.store in
    let state = store_state store in
    let epoch = pair_epoch (store_pair store) in
    let old = c.args.disk.now in
    let mid = c.load_store.new.disk in
    let new = c.fold.new.disk in
    let honest = c.requires.honest tells in
    let loaded = c.in-Ok.ensures.loaded tells honest in
    let led = c.in-Ok.ensures.led tells honest in
    let folded = c.fold.ensures.folded tells in
    comes_loaded d.tells_moments s.tells (d.room old) (λ state end epoch. Folds (d.room old) state epoch) (d.state old) (d.state new) (s.written c.args.out.now) (s.written c.fold.new.out)
    state (pair_end (store_pair store)) epoch (succeeded c.fold.result) folded.acked folded.tried folded.text loaded
    (c.a_load_leads_a_trail.ensures state folded.acked folded.tried old mid new loaded.has led.loads led.synced folded.trail)
    (subst (λ (room : ℕ). Folds room state epoch (ending_over (succeeded c.fold.result) state folded.acked folded.tried folded.text)) c.in-Ok.ensures.room folded.is)
    folded.printed

pub returns-in-Err-clause-comes : goal.returns-in-Err-clause-comes
returns-in-Err-clause-comes g c = λ tells.
    let d = g.D.Disk in
    let s = g.S.Sink in
    let old = c.args.disk.now in
    let out = s.written c.args.out.now in
    comes_refused d.tells_moments s.tells (d.room old) (λ state end epoch. Folds (d.room old) state epoch) (d.state old) (d.state c.load_store.new.disk) out out c.in-Err.why
    (c.in-Err.ensures.refused tells) (c.in-Err.ensures.unloaded tells (c.requires.honest tells))
