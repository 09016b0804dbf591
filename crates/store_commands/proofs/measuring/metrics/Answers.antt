use Rattle.std.proofs.Common.{ℕ, List, [], Err, refl, subst, ◌∙◌}
use Rattle.log_pair.specs.AtRest.{pair_end, pair_epoch}
use Rattle.state_model.specs.Dataset.{State}
use Rattle.pair_store.specs.Store.{store_pair, store_state}
use Rattle.report_text.specs.Metrics.{print_metrics}
use Rattle.message_text.specs.declared.refusal.Refusal.TheVariants.{Memory}
use Rattle.command_ends.specs.Ends.{Ending, Printed, status_by, succeeded}
use Rattle.command_ends.specs.Loads.{Tells}
use Rattle.store_commands.proofs.ComeLemmas.{comes_loaded, comes_refused, none_of_it}
use Rattle.store_commands.proofs.measuring.metrics.Goals as goal

-- how it goes on from a store
abbrev Goes : State → ℕ → ℕ → Ending → Type 0
Goes state end epoch = Tells (print_metrics state)

pub returns-in-Ok-text_of-clause-comes : goal.returns-in-Ok-text_of-clause-comes
returns-in-Ok-text_of-clause-comes g c = λ tells.
    let d = g.D.Disk in
    let s = g.S.Sink in
    let store = c.in-Ok.store in
    let state = store_state store in
    let text = print_metrics state in
    let answer = succeeded c.print.result in
    let old = c.args.disk.now in
    let new = c.load_store.new.disk in
    let honest = c.requires.honest tells in
    let loaded = c.in-Ok.ensures.loaded tells honest in
    let led = c.in-Ok.ensures.led tells honest in
    let trails = c.nothing_tried_leaves_a_trail.ensures in
    let trail = trails.trail state new (trails.at_rest store new (c.in-Ok.ensures.at_rest tells honest)) in
    comes_loaded d.tells_moments s.tells (d.room old) Goes (d.state old) (d.state new) (s.written c.args.out.now) (s.written c.print.new.out)
    state (pair_end (store_pair store)) (pair_epoch (store_pair store)) answer [] [] text loaded
    (c.a_load_leads_a_trail.ensures state [] [] old new new loaded.has led.loads led.synced trail)
    (record { told = c.print.ensures.told; acked_is = refl; tried_is = refl; text_is = refl })
    (λ t. subst (λ (piece : List ℕ). Printed (status_by answer) piece (s.written c.args.out.now) (s.written c.print.new.out)) (c.as_slice.ensures.value ∙ c.in-Ok-text_of.ensures) (c.print.ensures.printed t))

pub returns-in-Ok-clause-comes : goal.returns-in-Ok-clause-comes
returns-in-Ok-clause-comes g c = λ tells.
    let d = g.D.Disk in
    let s = g.S.Sink in
    let store = c.in-Ok.store in
    let state = store_state store in
    let text = print_metrics state in
    let old = c.args.disk.now in
    let new = c.load_store.new.disk in
    let out = s.written c.args.out.now in
    let honest = c.requires.honest tells in
    let loaded = c.in-Ok.ensures.loaded tells honest in
    let led = c.in-Ok.ensures.led tells honest in
    let trails = c.nothing_tried_leaves_a_trail.ensures in
    let trail = trails.trail state new (trails.at_rest store new (c.in-Ok.ensures.at_rest tells honest)) in
    comes_loaded d.tells_moments s.tells (d.room old) Goes (d.state old) (d.state new) out out
    state (pair_end (store_pair store)) (pair_epoch (store_pair store)) (Err Memory) [] [] text loaded
    (c.a_load_leads_a_trail.ensures state [] [] old new new loaded.has led.loads led.synced trail)
    (record { told = tt; acked_is = refl; tried_is = refl; text_is = refl })
    (λ t. none_of_it text out)

pub returns-clause-comes : goal.returns-clause-comes
returns-clause-comes g c = λ tells.
    let d = g.D.Disk in
    let s = g.S.Sink in
    let old = c.args.disk.now in
    let out = s.written c.args.out.now in
    comes_refused d.tells_moments s.tells (d.room old) Goes (d.state old) (d.state c.load_store.new.disk) out out c.in-Err.why
    (c.in-Err.ensures.refused tells) (c.in-Err.ensures.unloaded tells (c.requires.honest tells))
