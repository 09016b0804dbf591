use Rattle.std.proofs.Common.{◌⊎◌, ℕ, List, [], Option, Err, subst}
use Rattle.log_pair.specs.AtRest.{pair_end, pair_epoch}
use Rattle.state_model.specs.Dataset.{State, dataset_of}
use Rattle.pair_store.specs.Store.{store_pair, store_state}
use Rattle.message_text.specs.declared.refusal.Refusal.TheVariants.{Memory}
use Rattle.command_ends.specs.Ends.{Ending, Printed, status_by, succeeded}
use Rattle.command_ends.specs.Loads.{BreaksOff}
use Rattle.store_commands.specs.Commands.{ShowsIn}
use Rattle.store_commands.proofs.ComeLemmas.{comes_loaded, comes_refused, none_printed}
use Rattle.store_commands.proofs.ShowLemmas.{shows_none, shows_text}
use Rattle.store_commands.proofs.showing.show.Goals as goal

-- how it goes on from a store
abbrev Goes : List ℕ → Option ℕ → State → ℕ → ℕ → Ending → Type 0
Goes name version state end epoch ending = BreaksOff Memory [] ending ⊎ ShowsIn name version (dataset_of state name) ending

pub returns-in-Ok-text_of-clause-comes : goal.returns-in-Ok-text_of-clause-comes
returns-in-Ok-text_of-clause-comes g c = λ tells.
    let d = g.D.Disk in
    let s = g.S.Sink in
    let name = c.args.name.now in
    let version = c.args.version in
    let store = c.in-Ok.store in
    let state = store_state store in
    let text = c.in-Ok-text_of.text.items in
    let answer = succeeded c.print.result in
    let old = c.args.disk.now in
    let new = c.load_store.new.disk in
    let honest = c.requires.honest tells in
    let loaded = c.in-Ok.ensures.loaded tells honest in
    let led = c.in-Ok.ensures.led tells honest in
    let trails = c.nothing_tried_leaves_a_trail.ensures in
    let trail = trails.trail state new (trails.at_rest store new (c.in-Ok.ensures.at_rest tells honest)) in
    comes_loaded d.tells_moments s.tells (d.room old) (Goes name version) (d.state old) (d.state new) (s.written c.args.out.now) (s.written c.print.new.out)
    state (pair_end (store_pair store)) (pair_epoch (store_pair store)) answer [] [] text loaded
    (c.a_load_leads_a_trail.ensures state [] [] old new new loaded.has led.loads led.synced trail)
    (shows_text name version (dataset_of state name) state text answer c.in-Ok-text_of.ensures.text c.print.ensures.told)
    (λ t. subst (λ (piece : List ℕ). Printed (status_by answer) piece (s.written c.args.out.now) (s.written c.print.new.out)) c.as_slice.ensures.value (c.print.ensures.printed t))

pub returns-in-Ok-clause-comes : goal.returns-in-Ok-clause-comes
returns-in-Ok-clause-comes g c = λ tells.
    let d = g.D.Disk in
    let s = g.S.Sink in
    let name = c.args.name.now in
    let version = c.args.version in
    let store = c.in-Ok.store in
    let state = store_state store in
    let why = c.in-Err-text_of.why in
    let old = c.args.disk.now in
    let new = c.load_store.new.disk in
    let out = s.written c.args.out.now in
    let honest = c.requires.honest tells in
    let loaded = c.in-Ok.ensures.loaded tells honest in
    let led = c.in-Ok.ensures.led tells honest in
    let trails = c.nothing_tried_leaves_a_trail.ensures in
    let trail = trails.trail state new (trails.at_rest store new (c.in-Ok.ensures.at_rest tells honest)) in
    comes_loaded d.tells_moments s.tells (d.room old) (Goes name version) (d.state old) (d.state new) out out
    state (pair_end (store_pair store)) (pair_epoch (store_pair store)) (Err why) [] [] [] loaded
    (c.a_load_leads_a_trail.ensures state [] [] old new new loaded.has led.loads led.synced trail)
    (shows_none name version (dataset_of state name) state why c.in-Err-text_of.ensures.refused)
    (λ t. none_printed (Err why) out)

pub returns-clause-comes : goal.returns-clause-comes
returns-clause-comes g c = λ tells.
    let d = g.D.Disk in
    let s = g.S.Sink in
    let old = c.args.disk.now in
    let out = s.written c.args.out.now in
    comes_refused d.tells_moments s.tells (d.room old) (Goes c.args.name.now c.args.version) (d.state old) (d.state c.load_store.new.disk) out out c.in-Err.unloaded
    (c.in-Err.ensures.refused tells) (c.in-Err.ensures.unloaded tells (c.requires.honest tells))
