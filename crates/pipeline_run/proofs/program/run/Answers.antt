use Rattle.std.proofs.Common.{map, sym, refl, string_bytes}
use Rattle.pipeline_run.specs.Command.{commands_of}
use Rattle.pipeline_run.specs.Run.{Around, Counts, RunState}
use Rattle.pipeline_run.proofs.RunLemmas.{ran_no_words, ran_commands, ran_out_of_words}
use Rattle.pipeline_run.proofs.SpareLemmas.{goes_itself, spared_itself}
use Rattle.pipeline_run.proofs.program.run.Goals as goal

pub returns-in-Ok-Some-clause-ran : goal.returns-in-Ok-Some-clause-ran
returns-in-Ok-Some-clause-ran g c text disk landing sink =
    let t = g.T.Source in
    let d = g.D.Disk in
    let f = g.L.Landing in
    let s = g.S.Sink in
    let around : Around = record { text = t.left c.args.text.now; room = d.room c.args.disk.now; landing = f.present c.args.landing.now } in
    let old : RunState = record { file = (d.state c.args.disk.now).now.left; printed = s.written c.args.out.now; faults = record { text = t.faults c.args.text.now; disk = d.faults c.args.disk.now; landing = f.faults c.args.landing.now; sink = s.faults c.args.out.now } } in
    let new : RunState = record { file = (d.state c.execute_all.new.disk).now.left; printed = s.written c.execute_all.new.out; faults = record { text = t.faults c.execute_all.new.text; disk = d.faults c.execute_all.new.disk; landing = f.faults c.execute_all.new.landing; sink = s.faults c.execute_all.new.out } } in
    ran_commands d.tells_moments (commands_of (map string_bytes c.args.words.now)) c.in-Ok-Some.commands.items around c.execute_all.result old new (d.state c.args.disk.now) (d.state c.execute_all.new.disk)
    (sym (rw c.in-Ok-Some.field-0-is at c.in-Ok-Some.ensures))
    (rw c.as_slice.ensures.value at (c.execute_all.ensures.runs text disk landing sink))

pub returns-in-Ok-None-clause-ran : goal.returns-in-Ok-None-clause-ran
returns-in-Ok-None-clause-ran g c text disk landing sink =
    let t = g.T.Source in
    let d = g.D.Disk in
    let f = g.L.Landing in
    let s = g.S.Sink in
    let around : Around = record { text = t.left c.args.text.now; room = d.room c.args.disk.now; landing = f.present c.args.landing.now } in
    let before : Counts = record { text = t.faults c.args.text.now; disk = d.faults c.args.disk.now; landing = f.faults c.args.landing.now; sink = s.faults c.args.out.now } in
    let now : Counts = record { text = t.faults c.args.text.now; disk = d.faults c.args.disk.now; landing = f.faults c.args.landing.now; sink = s.faults c.tell.new.out } in
    let old : RunState = record { file = (d.state c.args.disk.now).now.left; printed = s.written c.args.out.now; faults = before } in
    let new : RunState = record { file = (d.state c.args.disk.now).now.left; printed = s.written c.tell.new.out; faults = now } in
    ran_no_words d.tells_moments (commands_of (map string_bytes c.args.words.now)) around c.tell.result old new (d.state c.args.disk.now)
    (sym (rw c.in-Ok-None.field-0-is at c.in-Ok-None.ensures))
    (record { file = refl; tells = c.tell.ensures.tells sink old.file new.file before now refl refl })

pub returns-in-Err-clause-ran : goal.returns-in-Err-clause-ran
returns-in-Err-clause-ran g c text disk landing sink =
    let t = g.T.Source in
    let d = g.D.Disk in
    let f = g.L.Landing in
    let s = g.S.Sink in
    let around : Around = record { text = t.left c.args.text.now; room = d.room c.args.disk.now; landing = f.present c.args.landing.now } in
    let old : RunState = record { file = (d.state c.args.disk.now).now.left; printed = s.written c.args.out.now; faults = record { text = t.faults c.args.text.now; disk = d.faults c.args.disk.now; landing = f.faults c.args.landing.now; sink = s.faults c.args.out.now } } in
    ran_out_of_words d.tells_moments (commands_of (map string_bytes c.args.words.now)) around old (d.state c.args.disk.now)

pub returns-in-Ok-None-clause-spared : goal.returns-in-Ok-None-clause-spared
returns-in-Ok-None-clause-spared g c disk is = spared_itself g.D.Disk.tells_moments (g.D.Disk.state c.args.disk.now)

pub returns-in-Ok-None-clause-goes_on : goal.returns-in-Ok-None-clause-goes_on
returns-in-Ok-None-clause-goes_on g c text disk landing sink at log = goes_itself g.D.Disk.tells_moments at (g.D.Disk.state c.args.disk.now) log

pub returns-in-Err-clause-spared : goal.returns-in-Err-clause-spared
returns-in-Err-clause-spared g c disk is = spared_itself g.D.Disk.tells_moments (g.D.Disk.state c.args.disk.now)

pub returns-in-Err-clause-goes_on : goal.returns-in-Err-clause-goes_on
returns-in-Err-clause-goes_on g c text disk landing sink at log = goes_itself g.D.Disk.tells_moments at (g.D.Disk.state c.args.disk.now) log
