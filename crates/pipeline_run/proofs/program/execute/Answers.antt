use Rattle.std.proofs.Common.{ap, refl, [], Ok, inl, arith}
use Rattle.disk_model.specs.Faults.{Rose}
use Rattle.pipeline_run.specs.Run.{Around, Counts, RunState}
use Rattle.pipeline_run.proofs.RunLemmas.{blames, nothing_printed, told_ok, told_disk, told_prints, told_stopped, ran_out}
use Rattle.pipeline_run.proofs.SpareLemmas.{kept_or}
use Rattle.pipeline_run.proofs.program.execute.Goals as goal

pub returns-in-Ok-clause-executes : goal.returns-in-Ok-clause-executes
returns-in-Ok-clause-executes g c text disk landing sink whole knows =
    let t = g.T.Source in
    let d = g.D.Disk in
    let f = g.L.Landing in
    let s = g.S.Sink in
    let outcome = c.in-Ok.outcome in
    let facts = c.in-Ok.ensures in
    let before : Counts = record { text = t.faults c.args.text.now; disk = d.faults c.args.disk.now; landing = f.faults c.args.landing.now; sink = s.faults c.args.out.now } in
    let now : Counts = record { text = t.faults c.outcome_of.new.text; disk = d.faults c.outcome_of.new.disk; landing = f.faults c.outcome_of.new.landing; sink = s.faults c.tell.new.out } in
    let old : RunState = record { file = (d.state c.args.disk.now).now.left; printed = s.written c.args.out.now; faults = before } in
    let new : RunState = record { file = (d.state c.outcome_of.new.disk).now.left; printed = s.written c.tell.new.out; faults = now } in
    let has = facts.comes text disk landing whole knows in
    record {
      updates = has.updates;
      executes = inl (
        outcome,
        record {
          comes = has.comes;
          blames = blames before now outcome (λ e. facts.text_fault (ap Ok e)) (λ table e. facts.load_fault table (ap Ok e)) (λ table e. facts.commit_fault table (ap Ok e)) (λ table e. facts.landing_fault table (ap Ok e));
          tells = c.tell.ensures.tells sink old.file new.file before now refl refl;
          later = record { text = facts.text_later; disk = facts.disk_later; landing = facts.landing_later; sink = c.tell.ensures.later };
        },
      );
      leaves = has.leaves;
    }

pub returns-in-Ok-clause-knows : goal.returns-in-Ok-clause-knows
returns-in-Ok-clause-knows g c text whole knows ok =
    c.in-Ok.ensures.knows text whole knows (told_ok c.in-Ok.outcome c.tell.result c.tell.ensures.status ok)

pub returns-in-Ok-clause-disk_fault : goal.returns-in-Ok-clause-disk_fault
returns-in-Ok-clause-disk_fault g c is =
    told_disk c.in-Ok.outcome c.tell.result (Rose (g.D.Disk.faults c.args.disk.now) (g.D.Disk.faults c.outcome_of.new.disk)) c.tell.ensures.status is
    (λ table e. c.in-Ok.ensures.load_fault table (ap Ok e)) (λ table e. c.in-Ok.ensures.commit_fault table (ap Ok e))

pub returns-in-Ok-clause-store : goal.returns-in-Ok-clause-store
returns-in-Ok-clause-store g c disk = kept_or g.D.Disk.state g.D.Disk.tells_moments (g.D.Disk.room c.args.disk.now) c.args.disk.now c.outcome_of.new.disk (c.in-Ok.ensures.store disk)

pub returns-in-Err-clause-store : goal.returns-in-Err-clause-store
returns-in-Err-clause-store g c disk = kept_or g.D.Disk.state g.D.Disk.tells_moments (g.D.Disk.room c.args.disk.now) c.args.disk.now c.outcome_of.new.disk (c.in-Err.ensures.store disk)

pub returns-in-Ok-clause-prints : goal.returns-in-Ok-clause-prints
returns-in-Ok-clause-prints g c sink =
    let before : Counts = record { text = 0; disk = 0; landing = 0; sink = g.S.Sink.faults c.args.out.now } in
    let now : Counts = record { text = 0; disk = 0; landing = 0; sink = g.S.Sink.faults c.tell.new.out } in
    let old : RunState = record { file = []; printed = g.S.Sink.written c.args.out.now; faults = before } in
    let new : RunState = record { file = []; printed = g.S.Sink.written c.tell.new.out; faults = now } in
    told_prints c.in-Ok.outcome c.tell.result old new (c.tell.ensures.tells sink [] [] before now refl refl)

pub returns-in-Ok-clause-landing_fault : goal.returns-in-Ok-clause-landing_fault
returns-in-Ok-clause-landing_fault g c sink is =
    let facts = c.in-Ok.ensures in
    let before : Counts = record { text = 0; disk = 0; landing = 0; sink = g.S.Sink.faults c.args.out.now } in
    let now : Counts = record { text = 0; disk = 0; landing = 0; sink = g.S.Sink.faults c.tell.new.out } in
    let old : RunState = record { file = []; printed = g.S.Sink.written c.args.out.now; faults = before } in
    let new : RunState = record { file = []; printed = g.S.Sink.written c.tell.new.out; faults = now } in
    told_stopped c.in-Ok.outcome c.tell.result (Rose (g.L.Landing.faults c.args.landing.now) (g.L.Landing.faults c.outcome_of.new.landing)) old new (c.tell.ensures.tells sink [] [] before now refl refl) is
    (λ table e. facts.landing_fault table (ap Ok e)) (λ table file cursor size e. facts.shrunk_of table file cursor size (ap Ok e))

pub returns-in-Err-clause-prints : goal.returns-in-Err-clause-prints
returns-in-Err-clause-prints g c sink = nothing_printed (g.S.Sink.written c.args.out.now)

pub returns-in-Err-clause-executes : goal.returns-in-Err-clause-executes
returns-in-Err-clause-executes g c text disk landing sink whole knows =
    let t = g.T.Source in
    let d = g.D.Disk in
    let f = g.L.Landing in
    let s = g.S.Sink in
    let facts = c.in-Err.ensures in
    let around : Around = record { text = whole; room = d.room c.args.disk.now; landing = f.present c.args.landing.now } in
    let old : RunState = record { file = (d.state c.args.disk.now).now.left; printed = s.written c.args.out.now; faults = record { text = t.faults c.args.text.now; disk = d.faults c.args.disk.now; landing = f.faults c.args.landing.now; sink = s.faults c.args.out.now } } in
    let new : RunState = record { file = (d.state c.args.disk.now).now.left; printed = s.written c.args.out.now; faults = record { text = t.faults c.outcome_of.new.text; disk = d.faults c.args.disk.now; landing = f.faults c.outcome_of.new.landing; sink = s.faults c.args.out.now } } in
    rw facts.err (ran_out d.tells_moments c.args.command around old new (d.state c.args.disk.now) refl refl (record { text = facts.text_later; disk = omega arith; landing = facts.landing_later; sink = omega arith }))
