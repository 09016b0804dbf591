use Rattle.std.proofs.Common.{rules, ◌≡◌, ◌≢◌, true, false, get_or, refl}
use Rattle.std.proofs.lemmas.List.{get_or_default}
use Rattle.pipeline_run.specs.declared.command.Command.TheVariants.{Validate}
use Rattle.pipeline_run.specs.declared.outcome.Status.TheVariants as status
use Rattle.pipeline_run.specs.Run.{Around, RunState}
use Rattle.pipeline_run.proofs.LeaveLemmas.{leaves_itself, leaves_both}
use Rattle.pipeline_run.proofs.RunLemmas.{begins, next_command, last_command, all_commands, is_ok_of, nothing_printed, prints_both, stopped_later}
use Rattle.pipeline_run.proofs.SpareLemmas.{goes_further, spared_itself, spared_on, went_further, went_itself}
use Rattle.pipeline_run.proofs.program.execute_all.Goals as goal

pub returns-then-ne-clause-runs : goal.returns-then-ne-clause-runs
returns-then-ne-clause-runs g c text disk landing sink =
    let t = g.T.Source in
    let d = g.D.Disk in
    let f = g.L.Landing in
    let s = g.S.Sink in
    let around : Around = record { text = t.left c.args.text.now; room = d.room c.args.disk.now; landing = f.present c.args.landing.now } in
    let start : RunState = record { file = (d.state c.args.disk.now).now.left; printed = s.written c.args.out.now; faults = record { text = t.faults c.args.text.now; disk = d.faults c.args.disk.now; landing = f.faults c.args.landing.now; sink = s.faults c.args.out.now } } in
    let here : RunState = record { file = (d.state c.loop-command.disk).now.left; printed = s.written c.loop-command.out; faults = record { text = t.faults c.loop-command.text; disk = d.faults c.loop-command.disk; landing = f.faults c.loop-command.landing; sink = s.faults c.loop-command.out } } in
    let mid : RunState = record { file = (d.state c.execute-answer.new.disk).now.left; printed = s.written c.execute-answer.new.out; faults = record { text = t.faults c.execute-answer.new.text; disk = d.faults c.execute-answer.new.disk; landing = f.faults c.execute-answer.new.landing; sink = s.faults c.execute-answer.new.out } } in
    let before = c.loop-command.invariant in
    let executed = rw (before.room, before.present landing) at (c.execute-answer.ensures.executes text disk landing sink (t.left c.args.text.now) (before.knows text)) in
    let failed : c.execute-answer.result ≢ status.Ok = λ e. (let same : true ≡ false = rw e at c.if-ne.ensures in cc) in
    let command = get_or c.args.commands.now c.loop-command.command-index Validate in
    last_command d.tells_moments around c.args.commands.now c.loop-command.command-index command start here mid (d.state c.args.disk.now) (d.state c.loop-command.disk) (d.state c.execute-answer.new.disk) c.execute-answer.result
    c.loop-command-test.true (get_or_default c.args.commands.now c.loop-command.command-index Validate command c.loop-command-test.true) executed failed (before.runs text disk landing sink)

pub returns-then-ne-clause-amount : goal.returns-then-ne-clause-amount
returns-then-ne-clause-amount g c text =
    c.execute-answer.ensures.amount text (g.T.Source.left c.args.text.now) (c.loop-command.invariant.knows text) (c.loop-command.invariant.amount text)

pub returns-then-ne-clause-stands : goal.returns-then-ne-clause-stands
returns-then-ne-clause-stands g c text disk landing asked asks holds stands =
    let before = c.loop-command.invariant in
    let stood = before.stands text disk landing asked asks holds stands in
    (rw (before.present landing, before.ever landing) at (c.execute-answer.ensures.stands text disk landing (g.T.Source.left c.args.text.now) (before.knows text) asked asks)) holds stood

pub returns-then-ne-clause-kept : goal.returns-then-ne-clause-kept
returns-then-ne-clause-kept g c disk =
    leaves_both (g.D.Disk.state c.args.disk.now) (g.D.Disk.state c.loop-command.disk) (g.D.Disk.state c.execute-answer.new.disk) (c.loop-command.invariant.kept disk) (c.execute-answer.ensures.kept disk)

pub returns-then-ne-clause-ours : goal.returns-then-ne-clause-ours
returns-then-ne-clause-ours g c disk ours = c.execute-answer.ensures.ours disk (c.loop-command.invariant.ours disk ours)

pub returns-then-ne-clause-spared : goal.returns-then-ne-clause-spared
returns-then-ne-clause-spared g c disk is =
    let d = g.D.Disk in
    let before = c.loop-command.invariant in
    spared_on d.tells_moments (d.room c.args.disk.now) (d.state c.args.disk.now) (d.state c.loop-command.disk) (d.state c.execute-answer.new.disk) is (before.spared disk is) (rw before.room at (c.execute-answer.ensures.store disk))

pub returns-then-ne-clause-goes_on : goal.returns-then-ne-clause-goes_on
returns-then-ne-clause-goes_on g c text disk landing sink at log =
    let d = g.D.Disk in
    goes_further d.tells_moments (d.room c.loop-command.disk) at (d.state c.args.disk.now) (d.state c.loop-command.disk) (d.state c.execute-answer.new.disk) (c.loop-command.invariant.goes_on text disk landing sink at log) (c.execute-answer.ensures.store disk)

pub returns-clause-goes_on : goal.returns-clause-goes_on
returns-clause-goes_on g c text disk landing sink at log = (c.loop-command.invariant.goes_on text disk landing sink at log).goes

pub returns-then-ne-clause-landing_fault : goal.returns-then-ne-clause-landing_fault
returns-then-ne-clause-landing_fault g c sink is =
    let f = g.L.Landing in
    let s = g.S.Sink in
    let before = c.loop-command.invariant in
    stopped_later (f.faults c.args.landing.now) (f.faults c.loop-command.landing) (f.faults c.execute-answer.new.landing) (s.written c.args.out.now) (s.written c.loop-command.out) (s.written c.execute-answer.new.out) before.landing_later (before.prints sink)
    (c.execute-answer.ensures.landing_fault sink is)

pub loop-command-init : goal.loop-command-init
loop-command-init g c =
    let t = g.T.Source in
    let d = g.D.Disk in
    let f = g.L.Landing in
    let s = g.S.Sink in
    let around : Around = record { text = t.left c.args.text.now; room = d.room c.args.disk.now; landing = f.present c.args.landing.now } in
    let start : RunState = record { file = (d.state c.args.disk.now).now.left; printed = s.written c.args.out.now; faults = record { text = t.faults c.args.text.now; disk = d.faults c.args.disk.now; landing = f.faults c.args.landing.now; sink = s.faults c.args.out.now } } in
    record {
      runs = λ text disk landing sink. begins d.tells_moments around c.args.commands.now start (d.state c.args.disk.now);
      knows = λ text. refl;
      amount = search rules;
      room = refl;
      honest = c.requires.honest;
      ours = λ disk ours. ours;
      spared = λ disk is. spared_itself d.tells_moments (d.state c.args.disk.now);
      goes_on = λ text disk landing sink at log. went_itself d.tells_moments at (d.state c.args.disk.now) log;
      stands = λ text disk landing asked asks holds stands. stands;
      kept = λ disk. leaves_itself (d.state c.args.disk.now);
      present = λ landing. refl;
      ever = λ landing. refl;
      text_later = search rules;
      disk_later = search rules;
      landing_later = search rules;
      sink_later = search rules;
      prints = λ sink. nothing_printed (s.written c.args.out.now);
    }

pub loop-command-preserved : goal.loop-command-preserved
loop-command-preserved g c =
    let t = g.T.Source in
    let d = g.D.Disk in
    let f = g.L.Landing in
    let s = g.S.Sink in
    let whole = t.left c.args.text.now in
    let around : Around = record { text = t.left c.args.text.now; room = d.room c.args.disk.now; landing = f.present c.args.landing.now } in
    let start : RunState = record { file = (d.state c.args.disk.now).now.left; printed = s.written c.args.out.now; faults = record { text = t.faults c.args.text.now; disk = d.faults c.args.disk.now; landing = f.faults c.args.landing.now; sink = s.faults c.args.out.now } } in
    let here : RunState = record { file = (d.state c.loop-command.disk).now.left; printed = s.written c.loop-command.out; faults = record { text = t.faults c.loop-command.text; disk = d.faults c.loop-command.disk; landing = f.faults c.loop-command.landing; sink = s.faults c.loop-command.out } } in
    let mid : RunState = record { file = (d.state c.execute-answer.new.disk).now.left; printed = s.written c.execute-answer.new.out; faults = record { text = t.faults c.execute-answer.new.text; disk = d.faults c.execute-answer.new.disk; landing = f.faults c.execute-answer.new.landing; sink = s.faults c.execute-answer.new.out } } in
    let before = c.loop-command.invariant in
    let facts = c.execute-answer.ensures in
    let ok : c.execute-answer.result ≡ status.Ok = is_ok_of (c.execute-answer.result) c.if-ne.ensures in
    let command = get_or c.args.commands.now c.loop-command.command-index Validate in
    record {
      runs = λ text disk landing sink.
          next_command d.tells_moments around c.args.commands.now c.loop-command.command-index command start here mid (d.state c.args.disk.now) (d.state c.loop-command.disk) (d.state c.execute-answer.new.disk) c.execute-answer.result
          c.loop-command-test.true (get_or_default c.args.commands.now c.loop-command.command-index Validate command c.loop-command-test.true) refl refl
          (rw (before.room, before.present landing) at (facts.executes text disk landing sink whole (before.knows text))) ok (before.runs text disk landing sink);
      knows = λ text. facts.knows text whole (before.knows text) ok;
      amount = λ text. facts.amount text whole (before.knows text) (before.amount text);
      room = search rules;
      honest = facts.honest;
      ours = λ disk ours. facts.ours disk (before.ours disk ours);
      spared = λ disk is.
          spared_on d.tells_moments (d.room c.args.disk.now) (d.state c.args.disk.now) (d.state c.loop-command.disk) (d.state c.execute-answer.new.disk) is (before.spared disk is) (rw before.room at (facts.store disk));
      goes_on = λ text disk landing sink at log.
          let executed = rw (before.room, before.present landing) at (facts.executes text disk landing sink whole (before.knows text)) in
          went_further d.tells_moments (d.room c.loop-command.disk) at (d.state c.args.disk.now) (d.state c.loop-command.disk) (d.state c.execute-answer.new.disk) command around c.execute-answer.result executed.updates here mid refl refl ok
          executed.executes (before.goes_on text disk landing sink at log) (facts.store disk);
      stands = λ text disk landing asked asks holds stands.
          (rw (before.present landing, before.ever landing) at (facts.stands text disk landing whole (before.knows text) asked asks)) holds (before.stands text disk landing asked asks holds stands);
      kept = λ disk. leaves_both (d.state c.args.disk.now) (d.state c.loop-command.disk) (d.state c.execute-answer.new.disk) (before.kept disk) (facts.kept disk);
      present = search rules;
      ever = search rules;
      text_later = search rules;
      disk_later = search rules;
      landing_later = search rules;
      sink_later = search rules;
      prints = λ sink. prints_both (s.written c.args.out.now) (s.written c.loop-command.out) (s.written c.execute-answer.new.out) (before.prints sink) (facts.prints sink);
    }

pub returns-clause-runs : goal.returns-clause-runs
returns-clause-runs g c text disk landing sink =
    let t = g.T.Source in
    let d = g.D.Disk in
    let f = g.L.Landing in
    let s = g.S.Sink in
    let around : Around = record { text = t.left c.args.text.now; room = d.room c.args.disk.now; landing = f.present c.args.landing.now } in
    let start : RunState = record { file = (d.state c.args.disk.now).now.left; printed = s.written c.args.out.now; faults = record { text = t.faults c.args.text.now; disk = d.faults c.args.disk.now; landing = f.faults c.args.landing.now; sink = s.faults c.args.out.now } } in
    let here : RunState = record { file = (d.state c.loop-command.disk).now.left; printed = s.written c.loop-command.out; faults = record { text = t.faults c.loop-command.text; disk = d.faults c.loop-command.disk; landing = f.faults c.loop-command.landing; sink = s.faults c.loop-command.out } } in
    all_commands d.tells_moments around c.args.commands.now c.loop-command.command-index start here (d.state c.args.disk.now) (d.state c.loop-command.disk) c.loop-command-test.false (c.loop-command.invariant.runs text disk landing sink)
