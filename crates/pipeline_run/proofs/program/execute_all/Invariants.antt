use Rattle.std.proofs.Common.{◌≡◌, ◌≤◌, ◌+◌, ℕ, length}
use Rattle.disk_model.specs.declared.disk.Side.TheVariants.{Left, Right}
use Rattle.disk_model.specs.Disk.{IsHonest, file}
use Rattle.landing_core.specs.Folders.{HoldsPresent}
use Rattle.commit_gate.specs.AtRest.{LeavesFile}
use Rattle.store_core.specs.Ours.{IsOurs}
use Rattle.store_core.specs.Reach.{IsLogEnd}
use Rattle.store_core.specs.Spared.{IsRefusedFile, IsSpared}
use Rattle.table_update.specs.declared.table.AppendTable.{AppendTable}
use Rattle.table_update.specs.Stands.{IsStanding}
use Rattle.pipeline_run.specs.Pipeline.{text_limit, Knows}
use Rattle.pipeline_run.specs.Run.{Around, PrintsOn, RunState}
use Rattle.pipeline_run.specs.Table.{AsksFor}
use Rattle.pipeline_run.proofs.RunLemmas.{GoesSo}
use Rattle.pipeline_run.proofs.SpareLemmas.{WentOn}
use Rattle.pipeline_run.proofs.program.execute_all.Given as goal

abbrev pub invariant-loop-command : goal.invariant-loop-command
invariant-loop-command g l =
    let t = g.T.Source in
    let d = g.D.Disk in
    let f = g.L.Landing in
    let s = g.S.Sink in
    let around : Around = record { text = t.left l.initial.text; room = d.room l.initial.disk; landing = f.present l.initial.landing } in
    let start : RunState = record { file = (d.state l.initial.disk).now.left; printed = s.written l.initial.out; faults = record { text = t.faults l.initial.text; disk = d.faults l.initial.disk; landing = f.faults l.initial.landing; sink = s.faults l.initial.out } } in
    let here : RunState = record { file = (d.state l.disk).now.left; printed = s.written l.out; faults = record { text = t.faults l.text; disk = d.faults l.disk; landing = f.faults l.landing; sink = s.faults l.out } } in
    record {
      runs : t.tells → d.tells → f.tells → s.tells → GoesSo d.tells_moments around l.commands l.command-index start here (d.state l.initial.disk) (d.state l.disk);
      knows : t.tells → Knows (t.left l.initial.text) l.known (t.left l.text);
      amount : t.tells → length (t.left l.initial.text) ≤ length (t.left l.text) + text_limit;
      room : d.room l.disk ≡ d.room l.initial.disk;
      honest : d.tells → IsHonest (d.state l.disk);
      ours : d.tells → IsOurs (d.state l.initial.disk) → IsOurs (d.state l.disk);
      spared : d.tells → IsRefusedFile (d.room l.initial.disk) (file Left (d.state l.initial.disk).now) → IsSpared d.tells_moments (d.state l.initial.disk) (d.state l.disk);
      goes_on : t.tells → d.tells → f.tells → s.tells → (at : ℕ) → IsLogEnd at (file Left (d.state l.initial.disk).now) → WentOn d.tells_moments at (d.state l.initial.disk) (d.state l.disk);
      stands : t.tells → d.tells → f.tells → (asked : AppendTable) → AsksFor (t.left l.initial.text) asked → HoldsPresent (f.present l.initial.landing) (f.ever l.initial.landing)
          → IsStanding asked (f.ever l.initial.landing) (d.state l.initial.disk) → IsStanding asked (f.ever l.initial.landing) (d.state l.disk);
      kept : d.tells → LeavesFile Right (d.state l.initial.disk) (d.state l.disk);
      present : f.tells → f.present l.landing ≡ f.present l.initial.landing;
      ever : f.tells → f.ever l.landing ≡ f.ever l.initial.landing;
      text_later : t.faults l.initial.text ≤ t.faults l.text;
      disk_later : d.faults l.initial.disk ≤ d.faults l.disk;
      landing_later : f.faults l.initial.landing ≤ f.faults l.landing;
      sink_later : s.faults l.initial.out ≤ s.faults l.out;
      prints : s.tells → PrintsOn (s.written l.initial.out) (s.written l.out);
    }
