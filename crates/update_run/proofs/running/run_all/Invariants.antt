use Rattle.std.proofs.Common.{◌≡◌, ◌≤◌, ℕ, List, None, length}
use Rattle.disk_model.specs.Disk.{IsHonest}
use Rattle.landing_core.specs.declared.landing.LandingFile.{LandingFile}
use Rattle.landing_core.specs.Folders.{HoldsPresent}
use Rattle.pair_store.specs.Store.{AreAsLeft, store_broken}
use Rattle.store_fitness.specs.Fitness.{IsReady}
use Rattle.flow_engine.specs.Flows.{AreListed}
use Rattle.flow_engine.specs.Points.{engine_halted, engine_state, engine_store, point_of}
use Rattle.update_run.specs.Folders.{AreBlamed}
use Rattle.update_run.specs.Runs.{landed_by}
use Rattle.update_run.proofs.SeriesLemmas.{GoesOn}
use Rattle.update_run.proofs.running.run_all.Given as goal

abbrev pub invariant-loop-flow : goal.invariant-loop-flow
invariant-loop-flow g l =
    let d = g.D.Disk in
    let f = g.L.Landing in
    let s = g.S.Sink in
    record {
      runs : d.tells → (files past : List LandingFile) → (f.tells → f.present l.initial.landing ≡ files) → (f.tells → f.ever l.initial.landing ≡ past) → (f.tells → HoldsPresent files past)
          → (was now : ℕ) → AreBlamed was now l.listings → was ≤ f.faults l.initial.landing → f.faults l.landing ≤ now
          → GoesOn d.tells_moments s.tells (landed_by f.tells files past l.listings) was now l.plan (d.room l.initial.disk) l.flows l.flow-index (point_of l.initial.engine) (point_of l.engine) l.any
          (d.state l.initial.disk) (d.state l.disk) (s.written l.initial.out) (s.written l.out);
      listed : AreListed f.tells l.plan (f.present l.landing) l.listings;
      ready : IsReady l.plan (engine_state l.engine);
      marks : length (engine_halted l.engine) ≡ length l.plan;
      whole : store_broken (engine_store l.engine) ≡ None;
      at_rest : d.tells → AreAsLeft (engine_store l.engine) (d.state l.disk);
      honest : d.tells → IsHonest (d.state l.disk);
      present : f.tells → f.present l.landing ≡ f.present l.initial.landing;
      ever : f.tells → f.ever l.landing ≡ f.ever l.initial.landing;
      room : d.room l.disk ≡ d.room l.initial.disk;
      disk_later : d.faults l.initial.disk ≤ d.faults l.disk;
      landing_later : f.faults l.initial.landing ≤ f.faults l.landing;
      sink_later : s.faults l.initial.out ≤ s.faults l.out;
    }
