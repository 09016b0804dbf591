use Rattle.std.proofs.Common.{Ok, Err, refl}
use Rattle.std.proofs.lemmas.Result.{err_from_is_err_and}
use Rattle.log_pair.specs.Switch.{calls_before_gate}
use Rattle.pair_store.specs.declared.ends.CommitEnd.TheVariants.{Failed}
use Rattle.pair_store.proofs.CommitLemmas.{none_of}
use Rattle.pair_store.proofs.CompactLemmas.{compacts, by_gate, acknowledged, as_left, folded_reached, written_base}
use Rattle.pair_store.proofs.ImageLemmas.{left_state, no_next, no_next_by_gate, ours}
use Rattle.pair_store.proofs.store.Store.compact.Goals as goal

pub returns-in-Ok-clause-at_rest : goal.returns-in-Ok-clause-at_rest
returns-in-Ok-clause-at_rest g c = λ told honest none.
    let none = none_of c.args.self.now.broken c.in_default.not-Some in
    let old = g.D.Disk.state c.args.disk.now in
    let new = g.D.Disk.state c.switch.new.disk in
    let left = c.requires.at_rest told none in
    let folded = c.in_ok-base.ensures in
    let switches = c.in-Ok.ensures.switches told honest left.bodies left.at_rest in
    as_left c.args.self.now.pair left.bodies c.args.self.now.contents _ _ old left.leads (c.requires.reached none) folded _ new switches.acknowledged.at_rest refl

pub returns-in-Ok-clause-compacts : goal.returns-in-Ok-clause-compacts
returns-in-Ok-clause-compacts g c = λ told honest none.
    let old = g.D.Disk.state c.args.disk.now in
    let new = g.D.Disk.state c.switch.new.disk in
    let left = c.requires.at_rest told none in
    let folded = c.in_ok-base.ensures in
    let switches = c.in-Ok.ensures.switches told honest left.bodies left.at_rest in
    compacts c.args.self.now.pair left.bodies c.args.self.now.contents _ _ old left.leads (c.requires.reached none) folded c.switch.new.self _ (Ok c.in-Ok.epoch) new switches
    (acknowledged c.args.self.now.pair left.bodies c.args.self.now.contents _ _ old left.leads (c.requires.reached none) folded c.switch.new.self new switches.acknowledged.at_rest)

pub returns-in-Ok-clause-by_gate : goal.returns-in-Ok-clause-by_gate
returns-in-Ok-clause-by_gate g c = λ told timed honest none.
    let old = g.D.Disk.state c.args.disk.now in
    let new = g.D.Disk.state c.switch.new.disk in
    let left = c.requires.at_rest told none in
    let folded = c.in_ok-base.ensures in
    let switches = c.in-Ok.ensures.by_gate told timed honest left.bodies left.at_rest in
    by_gate c.args.self.now.pair left.bodies c.args.self.now.contents _ _ old left.leads (c.requires.reached none) folded _ (Ok c.in-Ok.epoch) new switches switches.calls

pub returns-in-Ok-clause-ours : goal.returns-in-Ok-clause-ours
returns-in-Ok-clause-ours g c = λ told honest was.
    let old = g.D.Disk.state c.args.disk.now in
    let new = g.D.Disk.state c.switch.new.disk in
    let none = none_of c.args.self.now.broken c.in_default.not-Some in
    ours c.args.self.now.contents _ (Ok c.in-Ok.epoch) old new (returns-in-Ok-clause-compacts g c told honest none)

pub returns-in-Ok-clause-reached : goal.returns-in-Ok-clause-reached
returns-in-Ok-clause-reached g c = λ was.
    folded_reached c.args.self.now.contents _ _ was c.in_ok-base.ensures

pub returns-in-Ok-clause-written : goal.returns-in-Ok-clause-written
returns-in-Ok-clause-written g c = λ told honest.
    let left = c.requires.at_rest told (none_of c.args.self.now.broken c.in_default.not-Some) in
    let switches = c.in-Ok.ensures.switches told honest left.bodies left.at_rest in
    written_base c.args.self.now.pair c.args.self.now.contents _ _ (g.D.Disk.state c.switch.new.disk) c.in_ok-base.ensures switches.written

pub returns-clause-early : goal.returns-clause-early
returns-clause-early g c = λ other. absurd (other c.faults-count.result refl)

pub returns-clause-compacts : goal.returns-clause-compacts
returns-clause-compacts g c = λ told honest none.
    let old = g.D.Disk.state c.args.disk.now in
    let new = g.D.Disk.state c.switch.new.disk in
    let left = c.requires.at_rest told none in
    compacts c.args.self.now.pair left.bodies c.args.self.now.contents _ _ old left.leads (c.requires.reached none) c.in_ok-base.ensures c.switch.new.self _ (Err (Failed c.faults-count.result)) new
    (c.switch.ensures.switches told honest left.bodies left.at_rest) tt

pub returns-clause-by_gate : goal.returns-clause-by_gate
returns-clause-by_gate g c = λ told timed honest none.
    let old = g.D.Disk.state c.args.disk.now in
    let new = g.D.Disk.state c.switch.new.disk in
    let left = c.requires.at_rest told none in
    by_gate c.args.self.now.pair left.bodies c.args.self.now.contents _ _ old left.leads (c.requires.reached none) c.in_ok-base.ensures _ (Err (Failed c.faults-count.result)) new
    (c.switch.ensures.by_gate told timed honest left.bodies left.at_rest) tt

pub returns-clause-ours : goal.returns-clause-ours
returns-clause-ours g c = λ told honest was.
    let old = g.D.Disk.state c.args.disk.now in
    let new = g.D.Disk.state c.switch.new.disk in
    let none = none_of c.args.self.now.broken c.in_default.not-Some in
    ours c.args.self.now.contents _ (Err (Failed c.faults-count.result)) old new (returns-clause-compacts g c told honest none)

-- ---- no call

pub returns-in_err-base-clause-compacts : goal.returns-in_err-base-clause-compacts
returns-in_err-base-clause-compacts g c =
    let p = err_from_is_err_and c.from_residual.result c.from_residual.ensures.1 in
    rw p.1
    (λ told honest none. no_next c.args.self.now.contents _ (g.D.Disk.state c.args.disk.now) (left_state c.args.self.now (g.D.Disk.state c.args.disk.now) (c.requires.at_rest told none)) (Err _) refl)

pub returns-in_err-base-clause-by_gate : goal.returns-in_err-base-clause-by_gate
returns-in_err-base-clause-by_gate g c =
    let p = err_from_is_err_and c.from_residual.result c.from_residual.ensures.1 in
    rw p.1
    (λ told timed honest none.
    no_next_by_gate c.args.self.now.contents _ (g.D.Disk.state c.args.disk.now) (left_state c.args.self.now (g.D.Disk.state c.args.disk.now) (c.requires.at_rest told none)) (Err _) refl
    (calls_before_gate c.args.self.now.pair (g.D.Disk.state c.args.disk.now).now))

pub returns-in-Err-EpochFull-clause-compacts : goal.returns-in-Err-EpochFull-clause-compacts
returns-in-Err-EpochFull-clause-compacts g c = λ told honest none.
    let old = g.D.Disk.state c.args.disk.now in
    let new = g.D.Disk.state c.switch.new.disk in
    let left = c.requires.at_rest told none in
    compacts c.args.self.now.pair left.bodies c.args.self.now.contents _ _ old left.leads (c.requires.reached none) c.in_ok-base.ensures c.switch.new.self _ (Err _) new
    (c.switch.ensures.switches told honest left.bodies left.at_rest) tt

pub returns-in-Err-EpochFull-clause-by_gate : goal.returns-in-Err-EpochFull-clause-by_gate
returns-in-Err-EpochFull-clause-by_gate g c = λ told timed honest none.
    let old = g.D.Disk.state c.args.disk.now in
    let new = g.D.Disk.state c.switch.new.disk in
    let left = c.requires.at_rest told none in
    by_gate c.args.self.now.pair left.bodies c.args.self.now.contents _ _ old left.leads (c.requires.reached none) c.in_ok-base.ensures _ (Err _) new
    (c.switch.ensures.by_gate told timed honest left.bodies left.at_rest) tt

pub returns-in-Err-Full-clause-compacts : goal.returns-in-Err-Full-clause-compacts
returns-in-Err-Full-clause-compacts g c = λ told honest none.
    let old = g.D.Disk.state c.args.disk.now in
    let new = g.D.Disk.state c.switch.new.disk in
    let left = c.requires.at_rest told none in
    compacts c.args.self.now.pair left.bodies c.args.self.now.contents _ _ old left.leads (c.requires.reached none) c.in_ok-base.ensures c.switch.new.self _ (Err _) new
    (c.switch.ensures.switches told honest left.bodies left.at_rest) tt

pub returns-in-Err-Full-clause-by_gate : goal.returns-in-Err-Full-clause-by_gate
returns-in-Err-Full-clause-by_gate g c = λ told timed honest none.
    let old = g.D.Disk.state c.args.disk.now in
    let new = g.D.Disk.state c.switch.new.disk in
    let left = c.requires.at_rest told none in
    by_gate c.args.self.now.pair left.bodies c.args.self.now.contents _ _ old left.leads (c.requires.reached none) c.in_ok-base.ensures _ (Err _) new
    (c.switch.ensures.by_gate told timed honest left.bodies left.at_rest) tt
