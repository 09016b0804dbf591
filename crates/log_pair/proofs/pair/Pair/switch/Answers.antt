use Rattle.std.proofs.Common.{◌≡◌, ◌+◌, ◌<◌, ◌^◌, ℕ, Some, Ok, Err, refl, sym, ◌∙◌, ap, subst, arith}
use Rattle.disk_model.specs.Disk.{Alone, IsOnDisk, file, other}
use Rattle.disk_model.specs.Moments.{LeavesOnly}
use Rattle.commit_gate.specs.Fill.{Fills, FillsByGate}
use Rattle.commit_gate.specs.declared.log.AppendEnd.{AppendEnd}
use Rattle.commit_gate.specs.Shut.{IsSameOrUnfinished, Shuts, shut_calls}
use Rattle.commit_gate.proofs.ResultLemmas.{OnOk_error}
use Rattle.log_pair.specs.AtRest.{pair_side, pair_epoch}
use Rattle.log_pair.specs.declared.pair.Pair.{Pair}
use Rattle.log_pair.proofs.SwitchLemmas.{some_room, no_call, no_call_by_gate, broke_early, broke_early_by_gate, switches, switched, by_gate}
use Rattle.log_pair.proofs.pair.Pair.switch.Goals as goal

pub returns-then-epoch-clause-switches : goal.returns-then-epoch-clause-switches
returns-then-epoch-clause-switches g c = λ told honest bodies rest. no_call c.args.self.now bodies c.args.base.now (g.D.Disk.state c.args.disk.now) rest c.args.self.now _ refl

pub returns-then-epoch-clause-by_gate : goal.returns-then-epoch-clause-by_gate
returns-then-epoch-clause-by_gate g c = λ told timed honest bodies rest. no_call_by_gate c.args.self.now bodies c.args.base.now (g.D.Disk.state c.args.disk.now) rest _ refl

pub returns-then-end-room-clause-switches : goal.returns-then-end-room-clause-switches
returns-then-end-room-clause-switches g c = λ told honest bodies rest. no_call c.args.self.now bodies c.args.base.now (g.D.Disk.state c.args.disk.now) rest c.args.self.now _ refl

pub returns-then-end-room-clause-by_gate : goal.returns-then-end-room-clause-by_gate
returns-then-end-room-clause-by_gate g c = λ told timed honest bodies rest. no_call_by_gate c.args.self.now bodies c.args.base.now (g.D.Disk.state c.args.disk.now) rest _ refl

pub shut-requires : goal.shut-requires
shut-requires g c =
    let pair = c.args.self.now in
    some_room pair c.args.base.now (g.D.Disk.room c.args.disk.now) (omega (arith, c.new_end-end.ensures (pair_epoch pair + 1), c.room-room.ensures.room, c.if-end-room.false))

pub returns-in_err-shut-clause-switches : goal.returns-in_err-shut-clause-switches
returns-in_err-shut-clause-switches g c = λ told honest bodies rest.
    let pair = c.args.self.now in
    let base = c.args.base.now in
    let old = g.D.Disk.state c.args.disk.now in
    let mid = g.D.Disk.state c.shut.new.disk in
    let side_is : c.across-side.result ≡ other (pair_side pair) = c.across-side.ensures ∙ ap other c.side.ensures in
    let on_disk : IsOnDisk c.across-side.result old = subst (λ s. IsOnDisk s old) (sym side_is) rest.durable in
    let shuts : Shuts (other (pair_side pair)) c.shut.result old mid = subst (λ s. Shuts s c.shut.result old mid) side_is (c.shut.ensures.shuts told honest on_disk) in
    broke_early pair bodies base old rest c.shut.result mid shuts pair c.from_residual.result c.from_residual.ensures.0

pub returns-in_err-shut-clause-by_gate : goal.returns-in_err-shut-clause-by_gate
returns-in_err-shut-clause-by_gate g c = λ told timed honest bodies rest.
    let pair = c.args.self.now in
    let base = c.args.base.now in
    let old = g.D.Disk.state c.args.disk.now in
    let mid = g.D.Disk.state c.shut.new.disk in
    let side_is : c.across-side.result ≡ other (pair_side pair) = c.across-side.ensures ∙ ap other c.side.ensures in
    let on_disk : IsOnDisk c.across-side.result old = subst (λ s. IsOnDisk s old) (sym side_is) rest.durable in
    let shuts : Shuts (other (pair_side pair)) c.shut.result old mid = subst (λ s. Shuts s c.shut.result old mid) side_is (c.shut.ensures.shuts told honest on_disk) in
    let run : LeavesOnly (λ _. Alone (other (pair_side pair)) IsSameOrUnfinished) old mid = subst (λ s. LeavesOnly (λ _. Alone s IsSameOrUnfinished) old mid) side_is (c.shut.ensures.time told timed honest on_disk) in
    broke_early_by_gate pair bodies base old rest c.shut.result mid shuts c.from_residual.result run c.from_residual.ensures.0

pub returns-in_err-self-clause-switches : goal.returns-in_err-self-clause-switches
returns-in_err-self-clause-switches g c = λ told honest bodies rest.
    let pair = c.args.self.now in
    let base = c.args.base.now in
    let old = g.D.Disk.state c.args.disk.now in
    let mid = g.D.Disk.state c.shut.new.disk in
    let side_is : c.across-side.result ≡ other (pair_side pair) = c.across-side.ensures ∙ ap other c.side.ensures in
    let on_disk : IsOnDisk c.across-side.result old = subst (λ s. IsOnDisk s old) (sym side_is) rest.durable in
    let shuts : Shuts (other (pair_side pair)) c.shut.result old mid = subst (λ s. Shuts s c.shut.result old mid) side_is (c.shut.ensures.shuts told honest on_disk) in
    let new = g.D.Disk.state c.fill.new.disk in
    let later = shuts.honesty.0 honest in
    let up : c.epoch-epoch.result + 1 ≡ pair_epoch pair + 1 = ap (λ e. e + 1) c.epoch-epoch.ensures in
    let next : pair_epoch pair + 1 < 2 ^ 64 = omega (arith, rest.fits, c.epoch-epoch.ensures, c.if-epoch.false) in
    let fills : Fills {E = AppendEnd} (other (pair_side pair)) (pair_epoch pair + 1) (Some base) c.fill.result mid new =
    subst (λ e. Fills {E = AppendEnd} (other (pair_side pair)) e (Some base) c.fill.result mid new) up (subst (λ s. Fills {E = AppendEnd} s (c.epoch-epoch.result + 1) (Some base) c.fill.result mid new) side_is (c.fill.ensures.fills told later)) in
    switches pair bodies base old rest c.shut.result mid shuts c.fill.result new fills next pair c.from_residual-in_err-self.result (OnOk_error _ c.from_residual-in_err-self.result c.from_residual-in_err-self.ensures.0) (OnOk_error _ c.from_residual-in_err-self.result c.from_residual-in_err-self.ensures.0)

pub returns-in_err-self-clause-by_gate : goal.returns-in_err-self-clause-by_gate
returns-in_err-self-clause-by_gate g c = λ told timed honest bodies rest.
    let pair = c.args.self.now in
    let base = c.args.base.now in
    let old = g.D.Disk.state c.args.disk.now in
    let mid = g.D.Disk.state c.shut.new.disk in
    let side_is : c.across-side.result ≡ other (pair_side pair) = c.across-side.ensures ∙ ap other c.side.ensures in
    let on_disk : IsOnDisk c.across-side.result old = subst (λ s. IsOnDisk s old) (sym side_is) rest.durable in
    let shuts : Shuts (other (pair_side pair)) c.shut.result old mid = subst (λ s. Shuts s c.shut.result old mid) side_is (c.shut.ensures.shuts told honest on_disk) in
    let run : LeavesOnly (λ _. Alone (other (pair_side pair)) IsSameOrUnfinished) old mid = subst (λ s. LeavesOnly (λ _. Alone s IsSameOrUnfinished) old mid) side_is (c.shut.ensures.time told timed honest on_disk) in
    let new = g.D.Disk.state c.fill.new.disk in
    let later = shuts.honesty.0 honest in
    let up : c.epoch-epoch.result + 1 ≡ pair_epoch pair + 1 = ap (λ e. e + 1) c.epoch-epoch.ensures in
    let next : pair_epoch pair + 1 < 2 ^ 64 = omega (arith, rest.fits, c.epoch-epoch.ensures, c.if-epoch.false) in
    let fills : Fills {E = AppendEnd} (other (pair_side pair)) (pair_epoch pair + 1) (Some base) c.fill.result mid new =
    subst (λ e. Fills {E = AppendEnd} (other (pair_side pair)) e (Some base) c.fill.result mid new) up (subst (λ s. Fills {E = AppendEnd} s (c.epoch-epoch.result + 1) (Some base) c.fill.result mid new) side_is (c.fill.ensures.fills told later)) in
    let fill : FillsByGate {E = AppendEnd} (other (pair_side pair)) (pair_epoch pair + 1) (Some base) c.fill.result mid new =
    subst (λ e. FillsByGate {E = AppendEnd} (other (pair_side pair)) e (Some base) c.fill.result mid new) up (subst (λ s. FillsByGate {E = AppendEnd} s (c.epoch-epoch.result + 1) (Some base) c.fill.result mid new) side_is (c.fill.ensures.by_gate told timed later)) in
    let shut : mid.moment ≡ old.moment + shut_calls (file (other (pair_side pair)) old.now) = subst (λ s. mid.moment ≡ old.moment + shut_calls (file s old.now)) side_is (c.in_ok-shut.ensures.calls told timed) in
    by_gate pair bodies base old rest c.shut.result mid shuts c.fill.result new fills next c.from_residual-in_err-self.result shut run fill (OnOk_error _ c.from_residual-in_err-self.result c.from_residual-in_err-self.ensures.0)

pub returns-clause-switches : goal.returns-clause-switches
returns-clause-switches g c = λ told honest bodies rest.
    let pair = c.args.self.now in
    let base = c.args.base.now in
    let old = g.D.Disk.state c.args.disk.now in
    let mid = g.D.Disk.state c.shut.new.disk in
    let side_is : c.across-side.result ≡ other (pair_side pair) = c.across-side.ensures ∙ ap other c.side.ensures in
    let on_disk : IsOnDisk c.across-side.result old = subst (λ s. IsOnDisk s old) (sym side_is) rest.durable in
    let shuts : Shuts (other (pair_side pair)) c.shut.result old mid = subst (λ s. Shuts s c.shut.result old mid) side_is (c.shut.ensures.shuts told honest on_disk) in
    let new = g.D.Disk.state c.fill.new.disk in
    let later = shuts.honesty.0 honest in
    let up : c.epoch-epoch.result + 1 ≡ pair_epoch pair + 1 = ap (λ e. e + 1) c.epoch-epoch.ensures in
    let next : pair_epoch pair + 1 < 2 ^ 64 = omega (arith, rest.fits, c.epoch-epoch.ensures, c.if-epoch.false) in
    let fills : Fills {E = AppendEnd} (other (pair_side pair)) (pair_epoch pair + 1) (Some base) (Ok c.in_ok-self.field-0) mid new =
    subst (λ e. Fills {E = AppendEnd} (other (pair_side pair)) e (Some base) (Ok c.in_ok-self.field-0) mid new) up (subst (λ s. Fills {E = AppendEnd} s (c.epoch-epoch.result + 1) (Some base) (Ok c.in_ok-self.field-0) mid new) side_is (c.in_ok-self.ensures.fills told later)) in
    let log = c.in_ok-self.field-0 in
    let now : Pair = record { log = log } in
    let ends = c.in_ok-self.ensures.log in
    switches pair bodies base old rest c.shut.result mid shuts (Ok c.in_ok-self.field-0) new fills next now (Ok (c.epoch-epoch.result + 1)) (switched pair bodies base old rest c.shut.result mid shuts (Ok c.in_ok-self.field-0) new fills next now (ends.0 ∙ side_is) (ends.1 ∙ up) fills.acknowledged) fills.written

pub returns-clause-by_gate : goal.returns-clause-by_gate
returns-clause-by_gate g c = λ told timed honest bodies rest.
    let pair = c.args.self.now in
    let base = c.args.base.now in
    let old = g.D.Disk.state c.args.disk.now in
    let mid = g.D.Disk.state c.shut.new.disk in
    let side_is : c.across-side.result ≡ other (pair_side pair) = c.across-side.ensures ∙ ap other c.side.ensures in
    let on_disk : IsOnDisk c.across-side.result old = subst (λ s. IsOnDisk s old) (sym side_is) rest.durable in
    let shuts : Shuts (other (pair_side pair)) c.shut.result old mid = subst (λ s. Shuts s c.shut.result old mid) side_is (c.shut.ensures.shuts told honest on_disk) in
    let run : LeavesOnly (λ _. Alone (other (pair_side pair)) IsSameOrUnfinished) old mid = subst (λ s. LeavesOnly (λ _. Alone s IsSameOrUnfinished) old mid) side_is (c.shut.ensures.time told timed honest on_disk) in
    let new = g.D.Disk.state c.fill.new.disk in
    let later = shuts.honesty.0 honest in
    let up : c.epoch-epoch.result + 1 ≡ pair_epoch pair + 1 = ap (λ e. e + 1) c.epoch-epoch.ensures in
    let next : pair_epoch pair + 1 < 2 ^ 64 = omega (arith, rest.fits, c.epoch-epoch.ensures, c.if-epoch.false) in
    let fills : Fills {E = AppendEnd} (other (pair_side pair)) (pair_epoch pair + 1) (Some base) (Ok c.in_ok-self.field-0) mid new =
    subst (λ e. Fills {E = AppendEnd} (other (pair_side pair)) e (Some base) (Ok c.in_ok-self.field-0) mid new) up (subst (λ s. Fills {E = AppendEnd} s (c.epoch-epoch.result + 1) (Some base) (Ok c.in_ok-self.field-0) mid new) side_is (c.in_ok-self.ensures.fills told later)) in
    let fill : FillsByGate {E = AppendEnd} (other (pair_side pair)) (pair_epoch pair + 1) (Some base) (Ok c.in_ok-self.field-0) mid new =
    subst (λ e. FillsByGate {E = AppendEnd} (other (pair_side pair)) e (Some base) (Ok c.in_ok-self.field-0) mid new) up (subst (λ s. FillsByGate {E = AppendEnd} s (c.epoch-epoch.result + 1) (Some base) (Ok c.in_ok-self.field-0) mid new) side_is (c.in_ok-self.ensures.by_gate told timed later)) in
    let shut : mid.moment ≡ old.moment + shut_calls (file (other (pair_side pair)) old.now) = subst (λ s. mid.moment ≡ old.moment + shut_calls (file s old.now)) side_is (c.in_ok-shut.ensures.calls told timed) in
    by_gate pair bodies base old rest c.shut.result mid shuts (Ok c.in_ok-self.field-0) new fills next (Ok (c.epoch-epoch.result + 1)) shut run fill fill.calls
