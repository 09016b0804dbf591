use Rattle.std.proofs.Common.{Ok, Err, refl}
use Rattle.std.proofs.lemmas.Result.{err_from_is_err_and}
use Rattle.pair_state.proofs.LeadsLemmas.{next_reached}
use Rattle.pair_store.specs.declared.ends.CommitEnd.TheVariants.{Failed}
use Rattle.pair_store.proofs.CommitLemmas.{none_of, commits, by_gate, acknowledged, as_left, grown}
use Rattle.pair_store.proofs.GoesOnLemmas.{append_goes_on, still_goes_on}
use Rattle.pair_store.proofs.ImageLemmas.{left_state, no_next, no_next_by_gate, ours}
use Rattle.pair_store.proofs.store.Store.commit.Goals as goal

pub returns-in-Ok-clause-at_rest : goal.returns-in-Ok-clause-at_rest
returns-in-Ok-clause-at_rest g c = λ told honest none.
    let old = g.D.Disk.state c.args.disk.now in
    let new = g.D.Disk.state c.append.new.disk in
    let left = c.requires.at_rest told none in
    let prepared = c.in_ok-framed.ensures.ok in
    let appends = c.in-Ok.ensures.appends told honest left.bodies left.at_rest in
    as_left c.args.self.now.pair left.bodies c.args.self.now.contents c.args.payload _ old left.leads prepared.follows prepared.record_is _ new appends.acknowledged prepared.taken

pub returns-in-Ok-clause-commits : goal.returns-in-Ok-clause-commits
returns-in-Ok-clause-commits g c = λ told honest none.
    let old = g.D.Disk.state c.args.disk.now in
    let new = g.D.Disk.state c.append.new.disk in
    let left = c.requires.at_rest told none in
    let prepared = c.in_ok-framed.ensures.ok in
    let appends = c.in-Ok.ensures.appends told honest left.bodies left.at_rest in
    commits c.args.self.now.pair left.bodies c.args.self.now.contents c.args.payload _ old left.leads prepared.follows prepared.record_is c.append.new.self _ (Ok tt) new appends
    (acknowledged c.args.self.now.pair left.bodies c.args.self.now.contents c.args.payload _ old left.leads prepared.follows prepared.record_is c.append.new.self new appends.acknowledged)

pub returns-in-Ok-clause-by_gate : goal.returns-in-Ok-clause-by_gate
returns-in-Ok-clause-by_gate g c = λ told timed honest none.
    let old = g.D.Disk.state c.args.disk.now in
    let new = g.D.Disk.state c.append.new.disk in
    let left = c.requires.at_rest told none in
    let prepared = c.in_ok-framed.ensures.ok in
    let appends = c.in-Ok.ensures.by_gate told timed honest left.bodies left.at_rest in
    by_gate c.args.self.now.pair left.bodies c.args.self.now.contents c.args.payload _ old left.leads prepared.follows prepared.record_is _ (Ok tt) new appends appends.calls

pub returns-in-Ok-clause-ours : goal.returns-in-Ok-clause-ours
returns-in-Ok-clause-ours g c = λ told honest was.
    let old = g.D.Disk.state c.args.disk.now in
    let new = g.D.Disk.state c.append.new.disk in
    let none = none_of c.args.self.now.broken c.in_default.not-Some in
    ours c.args.self.now.contents _ (Ok tt) old new (returns-in-Ok-clause-commits g c told honest none)

pub returns-in-Ok-clause-reached : goal.returns-in-Ok-clause-reached
returns-in-Ok-clause-reached g c =
    let prepared = c.in_ok-framed.ensures.ok in
    next_reached c.args.self.now.contents _ c.args.payload prepared.follows prepared.taken

pub returns-in-Ok-clause-grows : goal.returns-in-Ok-clause-grows
returns-in-Ok-clause-grows g c = λ told honest.
    let old = g.D.Disk.state c.args.disk.now in
    let new = g.D.Disk.state c.append.new.disk in
    let left = c.requires.at_rest told (none_of c.args.self.now.broken c.in_default.not-Some) in
    let appends = c.in-Ok.ensures.appends told honest left.bodies left.at_rest in
    grown c.args.self.now.pair c.append.new.self left.bodies _ _ old new left.at_rest appends.acknowledged c.in_ok-framed.ensures.ok.record_is

pub returns-clause-early : goal.returns-clause-early
returns-clause-early g c = λ other. absurd (other c.faults-count.result refl)

pub returns-clause-commits : goal.returns-clause-commits
returns-clause-commits g c = λ told honest none.
    let old = g.D.Disk.state c.args.disk.now in
    let new = g.D.Disk.state c.append.new.disk in
    let left = c.requires.at_rest told none in
    let prepared = c.in_ok-framed.ensures.ok in
    commits c.args.self.now.pair left.bodies c.args.self.now.contents c.args.payload _ old left.leads prepared.follows prepared.record_is c.append.new.self _ (Err (Failed c.faults-count.result)) new
    (c.append.ensures.appends told honest left.bodies left.at_rest) tt

pub returns-clause-by_gate : goal.returns-clause-by_gate
returns-clause-by_gate g c = λ told timed honest none.
    let old = g.D.Disk.state c.args.disk.now in
    let new = g.D.Disk.state c.append.new.disk in
    let left = c.requires.at_rest told none in
    let prepared = c.in_ok-framed.ensures.ok in
    by_gate c.args.self.now.pair left.bodies c.args.self.now.contents c.args.payload _ old left.leads prepared.follows prepared.record_is _ (Err (Failed c.faults-count.result)) new
    (c.append.ensures.by_gate told timed honest left.bodies left.at_rest) tt

pub returns-clause-ours : goal.returns-clause-ours
returns-clause-ours g c = λ told honest was.
    let old = g.D.Disk.state c.args.disk.now in
    let new = g.D.Disk.state c.append.new.disk in
    let none = none_of c.args.self.now.broken c.in_default.not-Some in
    ours c.args.self.now.contents _ (Err (Failed c.faults-count.result)) old new (returns-clause-commits g c told honest none)

-- ---- no call

pub returns-in_err-framed-clause-commits : goal.returns-in_err-framed-clause-commits
returns-in_err-framed-clause-commits g c =
    let p = err_from_is_err_and c.from_residual.result c.from_residual.ensures.1 in
    rw p.1
    (λ told honest none. no_next c.args.self.now.contents _ (g.D.Disk.state c.args.disk.now) (left_state c.args.self.now (g.D.Disk.state c.args.disk.now) (c.requires.at_rest told none)) (Err _) refl)

pub returns-in_err-framed-clause-by_gate : goal.returns-in_err-framed-clause-by_gate
returns-in_err-framed-clause-by_gate g c =
    let p = err_from_is_err_and c.from_residual.result c.from_residual.ensures.1 in
    rw p.1
    (λ told timed honest none. no_next_by_gate c.args.self.now.contents _ (g.D.Disk.state c.args.disk.now) (left_state c.args.self.now (g.D.Disk.state c.args.disk.now) (c.requires.at_rest told none)) (Err _) refl 2)

pub returns-in-Err-Full-clause-by_gate : goal.returns-in-Err-Full-clause-by_gate
returns-in-Err-Full-clause-by_gate g c = λ told timed honest none.
    let old = g.D.Disk.state c.args.disk.now in
    let new = g.D.Disk.state c.append.new.disk in
    let left = c.requires.at_rest told none in
    let prepared = c.in_ok-framed.ensures.ok in
    by_gate c.args.self.now.pair left.bodies c.args.self.now.contents c.args.payload _ old left.leads prepared.follows prepared.record_is _ (Err _) new
    (c.append.ensures.by_gate told timed honest left.bodies left.at_rest) tt

-- ---- the log goes on

pub returns-in_err-framed-clause-goes_on : goal.returns-in_err-framed-clause-goes_on
returns-in_err-framed-clause-goes_on g c = λ told honest none.
    let left = c.requires.at_rest told none in
    still_goes_on c.args.self.now.pair left.bodies (g.D.Disk.state c.args.disk.now) left.at_rest g.D.Disk.tells_moments

pub returns-in-Ok-clause-goes_on : goal.returns-in-Ok-clause-goes_on
returns-in-Ok-clause-goes_on g c = λ told honest none.
    let left = c.requires.at_rest told none in
    append_goes_on c.args.self.now.pair left.bodies (g.D.Disk.state c.args.disk.now) left.at_rest g.D.Disk.tells_moments c.append.new.self _ c.append.result (g.D.Disk.state c.append.new.disk) honest
    (c.append.ensures.appends told honest left.bodies left.at_rest) (λ timed. c.append.ensures.by_gate told timed honest left.bodies left.at_rest)

pub returns-in-Err-Full-clause-goes_on : goal.returns-in-Err-Full-clause-goes_on
returns-in-Err-Full-clause-goes_on g c = λ told honest none.
    let left = c.requires.at_rest told none in
    append_goes_on c.args.self.now.pair left.bodies (g.D.Disk.state c.args.disk.now) left.at_rest g.D.Disk.tells_moments c.append.new.self _ c.append.result (g.D.Disk.state c.append.new.disk) honest
    (c.append.ensures.appends told honest left.bodies left.at_rest) (λ timed. c.append.ensures.by_gate told timed honest left.bodies left.at_rest)

pub returns-clause-goes_on : goal.returns-clause-goes_on
returns-clause-goes_on g c = λ told honest none.
    let left = c.requires.at_rest told none in
    append_goes_on c.args.self.now.pair left.bodies (g.D.Disk.state c.args.disk.now) left.at_rest g.D.Disk.tells_moments c.append.new.self _ c.append.result (g.D.Disk.state c.append.new.disk) honest
    (c.append.ensures.appends told honest left.bodies left.at_rest) (λ timed. c.append.ensures.by_gate told timed honest left.bodies left.at_rest)
