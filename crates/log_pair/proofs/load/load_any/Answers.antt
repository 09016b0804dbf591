use Rattle.std.proofs.Common.{◌≡◌, Err, sym, ◌∙◌, ap, subst, map, arith}
use Rattle.std.proofs.lemmas.Result.{err_from_is_err_and}
use Rattle.disk_model.specs.Moments.{LeavesOnly}
use Rattle.commit_gate.specs.AtRest.{log_epoch}
use Rattle.commit_gate.specs.Head.{IsUntouched, Same}
use Rattle.commit_gate.proofs.LookLemmas.{looks_on}
use Rattle.log_pair.specs.declared.refusal.PairRefusal.TheVariants.{Failed}
use Rattle.log_pair.proofs.LoadLemmas.{pair_begun, some_lives, moments_look, synced_look, moments_on, begun_on, synced_on, no_records_are_short, none_begun, no_room, untouched_on}
use Rattle.log_pair.proofs.load.load_any.Goals as goal

pub returns-in_err-side-clause-by_moment : goal.returns-in_err-side-clause-by_moment
returns-in_err-side-clause-by_moment g c = λ told timed honest. moments_look (g.D.Disk.state c.args.disk.now) (g.D.Disk.state c.look.new.disk) (c.look.ensures.time told timed)

pub returns-in_err-log-in-None-clause-by_moment : goal.returns-in_err-log-in-None-clause-by_moment
returns-in_err-log-in-None-clause-by_moment g c = λ told timed honest.
    moments_on (g.D.Disk.state c.args.disk.now) (g.D.Disk.state c.look.new.disk) (g.D.Disk.state c.begin.new.disk) (c.look.ensures.untouched told).no_more (c.look.ensures.untouched told).same (c.look.ensures.time told timed)
    (c.begin.ensures.by_moment told timed ((c.look.ensures.honesty told).0 honest))

pub returns-in-Some-clause-by_moment : goal.returns-in-Some-clause-by_moment
returns-in-Some-clause-by_moment g c = λ told timed honest.
    moments_on (g.D.Disk.state c.args.disk.now) (g.D.Disk.state c.look.new.disk) (g.D.Disk.state c.read.new.disk) (c.look.ensures.untouched told).no_more (c.look.ensures.untouched told).same (c.look.ensures.time told timed)
    (moments_look (g.D.Disk.state c.look.new.disk) (g.D.Disk.state c.read.new.disk) (c.read.ensures.time told timed))

pub returns-in_ok-log-in-None-clause-by_moment : goal.returns-in_ok-log-in-None-clause-by_moment
returns-in_ok-log-in-None-clause-by_moment g c = λ told timed honest.
    moments_on (g.D.Disk.state c.args.disk.now) (g.D.Disk.state c.look.new.disk) (g.D.Disk.state c.begin.new.disk) (c.look.ensures.untouched told).no_more (c.look.ensures.untouched told).same (c.look.ensures.time told timed)
    (c.begin.ensures.by_moment told timed ((c.look.ensures.honesty told).0 honest))

pub returns-in_err-log-in-None-clause-synced : goal.returns-in_err-log-in-None-clause-synced
returns-in_err-log-in-None-clause-synced g c = λ told timed honest other.
    let old = g.D.Disk.state c.args.disk.now in
    let mid = g.D.Disk.state c.look.new.disk in
    let on = c.in_ok-side.ensures.on_disk told honest (λ same. cc) in
    let still = c.look.ensures.untouched told in
    synced_on old mid (g.D.Disk.state c.begin.new.disk) still.no_more still.same on.0 on.1 (c.in_ok-side.ensures.synced told timed honest (λ same. cc)) (c.begin.ensures.by_moment told timed ((c.look.ensures.honesty told).0 honest))

pub returns-in_ok-log-in-None-clause-synced : goal.returns-in_ok-log-in-None-clause-synced
returns-in_ok-log-in-None-clause-synced g c = λ told timed honest other.
    let old = g.D.Disk.state c.args.disk.now in
    let mid = g.D.Disk.state c.look.new.disk in
    let on = c.in_ok-side.ensures.on_disk told honest (λ same. cc) in
    let still = c.look.ensures.untouched told in
    synced_on old mid (g.D.Disk.state c.begin.new.disk) still.no_more still.same on.0 on.1 (c.in_ok-side.ensures.synced told timed honest (λ same. cc)) (c.begin.ensures.by_moment told timed ((c.look.ensures.honesty told).0 honest))

pub returns-in-Some-clause-synced : goal.returns-in-Some-clause-synced
returns-in-Some-clause-synced g c = λ told timed honest other.
    let old = g.D.Disk.state c.args.disk.now in
    let mid = g.D.Disk.state c.look.new.disk in
    let on = c.in_ok-side.ensures.on_disk told honest (λ same. cc) in
    let still = c.look.ensures.untouched told in
    synced_on old mid (g.D.Disk.state c.read.new.disk) still.no_more still.same on.0 on.1 (c.in_ok-side.ensures.synced told timed honest (λ same. cc)) (moments_look mid (g.D.Disk.state c.read.new.disk) (c.read.ensures.time told timed))

pub returns-in_ok-log-in-None-clause-at_rest : goal.returns-in_ok-log-in-None-clause-at_rest
returns-in_ok-log-in-None-clause-at_rest g c = λ told honest.
    pair_begun c.in_ok-log-in-None.log c.from_vec.result (g.D.Disk.state c.begin.new.disk) (c.from_vec.ensures ∙ ap (map (λ body. body.items)) c.new.ensures.items) (c.in_ok-log-in-None.ensures.at_rest told ((c.look.ensures.honesty told).0 honest))

pub returns-in_err-side-clause-synced : goal.returns-in_err-side-clause-synced
returns-in_err-side-clause-synced g c = λ told timed honest other.
    let p = err_from_is_err_and c.from_residual.result c.from_residual.ensures.1 in
    synced_look (g.D.Disk.state c.args.disk.now) (g.D.Disk.state c.look.new.disk) (c.look.ensures.synced told timed honest (λ same. let is = sym c.in_err-side.was ∙ same in let plain : c.in_err-side.field-0.0 ≡ Failed = cc in other (p.1 ∙ ap Err (p.2 ∙ plain))))

pub returns-in_ok-log-in-None-clause-begun_by_gate : goal.returns-in_ok-log-in-None-clause-begun_by_gate
returns-in_ok-log-in-None-clause-begun_by_gate g c = λ told timed honest unbegun.
    let still = c.look.ensures.untouched told in
    let later = (c.look.ensures.honesty told).0 honest in
    begun_on (g.D.Disk.state c.args.disk.now) (g.D.Disk.state c.look.new.disk) (g.D.Disk.state c.begin.new.disk) still.no_more still.same (c.look.ensures.time told timed) (c.begin.ensures.by_moment told timed later)
    (c.in_ok-log-in-None.ensures.calls told timed later)

pub returns-in_ok-log-in-None-clause-short : goal.returns-in_ok-log-in-None-clause-short
returns-in_ok-log-in-None-clause-short g c =
    no_records_are_short (log_epoch c.in_ok-log-in-None.log) c.from_vec.result (c.from_vec.ensures ∙ ap (map (λ body. body.items)) c.new.ensures.items)

pub returns-in-Some-clause-begun_by_gate : goal.returns-in-Some-clause-begun_by_gate
returns-in-Some-clause-begun_by_gate g c = λ told timed honest unbegun.
    absurd (some_lives (g.D.Disk.state c.args.disk.now).now _ c.in-Some.side c.in-Some.is (c.in_ok-side.ensures.answers told (λ same. cc)) unbegun)

pub returns-in-Some-clause-spared : goal.returns-in-Some-clause-spared
returns-in-Some-clause-spared g c = λ told none.
    untouched_on (g.D.Disk.state c.args.disk.now) (g.D.Disk.state c.look.new.disk) (g.D.Disk.state c.read.new.disk) (c.look.ensures.untouched told) (c.read.ensures.untouched told)

pub returns-in-Some-clause-spared_time : goal.returns-in-Some-clause-spared_time
returns-in-Some-clause-spared_time g c = λ told timed none.
    looks_on (g.D.Disk.state c.args.disk.now) (g.D.Disk.state c.look.new.disk) (g.D.Disk.state c.read.new.disk) (c.look.ensures.untouched told).no_more (c.look.ensures.time told timed) (c.read.ensures.time told timed)

pub returns-in_err-log-in-None-clause-spared : goal.returns-in_err-log-in-None-clause-spared
returns-in_err-log-in-None-clause-spared g c = λ told none.
    let old = (g.D.Disk.state c.args.disk.now).now in
    let tight = no_room old (g.D.Disk.room c.args.disk.now) (none_begun old _ c.in-None.is (c.in_ok-side.ensures.answers told (λ same. cc))) none in
    let still : c.begin.new.disk ≡ c.look.new.disk = c.begin.ensures.no_room (omega (arith, tight, c.look.ensures.room)) in
    subst (λ d. IsUntouched (g.D.Disk.state c.args.disk.now) (g.D.Disk.state d)) (sym still) (c.look.ensures.untouched told)

pub returns-in_err-log-in-None-clause-spared_time : goal.returns-in_err-log-in-None-clause-spared_time
returns-in_err-log-in-None-clause-spared_time g c = λ told timed none.
    let old = (g.D.Disk.state c.args.disk.now).now in
    let tight = no_room old (g.D.Disk.room c.args.disk.now) (none_begun old _ c.in-None.is (c.in_ok-side.ensures.answers told (λ same. cc))) none in
    let still : c.begin.new.disk ≡ c.look.new.disk = c.begin.ensures.no_room (omega (arith, tight, c.look.ensures.room)) in
    subst (λ d. LeavesOnly Same (g.D.Disk.state c.args.disk.now) (g.D.Disk.state d)) (sym still) (c.look.ensures.time told timed)

pub returns-in_ok-log-in-None-clause-spared : goal.returns-in_ok-log-in-None-clause-spared
returns-in_ok-log-in-None-clause-spared g c = λ told none.
    let old = (g.D.Disk.state c.args.disk.now).now in
    let tight = no_room old (g.D.Disk.room c.args.disk.now) (none_begun old _ c.in-None.is (c.in_ok-side.ensures.answers told (λ same. cc))) none in
    let still : c.begin.new.disk ≡ c.look.new.disk = c.begin.ensures.no_room (omega (arith, tight, c.look.ensures.room)) in
    subst (λ d. IsUntouched (g.D.Disk.state c.args.disk.now) (g.D.Disk.state d)) (sym still) (c.look.ensures.untouched told)

pub returns-in_ok-log-in-None-clause-spared_time : goal.returns-in_ok-log-in-None-clause-spared_time
returns-in_ok-log-in-None-clause-spared_time g c = λ told timed none.
    let old = (g.D.Disk.state c.args.disk.now).now in
    let tight = no_room old (g.D.Disk.room c.args.disk.now) (none_begun old _ c.in-None.is (c.in_ok-side.ensures.answers told (λ same. cc))) none in
    let still : c.begin.new.disk ≡ c.look.new.disk = c.begin.ensures.no_room (omega (arith, tight, c.look.ensures.room)) in
    subst (λ d. LeavesOnly Same (g.D.Disk.state c.args.disk.now) (g.D.Disk.state d)) (sym still) (c.look.ensures.time told timed)
