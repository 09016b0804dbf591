use Rattle.std.proofs.Common.{inl, inr, ⊎_elim, ◌^◌, ◌≤◌, [], length, None, Ok, Err, sym, ap, subst, ◌∙◌, arith}
use Rattle.std.proofs.lemmas.Result.{err_from_is_err_and}
use Rattle.disk_model.specs.declared.disk.Side.TheVariants.{Left}
use Rattle.disk_model.specs.Disk.{file}
use Rattle.commit_gate.specs.Found.{IsFoundIn, IsOfIfLive, EndsIfLive}
use Rattle.commit_gate.specs.AtRest.{log_epoch}
use Rattle.commit_gate.specs.Log.{IsDead}
use Rattle.commit_gate.proofs.LoadLemmas.{log_length}
use Rattle.commit_gate.proofs.UniqueLemmas.{bodies_live, one_epoch}
use Rattle.store_core.specs.Begin.{BeginAnswers}
use Rattle.store_core.specs.declared.store.Store.{Store}
use Rattle.store_core.proofs.BeginLemmas.{loads_synced, loads_on, moments_read, moments_on, moments_synced, moments_synced_on}
use Rattle.store_core.proofs.LoadLemmas.{left_state, log_stands, ours_after, exact, log_exact, bodies_refused, begin_refused, loaded, made}
use Rattle.store_core.proofs.ReachLemmas.{new_log_end}
use Rattle.store_core.proofs.SparedLemmas.{left_alone, spared}
use Rattle.store_core.proofs.store.Store.load.Goals as goal

-- ---- the log was refused

pub returns-in_err-log-clause-exact : goal.returns-in_err-log-clause-exact
returns-in_err-log-clause-exact g c =
    let p = err_from_is_err_and c.from_residual.result c.from_residual.ensures.1 in
    rw (p.1, p.2)
    (λ told. log_exact (g.D.Disk.room c.args.disk.now) (file Left (g.D.Disk.state c.args.disk.now).now) c.in_err-log.field-0.0 c.load.result c.in_err-log.was (c.load.ensures.damaged told) (c.load.ensures.small told))

pub returns-in_err-log-clause-by_moment : goal.returns-in_err-log-clause-by_moment
returns-in_err-log-clause-by_moment g c = λ told timed honest. moments_read (g.D.Disk.state c.args.disk.now) (g.D.Disk.state c.load.new.disk) (c.load.ensures.time told timed)

-- ---- the log was there

pub contents_of-requires : goal.contents_of-requires
contents_of-requires g c =
    let ends = subst EndsIfLive c.in-Live.is c.in_ok-log.ensures.end in
    omega (arith, ends.0, ends.1, log_length (log_epoch c.in-Live.log) c.in-Live.bodies)

pub returns-in_err-contents-in-Live-clause-answers : goal.returns-in_err-contents-in-Live-clause-answers
returns-in_err-contents-in-Live-clause-answers g c =
    let p = err_from_is_err_and c.from_residual-in_err-contents-in-Live.result c.from_residual-in_err-contents-in-Live.ensures.1 in
    rw (p.1, p.2)
    (λ told.
    let bytes = file Left (g.D.Disk.state c.args.disk.now).now in
    let has = subst (IsFoundIn bytes) c.in-Live.is (c.in_ok-log.ensures.found told) in
    bodies_refused (g.D.Disk.room c.args.disk.now) (log_epoch c.in-Live.log) bytes c.in-Live.bodies _ has c.in_err-contents-in-Live.ensures)

pub returns-in_err-contents-in-Live-clause-exact : goal.returns-in_err-contents-in-Live-clause-exact
returns-in_err-contents-in-Live-clause-exact g c = λ told.
    let bytes = file Left (g.D.Disk.state c.args.disk.now).now in
    let short : length bytes ≤ 2 ^ 40 = c.load.ensures.small told (λ same. cc c.in_ok-log.was) in
    exact (g.D.Disk.room c.args.disk.now) bytes c.from_residual-in_err-contents-in-Live.result (returns-in_err-contents-in-Live-clause-answers g c told) (λ other. omega (arith, short))

pub returns-in_err-contents-in-Live-clause-by_moment : goal.returns-in_err-contents-in-Live-clause-by_moment
returns-in_err-contents-in-Live-clause-by_moment g c = λ told timed honest. moments_read (g.D.Disk.state c.args.disk.now) (g.D.Disk.state c.load.new.disk) (c.load.ensures.time told timed)

pub returns-in_ok-contents-in-Live-clause-answers : goal.returns-in_ok-contents-in-Live-clause-answers
returns-in_ok-contents-in-Live-clause-answers g c = λ told.
    let bytes = file Left (g.D.Disk.state c.args.disk.now).now in
    let store : Store = record { alloc = c.args.alloc; log = c.in-Live.log; contents = c.in_ok-contents-in-Live.contents; broken = None } in
    let has = subst (IsFoundIn bytes) c.in-Live.is (c.in_ok-log.ensures.found told) in
    loaded (g.D.Disk.room c.args.disk.now) (log_epoch c.in-Live.log) bytes c.in-Live.bodies store has c.in_ok-contents-in-Live.ensures

pub returns-in_ok-contents-in-Live-clause-exact : goal.returns-in_ok-contents-in-Live-clause-exact
returns-in_ok-contents-in-Live-clause-exact g c = λ told.
    let bytes = file Left (g.D.Disk.state c.args.disk.now).now in
    let has = subst (IsFoundIn bytes) c.in-Live.is (c.in_ok-log.ensures.found told) in
    let store : Store = record { alloc = c.args.alloc; log = c.in-Live.log; contents = c.in_ok-contents-in-Live.contents; broken = None } in
    let short : length bytes ≤ 2 ^ 40 = c.load.ensures.small told (λ same. cc c.in_ok-log.was) in
    exact (g.D.Disk.room c.args.disk.now) bytes (Ok store) (loaded (g.D.Disk.room c.args.disk.now) (log_epoch c.in-Live.log) bytes c.in-Live.bodies store has c.in_ok-contents-in-Live.ensures) (λ other. omega (arith, short))

pub returns-in_ok-contents-in-Live-clause-by_moment : goal.returns-in_ok-contents-in-Live-clause-by_moment
returns-in_ok-contents-in-Live-clause-by_moment g c = λ told timed honest. moments_read (g.D.Disk.state c.args.disk.now) (g.D.Disk.state c.load.new.disk) (c.load.ensures.time told timed)

pub returns-in_ok-contents-in-Live-clause-first : goal.returns-in_ok-contents-in-Live-clause-first
returns-in_ok-contents-in-Live-clause-first g c = λ told begun.
    let bytes = file Left (g.D.Disk.state c.args.disk.now).now in
    let has = subst (IsFoundIn bytes) c.in-Live.is (c.in_ok-log.ensures.found told) in
    absurd (begun.0 (log_epoch c.in-Live.log) (bodies_live (log_epoch c.in-Live.log) c.in-Live.bodies bytes has))

-- ---- there was none

pub begin-requires-clause-dead : goal.begin-requires-clause-dead
begin-requires-clause-dead g c = λ told.
    let found = subst (IsFoundIn (file Left (g.D.Disk.state c.args.disk.now).now)) c.in-Shut.is (c.in_ok-log.ensures.found told) in
    subst (λ files. IsDead (file Left files)) (sym (c.load.ensures.synced told).same) found.0

pub returns-in_err-log-in-Shut-clause-exact : goal.returns-in_err-log-in-Shut-clause-exact
returns-in_err-log-in-Shut-clause-exact g c =
    let p = err_from_is_err_and c.from_residual-in_err-log-in-Shut.result c.from_residual-in_err-log-in-Shut.ensures.1 in
    rw (p.1, p.2)
    (λ told.
    let room = g.D.Disk.room c.args.disk.now in
    let bytes = file Left (g.D.Disk.state c.args.disk.now).now in
    let found = subst (IsFoundIn bytes) c.in-Shut.is (c.in_ok-log.ensures.found told) in
    let short : length bytes ≤ 2 ^ 40 = c.load.ensures.small told (λ same. cc c.in_ok-log.was) in
    let answers = subst (λ free. BeginAnswers c.in-Shut.len free (Err c.in_err-log-in-Shut.field-0.0)) c.load.ensures.room c.in_err-log-in-Shut.ensures.answers in
    exact room bytes _ (begin_refused room c.in-Shut.len bytes c.in_err-log-in-Shut.field-0.0 found.0 found.1 answers) (λ other. omega (arith, short)))

pub returns-in_err-log-in-Shut-clause-by_moment : goal.returns-in_err-log-in-Shut-clause-by_moment
returns-in_err-log-in-Shut-clause-by_moment g c = λ told timed honest.
    let old = g.D.Disk.state c.args.disk.now in
    let mid = g.D.Disk.state c.load.new.disk in
    let synced = c.load.ensures.synced told in
    moments_on old mid (g.D.Disk.state c.begin.new.disk) (loads_synced c.load.result old mid synced) (moments_read old mid (c.load.ensures.time told timed)) (c.begin.ensures.by_moment told timed (synced.honesty.0 honest))

pub returns-in_err-log-in-Shut-clause-ours : goal.returns-in_err-log-in-Shut-clause-ours
returns-in_err-log-in-Shut-clause-ours g c = λ told honest was.
    let old = g.D.Disk.state c.args.disk.now in
    let mid = g.D.Disk.state c.load.new.disk in
    let new = g.D.Disk.state c.begin.new.disk in
    let synced = c.load.ensures.synced told in
    ours_after old new (loads_on old mid new (loads_synced c.load.result old mid synced) (c.begin.ensures.loads told (synced.honesty.0 honest))) was

pub returns-in_ok-log-in-Shut-clause-exact : goal.returns-in_ok-log-in-Shut-clause-exact
returns-in_ok-log-in-Shut-clause-exact g c = λ told.
    let room = g.D.Disk.room c.args.disk.now in
    let bytes = file Left (g.D.Disk.state c.args.disk.now).now in
    let found = subst (IsFoundIn bytes) c.in-Shut.is (c.in_ok-log.ensures.found told) in
    let short : length bytes ≤ 2 ^ 40 = c.load.ensures.small told (λ same. cc c.in_ok-log.was) in
    let answers = subst (λ free. BeginAnswers c.in-Shut.len free (Ok c.in_ok-log-in-Shut.log)) c.load.ensures.room c.in_ok-log-in-Shut.ensures.answers in
    let store : Store = record { alloc = c.args.alloc; log = c.in_ok-log-in-Shut.log; contents = c.new-contents.result; broken = None } in
    exact room bytes (Ok store) (made room c.in-Shut.len bytes c.in_ok-log-in-Shut.log store found.0 found.1 answers c.new-contents.ensures) (λ other. omega (arith, short))

pub returns-in_ok-log-in-Shut-clause-by_moment : goal.returns-in_ok-log-in-Shut-clause-by_moment
returns-in_ok-log-in-Shut-clause-by_moment g c = λ told timed honest.
    let old = g.D.Disk.state c.args.disk.now in
    let mid = g.D.Disk.state c.load.new.disk in
    let synced = c.load.ensures.synced told in
    moments_on old mid (g.D.Disk.state c.begin.new.disk) (loads_synced c.load.result old mid synced) (moments_read old mid (c.load.ensures.time told timed)) (c.begin.ensures.by_moment told timed (synced.honesty.0 honest))

pub returns-in_ok-log-in-Shut-clause-on_disk : goal.returns-in_ok-log-in-Shut-clause-on_disk
returns-in_ok-log-in-Shut-clause-on_disk g c = λ told honest.
    let at_rest = c.in_ok-log-in-Shut.ensures.at_rest told ((c.load.ensures.synced told).honesty.0 honest) in
    let store : Store = record { alloc = c.args.alloc; log = c.in_ok-log-in-Shut.log; contents = c.new-contents.result; broken = None } in
    left_state store (g.D.Disk.state c.begin.new.disk) (record { bodies = []; side = at_rest.0; at_rest = at_rest.1; leads = c.new-contents.ensures })

-- ---- from the sync on

pub returns-in_err-log-clause-synced : goal.returns-in_err-log-clause-synced
returns-in_err-log-clause-synced g c =
    let p = err_from_is_err_and c.from_residual.result c.from_residual.ensures.1 in
    rw (p.1, p.2)
    (λ told timed honest other.
    let old = g.D.Disk.state c.args.disk.now in
    moments_synced (file Left old.now) old (g.D.Disk.state c.load.new.disk)
    (c.load.ensures.synced_time told timed honest (log_stands c.in_err-log.field-0.0 c.load.result c.in_err-log.was (λ result is failed. other (sym is ∙ failed)))))

pub returns-in_err-contents-in-Live-clause-synced : goal.returns-in_err-contents-in-Live-clause-synced
returns-in_err-contents-in-Live-clause-synced g c = λ told timed honest other.
    let old = g.D.Disk.state c.args.disk.now in
    moments_synced (file Left old.now) old (g.D.Disk.state c.load.new.disk) (c.load.ensures.synced_time told timed honest (λ same. cc c.in_ok-log.was))

pub returns-in_ok-contents-in-Live-clause-synced : goal.returns-in_ok-contents-in-Live-clause-synced
returns-in_ok-contents-in-Live-clause-synced g c = λ told timed honest other.
    let old = g.D.Disk.state c.args.disk.now in
    moments_synced (file Left old.now) old (g.D.Disk.state c.load.new.disk) (c.load.ensures.synced_time told timed honest (λ same. cc c.in_ok-log.was))

pub returns-in_err-log-in-Shut-clause-synced : goal.returns-in_err-log-in-Shut-clause-synced
returns-in_err-log-in-Shut-clause-synced g c = λ told timed honest other.
    let old = g.D.Disk.state c.args.disk.now in
    let sync = c.in_ok-log.ensures.synced told in
    moments_synced_on (file Left old.now) old (g.D.Disk.state c.load.new.disk) (g.D.Disk.state c.begin.new.disk) sync.no_more (sync.durable honest)
    (c.load.ensures.synced_time told timed honest (λ same. cc c.in_ok-log.was)) (c.begin.ensures.by_moment told timed (sync.honesty.0 honest))

pub returns-in_ok-log-in-Shut-clause-synced : goal.returns-in_ok-log-in-Shut-clause-synced
returns-in_ok-log-in-Shut-clause-synced g c = λ told timed honest other.
    let old = g.D.Disk.state c.args.disk.now in
    let sync = c.in_ok-log.ensures.synced told in
    moments_synced_on (file Left old.now) old (g.D.Disk.state c.load.new.disk) (g.D.Disk.state c.begin.new.disk) sync.no_more (sync.durable honest)
    (c.load.ensures.synced_time told timed honest (λ same. cc c.in_ok-log.was)) (c.begin.ensures.by_moment told timed (sync.honesty.0 honest))

-- ---- what payloads lead to, and where the log ends

pub returns-in_ok-contents-in-Live-clause-reached : goal.returns-in_ok-contents-in-Live-clause-reached
returns-in_ok-contents-in-Live-clause-reached g c = record { bodies = c.in-Live.bodies; leads = c.in_ok-contents-in-Live.ensures }

pub returns-in_ok-log-in-Shut-clause-reached : goal.returns-in_ok-log-in-Shut-clause-reached
returns-in_ok-log-in-Shut-clause-reached g c = record { bodies = []; leads = c.new-contents.ensures }

pub returns-in_ok-contents-in-Live-clause-ends : goal.returns-in_ok-contents-in-Live-clause-ends
returns-in_ok-contents-in-Live-clause-ends g c = λ told honest.
    let has = subst (IsFoundIn (file Left (g.D.Disk.state c.args.disk.now).now)) c.in-Live.is (c.in_ok-log.ensures.found told) in
    let ends = subst EndsIfLive c.in-Live.is c.in_ok-log.ensures.end in
    inl (record { epoch = log_epoch c.in-Live.log; bodies = c.in-Live.bodies; contents = has; place = ends.0 })

pub returns-in_ok-log-in-Shut-clause-ends : goal.returns-in_ok-log-in-Shut-clause-ends
returns-in_ok-log-in-Shut-clause-ends g c = λ told honest.
    let found = subst (IsFoundIn (file Left (g.D.Disk.state c.args.disk.now).now)) c.in-Shut.is (c.in_ok-log.ensures.found told) in
    let at_rest = c.in_ok-log-in-Shut.ensures.at_rest told ((c.load.ensures.synced told).honesty.0 honest) in
    inr ((found.0, omega (arith, found.1, c.in_ok-log-in-Shut.ensures.answers.0)), new_log_end c.in_ok-log-in-Shut.log (g.D.Disk.state c.begin.new.disk) at_rest.1)

-- ---- how long the file was

pub returns-in_err-log-clause-small : goal.returns-in_err-log-clause-small
returns-in_err-log-clause-small g c =
    let p = err_from_is_err_and c.from_residual.result c.from_residual.ensures.1 in
    rw (p.1, p.2)
    (λ told other. c.load.ensures.small told (log_stands c.in_err-log.field-0.0 c.load.result c.in_err-log.was (λ result is failed. other (sym is ∙ failed))))

pub returns-in_err-contents-in-Live-clause-small : goal.returns-in_err-contents-in-Live-clause-small
returns-in_err-contents-in-Live-clause-small g c = λ told other. c.load.ensures.small told (λ same. cc c.in_ok-log.was)

pub returns-in_ok-contents-in-Live-clause-small : goal.returns-in_ok-contents-in-Live-clause-small
returns-in_ok-contents-in-Live-clause-small g c = λ told other. c.load.ensures.small told (λ same. cc c.in_ok-log.was)

pub returns-in_err-log-in-Shut-clause-small : goal.returns-in_err-log-in-Shut-clause-small
returns-in_err-log-in-Shut-clause-small g c = λ told other. c.load.ensures.small told (λ same. cc c.in_ok-log.was)

pub returns-in_ok-log-in-Shut-clause-small : goal.returns-in_ok-log-in-Shut-clause-small
returns-in_ok-log-in-Shut-clause-small g c = λ told other. c.load.ensures.small told (λ same. cc c.in_ok-log.was)

-- ---- what is spared

pub returns-in_err-log-in-Shut-clause-spared : goal.returns-in_err-log-in-Shut-clause-spared
returns-in_err-log-in-Shut-clause-spared g c = λ told never.
    let bytes = file Left (g.D.Disk.state c.args.disk.now).now in
    let found = subst (IsFoundIn bytes) c.in-Shut.is (c.in_ok-log.ensures.found told) in
    let still = ⊎_elim (λ longer. c.begin.ensures.long longer) (λ less. c.begin.ensures.short (omega (arith, less, c.load.ensures.room))) (left_alone (g.D.Disk.room c.args.disk.now) c.in-Shut.len bytes found.0 found.1 never) in
    spared g.D.Disk.tells_moments (g.D.Disk.state c.args.disk.now) (g.D.Disk.state c.load.new.disk) (g.D.Disk.state c.begin.new.disk) (c.load.ensures.untouched told) (c.load.ensures.time told) (ap g.D.Disk.state still)

pub returns-in_ok-log-in-Shut-clause-spared : goal.returns-in_ok-log-in-Shut-clause-spared
returns-in_ok-log-in-Shut-clause-spared g c = λ told never.
    let bytes = file Left (g.D.Disk.state c.args.disk.now).now in
    let found = subst (IsFoundIn bytes) c.in-Shut.is (c.in_ok-log.ensures.found told) in
    let answers = c.in_ok-log-in-Shut.ensures.answers in
    absurd (never ((found.0, omega (arith, found.1, answers.0)), omega (arith, answers.1, c.load.ensures.room)))

-- ---- a live log keeps its number

pub returns-in_ok-contents-in-Live-clause-same_epoch : goal.returns-in_ok-contents-in-Live-clause-same_epoch
returns-in_ok-contents-in-Live-clause-same_epoch g c = λ told epoch small live.
    let bytes = file Left (g.D.Disk.state c.args.disk.now).now in
    let has = subst (IsFoundIn bytes) c.in-Live.is (c.in_ok-log.ensures.found told) in
    let of = subst (IsOfIfLive Left) c.in-Live.is c.in_ok-log.ensures.of in
    one_epoch (log_epoch c.in-Live.log) epoch bytes of.1 small (bodies_live (log_epoch c.in-Live.log) c.in-Live.bodies bytes has) live

pub returns-in_ok-log-in-Shut-clause-same_epoch : goal.returns-in_ok-log-in-Shut-clause-same_epoch
returns-in_ok-log-in-Shut-clause-same_epoch g c = λ told epoch small live.
    let found = subst (IsFoundIn (file Left (g.D.Disk.state c.args.disk.now).now)) c.in-Shut.is (c.in_ok-log.ensures.found told) in
    absurd (found.0 epoch live)
