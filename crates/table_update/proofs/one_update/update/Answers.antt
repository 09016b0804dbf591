use Rattle.std.specs.Option.{option_copied}
use Rattle.std.proofs.Common.{refl, sym, ◌∙◌, subst}
use Rattle.disk_model.specs.declared.disk.Side.TheVariants.{Left}
use Rattle.disk_model.specs.Disk.{file}
use Rattle.store_core.specs.Store.{store_log}
use Rattle.store_core.proofs.SparedLemmas.{loaded_not_refused, log_spared, log_within, refused_spared, spared_goes_on}
use Rattle.commit_gate.specs.AtRest.{log_end}
use Rattle.table_update.specs.declared.end.UpdateEnd.{UpdateEnd}
use Rattle.table_update.specs.Crash.{Updated}
use Rattle.table_update.proofs.StandingLemmas.{keeps_standing}
use Rattle.table_update.proofs.SparedLemmas.{loaded_goes_on, refused_file}
use Rattle.table_update.proofs.UpdateLemmas.{found_on, load_never_stops, updated_loaded, updated_refused}
use Rattle.table_update.proofs.one_update.update.Goals as goal

-- ---- the store was loaded

pub returns-in-Ok-clause-updated : goal.returns-in-Ok-clause-updated
returns-in-Ok-clause-updated g c = λ told landed.
    let honest = c.requires.honest told in
    let loads = c.in-Ok.ensures.loads told honest in
    let mid_honest = loads.honesty.0 honest in
    updated_loaded g.D.Disk.tells_moments (option_copied c.args.table) (g.L.Landing.present c.args.landing.now) (g.D.Disk.room c.args.disk.now) (g.D.Disk.state c.args.disk.now) c.in-Ok.store
    (c.in-Ok.ensures.answers told) (c.in-Ok.ensures.ends told honest) (c.in-Ok.ensures.small told (λ same. cc same))
    c.go_on.result c.go_on.new.store (g.D.Disk.state c.load.new.disk) (g.D.Disk.state c.go_on.new.disk) (g.D.Disk.room c.load.new.disk) c.load.ensures.room loads
    (λ timed. c.in-Ok.ensures.synced told timed honest (λ same. cc same)) (c.go_on.ensures.ran told landed mid_honest) (c.go_on.ensures.honest told mid_honest)

pub returns-in-Ok-clause-ours : goal.returns-in-Ok-clause-ours
returns-in-Ok-clause-ours g c = λ told ours.
    let honest = c.requires.honest told in
    c.go_on.ensures.ours told ((c.in-Ok.ensures.loads told honest).honesty.0 honest) (c.in-Ok.ensures.ours told honest ours)

pub returns-in-Ok-clause-stands : goal.returns-in-Ok-clause-stands
returns-in-Ok-clause-stands g c = λ told landed held asked is standing.
    keeps_standing g.D.Disk.tells_moments (option_copied c.args.table) asked (found_on (g.D.Disk.state c.args.disk.now) (g.D.Disk.room c.args.disk.now) (g.L.Landing.present c.args.landing.now)) c.go_on.result
    (g.D.Disk.state c.args.disk.now) (g.D.Disk.state c.go_on.new.disk) (g.L.Landing.ever c.args.landing.now) is (returns-in-Ok-clause-updated g c told landed) held (c.requires.honest told) refl standing

-- ---- it was refused

pub returns-in-Err-clause-updated : goal.returns-in-Err-clause-updated
returns-in-Err-clause-updated g c = λ told landed.
    let honest = c.requires.honest told in
    let old = g.D.Disk.state c.args.disk.now in
    let new = g.D.Disk.state c.load.new.disk in
    let room = g.D.Disk.room c.args.disk.now in
    let files = g.L.Landing.present c.args.landing.now in
    subst (λ (end : UpdateEnd). Updated g.D.Disk.tells_moments (option_copied c.args.table) (found_on old room files) end old new) (sym c.end_of_load.ensures)
    (updated_refused g.D.Disk.tells_moments (option_copied c.args.table) files room old new (c.in-Err.ensures.loads told honest) c.in-Err.refusal
    (c.in-Err.ensures.answers told) (c.in-Err.ensures.small told) (λ timed. c.in-Err.ensures.by_moment told timed honest) (λ timed stood. c.in-Err.ensures.synced told timed honest stood))

pub returns-in-Err-clause-stands : goal.returns-in-Err-clause-stands
returns-in-Err-clause-stands g c = λ told landed held asked is standing.
    keeps_standing g.D.Disk.tells_moments (option_copied c.args.table) asked (found_on (g.D.Disk.state c.args.disk.now) (g.D.Disk.room c.args.disk.now) (g.L.Landing.present c.args.landing.now)) c.end_of_load.result
    (g.D.Disk.state c.args.disk.now) (g.D.Disk.state c.load.new.disk) (g.L.Landing.ever c.args.landing.now) is (returns-in-Err-clause-updated g c told landed) held (c.requires.honest told) refl standing

-- ---- what is left alone

pub returns-in-Ok-clause-spared : goal.returns-in-Ok-clause-spared
returns-in-Ok-clause-spared g c = λ told is.
    absurd (loaded_not_refused (g.D.Disk.room c.args.disk.now) (file Left (g.D.Disk.state c.args.disk.now).now) c.in-Ok.store (c.in-Ok.ensures.answers told) (c.in-Ok.ensures.small told (λ same. cc same)) is)

pub returns-in-Err-clause-spared : goal.returns-in-Err-clause-spared
returns-in-Err-clause-spared g c = λ told is.
    c.load.ensures.spared told (refused_spared (g.D.Disk.room c.args.disk.now) (file Left (g.D.Disk.state c.args.disk.now).now) is)

pub returns-in-Ok-clause-refused : goal.returns-in-Ok-clause-refused
returns-in-Ok-clause-refused g c = λ told landed is.
    let ended = returns-in-Ok-clause-updated g c told landed in
    returns-in-Ok-clause-spared g c told (refused_file (option_copied c.args.table) (found_on (g.D.Disk.state c.args.disk.now) (g.D.Disk.room c.args.disk.now) (g.L.Landing.present c.args.landing.now)) ended.loaded ended.acked ended.tried c.go_on.result ended.updates is)

pub returns-in-Err-clause-refused : goal.returns-in-Err-clause-refused
returns-in-Err-clause-refused g c = λ told landed is.
    let ended = returns-in-Err-clause-updated g c told landed in
    returns-in-Err-clause-spared g c told (refused_file (option_copied c.args.table) (found_on (g.D.Disk.state c.args.disk.now) (g.D.Disk.room c.args.disk.now) (g.L.Landing.present c.args.landing.now)) ended.loaded ended.acked ended.tried c.end_of_load.result ended.updates is)

pub returns-in-Ok-clause-goes_on : goal.returns-in-Ok-clause-goes_on
returns-in-Ok-clause-goes_on g c = λ told at log.
    let honest = c.requires.honest told in
    let old = g.D.Disk.state c.args.disk.now in
    loaded_goes_on g.D.Disk.tells_moments at (log_end (store_log c.in-Ok.store)) old (g.D.Disk.state c.load.new.disk) (g.D.Disk.state c.go_on.new.disk) log (c.in-Ok.ensures.ends told honest) (c.in-Ok.ensures.small told (λ same. cc same))
    (c.in-Ok.ensures.spared told (log_spared (g.D.Disk.room c.args.disk.now) at (file Left old.now) log)) (c.go_on.ensures.goes_on told ((c.in-Ok.ensures.loads told honest).honesty.0 honest))

pub returns-in-Err-clause-goes_on : goal.returns-in-Err-clause-goes_on
returns-in-Err-clause-goes_on g c = λ told at log.
    let old = g.D.Disk.state c.args.disk.now in
    spared_goes_on g.D.Disk.tells_moments at old (g.D.Disk.state c.load.new.disk) (log_within at (file Left old.now) log) (c.load.ensures.spared told (log_spared (g.D.Disk.room c.args.disk.now) at (file Left old.now) log))

-- ---- which end stops no flow

pub returns-in-Err-clause-shrunk_of : goal.returns-in-Err-clause-shrunk_of
returns-in-Err-clause-shrunk_of g c = λ name cursor size is. absurd (load_never_stops c.in-Err.refusal name cursor size (sym c.end_of_load.ensures ∙ is))
