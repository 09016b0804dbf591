use Rattle.std.proofs.Common.{inl, refl, subst, arith}
use Rattle.disk_model.specs.declared.disk.Side.TheVariants.{Left, Right}
use Rattle.disk_model.specs.Disk.{file}
use Rattle.commit_gate.specs.Found.{IsFoundIn, IsOfIfLive, RestsIfLive, EndsIfLive}
use Rattle.log_pair.specs.declared.pair.Pair.{Pair}
use Rattle.log_pair.proofs.ReadLemmas.{read_holds, read_rests}
use Rattle.log_pair.proofs.load.read.Goals as goal

pub returns-in-Ok-Live-clause-answers : goal.returns-in-Ok-Live-clause-answers
returns-in-Ok-Live-clause-answers g c = λ told.
    let newest = c.requires.newest told in
    let of = subst (IsOfIfLive c.args.side) c.in-Ok-Live.field-0-is c.in-Ok-Live.ensures.of in
    let found = subst (IsFoundIn (file c.args.side (g.D.Disk.state c.args.disk.now).now)) c.in-Ok-Live.field-0-is (c.in-Ok-Live.ensures.found told) in
    inl (read_holds c.args.side newest.0 c.in-Ok-Live.log c.in-Ok-Live.bodies (g.D.Disk.state c.args.disk.now).now newest.1 found of.0 of.1)

pub returns-in-Ok-Live-clause-at_rest : goal.returns-in-Ok-Live-clause-at_rest
returns-in-Ok-Live-clause-at_rest g c = λ told honest.
    let newest = c.requires.newest told in
    let of = subst (IsOfIfLive c.args.side) c.in-Ok-Live.field-0-is c.in-Ok-Live.ensures.of in
    let found = subst (IsFoundIn (file c.args.side (g.D.Disk.state c.args.disk.now).now)) c.in-Ok-Live.field-0-is (c.in-Ok-Live.ensures.found told) in
    let on = c.requires.on_disk told honest in
    let sync = c.load.ensures.synced told in
    let old = g.D.Disk.state c.args.disk.now in
    let pair : Pair = record { log = c.in-Ok-Live.log } in
    read_rests c.args.side newest.0 c.in-Ok-Live.log c.in-Ok-Live.bodies old.now newest.1 found of.0 of.1 pair refl old (g.D.Disk.state c.load.new.disk) refl sync.same sync.no_more on.0 on.1 (subst (RestsIfLive c.args.side (g.D.Disk.state c.load.new.disk)) c.in-Ok-Live.field-0-is (c.in-Ok-Live.ensures.at_rest told honest)).1

pub returns-in-Ok-Shut-clause-answers : goal.returns-in-Ok-Shut-clause-answers
returns-in-Ok-Shut-clause-answers g c = λ told.
    let newest = c.requires.newest told in
    absurd ((subst (IsFoundIn (file c.args.side (g.D.Disk.state c.args.disk.now).now)) c.in-Ok-Shut.field-0-is (c.in-Ok-Shut.ensures.found told)).0 newest.0 newest.1.live)

pub returns-in-Ok-Live-clause-short : goal.returns-in-Ok-Live-clause-short
returns-in-Ok-Live-clause-short g c =
    let end = subst EndsIfLive c.in-Ok-Live.field-0-is c.in-Ok-Live.ensures.end in
    omega (arith, end.0, end.1)
