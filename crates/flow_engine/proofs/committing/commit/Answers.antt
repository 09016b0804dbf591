use Rattle.std.proofs.Common.{◌≡◌, Err, refl}
use Rattle.pair_store.specs.declared.ends.CommitEnd.TheVariants as commit
use Rattle.pair_store.specs.Store.{store_state}
use Rattle.flow_engine.specs.declared.ends.End.TheVariants.{Full, Memory, VersionFull}
use Rattle.flow_engine.proofs.CommitLemmas.{failed, refused}
use Rattle.flow_engine.proofs.committing.commit.Goals as goal

pub returns-in-Err-Failed-clause-commits : goal.returns-in-Err-Failed-clause-commits
returns-in-Err-Failed-clause-commits g c = λ told honest.
    let a = c.args in
    let is : c.commit.result ≡ Err (commit.Failed c.in-Err-Failed.count) = cc (c.in-Err-Failed.is, c.in-Err-Failed.field-0-is) in
    failed g.D.Disk.tells_moments (g.D.Disk.room a.disk.now) a.payload a.store.now c.commit.new.self c.commit.result (g.D.Disk.state a.disk.now) (g.D.Disk.state c.commit.new.disk)
    (c.a_commit_leaves_a_trail.ensures.tried 2 (store_state a.store.now) a.payload c.commit.result a.store.now c.commit.new.self a.disk.now c.commit.new.disk
    (c.nothing_tried_leaves_a_trail.ensures.at_rest a.store.now a.disk.now (c.requires.at_rest told)) (c.commit.ensures.commits told honest c.requires.whole)
    (λ timed. c.commit.ensures.by_gate told timed honest c.requires.whole) c.commit.ensures.early)
    c.in-Err-Failed.count is

pub returns-in-Err-Full-clause-commits : goal.returns-in-Err-Full-clause-commits
returns-in-Err-Full-clause-commits g c = λ told honest.
    let a = c.args in
    let end = commit.Full c.in-Err-Full.end c.in-Err-Full.room in
    let is : c.commit.result ≡ Err (commit.Full c.in-Err-Full.end c.in-Err-Full.room) = cc (c.in-Err-Full.is, c.in-Err-Full.field-0-is) in
    refused g.D.Disk.tells_moments (g.D.Disk.room a.disk.now) a.payload a.store.now c.commit.new.self c.commit.result (g.D.Disk.state a.disk.now) (g.D.Disk.state c.commit.new.disk)
    (c.a_commit_leaves_a_trail.ensures.tried 2 (store_state a.store.now) a.payload c.commit.result a.store.now c.commit.new.self a.disk.now c.commit.new.disk
    (c.nothing_tried_leaves_a_trail.ensures.at_rest a.store.now a.disk.now (c.requires.at_rest told)) (c.commit.ensures.commits told honest c.requires.whole)
    (λ timed. c.commit.ensures.by_gate told timed honest c.requires.whole) c.commit.ensures.early)
    end (Full c.in-Err-Full.end c.in-Err-Full.room) is refl refl

pub returns-in-Err-VersionFull-clause-commits : goal.returns-in-Err-VersionFull-clause-commits
returns-in-Err-VersionFull-clause-commits g c = λ told honest.
    let a = c.args in
    let is : c.commit.result ≡ Err (commit.VersionFull c.in-Err-VersionFull.name) = cc (c.in-Err-VersionFull.is, c.in-Err-VersionFull.field-0-is) in
    refused g.D.Disk.tells_moments (g.D.Disk.room a.disk.now) a.payload a.store.now c.commit.new.self c.commit.result (g.D.Disk.state a.disk.now) (g.D.Disk.state c.commit.new.disk)
    (c.a_commit_leaves_a_trail.ensures.tried 2 (store_state a.store.now) a.payload c.commit.result a.store.now c.commit.new.self a.disk.now c.commit.new.disk
    (c.nothing_tried_leaves_a_trail.ensures.at_rest a.store.now a.disk.now (c.requires.at_rest told)) (c.commit.ensures.commits told honest c.requires.whole)
    (λ timed. c.commit.ensures.by_gate told timed honest c.requires.whole) c.commit.ensures.early)
    (commit.VersionFull c.in-Err-VersionFull.name) (VersionFull c.in-Err-VersionFull.name) is refl refl

pub returns-in-Err-Memory-clause-commits : goal.returns-in-Err-Memory-clause-commits
returns-in-Err-Memory-clause-commits g c = λ told honest.
    let a = c.args in
    let is : c.commit.result ≡ Err commit.Memory = cc (c.in-Err-Memory.is, c.in-Err-Memory.field-0-is) in
    refused g.D.Disk.tells_moments (g.D.Disk.room a.disk.now) a.payload a.store.now c.commit.new.self c.commit.result (g.D.Disk.state a.disk.now) (g.D.Disk.state c.commit.new.disk)
    (c.a_commit_leaves_a_trail.ensures.tried 2 (store_state a.store.now) a.payload c.commit.result a.store.now c.commit.new.self a.disk.now c.commit.new.disk
    (c.nothing_tried_leaves_a_trail.ensures.at_rest a.store.now a.disk.now (c.requires.at_rest told)) (c.commit.ensures.commits told honest c.requires.whole)
    (λ timed. c.commit.ensures.by_gate told timed honest c.requires.whole) c.commit.ensures.early)
    commit.Memory Memory is refl refl
