use Rattle.std.proofs.Common.{◌≡◌, ◌++◌}
use Rattle.landing_core.specs.Folders.{bytes_of}
use Rattle.landing_core.proofs.KeepLemmas.{present_kept}
use Rattle.landing_core.proofs.sure_landing.SureLanding.grow.Goals as goal

pub returns-in_err-whole-clause-kept : goal.returns-in_err-whole-clause-kept
returns-in_err-whole-clause-kept c = present_kept c.args.self.now.files.items c.args.self.now.removed.items

pub returns-in_err-extend_from_slice-clause-kept : goal.returns-in_err-extend_from_slice-clause-kept
returns-in_err-extend_from_slice-clause-kept c = present_kept c.args.self.now.files.items c.args.self.now.removed.items

pub returns-clause-ever : goal.returns-clause-ever
returns-clause-ever c =
    let is : c.as_slice-2.result.now ≡ bytes_of c.args.dir.now c.args.file.now c.args.self.now.files.items ++ c.args.bytes.now = cc (c.in_ok-extend_from_slice.ensures.items, c.in_ok-whole.ensures.items) in
    rw (← is) c.put.ensures.ever
