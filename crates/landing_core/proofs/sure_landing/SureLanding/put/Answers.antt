use Rattle.std.proofs.Common.{◌≡◌, true, ◌∙◌, arith}
use Rattle.landing_core.specs.Folders.{are_distinct, with_file}
use Rattle.landing_core.proofs.KeepLemmas.{after_set, ever_set, present_kept, set_distinct}
use Rattle.landing_core.proofs.sure_landing.SureLanding.put.Goals as goal

pub returns-in_err-from_slice-clause-kept : goal.returns-in_err-from_slice-clause-kept
returns-in_err-from_slice-clause-kept c = present_kept c.args.self.now.files.items c.args.self.now.removed.items

pub returns-in_err-reserve-clause-kept : goal.returns-in_err-reserve-clause-kept
returns-in_err-reserve-clause-kept c = present_kept c.args.self.now.files.items c.reserve.new.self.items

pub invariant_of-self-2 : goal.invariant_of-self-2
invariant_of-self-2 c =
    let files = c.args.self.now.files.items in
    let put = with_file c.args.dir.now c.args.file.now c.from_vec-bytes.result files in
    record {
      distinct = after_set (λ kept. are_distinct kept ≡ true) c.set_file.result c.set_file.new.files.items put files c.set_file.ensures.ok c.set_file.ensures.err (set_distinct c.args.dir.now c.args.file.now c.from_vec-bytes.result files c.args.self.now.distinct) c.args.self.now.distinct;
      room = omega (arith, c.set_file.ensures.len, c.in_ok-reserve.ensures.ok, c.reserve.ensures.len, c.len.ensures);
    }

pub returns-clause-ever : goal.returns-clause-ever
returns-clause-ever c =
    let is : c.from_vec-bytes.result ≡ c.args.bytes.now = c.from_vec-bytes.ensures ∙ c.in_ok-from_slice.ensures.items in
    rw (← is) (ever_set c.set_file.result c.args.dir.now c.args.file.now c.from_vec-bytes.result c.set_file.new.files.items c.args.self.now.files.items c.args.self.now.removed.items c.reserve.new.self.items c.set_file.ensures.ok c.reserve.ensures.items)

pub returns-clause-kept : goal.returns-clause-kept
returns-clause-kept c = present_kept c.set_file.new.files.items c.reserve.new.self.items
