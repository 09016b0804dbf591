use Rattle.std.proofs.Common.{◌≡◌, ◌+◌, ◌<◌, IsOk, vec_len, vec_capacity, sym, ◌∙◌, arith, None}
use Rattle.landing_core.specs.Folders.{found_file}
use Rattle.landing_core.proofs.KeepLemmas.{insert_first, insert_len, taken_ever, taken_distinct, none_taken, present_kept, same_refl}
use Rattle.landing_core.proofs.sure_landing.SureLanding.remove.Goals as goal

pub invariant_of-self : goal.invariant_of-self
invariant_of-self c =
    let self = c.args.self.now in
    let cut : vec_len c.take_away.new.files + 1 ≡ vec_len self.files = c.in-Some.ensures.len in
    let fits : vec_len self.removed < vec_capacity self.removed = omega arith in
    let ok : IsOk c.insert.result = c.insert.ensures.succeeds fits in
    let len : vec_len c.insert.new.self ≡ vec_len self.removed + 1 = insert_len c.insert.result _ _ c.insert.ensures.len ok in
    record {
      distinct = rw c.take_away.ensures.files (taken_distinct c.args.dir.now c.args.file.now self.files.items self.distinct);
      room = omega (arith, c.insert.ensures.capacity);
    }

pub invariant_of-self-in_default : goal.invariant_of-self-in_default
invariant_of-self-in_default c =
    let self = c.args.self.now in
    record {
      distinct = rw c.take_away.ensures.files (taken_distinct c.args.dir.now c.args.file.now self.files.items self.distinct);
      room = omega (arith, c.in_default.ensures.none);
    }

pub returns-in-Some-clause-ever : goal.returns-in-Some-clause-ever
returns-in-Some-clause-ever c =
    let self = c.args.self.now in
    let cut : vec_len c.take_away.new.files + 1 ≡ vec_len self.files = c.in-Some.ensures.len in
    let fits : vec_len self.removed < vec_capacity self.removed = omega arith in
    let put = insert_first c.insert.result c.in-Some.taken self.removed.items c.insert.new.self.items c.insert.ensures.items (c.insert.ensures.succeeds fits) in
    rw (c.take_away.ensures.files, put) (taken_ever c.args.dir.now c.args.file.now c.in-Some.taken self.files.items self.removed.items self.distinct (sym c.in-Some.ensures.found))

pub returns-in-Some-clause-kept : goal.returns-in-Some-clause-kept
returns-in-Some-clause-kept c = present_kept c.take_away.new.files.items c.insert.new.self.items

pub returns-in_default-clause-ever : goal.returns-in_default-clause-ever
returns-in_default-clause-ever c =
    let self = c.args.self.now in
    let none : found_file c.args.dir.now c.args.file.now self.files.items ≡ None = sym c.take_away.ensures.found ∙ c.in_default.is in
    rw (c.take_away.ensures.files, none_taken c.args.dir.now c.args.file.now self.files.items none) (same_refl _)

pub returns-in_default-clause-kept : goal.returns-in_default-clause-kept
returns-in_default-clause-kept c = present_kept c.take_away.new.files.items c.args.self.now.removed.items
