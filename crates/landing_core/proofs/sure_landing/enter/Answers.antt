use Rattle.std.proofs.Common.{◌≡◌, ◌∙◌, arith}
use Rattle.std.specs.declared.cmp.Ordering.TheVariants.{Less, Equal}
use Rattle.std.specs.Ordering.{nat_cmp}
use Rattle.std.specs.Cmp.Lexicographic.{slice_cmp}
use Rattle.landing_core.proofs.EntryLemmas.{enter_less, enter_equal}
use Rattle.landing_core.proofs.sure_landing.enter.Goals as goal

pub returns-in-Less : goal.returns-in-Less
returns-in-Less c =
    let below : slice_cmp nat_cmp c.args.listed.file c.index.result.now.file ≡ Less = let e = c.in-Less.ensures in cc in
    (c.in_ok-insert-in-Less.ensures).items ∙ enter_less c.args.listed c.index.result.now c.loop-i.listing.items _ c.loop-i.i (omega arith) c.index.ensures below c.loop-i.invariant

pub returns-in-Equal : goal.returns-in-Equal
returns-in-Equal c =
    let same : slice_cmp nat_cmp c.args.listed.file c.index.result.now.file ≡ Equal = let e = c.in-Equal.ensures in cc in
    enter_equal c.args.listed c.index.result.now c.loop-i.listing.items _ c.loop-i.i (omega arith) c.index.ensures same c.loop-i.invariant
