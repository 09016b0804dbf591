use Rattle.std.proofs.Common.{◌≡◌, ◌<◌, None, length, subst, ap, arith}
use Rattle.std.specs.Prelude.{find}
use Rattle.state_model.specs.Dataset.{is_defined}
use Rattle.store_tables.specs.Undo.{unrefreshed}
use Rattle.store_tables.specs.Places.{IsFirst}
use Rattle.store_tables.proofs.FirstLemmas.{item-at}
use Rattle.store_tables.proofs.PartLemmas.{updated-none, updated-at}
use Rattle.store_tables.proofs.contents.Contents.unrefresh.Goals as goal

pub returns-in_default : goal.returns-in_default
returns-in_default c =
    let none : find (is_defined c.args.view.now) c.self.inside.definitions ≡ None = rw (← c.as_slice.ensures) c.in_default.ensures.first in
    rw (← c.self.view_is) (updated-none c.args.view.now (unrefreshed c.args.cursors.items c.args.counts) c.self.inside.definitions c.self.inside.parts.items none)

pub returns : goal.returns
returns c =
    let name = c.args.view.now in
    let list = c.self.inside.definitions in
    let first : IsFirst (is_defined name) list c.in-Some.place = subst (λ xs. IsFirst (is_defined name) xs c.in-Some.place) c.as_slice.ensures c.in-Some.ensures.first in
    let below : c.in-Some.place < length c.self.inside.parts.items = omega (arith, c.self.invariant.long, ap length c.as_slice.ensures, c.in-Some.ensures.within) in
    let item = item-at list c.in-Some.place (omega (arith, ap length c.as_slice.ensures, c.in-Some.ensures.within)) in
    rw (← c.self.view_is)
    (updated-at name (unrefreshed c.args.cursors.items c.args.counts) list c.self.inside.parts.items c.in-Some.place item.0 c.index_mut.result.now c.unrefresh.new.self first below item.1 c.index_mut.ensures.value (c.unrefresh.ensures item.0))
