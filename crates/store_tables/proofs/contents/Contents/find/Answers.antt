use Rattle.std.proofs.Common.{◌≡◌, ◌<◌, length, ap, subst, arith, None}
use Rattle.std.specs.Prelude.{find}
use Rattle.state_model.specs.Dataset.{is_defined}
use Rattle.store_tables.specs.Places.{IsFirst}
use Rattle.store_tables.proofs.PartLemmas.{none-found, found-at}
use Rattle.store_tables.proofs.contents.Contents.find.Goals as goal

pub returns-in_default : goal.returns-in_default
returns-in_default c =
    let none : find (is_defined c.args.name.now) c.self.inside.definitions ≡ None = rw (← c.as_slice.ensures) c.in_default.ensures.first in
    rw (← c.self.view_is) (none-found c.args.name.now c.self.inside.definitions c.self.inside.parts.items none)

pub index-requires : goal.index-requires
index-requires c = omega (arith, c.self.invariant.long, ap length c.as_slice.ensures, c.in-Some.ensures.within)

pub returns : goal.returns
returns c =
    let name = c.args.name.now in
    let list = c.self.inside.definitions in
    let parts = c.self.inside.parts.items in
    let first : IsFirst (is_defined name) list c.in-Some.place = subst (λ xs. IsFirst (is_defined name) xs c.in-Some.place) c.as_slice.ensures c.in-Some.ensures.first in
    let below : c.in-Some.place < length parts = omega (arith, c.self.invariant.long, ap length c.as_slice.ensures, c.in-Some.ensures.within) in
    rw (← c.self.view_is) (found-at name list parts c.in-Some.place c.index-as_slice-place.result c.index.result.now first below (rw (← c.as_slice-2.ensures) c.index-as_slice-place.is) c.index.ensures)
