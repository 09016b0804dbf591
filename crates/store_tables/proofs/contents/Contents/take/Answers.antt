use Rattle.std.proofs.Common.{◌≡◌, ◌<◌, ◌^◌, Some, None, length, set, subst, ap, ◌∙◌, arith}
use Rattle.std.specs.Prelude.{find, IfSome, IsSomeAnd}
use Rattle.state_model.specs.Dataset.{dataset_of, is_defined, version_of}
use Rattle.state_model.specs.After.{taken, updated}
use Rattle.state_model.specs.Follows.{FitsTake}
use Rattle.store_tables.specs.Parts.{joined, side_by_side}
use Rattle.store_tables.specs.Places.{IsFirst}
use Rattle.store_tables.specs.Undo.{undone}
use Rattle.store_tables.proofs.PartLemmas.{none-found, found-at, updated-at}
use Rattle.store_tables.proofs.TakeLemmas.{gives-back, has-cursor}
use Rattle.store_tables.proofs.contents.Contents.take.Goals as goal

pub unreachable-requires : goal.unreachable-requires
unreachable-requires c =
    let none : find (is_defined c.args.batch.table) c.self.inside.definitions ≡ None = rw (← c.as_slice.ensures) c.in_default.ensures.first in
    let missing : dataset_of c.args.self.now c.args.batch.table ≡ None = rw (← c.self.view_is) (none-found c.args.batch.table c.self.inside.definitions c.self.inside.parts.items none) in
    subst (λ o. IsSomeAnd o (FitsTake c.args.self.now c.args.batch)) missing c.requires.fits

-- the table of the batch, and that the batch fits it
found : (c : goal.After-index_mut) → dataset_of c.args.self.now c.args.batch.table ≡ Some (joined c.index-as_slice-place.result c.index_mut.result.now)
found c =
    let name = c.args.batch.table in
    let list = c.self.inside.definitions in
    let first : IsFirst (is_defined name) list c.in-Some.place = subst (λ xs. IsFirst (is_defined name) xs c.in-Some.place) c.as_slice.ensures c.in-Some.ensures.first in
    let below : c.in-Some.place < length c.self.inside.parts.items = omega (arith, c.self.invariant.long, ap length c.as_slice.ensures, c.in-Some.ensures.within) in
    rw (← c.self.view_is)
    (found-at name list c.self.inside.parts.items c.in-Some.place c.index-as_slice-place.result c.index_mut.result.now first below (rw (← c.as_slice-2.ensures) c.index-as_slice-place.is) c.index_mut.ensures.value)

there : (c : goal.After-index_mut) → FitsTake c.args.self.now c.args.batch (joined c.index-as_slice-place.result c.index_mut.result.now)
there c = subst (λ o. IsSomeAnd o (FitsTake c.args.self.now c.args.batch)) (found c) c.requires.fits

pub take-requires-clause-form : goal.take-requires-clause-form
take-requires-clause-form c = c.requires.form.1

pub take-requires-clause-there : goal.take-requires-clause-there
take-requires-clause-there c = (there c).table.are_there

pub take-requires-clause-limit : goal.take-requires-clause-limit
take-requires-clause-limit c = subst (λ o. IfSome o (λ dataset. version_of dataset < 2 ^ 62)) (found c) c.requires.versions

pub take-requires-clause-counts : goal.take-requires-clause-counts
take-requires-clause-counts c = (there c).table.within

pub take-requires-clause-flow : goal.take-requires-clause-flow
take-requires-clause-flow c = has-cursor _ _ _ _ (there c).moves

result-is : (c : goal.In_ok-undo) → side_by_side c.self.inside.definitions (set c.self.inside.parts.items c.in-Some.place c.take.new.self) ≡ updated c.args.batch.table (taken c.args.batch) c.args.self.now
result-is c =
    let name = c.args.batch.table in
    let list = c.self.inside.definitions in
    let first : IsFirst (is_defined name) list c.in-Some.place = subst (λ xs. IsFirst (is_defined name) xs c.in-Some.place) c.as_slice.ensures c.in-Some.ensures.first in
    let below : c.in-Some.place < length c.self.inside.parts.items = omega (arith, c.self.invariant.long, ap length c.as_slice.ensures, c.in-Some.ensures.within) in
    rw (← c.self.view_is)
    (updated-at name (taken c.args.batch) list c.self.inside.parts.items c.in-Some.place c.index-as_slice-place.result c.index_mut.result.now c.take.new.self first below (rw (← c.as_slice-2.ensures) c.index-as_slice-place.is) c.index_mut.ensures.value c.in_ok-undo.ensures.taken)

pub returns-clause-ok : goal.returns-clause-ok
returns-clause-ok c = result-is c

pub returns-clause-back : goal.returns-clause-back
returns-clause-back c =
    let name = c.args.batch.table in
    let list = c.self.inside.definitions in
    let first : IsFirst (is_defined name) list c.in-Some.place = subst (λ xs. IsFirst (is_defined name) xs c.in-Some.place) c.as_slice.ensures c.in-Some.ensures.first in
    let below : c.in-Some.place < length c.self.inside.parts.items = omega (arith, c.self.invariant.long, ap length c.as_slice.ensures, c.in-Some.ensures.within) in
    let is : dataset_of c.args.self.now name ≡ Some (joined c.index-as_slice-place.result c.index_mut.result.now) =
    rw (← c.self.view_is)
    (found-at name list c.self.inside.parts.items c.in-Some.place c.index-as_slice-place.result c.index_mut.result.now first below (rw (← c.as_slice-2.ensures) c.index-as_slice-place.is) c.index_mut.ensures.value)
    in
    ap (λ state. undone state c.in_ok-undo.undo) (result-is c)
    ∙ gives-back c.args.self.now c.args.batch (joined c.index-as_slice-place.result c.index_mut.result.now) c.in_ok-undo.undo is c.in_ok-undo.ensures.back
