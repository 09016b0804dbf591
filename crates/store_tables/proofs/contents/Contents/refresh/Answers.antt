use Rattle.std.proofs.Common.{◌≡◌, ◌<◌, ◌^◌, Some, None, length, get_or, set, subst, ap, ◌∙◌, arith}
use Rattle.std.specs.Prelude.{find, IfSome, IsSomeAnd}
use Rattle.commit_payloads.specs.declared.definition.Definition.{Definition}
use Rattle.state_model.specs.Dataset.{State, dataset_of, is_defined, version_of}
use Rattle.state_model.specs.After.{refreshed, updated}
use Rattle.state_model.specs.Follows.{FitsRefresh}
use Rattle.store_tables.specs.Parts.{joined, side_by_side}
use Rattle.store_tables.specs.Places.{IsFirst}
use Rattle.store_tables.specs.Undo.{undone}
use Rattle.store_tables.proofs.FirstLemmas.{item-at}
use Rattle.store_tables.proofs.PartLemmas.{none-found, found-at, updated-at}
use Rattle.store_tables.proofs.TakeLemmas.{gives-view-back}
use Rattle.store_tables.proofs.contents.Contents.refresh.Goals as goal

pub unreachable-requires : goal.unreachable-requires
unreachable-requires c =
    let none : find (is_defined c.args.refresh.view) c.self.inside.definitions ≡ None = rw (← c.as_slice.ensures) c.in_default.ensures.first in
    let missing : dataset_of c.args.self.now c.args.refresh.view ≡ None = rw (← c.self.view_is) (none-found c.args.refresh.view c.self.inside.definitions c.self.inside.parts.items none) in
    subst (λ o. IsSomeAnd o (FitsRefresh c.args.self.now c.args.refresh)) missing c.requires.fits

-- the view, and that the refresh fits it
there : (c : goal.After-index_mut) → (d : Definition) × FitsRefresh c.args.self.now c.args.refresh (joined d c.index_mut.result.now) × IfSome (Some (joined d c.index_mut.result.now)) (λ dataset. version_of dataset < 2 ^ 62)
there c =
    let name = c.args.refresh.view in
    let list = c.self.inside.definitions in
    let first : IsFirst (is_defined name) list c.in-Some.place = subst (λ xs. IsFirst (is_defined name) xs c.in-Some.place) c.as_slice.ensures c.in-Some.ensures.first in
    let below : c.in-Some.place < length c.self.inside.parts.items = omega (arith, c.self.invariant.long, ap length c.as_slice.ensures, c.in-Some.ensures.within) in
    let item = item-at list c.in-Some.place (omega (arith, ap length c.as_slice.ensures, c.in-Some.ensures.within)) in
    let at : dataset_of (side_by_side list c.self.inside.parts.items) name ≡ Some (joined item.0 c.index_mut.result.now) = found-at name list c.self.inside.parts.items c.in-Some.place item.0 c.index_mut.result.now first below item.1 c.index_mut.ensures.value in
    let found : dataset_of c.args.self.now name ≡ Some (joined item.0 c.index_mut.result.now) = subst (λ (state : State). dataset_of state name ≡ Some (joined item.0 c.index_mut.result.now)) c.self.view_is at in
    (item.0, subst (λ o. IsSomeAnd o (FitsRefresh c.args.self.now c.args.refresh)) found c.requires.fits, subst (λ o. IfSome o (λ dataset. version_of dataset < 2 ^ 62)) found c.requires.versions)

pub refresh-requires-clause-form : goal.refresh-requires-clause-form
refresh-requires-clause-form c = c.requires.form.1

pub refresh-requires-clause-there : goal.refresh-requires-clause-there
refresh-requires-clause-there c = (there c).1.are_there

pub refresh-requires-clause-limit : goal.refresh-requires-clause-limit
refresh-requires-clause-limit c = (there c).2

result-is : (c : goal.In_ok-undo) → side_by_side c.self.inside.definitions (set c.self.inside.parts.items c.in-Some.place c.refresh.new.self) ≡ updated c.args.refresh.view (refreshed c.args.refresh) c.args.self.now
result-is c =
    let name = c.args.refresh.view in
    let list = c.self.inside.definitions in
    let first : IsFirst (is_defined name) list c.in-Some.place = subst (λ xs. IsFirst (is_defined name) xs c.in-Some.place) c.as_slice.ensures c.in-Some.ensures.first in
    let below : c.in-Some.place < length c.self.inside.parts.items = omega (arith, c.self.invariant.long, ap length c.as_slice.ensures, c.in-Some.ensures.within) in
    let item = item-at list c.in-Some.place (omega (arith, ap length c.as_slice.ensures, c.in-Some.ensures.within)) in
    updated-at name (refreshed c.args.refresh) list c.self.inside.parts.items c.in-Some.place item.0 c.index_mut.result.now c.refresh.new.self first below item.1 c.index_mut.ensures.value (c.in_ok-undo.ensures.refreshed item.0)
    ∙ ap (updated name (refreshed c.args.refresh)) c.self.view_is

pub returns-clause-ok : goal.returns-clause-ok
returns-clause-ok c = result-is c

pub returns-clause-back : goal.returns-clause-back
returns-clause-back c =
    let name = c.args.refresh.view in
    let list = c.self.inside.definitions in
    let first : IsFirst (is_defined name) list c.in-Some.place = subst (λ xs. IsFirst (is_defined name) xs c.in-Some.place) c.as_slice.ensures c.in-Some.ensures.first in
    let below : c.in-Some.place < length c.self.inside.parts.items = omega (arith, c.self.invariant.long, ap length c.as_slice.ensures, c.in-Some.ensures.within) in
    let item = item-at list c.in-Some.place (omega (arith, ap length c.as_slice.ensures, c.in-Some.ensures.within)) in
    let at : dataset_of (side_by_side list c.self.inside.parts.items) name ≡ Some (joined item.0 c.index_mut.result.now) = found-at name list c.self.inside.parts.items c.in-Some.place item.0 c.index_mut.result.now first below item.1 c.index_mut.ensures.value in
    let found : dataset_of c.args.self.now name ≡ Some (joined item.0 c.index_mut.result.now) = subst (λ (state : State). dataset_of state name ≡ Some (joined item.0 c.index_mut.result.now)) c.self.view_is at in
    ap (λ state. undone state c.in_ok-undo.undo) (result-is c)
    ∙ gives-view-back c.args.self.now c.args.refresh item.0 c.index_mut.result.now c.in_ok-undo.undo found c.in_ok-undo.ensures.back
