-- The groups while they are touched one after another.
use Rattle.std.proofs.Common.{◌≡◌, Bool, true, false, not, cond, if◌then◌else◌, List, [], ◌∷◌, ◌++◌, length, Option, Some, None, refl, sym, ap, ◌∙◌, subst}
use Rattle.std.specs.Prelude.{IfSome, is_some}
use Rattle.std.specs.List.Sorted.{IsStrictlySortedBy}
use Rattle.std.specs.Map.{keys_of}
use Rattle.std.specs.BTreeMap.{is_at}
use Rattle.std.proofs.lemmas.Map.Entries.{lookup_head, lookup_tail}
use Rattle.std.proofs.lemmas.Map.Keys.{sorted_tail}
use Rattle.value_core.specs.Order.{Row, row_order, same_row}
use Rattle.value_core.specs.OrderLaws.{same_row_laws}
use Rattle.plan_core.specs.Sound.{is_empty}
use Rattle.plan_core.specs.declared.query.Query.{Query}
use Rattle.flow_model.specs.Views.{Share, members_of, shares_of}
use Rattle.view_laws.specs.Weights.{IsOneBag}
use Rattle.view_laws.proofs.ViewLemmas.{bag-length}
use Rattle.view_laws.proofs.Weighing.{sum-filter}
use Rattle.view_groups.specs.declared.group.Group.{Group}
use Rattle.view_groups.specs.declared.groups.Groups.{Groups}
use Rattle.view_groups.specs.Groups.{KeepsGroup}
use Rattle.view_groups.specs.AllGroups.{group_at, has_row, GroupsBy, GivesRow, KeepsShares, MovesMembers}
use Rattle.view_groups.proofs.BagLaws.{keeps_bag}
use Rattle.view_groups.proofs.WalkLemmas.{none_behind}
use Rattle.view_patches.specs.declared.patch.Patch.{Patch}
use Rattle.view_patches.specs.declared.sides.Sides.{Sides}
use Rattle.view_patches.specs.Patches.{patch_at, IsPatch, PatchesFor, goers, comers}
use Rattle.view_patches.specs.Sides.{TouchesOne, ChangesBag, TurnsGroups, TurnsAll}
use Rattle.view_patches.specs.Walks.{MovesBy, MovesAll, Collects, WalksAll, IsNothing}
use Rattle.view_patches.proofs.KeyLemmas.{members_append}
use Rattle.view_patches.proofs.PatchLemmas.{keyed_patches}
use Rattle.view_patches.proofs.SideLemmas.{collect_begins, collect_more, collect_ends}

-- ---- groups by bags of members

same-empty : (xs ys : List Share) → length xs ≡ length ys → is_empty xs ≡ is_empty ys
same-empty [] [] e = refl
same-empty [] (y ∷ ys) e = cc
same-empty (x ∷ xs) [] e = cc
same-empty (x ∷ xs) (y ∷ ys) e = refl

same-there : (key : Row) (xs ys : List Share) (alone : Bool) → IsOneBag xs ys → (if alone then same_row key [] else not (is_empty xs)) ≡ (if alone then same_row key [] else not (is_empty ys))
same-there key xs ys true bag = refl
same-there key xs ys false bag = ap not (same-empty xs ys (bag-length xs ys bag))

kept-bag : (query : Query) (had : Option Group) (xs ys : List Share) → IsOneBag xs ys → IfSome had (λ g. KeepsGroup query.items g xs) → IfSome had (λ g. KeepsGroup query.items g ys)
kept-bag query None xs ys bag keeps = tt
kept-bag query (Some g) xs ys bag keeps = keeps_bag query.items g xs ys bag keeps

pub groups_bag : (query : Query) (entries : List (Row × Group)) (old new : Row → List Share) → ((key : Row) → IsOneBag (old key) (new key)) → GroupsBy query entries old → GroupsBy query entries new
groups_bag query entries old new bags groups = record {
  there = λ key. groups.there key ∙ same-there key (old key) (new key) (is_empty query.groups) (bags key);
  keeps = λ key. kept-bag query (group_at key entries) (old key) (new key) (bags key) (groups.keeps key);
}

-- ---- the groups that are left have their old members

abbrev pub pending : List (Row × Patch) → (Row → List Share) → (Row → List Share) → Row → List Share
pending left old new key = cond (is_some (patch_at key left)) (old key) (new key)

one-bag : {A : Type 0} (xs : List A) → IsOneBag xs xs
one-bag xs = record { sums = λ w. refl }

begin-bag : (back : Bool) (had : Option Patch) (old new : List Share) → MovesBy back had old new → IsOneBag old (cond (is_some had) old new)
begin-bag back None old new moves = moves
begin-bag back (Some patch) old new moves = one-bag old

-- the groups stand so far, and the sides are of those that aren't left
pub record StandsSo (query : Query) (all left : List (Row × Patch)) (old new : Row → List Share) (kept : Groups) (sides : Sides) : Type 0 where
  pub groups : GroupsBy query kept.map.entries (pending left old new)
  pub before : Collects query old (keys_of all) (keys_of left) sides.before
  pub after : Collects query new (keys_of all) (keys_of left) sides.after

pub record Walks (query : Query) (back : Bool) (all left : List (Row × Patch)) (start kept : Groups) (sides : Sides) : Type 0 where
  pub sorted : IsStrictlySortedBy row_order (keys_of all) → IsStrictlySortedBy row_order (keys_of left)
  pub within : IsStrictlySortedBy row_order (keys_of all) → (key : Row) → is_some (patch_at key left) ≡ true → patch_at key left ≡ patch_at key all
  pub stands : IsStrictlySortedBy row_order (keys_of all) → (old new : Row → List Share) → MovesAll query back all old new → GroupsBy query start.map.entries old → StandsSo query all left old new kept sides

pub walk_begins : (query : Query) (back : Bool) (all : List (Row × Patch)) (start : Groups) (sides : Sides) → IsNothing sides → Walks query back all all start start sides
walk_begins query back all start sides none = record {
  sorted = λ sorted. sorted;
  within = λ sorted key there. refl;
  stands = λ sorted old new moves groups. record {
    groups = groups_bag query start.map.entries old (pending all old new) (λ key. begin-bag back (patch_at key all) (old key) (new key) (moves.at key)) groups;
    before = collect_begins query old (keys_of all) sides.before none.0 none.1;
    after = collect_begins query new (keys_of all) sides.after none.2 none.3;
  };
}

-- ---- one group more

within-by : (key other : Row) (patch : Patch) (rest : List (Row × Patch)) (test : Bool) → same_row other key ≡ test → IsStrictlySortedBy row_order (keys_of ((key, patch) ∷ rest)) → is_some (patch_at other rest) ≡ true
    → patch_at other rest ≡ patch_at other ((key, patch) ∷ rest)
within-by key other patch rest true e sorted there =
    let none : patch_at other rest ≡ None = none_behind other (key, patch) rest sorted e in
    let no : false ≡ true = sym (ap is_some none) ∙ there in cc
within-by key other patch rest false e sorted there = sym (lookup_tail (is_at (row_order other)) (key, patch) rest e)

pub group_moves : (query : Query) (back : Bool) (all rest : List (Row × Patch)) (key : Row) (patch : Patch) (old new : Row → List Share) → IsStrictlySortedBy row_order (keys_of ((key, patch) ∷ rest)) → patch_at key all ≡ Some patch → MovesAll query back all old new
    → MovesMembers key (goers back patch) (comers back patch) (pending ((key, patch) ∷ rest) old new) (pending rest old new)
group_moves query back all rest key patch old new sorted at moves =
    let here : patch_at key ((key, patch) ∷ rest) ≡ Some patch = lookup_head (is_at (row_order key)) (key, patch) rest (same_row_laws.refl key) in
    let behind : patch_at key rest ≡ None = none_behind key (key, patch) rest sorted (same_row_laws.refl key) in
    let bag : ChangesBag (old key) (goers back patch) (comers back patch) (new key) = subst (λ o. MovesBy back o (old key) (new key)) at (moves.at key) in
    record {
      rest = bag.rest;
      left = subst (λ o. IsOneBag (cond (is_some o) (old key) (new key)) (goers back patch ++ bag.rest)) (sym here) bag.left;
      joined = subst (λ o. IsOneBag (cond (is_some o) (old key) (new key)) (comers back patch ++ bag.rest)) (sym behind) bag.joined;
      others = λ other apart. ap (λ o. cond (is_some o) (old other) (new other)) (sym (lookup_tail (is_at (row_order other)) (key, patch) rest (same_row_laws.symm other key ∙ apart)));
    }

stands-more : (query : Query) (back : Bool) (all rest : List (Row × Patch)) (key : Row) (patch : Patch) (kept kept' : Groups) (sides sides' : Sides) (old new : Row → List Share) → IsStrictlySortedBy row_order (keys_of ((key, patch) ∷ rest)) → patch_at key all ≡ Some patch
    → TouchesOne query key (goers back patch) (comers back patch) kept kept' sides sides' → MovesAll query back all old new → StandsSo query all ((key, patch) ∷ rest) old new kept sides → StandsSo query all rest old new kept' sides'
stands-more query back all rest key patch kept kept' sides sides' old new sorted at steps moves so_far =
    let before = pending ((key, patch) ∷ rest) old new in
    let after = pending rest old new in
    let here : patch_at key ((key, patch) ∷ rest) ≡ Some patch = lookup_head (is_at (row_order key)) (key, patch) rest (same_row_laws.refl key) in
    let behind : patch_at key rest ≡ None = none_behind key (key, patch) rest sorted (same_row_laws.refl key) in
    let keyed = moves.keyed key (ap is_some at) in
    let moved = group_moves query back all rest key patch old new sorted at moves in
    record {
      groups = steps.touches.groups before after keyed moved so_far.groups;
      before = collect_more query old (keys_of all) (keys_of rest) key steps.turned.before sides.before sides'.before steps.before
          (subst (λ o. GivesRow query.items key (cond (is_some o) (old key) (new key)) (has_row query key (cond (is_some o) (old key) (new key))) steps.turned.before) here (steps.touches.row_before before after keyed moved so_far.groups)) so_far.before;
      after = collect_more query new (keys_of all) (keys_of rest) key steps.turned.after sides.after sides'.after steps.after
          (subst (λ o. GivesRow query.items key (cond (is_some o) (old key) (new key)) (has_row query key (cond (is_some o) (old key) (new key))) steps.turned.after) behind (steps.touches.row_after before after keyed moved so_far.groups)) so_far.after;
    }

pub walk_more : (query : Query) (back : Bool) (all left rest : List (Row × Patch)) (key : Row) (patch : Patch) (start kept kept' : Groups) (sides sides' : Sides) → left ≡ (key, patch) ∷ rest → TouchesOne query key (goers back patch) (comers back patch) kept kept' sides sides'
    → Walks query back all left start kept sides → Walks query back all rest start kept' sides'
walk_more query back all left rest key patch start kept kept' sides sides' e steps walks =
    let w : Walks query back all ((key, patch) ∷ rest) start kept sides = subst (λ l. Walks query back all l start kept sides) e walks in
    record {
      sorted = λ sorted. sorted_tail row_order key (keys_of rest) (w.sorted sorted);
      within = λ sorted other there.
          let same = within-by key other patch rest (same_row other key) refl (w.sorted sorted) there in
          same ∙ w.within sorted other (sym (ap is_some same) ∙ there);
      stands = λ sorted old new moves groups.
          let here : patch_at key ((key, patch) ∷ rest) ≡ Some patch = lookup_head (is_at (row_order key)) (key, patch) rest (same_row_laws.refl key) in
          let at : patch_at key all ≡ Some patch = sym (w.within sorted key (ap is_some here)) ∙ here in
          stands-more query back all rest key patch kept kept' sides sides' old new (w.sorted sorted) at steps moves (w.stands sorted old new moves groups);
    }

pub walk_ends : (query : Query) (back : Bool) (all left : List (Row × Patch)) (start kept : Groups) (sides : Sides) → left ≡ [] → Walks query back all left start kept sides → WalksAll query back all start kept sides
walk_ends query back all left start kept sides e walks =
    let w : Walks query back all [] start kept sides = subst (λ l. Walks query back all l start kept sides) e walks in
    λ sorted old new moves groups.
    let so = w.stands sorted old new moves groups in record { groups = so.groups; before = so.before; after = so.after }

-- ---- from shares to the members of each group

members-bag : (key : Row) (xs ys : List Share) → IsOneBag xs ys → IsOneBag (members_of key xs) (members_of key ys)
members-bag key xs ys bag = record {
  sums = λ w. sum-filter w (λ s. same_row s.group key) xs ∙ bag.sums (λ s. cond (same_row s.group key) (w s) 0) ∙ sym (sum-filter w (λ s. same_row s.group key) ys);
}

members-change : (key : Row) (old outs mores new : List Share) → ChangesBag old outs mores new → ChangesBag (members_of key old) (members_of key outs) (members_of key mores) (members_of key new)
members-change key old outs mores new bag = record {
  rest = members_of key bag.rest;
  left = subst (IsOneBag (members_of key old)) (members_append key outs bag.rest) (members-bag key old (outs ++ bag.rest) bag.left);
  joined = subst (IsOneBag (members_of key new)) (members_append key mores bag.rest) (members-bag key new (mores ++ bag.rest) bag.joined);
}

same-bag : (old new rest : List Share) → IsOneBag old rest → IsOneBag new rest → IsOneBag old new
same-bag old new rest left joined = record { sums = λ w. left.sums w ∙ sym (joined.sums w) }

-- a group's members change by its patch, or by the patch the other way round
forth-by : (had : Option Patch) (out more old new : List Share) → IsPatch had out more → ChangesBag old out more new → MovesBy false had old new
forth-by None out more old new is bag = same-bag old new bag.rest (subst (λ o. IsOneBag old (o ++ bag.rest)) is.0 bag.left) (subst (λ m. IsOneBag new (m ++ bag.rest)) is.1 bag.joined)
forth-by (Some patch) out more old new is bag = record { rest = bag.rest; left = subst (λ o. IsOneBag old (o ++ bag.rest)) (sym is.0) bag.left; joined = subst (λ m. IsOneBag new (m ++ bag.rest)) (sym is.1) bag.joined }

back-by : (had : Option Patch) (out more old new : List Share) → IsPatch had out more → ChangesBag old more out new → MovesBy true had old new
back-by None out more old new is bag = same-bag old new bag.rest (subst (λ o. IsOneBag old (o ++ bag.rest)) is.1 bag.left) (subst (λ m. IsOneBag new (m ++ bag.rest)) is.0 bag.joined)
back-by (Some patch) out more old new is bag = record { rest = bag.rest; left = subst (λ o. IsOneBag old (o ++ bag.rest)) (sym is.1) bag.left; joined = subst (λ m. IsOneBag new (m ++ bag.rest)) (sym is.0) bag.joined }

keyed-by : (query : Query) (removed added : List Row) (key : Row) (had : Option Patch) → IsPatch had (members_of key (shares_of query removed)) (members_of key (shares_of query added)) → is_some had ≡ true → is_empty query.groups ≡ true → key ≡ []
keyed-by query removed added key None is there alone = cc
keyed-by query removed added key (Some patch) is there alone = keyed_patches query removed added key alone is.2

turned-by : (query : Query) (back : Bool) (entries : List (Row × Patch)) (old new : List Share) (start kept : Groups) (sides : Sides) → IsStrictlySortedBy row_order (keys_of entries) → WalksAll query back entries start kept sides
    → MovesAll query back entries (λ key. members_of key old) (λ key. members_of key new) → KeepsShares query start old → TurnsGroups query (keys_of entries) old new kept sides
turned-by query back entries old new start kept sides sorted walks moves keeps =
    let walked = walks sorted (λ key. members_of key old) (λ key. members_of key new) moves keeps in
    record { keeps = walked.groups; before = collect_ends query old (keys_of entries) sides.before walked.before; after = collect_ends query new (keys_of entries) sides.after walked.after }

pub applied : (query : Query) (removed added : List Row) (entries : List (Row × Patch)) (start kept : Groups) (sides : Sides) → IsStrictlySortedBy row_order (keys_of entries) → WalksAll query false entries start kept sides
    → PatchesFor entries (shares_of query removed) (shares_of query added) → TurnsAll query (keys_of entries) (shares_of query removed) (shares_of query added) start kept sides
applied query removed added entries start kept sides sorted walks patches = λ old new bag keeps.
    let outs = shares_of query removed in
    let mores = shares_of query added in
    turned-by query false entries old new start kept sides sorted walks
    (record {
      at = λ key. forth-by (patch_at key entries) (members_of key outs) (members_of key mores) (members_of key old) (members_of key new) (patches.at key) (members-change key old outs mores new bag);
      keyed = λ key. keyed-by query removed added key (patch_at key entries) (patches.at key);
    })
    keeps

pub undone : (query : Query) (removed added : List Row) (entries : List (Row × Patch)) (start kept : Groups) (sides : Sides) → IsStrictlySortedBy row_order (keys_of entries) → WalksAll query true entries start kept sides
    → PatchesFor entries (shares_of query removed) (shares_of query added) → TurnsAll query (keys_of entries) (shares_of query added) (shares_of query removed) start kept sides
undone query removed added entries start kept sides sorted walks patches = λ old new bag keeps.
    let outs = shares_of query removed in
    let mores = shares_of query added in
    turned-by query true entries old new start kept sides sorted walks
    (record {
      at = λ key. back-by (patch_at key entries) (members_of key outs) (members_of key mores) (members_of key old) (members_of key new) (patches.at key) (members-change key old mores outs new bag);
      keyed = λ key. keyed-by query removed added key (patch_at key entries) (patches.at key);
    })
    keeps
