-- One group changes, and the others stay.
use Rattle.std.proofs.Common.{◌≡◌, ℕ, ◌<◌, Bool, true, false, not, ◌||◌, cond, if◌then◌else◌, List, [], ◌∷◌, ◌++◌, length, Option, Some, None, refl, sym, ap, ◌∙◌, subst, arith}
use Rattle.std.specs.Prelude.{◌==◌, IfSome, is_some}
use Rattle.std.specs.List.{sum_by}
use Rattle.std.specs.Cmp.{Equal-is}
use Rattle.std.proofs.lemmas.Bool.Decides.{nat_tests}
use Rattle.std.proofs.lemmas.List.Sums.{sum_by-cons, sum_by-append}
use Rattle.value_core.specs.Order.{Row, row_order, same_row}
use Rattle.value_core.specs.OrderLaws.{rows_apart, same_row_laws}
use Rattle.plan_core.specs.Sound.{is_empty}
use Rattle.plan_core.specs.declared.query.Item.{Item}
use Rattle.plan_core.specs.declared.query.Query.{Query}
use Rattle.flow_model.specs.Views.{Share}
use Rattle.view_laws.specs.Weights.{IsOneBag}
use Rattle.view_groups.specs.declared.group.Group.{Group}
use Rattle.view_groups.specs.declared.groups.Gives.{Gives}
use Rattle.view_groups.specs.Groups.{KeepsGroup, Patches, joined_by}
use Rattle.view_groups.specs.AllGroups.{group_at, has_row, GroupsBy, IsWithout, FromOption, GroupFrom, GivesRow, PutsBack, MovesMembers, Touches}
use Rattle.view_groups.proofs.BagLaws.{keeps_bag}

-- ---- members as bags

turned-bag : {A : Type 0} (xs ys : List A) → IsOneBag xs ys → IsOneBag ys xs
turned-bag xs ys bag = record { sums = λ w. sym (bag.sums w) }

joined-sum : (w : Share → ℕ) (more rest : List Share) → sum_by w (joined_by more rest) ≡ sum_by w (more ++ rest)
joined-sum w [] rest = refl
joined-sum w (s ∷ more) rest = omega (
  arith,
  joined-sum w more (s ∷ rest),
  sum_by-append w more (s ∷ rest),
  sum_by-append w more rest,
  sum_by-cons w s rest,
  sum_by-cons w s (more ++ rest),
)

joined-bag : (more rest members : List Share) → IsOneBag members (more ++ rest) → IsOneBag (joined_by more rest) members
joined-bag more rest members bag = record { sums = λ w. joined-sum w more rest ∙ sym (bag.sums w) }

-- ---- the group that was taken out or made

none-there : (query : Query) (key : Row) (members : List Share) (alone : Bool) → is_empty query.groups ≡ alone → (is_empty query.groups ≡ true → key ≡ []) → has_row query key members ≡ false → members ≡ []
none-there query key members true e keyed h =
    let itself : same_row key [] ≡ true = ap (λ g. same_row key g) (sym (keyed e)) ∙ same_row_laws.refl key in
    let there : has_row query key members ≡ true = ap (λ t. if t then same_row key [] else not (is_empty members)) e ∙ itself in
    let none : true ≡ false = sym there ∙ h in cc
none-there query key members false e keyed h = empty members (sym (ap (λ t. if t then same_row key [] else not (is_empty members)) e) ∙ h)
  where
    empty : (xs : List Share) → not (is_empty xs) ≡ false → xs ≡ []
    empty [] k = refl
    empty (x ∷ xs) k = cc

kept-by : (query : Query) (key : Row) (members : List Share) (had : Option Group) (group : Group) → (is_empty query.groups ≡ true → key ≡ []) → is_some had ≡ has_row query key members
    → IfSome had (λ g. KeepsGroup query.items g members) → FromOption query.items had group → KeepsGroup query.items group members
kept-by query key members None group keyed there keeps from = subst (KeepsGroup query.items group) (sym (none-there query key members (is_empty query.groups) refl keyed (sym there))) from
kept-by query key members (Some g) group keyed there keeps from = subst (λ k. KeepsGroup query.items k members) (sym from) keeps

pub had_keeps : (query : Query) (key : Row) (entries : List (Row × Group)) (members : Row → List Share) (group : Group) → (is_empty query.groups ≡ true → key ≡ []) → GroupsBy query entries members
    → GroupFrom query.items key entries group → KeepsGroup query.items group (members key)
had_keeps query key entries members group keyed groups from = kept-by query key (members key) (group_at key entries) group keyed (groups.there key) (groups.keeps key) from

pub patched_keeps : (query : Query) (key : Row) (out more : List Share) (members members' : Row → List Share) (group made : Group) → MovesMembers key out more members members' → Patches group made out more
    → KeepsGroup query.items group (members key) → KeepsGroup query.items made (members' key)
patched_keeps query key out more members members' group made moves patches keeps =
    keeps_bag query.items made (joined_by more moves.rest) (members' key) (joined-bag more moves.rest (members' key) moves.joined)
    (patches.keeps query.items moves.rest (keeps_bag query.items group (members key) (out ++ moves.rest) moves.left keeps))

-- ---- whether it has a row

pub is_alone : {A : Type 0} (xs : List A) → (length xs == 0) ≡ is_empty xs
is_alone [] = refl
is_alone (x ∷ xs) = let n = length (x ∷ xs) in let k : 0 < length (x ∷ xs) = omega arith in grind (arith, nat_tests)

row-number : (xs : List Share) (n : ℕ) → n ≡ length xs → not (n == 0) ≡ not (is_empty xs)
row-number [] n e = ap (λ k. not (k == 0)) e
row-number (x ∷ xs) n e = let k : 0 < n = omega arith in let h : (n == 0) ≡ false = grind (arith, nat_tests) in ap not h

pub kept_there : (query : Query) (key : Row) (members : List Share) (group : Group) (alone : Bool) → is_empty query.groups ≡ alone → (is_empty query.groups ≡ true → key ≡ []) → KeepsGroup query.items group members
    → (alone || not (group.rows == 0)) ≡ has_row query key members
kept_there query key members group true e keyed keeps =
    let itself : same_row key [] ≡ true = ap (λ g. same_row key g) (sym (keyed e)) ∙ same_row_laws.refl key in
    sym (ap (λ t. if t then same_row key [] else not (is_empty members)) e ∙ itself)
kept_there query key members group false e keyed keeps = row-number members group.rows keeps.rows ∙ sym (ap (λ t. if t then same_row key [] else not (is_empty members)) e)

-- ---- all groups after it

put-there : (query : Query) (q : Row) (members : List Share) (made : Group) (old : Option Group) (kept : Bool) → old ≡ None → kept ≡ has_row query q members → KeepsGroup query.items made members
    → (is_some (if kept then Some made else old) ≡ has_row query q members) × IfSome (if kept then Some made else old) (λ k. KeepsGroup query.items k members)
put-there query q members made old true none e keeps = (e, keeps)
put-there query q members made old false none e keeps = (ap is_some none ∙ e, subst (λ o. IfSome o (λ k. KeepsGroup query.items k members)) (sym none) tt)

touched-by : (query : Query) (key q : Row) (old mid : List (Row × Group)) (made : Group) (members members' : Row → List Share) (alone test : Bool) → same_row key q ≡ test → is_empty query.groups ≡ alone
    → (is_empty query.groups ≡ true → key ≡ []) → IsWithout key old mid → KeepsGroup query.items made (members' key) → ((other : Row) → same_row key other ≡ false → members' other ≡ members other) → GroupsBy query old members
    → (is_some (cond test (if alone || not (made.rows == 0) then Some made else group_at q mid) (group_at q mid)) ≡ has_row query q (members' q))
    × IfSome (cond test (if alone || not (made.rows == 0) then Some made else group_at q mid) (group_at q mid)) (λ k. KeepsGroup query.items k (members' q))
touched-by query key q old mid made members members' alone true e a keyed without keeps others groups =
    let same : key ≡ q = rows_apart key q ((Equal-is (row_order key q)).0 e) in
    let none : group_at q mid ≡ None = without.at q ∙ ap (λ t. cond t None (group_at q old)) e in
    put-there query q (members' q) made (group_at q mid) (alone || not (made.rows == 0)) none
    (kept_there query key (members' key) made alone a keyed keeps ∙ ap (λ r. has_row query r (members' r)) same) (subst (λ r. KeepsGroup query.items made (members' r)) same keeps)
touched-by query key q old mid made members members' alone false e a keyed without keeps others groups =
    let stays : group_at q mid ≡ group_at q old = without.at q ∙ ap (λ t. cond t None (group_at q old)) e in
    let same : members q ≡ members' q = sym (others q e) in (
      ap is_some stays ∙ groups.there q ∙ ap (has_row query q) same,
      subst (λ o. IfSome o (λ k. KeepsGroup query.items k (members' q))) (sym stays) (subst (λ m. IfSome (group_at q old) (λ k. KeepsGroup query.items k m)) same (groups.keeps q)),
    )

pub touched : (query : Query) (key : Row) (out more : List Share) (old mid new : List (Row × Group)) (group made : Group) (alone : Bool) (before after : Gives) → alone ≡ is_empty query.groups → IsWithout key old mid
    → GroupFrom query.items key old group → Patches group made out more → PutsBack alone key made mid new
    → ((items : List Item) (members : List Share) → KeepsGroup items group members → GivesRow items key members (alone || not (group.rows == 0)) before)
    → ((items : List Item) (members : List Share) → KeepsGroup items made members → GivesRow items key members (alone || not (made.rows == 0)) after) → Touches query key out more old new before after
touched query key out more old mid new group made alone before after a without from patches puts gives_before gives_after = record {
  groups = λ members members' keyed moves groups.
      let keeps : KeepsGroup query.items made (members' key) = patched_keeps query key out more members members' group made moves patches (had_keeps query key old members group keyed groups from) in
      record {
        there = λ q. ap is_some (puts.at q) ∙ (touched-by query key q old mid made members members' alone (same_row key q) refl (sym a) keyed without keeps moves.others groups).0;
        keeps = λ q. subst (λ o. IfSome o (λ k. KeepsGroup query.items k (members' q))) (sym (puts.at q)) (touched-by query key q old mid made members members' alone (same_row key q) refl (sym a) keyed without keeps moves.others groups).1;
      };
  row_before = λ members members' keyed moves groups.
      let keeps : KeepsGroup query.items group (members key) = had_keeps query key old members group keyed groups from in
      subst (λ t. GivesRow query.items key (members key) t before) (kept_there query key (members key) group alone (sym a) keyed keeps) (gives_before query.items (members key) keeps);
  row_after = λ members members' keyed moves groups.
      let keeps : KeepsGroup query.items made (members' key) = patched_keeps query key out more members members' group made moves patches (had_keeps query key old members group keyed groups from) in
      subst (λ t. GivesRow query.items key (members' key) t after) (kept_there query key (members' key) made alone (sym a) keyed keeps) (gives_after query.items (members' key) keeps);
}
