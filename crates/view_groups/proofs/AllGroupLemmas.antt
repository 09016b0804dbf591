-- The groups of a query after a share joins or groups change.
use Rattle.std.proofs.Common.{◌≡◌, ℕ, ◌+◌, ◌<◌, Bool, true, false, not, cond, if◌then◌else◌, List, [], ◌∷◌, ◌++◌, length, filter, filter_map, take, get_or, drop, append_assoc, Option, Some, None, Result, Ok, Err, refl, sym, ap, ◌∙◌, subst, arith}
use Rattle.std.specs.Prelude.{IfSome, is_some}
use Rattle.std.specs.List.{cons_option}
use Rattle.std.specs.BTreeMap.{is_at}
use Rattle.std.specs.Cmp.{Equal-is}
use Rattle.std.proofs.lemmas.List.{take_more, drop_more}
use Rattle.std.proofs.lemmas.List.Elements.{filter_map-append}
use Rattle.std.proofs.lemmas.List.Sums.{sum_by-cons, sum_by-append}
use Rattle.value_core.specs.Order.{Row, row_order, same_row}
use Rattle.value_core.specs.OrderLaws.{rows_apart, same_row_laws}
use Rattle.row_expr.specs.declared.expr.Expr.{Expr}
use Rattle.row_expr.specs.Eval.{Fault, and_then}
use Rattle.plan_core.specs.Sound.{is_empty}
use Rattle.plan_core.specs.declared.query.Query.{Query}
use Rattle.plan_core.specs.declared.stop.Stop.{Stop}
use Rattle.flow_model.specs.Append.{takes, projected}
use Rattle.flow_model.specs.Views.{Share, members_of, share, share_by, shared, shares_of, read_all}
use Rattle.view_laws.specs.Weights.{IsOneBag}
use Rattle.view_laws.specs.Touched.{is_there}
use Rattle.view_groups.specs.declared.share.Share as given
use Rattle.view_groups.specs.declared.group.Group.{Group}
use Rattle.view_groups.specs.Groups.{KeepsGroup, AddsShare}
use Rattle.view_groups.specs.Shares.{seen}
use Rattle.view_groups.specs.AllGroups.{group_at, GroupsFor, IsWithout, FromOption, GroupFrom, IsKeyed}
use Rattle.view_groups.proofs.BagLaws.{keeps_bag}

filter-append-by : {A : Type 0} (p : A → Bool) (x : A) (xs ys : List A) (test : Bool) → filter p (xs ++ ys) ≡ filter p xs ++ filter p ys
    → cond test (x ∷ filter p (xs ++ ys)) (filter p (xs ++ ys)) ≡ cond test (x ∷ filter p xs) (filter p xs) ++ filter p ys
filter-append-by p x xs ys true behind = ap (λ t. x ∷ t) behind
filter-append-by p x xs ys false behind = behind

filter-append : {A : Type 0} (p : A → Bool) (xs ys : List A) → filter p (xs ++ ys) ≡ filter p xs ++ filter p ys
filter-append p [] ys = refl
filter-append p (x ∷ xs) ys = filter-append-by p x xs ys (p x) (filter-append p xs ys)

pub members_push : (key : Row) (shares : List Share) (s : Share) → members_of key (shares ++ s ∷ []) ≡ members_of key shares ++ cond (same_row s.group key) (s ∷ []) []
members_push key shares s = filter-append (λ x. same_row x.group key) shares (s ∷ [])

push-bag : (xs : List Share) (s : Share) → IsOneBag (s ∷ xs) (xs ++ s ∷ [])
push-bag xs s = record { sums = λ w. omega (arith, sum_by-cons w s xs, sum_by-append w xs (s ∷ []), sum_by-cons w s []) }

append-none : {A : Type 0} (xs : List A) → xs ++ [] ≡ xs
append-none [] = refl
append-none (x ∷ xs) = ap (λ t. x ∷ t) (append-none xs)

pushed-some : (xs : List Share) (s : Share) → is_empty (xs ++ s ∷ []) ≡ false
pushed-some [] s = refl
pushed-some (x ∷ xs) s = refl

no-members : (xs : List Share) → not (is_empty xs) ≡ false → xs ≡ []
no-members [] e = refl
no-members (x ∷ xs) e = cc

-- ---- is_there, by whether there is GROUP BY

there-pushed : (key : Row) (shares : List Share) (s : Share) (alone : Bool) → same_row s.group key ≡ true → (alone ≡ true → s.group ≡ [])
    → (if alone then same_row key [] else not (is_empty (members_of key (shares ++ s ∷ [])))) ≡ true
there-pushed key shares s true e keyed = same_row_laws.symm key [] ∙ ap (λ g. same_row g key) (sym (keyed refl)) ∙ e
there-pushed key shares s false e keyed = ap (λ m. not (is_empty m)) (members_push key shares s ∙ ap (λ t. members_of key shares ++ cond t (s ∷ []) []) e) ∙ ap not (pushed-some (members_of key shares) s)

there-apart : (key : Row) (shares : List Share) (s : Share) (alone : Bool) → same_row s.group key ≡ false
    → (if alone then same_row key [] else not (is_empty (members_of key shares))) ≡ (if alone then same_row key [] else not (is_empty (members_of key (shares ++ s ∷ []))))
there-apart key shares s true e = refl
there-apart key shares s false e = ap (λ m. not (is_empty m)) (sym (members_push key shares s ∙ ap (λ t. members_of key shares ++ cond t (s ∷ []) []) e ∙ append-none (members_of key shares)))

not-there : (key : Row) (shares : List Share) (alone : Bool) → (alone ≡ true → key ≡ []) → (if alone then same_row key [] else not (is_empty (members_of key shares))) ≡ false → members_of key shares ≡ []
not-there key shares true keyed e = let itself : same_row key [] ≡ true = ap (λ g. same_row key g) (sym (keyed refl)) ∙ same_row_laws.refl key in let none : true ≡ false = sym itself ∙ e in cc
not-there key shares false keyed e = no-members (members_of key shares) e

-- the group that was taken out or made keeps the members of its key
kept-by : (query : Query) (key : Row) (shares : List Share) (had : Option Group) (group : Group) → (is_empty query.groups ≡ true → key ≡ []) → is_some had ≡ is_there query shares key
    → IfSome had (λ g. KeepsGroup query.items g (members_of key shares)) → FromOption query.items had group → KeepsGroup query.items group (members_of key shares)
kept-by query key shares None group keyed there keeps from = subst (KeepsGroup query.items group) (sym (not-there key shares (is_empty query.groups) keyed (sym there))) from
kept-by query key shares (Some g) group keyed there keeps from = subst (λ k. KeepsGroup query.items k (members_of key shares)) (sym from) keeps

pub taken_keeps : (query : Query) (key : Row) (entries : List (Row × Group)) (shares : List Share) (group : Group) → (is_empty query.groups ≡ true → key ≡ []) → GroupsFor query entries shares
    → GroupFrom query.items key entries group → KeepsGroup query.items group (members_of key shares)
taken_keeps query key entries shares group keyed groups from = kept-by query key shares (group_at key entries) group keyed (groups.there key) (groups.keeps key) from

-- ---- one more share

added-here : (query : Query) (q : Row) (old : List (Row × Group)) (g made : Group) (s : given.Share) (shares : List Share) → s.group ≡ q → IsKeyed query (seen s) → AddsShare s.values g made
    → GroupFrom query.items s.group old g → GroupsFor query old shares → (true ≡ is_there query (shares ++ seen s ∷ []) q) × KeepsGroup query.items made (members_of q (shares ++ seen s ∷ []))
added-here query q old g made s shares same keyed adds from groups =
    let e : same_row s.group q ≡ true = ap (λ r. same_row s.group r) (sym same) ∙ same_row_laws.refl s.group in
    let keeps : KeepsGroup query.items g (members_of q shares) = subst (λ r. KeepsGroup query.items g (members_of r shares)) same (taken_keeps query s.group old shares g keyed groups from) in
    let all : members_of q shares ++ seen s ∷ [] ≡ members_of q (shares ++ seen s ∷ []) = sym (members_push q shares (seen s) ∙ ap (λ t. members_of q shares ++ cond t (seen s ∷ []) []) e) in (
      sym (there-pushed q shares (seen s) (is_empty query.groups) e keyed),
      subst (KeepsGroup query.items made) all (keeps_bag query.items made (seen s ∷ members_of q shares) (members_of q shares ++ seen s ∷ []) (push-bag (members_of q shares) (seen s))
          (adds.keeps query.items (members_of q shares) s.group keeps)),
    )

added-there-by : (query : Query) (q : Row) (old : List (Row × Group)) (g made : Group) (s : given.Share) (shares : List Share) (test : Bool) → same_row s.group q ≡ test → IsKeyed query (seen s)
    → AddsShare s.values g made → GroupFrom query.items s.group old g → GroupsFor query old shares
    → (is_some (cond test (Some made) (group_at q old)) ≡ is_there query (shares ++ seen s ∷ []) q) × IfSome (cond test (Some made) (group_at q old)) (λ k. KeepsGroup query.items k (members_of q (shares ++ seen s ∷ [])))
added-there-by query q old g made s shares true e keyed adds from groups = added-here query q old g made s shares (rows_apart s.group q ((Equal-is (row_order s.group q)).0 e)) keyed adds from groups
added-there-by query q old g made s shares false e keyed adds from groups =
    let all : members_of q shares ≡ members_of q (shares ++ seen s ∷ []) = sym (members_push q shares (seen s) ∙ ap (λ t. members_of q shares ++ cond t (seen s ∷ []) []) e ∙ append-none (members_of q shares)) in (
      groups.there q ∙ there-apart q shares (seen s) (is_empty query.groups) e,
      subst (λ m. IfSome (group_at q old) (λ k. KeepsGroup query.items k m)) all (groups.keeps q),
    )

cond-cond : {A : Type 0} (test : Bool) (a b c : A) → cond test a (cond test b c) ≡ cond test a c
cond-cond true a b c = refl
cond-cond false a b c = refl

pub share_added : (query : Query) (old mid new : List (Row × Group)) (g made : Group) (s : given.Share) → IsWithout s.group old mid → GroupFrom query.items s.group old g → AddsShare s.values g made
    → ((q : Row) → group_at q new ≡ cond (is_at (row_order s.group) q) (Some made) (group_at q mid)) → (shares : List Share) → IsKeyed query (seen s) → GroupsFor query old shares
    → GroupsFor query new (shares ++ seen s ∷ [])
share_added query old mid new g made s without from adds updates shares keyed groups =
    let at : (q : Row) → group_at q new ≡ cond (same_row s.group q) (Some made) (group_at q old) = λ q. updates q ∙ ap (cond (same_row s.group q) (Some made)) (without.at q) ∙ cond-cond (same_row s.group q) (Some made) None (group_at q old) in
    record {
      there = λ q. ap is_some (at q) ∙ (added-there-by query q old g made s shares (same_row s.group q) refl keyed adds from groups).0;
      keeps = λ q. subst (λ o. IfSome o (λ k. KeepsGroup query.items k (members_of q (shares ++ seen s ∷ [])))) (sym (at q)) (added-there-by query q old g made s shares (same_row s.group q) refl keyed adds from groups).1;
    }

-- ---- row after row

no-outputs : (xs : List Expr) (row : Row) → is_empty xs ≡ true → projected xs row ≡ Ok []
no-outputs [] row e = refl
no-outputs (x ∷ xs) row e = cc

keyed-values : (query : Query) (row : Row) (group : Result Row Fault) (values : Result Row Fault) (s : Share) → (is_empty query.groups ≡ true → group ≡ Ok [])
    → and_then (λ g. and_then (λ vs. Ok (Some (record { group = g; values = vs }))) values) group ≡ Ok (Some s) → is_empty query.groups ≡ true → s.group ≡ []
keyed-values query row (Err f) values s none e alone = cc
keyed-values query row (Ok g) (Err f) s none e alone = cc
keyed-values query row (Ok g) (Ok vs) s none e alone =
    let inside : g ≡ s.group = ap (λ (o : Result (Option Share) Fault). group_of o) e in
    let bare : g ≡ [] = ok-same g (none alone) in sym inside ∙ bare
  where
    group_of : Result (Option Share) Fault → Row
    group_of (Ok (Some t)) = t.group
    group_of other = []

    ok-same : (a : Row) → ◌≡◌ {A = Result Row Fault} (Ok a) (Ok []) → a ≡ []
    ok-same a h = cc

keyed-by : (query : Query) (row : Row) (taken : Result Bool Fault) (s : Share) → and_then (share_by query row) taken ≡ Ok (Some s) → IsKeyed query s
keyed-by query row (Err f) s e = cc
keyed-by query row (Ok false) s e = cc
keyed-by query row (Ok true) s e = λ alone. keyed-values query row (projected query.groups row) (read_all query.items row) s (no-outputs query.groups row) e alone

pub share_keyed : (query : Query) (row : Row) (s : Share) → share query row ≡ Ok (Some s) → IsKeyed query s
share_keyed query row s e = keyed-by query row (takes query.filter row) s e

pub shares_push : (query : Query) (rows : List Row) (i : ℕ) (row : Row) → i < length rows → row ≡ get_or rows i row
    → shares_of query (take (i + 1) rows) ≡ shares_of query (take i rows) ++ shares_of query (row ∷ [])
shares_push query rows i row k is =
    ap (shares_of query) (take_more rows i row k ∙ ap (λ r. take i rows ++ r ∷ []) (sym is)) ∙ filter_map-append (λ r. shared (share query r)) (take i rows) (row ∷ [])

-- a row that gives a share, and one that gives none
pub shares_some : (query : Query) (row : Row) (s : Share) → share query row ≡ Ok (Some s) → shares_of query (row ∷ []) ≡ s ∷ []
shares_some query row s e = rw e refl

pub shares_none : (query : Query) (row : Row) → shared (share query row) ≡ None → shares_of query (row ∷ []) ≡ []
shares_none query row e = rw e refl

pub shares_pushed_none : (query : Query) (rows : List Row) (i : ℕ) (row : Row) → i < length rows → row ≡ get_or rows i row → shared (share query row) ≡ None
    → shares_of query (take i rows) ≡ shares_of query (take (i + 1) rows)
shares_pushed_none query rows i row k is e = sym (shares_push query rows i row k is ∙ ap (λ more. shares_of query (take i rows) ++ more) (shares_none query row e) ∙ append-none (shares_of query (take i rows)))

pub one_row : (query : Query) (old new : List (Row × Group)) (row : Row) (s : given.Share) → share query row ≡ Ok (Some (seen s))
    → ((shares : List Share) → IsKeyed query (seen s) → GroupsFor query old shares → GroupsFor query new (shares ++ seen s ∷ []))
    → (shares : List Share) → GroupsFor query old shares → GroupsFor query new (shares ++ shares_of query (row ∷ []))
one_row query old new row s e adds shares groups = subst (λ more. GroupsFor query new (shares ++ more)) (sym (shares_some query row (seen s) e)) (adds shares (share_keyed query row (seen s) e) groups)

pub no_row : (query : Query) (old : List (Row × Group)) (row : Row) → shared (share query row) ≡ None → (shares : List Share) → GroupsFor query old shares → GroupsFor query old (shares ++ shares_of query (row ∷ []))
no_row query old row e shares groups = subst (GroupsFor query old) (sym (ap (λ more. shares ++ more) (shares_none query row e) ∙ append-none shares)) groups

-- ---- the first fault

pub shares_longer : (query : Query) (rows : List Row) (i : ℕ) (row : Row) (outs : List Share) → i < length rows → row ≡ get_or rows i row
    → (outs ++ shares_of query (take i rows)) ++ shares_of query (row ∷ []) ≡ outs ++ shares_of query (take (i + 1) rows)
shares_longer query rows i row outs k is = append_assoc outs (shares_of query (take i rows)) (shares_of query (row ∷ [])) ∙ ap (λ more. outs ++ more) (sym (shares_push query rows i row k is))

pub no_stop_more : (h : Row → Option Stop) (rows : List Row) (i : ℕ) (row : Row) → i < length rows → row ≡ get_or rows i row → h row ≡ None → filter_map h (drop i rows) ≡ filter_map h (drop (i + 1) rows)
no_stop_more h rows i row k is e =
    ap (filter_map h) (drop_more rows i row k ∙ ap (λ r. r ∷ drop (i + 1) rows) (sym is)) ∙ ap (λ o. cons_option o (filter_map h (drop (i + 1) rows))) e

pub none_of : (o : Option Stop) → false ≡ is_some o → o ≡ None
none_of None e = refl
none_of (Some stop) e = cc
