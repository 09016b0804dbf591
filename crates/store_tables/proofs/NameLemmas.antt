-- No two datasets have one name.
use Rattle.std.proofs.Common.{◌≡◌, ℕ, zero, suc, ◌<◌, ◌^◌, Bool, true, false, List, [], ◌∷◌, length, take, Option, Some, None, refl, sym, ap, subst, ◌∙◌}
use Rattle.std.specs.Prelude.{⊤, ◌&&◌, ◌||◌, IfSome, find, is_none}
use Rattle.std.proofs.lemmas.Cmp.{nat_list_eq_equiv}
use Rattle.std.proofs.lemmas.Bool.{and_parts}
use Rattle.value_core.specs.NameFold.{folded, same_name}
use Rattle.commit_payloads.specs.declared.definition.Definition.{Definition}
use Rattle.state_model.specs.After.{is_member}
use Rattle.state_model.specs.Dataset.{Dataset, State, dataset_of, is_defined, is_named, version_of}
use Rattle.state_model.specs.Follows.{AllHaveVersions, HasVersions, are_distinct}
use Rattle.store_tables.specs.declared.part.Part.{Part}
use Rattle.store_tables.specs.Members.{MembersHaveVersions}
use Rattle.store_tables.specs.Parts.{joined, side_by_side}
use Rattle.store_tables.proofs.FirstLemmas.{by_cases, none-split}
use Rattle.store_tables.proofs.PartLemmas.{none-found}

-- two that have one name have each other's
pub same-third : (a b name : List ℕ) → same_name a name ≡ true → same_name b name ≡ true → same_name b a ≡ true
same-third a b name ha hb =
    nat_list_eq_equiv.congr (folded b) (folded name) (folded a) hb ∙ nat_list_eq_equiv.symm (folded name) (folded a) ∙ ha

is-none : {X : Type 0} (o : Option X) → is_none o ≡ true → o ≡ None
is-none None e = refl
is-none (Some x) e = let wrong : ⊥ = cc in absurd wrong

-- no later definition has the first one's name, and those are distinct
pub distinct-split : (d : Definition) (list : List Definition) → are_distinct (d ∷ list) ≡ true → (find (is_defined d.name) list ≡ None) × (are_distinct list ≡ true)
distinct-split d list e = let parts = and_parts (is_none (find (is_defined d.name) list)) (are_distinct list) e in (is-none (find (is_defined d.name) list) parts.0, parts.1)

none-passes : {X : Type 0} (test : X → Bool) (x : X) (xs : List X) → test x ≡ false → find test xs ≡ None → find test (x ∷ xs) ≡ None
none-passes test x xs f e = rw f e

pub none-take : {X : Type 0} (test : X → Bool) (n : ℕ) (xs : List X) → find test xs ≡ None → find test (take n xs) ≡ None
none-take test zero xs e = refl
none-take test (suc n) [] e = refl
none-take test (suc n) (x ∷ xs) e = let split = none-split test x xs e in none-passes test x (take n xs) split.0 (none-take test n xs split.1)

pub distinct-take : (n : ℕ) (list : List Definition) → are_distinct list ≡ true → are_distinct (take n list) ≡ true
distinct-take zero list e = refl
distinct-take (suc n) [] e = refl
distinct-take (suc n) (d ∷ list) e =
    let split = distinct-split d list e in
    let first : find (is_defined d.name) (take n list) ≡ None = none-take (is_defined d.name) n list split.0 in
    let rest : are_distinct (take n list) ≡ true = distinct-take n list split.1 in
    rw (first, rest) refl

-- where a definition has a name and no later one has the definition's, no later one has the name
none-other : (d : Definition) (name : List ℕ) (list : List Definition) → is_defined name d ≡ true → find (is_defined d.name) list ≡ None → find (is_defined name) list ≡ None
none-other d name [] here e = refl
none-other d name (x ∷ list) here e =
    let split = none-split (is_defined d.name) x list e in
    let fails : is_defined name x ≡ false =
    by_cases (is_defined name x) (λ t. let both : true ≡ false = sym (same-third d.name x.name name here t) ∙ split.0 in let wrong : ⊥ = cc in absurd wrong) (λ f. f)
    in
    none-passes (is_defined name) x list fails (none-other d name list here split.1)

-- ---- each dataset of some names has a version left

find-here : (name : List ℕ) (x : Dataset) (state : State) → is_named name x ≡ true → dataset_of (x ∷ state) name ≡ Some x
find-here name x state t = rw t refl

find-behind : (name : List ℕ) (x : Dataset) (state : State) → is_named name x ≡ false → dataset_of (x ∷ state) name ≡ dataset_of state name
find-behind name x state f = rw f refl

abbrev Left : Option Dataset → Type 0
Left o = IfSome o (λ dataset. version_of dataset < 2 ^ 62)

tail-has : (d : Definition) (p : Part) (list : List Definition) (parts : List Part) (name : List ℕ) → find (is_defined d.name) list ≡ None → HasVersions (joined d p ∷ side_by_side list parts) name → HasVersions (side_by_side list parts) name
tail-has d p list parts name none has =
    by_cases (is_named name (joined d p))
    (λ t. subst Left (sym (none-found name list parts (none-other d name list t none))) tt)
    (λ f. subst Left (find-behind name (joined d p) (side_by_side list parts) f) has)

tails-have : (d : Definition) (p : Part) (list : List Definition) (parts : List Part) (names : List (List ℕ)) → find (is_defined d.name) list ≡ None → AllHaveVersions (joined d p ∷ side_by_side list parts) names
    → AllHaveVersions (side_by_side list parts) names
tails-have d p list parts [] none have = tt
tails-have d p list parts (name ∷ names) none have = (tail-has d p list parts name none have.0, tails-have d p list parts names none have.1)

other-member : (a b : Bool) → a ≡ false → (a || b) ≡ true → b ≡ true
other-member true b f e = let wrong : ⊥ = cc in absurd wrong
other-member false b f e = e

head-has : (x : Dataset) (state : State) (names : List (List ℕ)) → AllHaveVersions (x ∷ state) names → is_member names x ≡ true → version_of x < 2 ^ 62
head-has x state [] have member = let wrong : ⊥ = cc in absurd wrong
head-has x state (name ∷ names) have member =
    by_cases (is_named name x)
    (λ t. subst Left (find-here name x state t) have.0)
    (λ f. head-has x state names have.1 (other-member (is_named name x) (is_member names x) f member))

pub members-have : (names : List (List ℕ)) (list : List Definition) (parts : List Part) → are_distinct list ≡ true → AllHaveVersions (side_by_side list parts) names → MembersHaveVersions names (side_by_side list parts)
members-have names [] parts distinct have = tt
members-have names (d ∷ list) [] distinct have = tt
members-have names (d ∷ list) (p ∷ parts) distinct have =
    let split = distinct-split d list distinct in
    (λ member. head-has (joined d p) (side_by_side list parts) names have member, members-have names list parts split.1 (tails-have d p list parts names split.0 have))
