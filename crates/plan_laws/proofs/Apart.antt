-- Lists in which nothing occurs twice.
use Rattle.std.proofs.Common.{◌≡◌, ◌⊎◌, inl, inr, ℕ, Bool, true, false, List, [], ◌∷◌, ◌++◌, map, None, refl, sym, subst, ◌∙◌}
use Rattle.std.specs.Prelude.{◌||◌}
use Rattle.std.specs.List.{AllByRecursion, list_any}
use Rattle.std.proofs.lemmas.List.Folds.{list_any-append}
use Rattle.std.proofs.lemmas.Slice.Eq.{bytes_eq-Decides}
use Rattle.value_core.specs.declared.schema.Column.{Column}
use Rattle.value_core.specs.NameFold.{folded, same_name}
use Rattle.statement_checks.specs.Repeats.{first_repeat, repeat_behind}
use Rattle.plan_check.proofs.Visiting.{Among}
use Rattle.plan_laws.proofs.Binding.{fails}

-- none is the same as one before it
abbrev pub AreApart : {A : Type 0} → (A → A → Bool) → List A → Type 0
AreApart same [] = Unit {0}
AreApart same (first ∷ more) = AllByRecursion (λ other. same other first ≡ false) more × AreApart same more

abbrev pub same_column : Column → Column → Bool
same_column a b = same_name a.name b.name

-- ---- names

name_is : (a b : List ℕ) → same_name a b ≡ true → folded a ≡ folded b
name_is a b e = (bytes_eq-Decides (folded a) (folded b)).0 e

pub one_name : (a b c : List ℕ) → same_name a c ≡ true → same_name b c ≡ true → same_name a b ≡ true
one_name a b c one two = (bytes_eq-Decides (folded a) (folded b)).1 (name_is a c one ∙ sym (name_is b c two))

pub name_itself : (name : List ℕ) → same_name name name ≡ true
name_itself name = (bytes_eq-Decides (folded name) (folded name)).1 refl

-- ---- members

pub all_among : {A : Type 0} (P : A → Type 0) (xs : List A) → AllByRecursion P xs → (x : A) → Among x xs → P x
all_among P [] all x m = absurd m
all_among P (first ∷ more) all x (inl e) = subst P (sym e) all.0
all_among P (first ∷ more) all x (inr m) = all_among P more all.1 x m

pub among_all : {A : Type 0} (P : A → Type 0) (xs : List A) → ((x : A) → Among x xs → P x) → AllByRecursion P xs
among_all P [] h = tt
among_all P (first ∷ more) h = (h first (inl refl), among_all P more (λ x m. h x (inr m)))

pub among_either : {A : Type 0} (x : A) (xs ys : List A) → Among x (xs ++ ys) → Among x xs ⊎ Among x ys
among_either x [] ys m = inr m
among_either x (y ∷ more) ys (inl e) = inl (inl e)
among_either x (y ∷ more) ys (inr m) = elim (among_either x more ys m) [ inl n ↦ inl (inr n) | inr n ↦ inr n ]

pub among_front : {A : Type 0} (x : A) (xs ys : List A) → Among x xs → Among x (xs ++ ys)
among_front x [] ys m = absurd m
among_front x (y ∷ more) ys (inl e) = inl e
among_front x (y ∷ more) ys (inr m) = inr (among_front x more ys m)

pub among_back : {A : Type 0} (x : A) (xs ys : List A) → Among x ys → Among x (xs ++ ys)
among_back x [] ys m = m
among_back x (y ∷ more) ys m = inr (among_back x more ys m)

-- ---- from a search for what occurs twice

pub or_none : (a b : Bool) → (a || b) ≡ false → (a ≡ false) × (b ≡ false)
or_none true b e = absurd (cc)
or_none false b e = (refl, e)

-- no one of these is the same as one of those before
abbrev AreNew : {A : Type 0} → (A → A → Bool) → List A → List A → Type 0
AreNew same before xs = AllByRecursion (λ x. list_any (same x) before ≡ false) xs

new_parts : {A : Type 0} (same : A → A → Bool) (before : List A) (first : A) (xs : List A) → AreNew same (before ++ first ∷ []) xs → AreNew same before xs × AllByRecursion (λ x. same x first ≡ false) xs
new_parts same before first [] all = (tt, tt)
new_parts same before first (x ∷ xs) all =
    let both = or_none (list_any (same x) before) (list_any (same x) (first ∷ [])) (sym (list_any-append (same x) before (first ∷ [])) ∙ all.0) in
    let here = or_none (same x first) false both.1 in
    let rest = new_parts same before first xs all.1 in
    ((both.0, rest.0), (here.0, rest.1))

pub none_twice : {A : Type 0} (same : A → A → Bool) (before xs : List A) → repeat_behind same before xs ≡ None → AreNew same before xs × AreApart same xs
none_twice same before [] is = (tt, tt)
none_twice same before (first ∷ more) is =
    let here = fails (list_any (same first) before) first (repeat_behind same (before ++ first ∷ []) more) is in
    let rest = none_twice same (before ++ first ∷ []) more here.1 in
    let parts = new_parts same before first more rest.0 in
    ((here.0, parts.0), (parts.1, rest.1))

-- ---- columns by their names

unlike_names : (first : Column) (columns : List Column) → AllByRecursion (λ other. same_name other first.name ≡ false) (map (λ (c : Column). c.name) columns) → AllByRecursion (λ other. same_column other first ≡ false) columns
unlike_names first [] all = tt
unlike_names first (c ∷ columns) all = (all.0, unlike_names first columns all.1)

names_apart : (columns : List Column) → AreApart same_name (map (λ (c : Column). c.name) columns) → AreApart same_column columns
names_apart [] apart = tt
names_apart (first ∷ more) apart = (unlike_names first more apart.0, names_apart more apart.1)

-- columns whose names do not repeat
pub columns_apart : (columns : List Column) → first_repeat (map (λ (c : Column). c.name) columns) ≡ None → AreApart same_column columns
columns_apart columns is = names_apart columns (none_twice same_name [] (map (λ (c : Column). c.name) columns) is).1
