-- Places that are in range, and the columns at them.
use Rattle.std.proofs.Common.{◌≡◌, ℕ, zero, suc, ◌+◌, ◌<◌, ◌≤◌, Bool, true, false, List, [], ◌∷◌, ◌++◌, map, length, Option, Some, None, refl, sym, ap, ◌∙◌, arith}
use Rattle.std.specs.Prelude.{if◌then◌else◌, slice_get, option_map, option_to_list}
use Rattle.std.specs.List.{AllByRecursion}
use Rattle.std.proofs.lemmas.Option.{slice_get-map}
use Rattle.std.proofs.lemmas.List.Quantifiers.{position-Some}
use Rattle.sql_tree.specs.declared.statement.SqlSome.{SqlSome}
use Rattle.sql_tree.specs.declared.statement.SqlSome.TheVariants as some
use Rattle.value_core.specs.declared.schema.Column.{Column}
use Rattle.value_core.specs.declared.value.Kind.TheVariants as kind
use Rattle.value_core.specs.NameFold.{same_name}
use Rattle.plan_core.specs.Sound.{kinds_of, kinds_at, all_there}
use Rattle.feed_checks.specs.Places.{place_named, places_named, is_named_in, place_if_other, others_from, some_places, columns_at}

abbrev no_column : Column
no_column = record { name = []; kind = kind.Bool }

abbrev pub Below : ℕ → List ℕ → Type 0
Below n places = AllByRecursion (λ place. place < n) places

both_below : (n : ℕ) (front back : List ℕ) → Below n front → Below n back → Below n (front ++ back)
both_below n [] back f g = g
both_below n (place ∷ front) back f g = (f.0, both_below n front back f.1 g)

-- ---- by name

found_below : (n : ℕ) (found : Option ℕ) → ((place : ℕ) → found ≡ Some place → place < n) → Below n (option_to_list found)
found_below n None f = tt
found_below n (Some place) f = (f place refl, tt)

named_below : (columns : List Column) (names : List (List ℕ)) → Below (length columns) (places_named columns names)
named_below columns [] = tt
named_below columns (name ∷ names) =
    let first = found_below (length columns) (place_named columns name) (λ place is. (position-Some (λ column. same_name column.name name) columns place no_column is).0) in
    both_below (length columns) (option_to_list (place_named columns name)) (places_named columns names) first (named_below columns names)

-- ---- the others

if_below : (listed : Bool) (place n : ℕ) → place < n → Below n (if listed then [] else place ∷ [])
if_below true place n h = tt
if_below false place n h = (h, tt)

others_below : (names : List (List ℕ)) (place n : ℕ) (columns : List Column) → place + length columns ≤ n → Below n (others_from names place columns)
others_below names place n [] h = tt
others_below names place n (first ∷ more) h =
    both_below n (place_if_other names place first) (others_from names (place + 1) more)
    (if_below (is_named_in names first.name) place n (omega (arith, h))) (others_below names (place + 1) n more (omega (arith, h)))

all_in : (columns : List Column) (names : List (List ℕ)) → Below (length columns) (others_from names 0 columns)
all_in columns names = others_below names 0 (length columns) columns (omega arith)

pub some_below : (columns : List Column) (list : Option SqlSome) → Below (length columns) (some_places columns list)
some_below columns None = all_in columns []
some_below columns (Some (some.Except names)) = all_in columns names
some_below columns (Some (some.Only names)) = named_below columns names

pub names_below : (columns : List Column) (names : List (List ℕ)) → Below (length columns) (places_named columns names)
names_below columns names = named_below columns names

-- ---- the columns at places

there : (columns : List Column) (place : ℕ) → place < length columns → (column : Column) × (slice_get columns place ≡ Some column)
there [] place h = absurd (omega (arith, h))
there (first ∷ columns) zero h = (first, refl)
there (first ∷ columns) (suc place) h = there columns place (omega (arith, h))

kind_there : (columns : List Column) (place : ℕ) (column : Column) → slice_get columns place ≡ Some column → slice_get (kinds_of columns) place ≡ Some column.kind
kind_there columns place column is = slice_get-map (λ (each : Column). each.kind) columns place ∙ ap (option_map (λ (each : Column). each.kind)) is

one_more : (columns : List Column) (place : ℕ) (more : List ℕ) (column : Column) → slice_get columns place ≡ Some column →
    kinds_at (kinds_of columns) more ≡ Some (kinds_of (columns_at columns more)) →
    kinds_at (kinds_of columns) (place ∷ more) ≡ Some (kinds_of (columns_at columns (place ∷ more)))
one_more columns place more column is others =
    ap (λ first. all_there (first ∷ map (λ at. slice_get (kinds_of columns) at) more)) (kind_there columns place column is)
    ∙ (ap (option_map (λ kinds. column.kind ∷ kinds)) others
    ∙ ap (λ found. Some (kinds_of (option_to_list found ++ columns_at columns more))) (sym is))

-- the kinds at places in range are those of the columns at them
pub kinds_there : (columns : List Column) (places : List ℕ) → Below (length columns) places → kinds_at (kinds_of columns) places ≡ Some (kinds_of (columns_at columns places))
kinds_there columns [] h = refl
kinds_there columns (place ∷ more) h = let first = there columns place h.0 in one_more columns place more first.0 first.1 (kinds_there columns more h.1)
