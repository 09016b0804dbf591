-- Names that are known have places.
use Rattle.std.proofs.Common.{◌≡◌, ◌≢◌, ℕ, ◌+◌, Bool, true, false, cond, List, [], ◌∷◌, ◌++◌, map, length, Option, Some, None, refl, ap, subst, ◌∙◌}
use Rattle.std.specs.Prelude.{◌||◌, ◌&&◌, if◌then◌else◌, option_to_list}
use Rattle.std.specs.List.{list_any}
use Rattle.std.specs.Option.{option_or}
use Rattle.std.specs.List.{position_from}
use Rattle.std.proofs.lemmas.Iterator.Adapters.{position_from-zero}
use Rattle.sql_tree.specs.declared.statement.SqlSequence.{SqlSequence}
use Rattle.sql_tree.specs.declared.statement.SqlSequence.TheVariants as sequence
use Rattle.value_core.specs.declared.schema.Column.{Column}
use Rattle.value_core.specs.NameFold.{same_name}
use Rattle.expr_typing.specs.Typing.{first_of, has_column, if_unknown}
use Rattle.plan_core.specs.Sound.{is_empty}
use Rattle.statement_checks.specs.declared.fault.CheckFault.TheVariants.{StructSequence}
use Rattle.feed_checks.specs.Places.{place_named, places_named}
use Rattle.feed_checks.specs.Clauses.{sequence_names, is_struct}
use Rattle.feed_checks.specs.Feeds.{stray_name}

pub none_of_both : {A : Type 0} (a b : Option A) → option_or a b ≡ None → (a ≡ None) × (b ≡ None)
none_of_both None b e = (refl, e)
none_of_both (Some x) b e = absurd (cc)

from_by : (passes : Bool) (place : ℕ) (rest : Option ℕ) (more : Bool) → (passes || more) ≡ true → (more ≡ true → (at : ℕ) × (rest ≡ Some at)) →
    (at : ℕ) × (cond passes (Some place) rest ≡ Some at)
from_by true place rest more h f = (place, refl)
from_by false place rest more h f = f h

from_any : (test : Column → Bool) (place : ℕ) (columns : List Column) → list_any test columns ≡ true → (at : ℕ) × (position_from test place columns ≡ Some at)
from_any test place [] h = absurd (cc h)
from_any test place (first ∷ more) h = from_by (test first) place (position_from test (place + 1) more) (list_any test more) h (from_any test (place + 1) more)

is_known : (known : Bool) (name : List ℕ) → (if known then None else Some name) ≡ None → known ≡ true
is_known true name e = refl
is_known false name e = absurd (cc e)

one_named : (columns : List Column) (name : List ℕ) → if_unknown columns name ≡ None → (at : ℕ) × (place_named columns name ≡ Some at)
one_named columns name e =
    let test = λ (column : Column). same_name column.name name in
    let found = from_any test 0 columns (is_known (has_column columns name) name e) in
    (found.0, position_from-zero test columns ∙ found.1)

pub has_place : (columns : List Column) (names : List (List ℕ)) → is_empty names ≡ false → stray_name columns names ≡ None → places_named columns names ≢ []
has_place columns [] some known = absurd (cc some)
has_place columns (name ∷ names) some known =
    let found = one_named columns name (none_of_both (if_unknown columns name) (first_of (map (if_unknown columns) names)) known).0 in
    λ none. let wrong : found.0 ∷ places_named columns names ≡ [] = subst (λ at. option_to_list at ++ places_named columns names ≡ []) found.1 none in absurd (cc wrong)

pub one_part : (columns : List Column) (parts : SqlSequence) (history : Bool) → history ≡ true → (if history && is_struct parts then Some StructSequence else None) ≡ None →
    stray_name columns (sequence_names parts) ≡ None → length (places_named columns (sequence_names parts)) ≡ 1
one_part columns (sequence.One name) history is none known =
    let found = one_named columns name (none_of_both (if_unknown columns name) None known).0 in
    ap (λ at. length (option_to_list at ++ [])) found.1
one_part columns (sequence.Struct names) true is none known = absurd (cc none)
one_part columns (sequence.Struct names) false is none known = absurd (cc is)
