-- What `parse` reads of decimal digits.
use Rattle.std.proofs.Common.{◌≡◌, ℕ, ◌+◌, ◌<◌, ◌≤◌, ◌^◌, Bool, true, false, ◌&&◌, List, [], ◌∷◌, length, if◌then◌else◌, Option, Some, None, Result, Ok, Err, refl, ap, sym, ◌∙◌, arith}
use Rattle.std.specs.Bool.{Decides}
use Rattle.std.specs.Char.{is_ascii_digit}
use Rattle.std.specs.List.{list_all}
use Rattle.std.specs.Prelude.{nat_lt, nat_le}
use Rattle.std.specs.Result.{OkIff, result_ok}
use Rattle.std.specs.Str.{all_ascii_digits}
use Rattle.std.specs.Str.Parse.{digits_value, ParsesUnsigned}
use Rattle.std.proofs.lemmas.Bool.Decides.{nat_tests}
use Rattle.std.proofs.lemmas.Str.Parse.{IsNumeralModel, numerals_by_value, tells_all_ascii_digits, parse_digits}
use Rattle.command_words.specs.Numbers.{is_numeral, number}

digits_model : IsNumeralModel (λ ds. all_ascii_digits ds ≡ true) (digits_value 10)
digits_model = numerals_by_value (λ ds. all_ascii_digits ds ≡ true) tells_all_ascii_digits

same_digits : (ds : List ℕ) → all_ascii_digits ds ≡ list_all is_ascii_digit ds
same_digits [] = refl
same_digits (c ∷ cs) = ap (λ b. is_ascii_digit c && b) (same_digits cs)

not_none : (ds : List ℕ) → is_numeral ds ≡ true → (0 < length ds) × (list_all is_ascii_digit ds ≡ true)
not_none [] e = cc
not_none (c ∷ cs) e = (omega arith, e)

by_test : {E : Type 0} (test : Bool) (n : ℕ) (ds : List ℕ) (r : Result ℕ E) → nat_lt n (2 ^ 64) ≡ test → OkIff r ((0 < length ds) × (n < 2 ^ 64)) n → 0 < length ds
    → result_ok r ≡ (if test then Some n else None)
by_test true n ds (Ok x) e h some = ap Some h.1
by_test false n ds (Ok x) e h some = absurd (grind (arith, nat_tests, e, h.0.1))
by_test true n ds (Err x) e h some = absurd (h (some, grind (arith, nat_tests, e)))
by_test false n ds (Err x) e h some = refl

pub parsed : {E : Type 0} (ds : List ℕ) (r : Result ℕ E) → ParsesUnsigned 64 10 ds r → is_numeral ds ≡ true → nat_le (length ds) 20 ≡ true → result_ok r ≡ number ds
parsed ds r h is short =
    let facts = not_none ds is in
    rw (is, short) (by_test (nat_lt (digits_value 10 ds) (2 ^ 64)) (digits_value 10 ds) ds r refl (parse_digits digits_model 64 ds r h (same_digits ds ∙ facts.1)) facts.0)
