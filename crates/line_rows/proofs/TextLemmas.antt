-- Bytes that are no text.
use Rattle.std.proofs.Common.{◌≡◌, ℕ, List, Bool, true, false, refl}
use Rattle.std.specs.Str.{IsUtf8, is_utf8}
use Rattle.std.proofs.lemmas.Str.{IsUtf8-from_is_utf8}

false_from_not : (b : Bool) → (b ≡ true → ⊥) → b ≡ false
false_from_not true not = absurd (not refl)
false_from_not false not = refl

pub no_text : (bytes : List ℕ) → (IsUtf8 bytes → ⊥) → is_utf8 bytes ≡ false
no_text bytes not = false_from_not (is_utf8 bytes) (λ is. not (IsUtf8-from_is_utf8 bytes is))
