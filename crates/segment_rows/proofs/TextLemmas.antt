-- Whether bytes are a text.
use Rattle.std.proofs.Common.{◌≡◌, ℕ, List, Bool, true, false, Result, Ok, Err, refl}
use Rattle.std.specs.Prelude.{OnOk}
use Rattle.std.specs.Str.{IsUtf8, is_utf8}
use Rattle.std.proofs.lemmas.Str.{IsUtf8-from_is_utf8}

false_from_not : (b : Bool) → (b ≡ true → ⊥) → b ≡ false
false_from_not true not = absurd (not refl)
false_from_not false not = refl

pub not_utf8 : (bytes : List ℕ) → (IsUtf8 bytes → ⊥) → is_utf8 bytes ≡ false
not_utf8 bytes not = false_from_not (is_utf8 bytes) (λ is. not (IsUtf8-from_is_utf8 bytes is))

-- what holds anyway
pub if_ok : {X Y : Type 0} {P : Type 0} (result : Result X Y) → P → OnOk result P
if_ok (Ok x) p = p
if_ok (Err e) p = tt
