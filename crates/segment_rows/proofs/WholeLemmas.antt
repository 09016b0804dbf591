-- What an exact reading says of all bytes, and of the bytes at a place.
use Rattle.std.proofs.Common.{◌≡◌, ℕ, ◌≤◌, ◌<◌, Bool, true, false, List, [], ◌++◌, length, drop, Option, Some, None, Result, Ok, Err, sym, ap, ◌∙◌, arith}
use Rattle.std.proofs.lemmas.List.{append-nil, length-append, length-drop, drop_all}
use Rattle.std.specs.Prelude.{IfOk}
use Rattle.segment_rows.specs.Exact.{IsBytes, IsExact, IsSpelling, Spells, StandsAt, Finds}
use Rattle.segment_rows.specs.FieldLaws.{IsBytes-drop, some_is, one_reading, whole_law}
use Rattle.segment_rows.specs.Reading.{Reads}

-- ---- at a place

pub none_stands : {A : Type 0} {s : A → List ℕ} {F : A → Type 0} {r : List ℕ → Option (A × List ℕ)} → IsExact s F r → (bytes : List ℕ) (at : ℕ) → r (drop at bytes) ≡ None → Finds s F bytes at None
none_stands {A} {s} {F} {r} exact bytes at none value rest is e = absurd (let clash : None ≡ Some (value, rest) = one_reading exact value rest None (drop at bytes) is e none in cc)

pub one_stands : {A : Type 0} {s : A → List ℕ} {F : A → Type 0} {r : List ℕ → Option (A × List ℕ)} → IsExact s F r → (bytes : List ℕ) (at : ℕ) (value : A) (end : ℕ) → IsBytes bytes → at ≤ length bytes → end ≤ length bytes → r (drop at bytes) ≡ Some (value, drop end bytes) → StandsAt s F bytes at value end
one_stands {A} {s} {F} {r} exact bytes at value end are le within e =
    let t = exact.taken (drop at bytes) (value, drop end bytes) (IsBytes-drop at bytes are) e in
    record {
      range = t.0;
      long = omega (arith, ap length t.1, length-drop at bytes, length-drop end bytes, length-append (s value) (drop end bytes));
      within = within;
      here = t.1;
      only = λ other rest is same. ap (λ (p : A × List ℕ). p.0) (some_is (other, rest) (value, drop end bytes) (sym (one_reading exact other rest (Some (value, drop end bytes)) (drop at bytes) is same e)));
    }

pub finds : {A : Type 0} {s : A → List ℕ} {F : A → Type 0} {r : List ℕ → Option (A × List ℕ)} → IsExact s F r → (bytes : List ℕ) (at : ℕ) (found : Option (A × ℕ)) → IsBytes bytes → at ≤ length bytes → Reads r bytes at found → Finds s F bytes at found
finds exact bytes at None are le read = none_stands exact bytes at read
finds exact bytes at (Some found) are le read = one_stands exact bytes at found.0 found.1 are le read.1 read.2

-- ---- all of the bytes

pub whole_none : {A : Type 0} {s : A → List ℕ} {F : A → Type 0} {r : List ℕ → Option (A × List ℕ)} → IsExact s F r → (bytes : List ℕ) → r bytes ≡ None → Spells s F bytes None
whole_none {A} {s} {F} {r} exact bytes none value is e = absurd (let clash : None ≡ Some (value, []) = one_reading exact value [] None bytes is (e ∙ sym (append-nil (s value))) none in cc)

pub whole_short : {A : Type 0} {s : A → List ℕ} {F : A → Type 0} {r : List ℕ → Option (A × List ℕ)} → IsExact s F r → (bytes : List ℕ) (found : A) (end : ℕ) → end < length bytes → r bytes ≡ Some (found, drop end bytes) → Spells s F bytes None
whole_short {A} {s} {F} {r} exact bytes found end lt read value is e =
    let same : (found, drop end bytes) ≡ (value, []) = some_is (found, drop end bytes) (value, []) (one_reading exact value [] (Some (found, drop end bytes)) bytes is (e ∙ sym (append-nil (s value))) read) in
    let empty : length (drop end bytes) ≡ 0 = ap (λ (p : A × List ℕ). length p.1) same in
    absurd (omega (arith, empty, length-drop end bytes))

pub whole_one : {A : Type 0} {s : A → List ℕ} {F : A → Type 0} {r : List ℕ → Option (A × List ℕ)} → IsExact s F r → (bytes : List ℕ) (value : A) (end : ℕ) → IsBytes bytes → end ≡ length bytes → r bytes ≡ Some (value, drop end bytes) → IsSpelling s F bytes value
whole_one {A} {s} {F} {r} exact bytes value end are full read =
    let nothing : drop end bytes ≡ [] = drop_all end bytes (omega arith) in
    let t = exact.taken bytes (value, drop end bytes) are read in
    let parts : bytes ≡ s value = t.1 ∙ ap (λ (rest : List ℕ). s value ++ rest) nothing ∙ append-nil (s value) in
    record { range = t.0; bytes_are = parts; only = λ other is same. whole_law exact other value is t.0 (sym same ∙ parts) }

-- ---- with a test behind the reading

pub refused_tested : {A : Type 0} {s : A → List ℕ} {F : A → Type 0} (test : A → Bool) (bytes : List ℕ) (at : ℕ) (value : A) (end : ℕ) → StandsAt s F bytes at value end → test value ≡ false → Finds s (λ a. F a × (test a ≡ true)) bytes at None
refused_tested {A} {s} {F} test bytes at value end stands fails other rest is e =
    let same : test other ≡ test value = ap test (stands.only other rest is.0 e) in
    absurd (let clash : true ≡ false = sym is.1 ∙ same ∙ fails in cc)

pub stands_tested : {A : Type 0} {s : A → List ℕ} {F : A → Type 0} (test : A → Bool) (bytes : List ℕ) (at : ℕ) (value : A) (end : ℕ) → StandsAt s F bytes at value end → test value ≡ true → StandsAt s (λ a. F a × (test a ≡ true)) bytes at value end
stands_tested test bytes at value end stands holds = record {
  range = (stands.range, holds);
  long = stands.long;
  within = stands.within;
  here = stands.here;
  only = λ other rest is e. stands.only other rest is.0 e;
}

-- what follows of a value that was answered
pub if_ok_then : {X E : Type 0} {P Q : X → Type 0} (result : Result X E) → IfOk result P → ((x : X) → P x → Q x) → IfOk result Q
if_ok_then (Ok x) p then = then x p
if_ok_then (Err e) p then = tt
