-- Each reading is exact for its spelling.
use Rattle.std.proofs.Common.{◌≡◌, ℕ, zero, suc, ◌+◌, ◌^◌, ◌<◌, ◌≤◌, Bool, true, false, cond, eqb, ltb, List, [], ◌∷◌, ◌++◌, length, get_or, take, drop, Option, Some, None, refl, sym, ap, subst, ◌∙◌, append_assoc, arith, inl, inr, ◌⊎◌}
use Rattle.std.specs.Int.{Width, w32, w64, byte_len, from_be_bytes, to_be_bytes}
use Rattle.std.specs.Str.{is_utf8}
use Rattle.std.specs.List.{flat_map, AllByRecursion}
use Rattle.std.proofs.lemmas.Bool.{cases_lt, ltb-false, le-ltb, eqb-true}
use Rattle.std.proofs.lemmas.List.{take_at, drop_at, take-append-drop, length-append, length-take, get_or-drop, get_or-take, get_or_past}
use Rattle.std.proofs.lemmas.Nat.{be_bytes_4, be_bytes_8, from_be_bytes-to_be_bytes_4, from_be_bytes-to_be_bytes_8}
use Rattle.segment_rows.specs.Exact.{IsBytes, IsExact}
use Rattle.std.specs.Prelude.{⊤}
use Rattle.segment_rows.specs.Ranges.{IsByte, IsNumber, IsText, IsList}
use Rattle.segment_rows.specs.Spelling.{spelled_byte, spelled_number, spelled_half, spelled_text, spelled_list}
use Rattle.segment_rows.specs.Reading.{◌>>=◌, wide_at, number_at, half_at, text_at, items_at, list_at, both_at, made_at, byte_at, coded_at}

pub IsBytes-drop : (n : ℕ) (bytes : List ℕ) → IsBytes bytes → IsBytes (drop n bytes)
IsBytes-drop n bytes h i = rw get_or-drop (h (n + i))

IsBytes-take : (n : ℕ) (bytes : List ℕ) → IsBytes bytes → IsBytes (take n bytes)
IsBytes-take n bytes h i =
    elim (cases_lt i n) [
      | inl lt ↦ rw (get_or-take n bytes i 0 lt) (h i)
      | inr le ↦ rw (get_or_past (take n bytes) i 0 (omega (arith, length-take n bytes))) (omega arith)
    ]

-- the value of a step that did not fail
pub bind_some : {A B : Type 0} (r : Option A) (f : A → Option B) (y : B) → (r >>= f) ≡ Some y → (x : A) × (r ≡ Some x) × (f x ≡ Some y)
bind_some (Some x) f y e = (x, refl, e)
bind_some None f y e = absurd cc

-- a test that did not fail
pub guard_some : {A : Type 0} (b : Bool) (x : Option A) (y : A) → cond b None x ≡ Some y → (b ≡ false) × (x ≡ Some y)
guard_some true x y e = absurd cc
guard_some false x y e = (refl, e)

pub guard_true : {A : Type 0} (b : Bool) (x : Option A) (y : A) → cond b x None ≡ Some y → (b ≡ true) × (x ≡ Some y)
guard_true true x y e = (refl, e)
guard_true false x y e = absurd cc

pub some_is : {A : Type 0} (x y : A) → Some x ≡ Some y → x ≡ y
some_is x y e = cc

-- what stands behind a front is made of bytes too
pub IsBytes-behind : (front rest bytes : List ℕ) → IsBytes bytes → bytes ≡ front ++ rest → IsBytes rest
IsBytes-behind front rest bytes are e = subst IsBytes (ap (drop (length front)) e ∙ drop_at front rest (length front) refl) (IsBytes-drop (length front) bytes are)

-- ---- what an exact reading says

-- what is read in two ways is one
pub one_reading : {A : Type 0} {s : A → List ℕ} {F : A → Type 0} {r : List ℕ → Option (A × List ℕ)} → IsExact s F r → (a : A) (x : List ℕ) (found : Option (A × List ℕ)) (bytes : List ℕ) → F a → bytes ≡ s a ++ x → r bytes ≡ found → found ≡ Some (a, x)
one_reading {A} {s} {F} {r} exact a x found bytes is e read = sym read ∙ ap r e ∙ exact.again a x is

pub prefix_law : {A : Type 0} {s : A → List ℕ} {F : A → Type 0} {r : List ℕ → Option (A × List ℕ)} → IsExact s F r → (a b : A) (x y : List ℕ) → F a → F b → s a ++ x ≡ s b ++ y → (a ≡ b) × (x ≡ y)
prefix_law {A} {s} {F} {r} exact a b x y is js e =
    let same : (a, x) ≡ (b, y) = some_is (a, x) (b, y) (sym (exact.again a x is) ∙ ap r e ∙ exact.again b y js) in
    (ap (λ (p : A × List ℕ). p.0) same, ap (λ (p : A × List ℕ). p.1) same)

pub whole_law : {A : Type 0} {s : A → List ℕ} {F : A → Type 0} {r : List ℕ → Option (A × List ℕ)} → IsExact s F r → (a b : A) → F a → F b → s a ≡ s b → a ≡ b
whole_law {A} {s} {F} {r} exact a b is js e = (prefix_law exact a b [] [] is js (ap (λ (t : List ℕ). t ++ []) e)).0

-- ---- numbers

record IsWide (w : Width) (limit : ℕ) : Type 0 where
  pub len : (n : ℕ) → length (to_be_bytes w n) ≡ byte_len w
  pub back : (bytes : List ℕ) → length bytes ≡ byte_len w → IsBytes bytes → to_be_bytes w (from_be_bytes w bytes) ≡ bytes
  pub again : (n : ℕ) → n < limit → from_be_bytes w (to_be_bytes w n) ≡ n
  pub below : (bytes : List ℕ) → IsBytes bytes → from_be_bytes w bytes < limit

wide32 : IsWide w32 (2 ^ 32)
wide32 = record {
  len = λ n. refl;
  back = λ bytes len fits. be_bytes_4 bytes _ len fits refl;
  again = λ n lt. from_be_bytes-to_be_bytes_4 n lt;
  below = λ bytes fits. omega (arith, fits 0, fits 1, fits 2, fits 3);
}

wide64 : IsWide w64 (2 ^ 64)
wide64 = record {
  len = λ n. refl;
  back = λ bytes len fits. be_bytes_8 bytes _ len fits refl;
  again = λ n lt. from_be_bytes-to_be_bytes_8 n lt;
  below = λ bytes fits. omega (arith, fits 0, fits 1, fits 2, fits 3, fits 4, fits 5, fits 6, fits 7);
}

wide_exact : (w : Width) (limit : ℕ) → IsWide w limit → IsExact (to_be_bytes w) (λ n. n < limit) (wide_at w)
unfolding wide_at
wide_exact w limit wide = record {
  taken = λ bytes found are e.
      let size = byte_len w in
      let g = guard_some (ltb (length bytes) size) (Some (from_be_bytes w (take size bytes), drop size bytes)) found e in
      let long : size ≤ length bytes = ltb-false _ _ g.0 in
      let parts = IsBytes-take size bytes are in
      let back : to_be_bytes w (from_be_bytes w (take size bytes)) ≡ take size bytes = wide.back (take size bytes) (omega (arith, length-take size bytes)) parts in
      subst (λ (x : ℕ × List ℕ). (x.0 < limit) × (bytes ≡ to_be_bytes w x.0 ++ x.1)) (some_is _ _ g.1) (wide.below (take size bytes) parts, rw back (sym (take-append-drop size bytes)));
  again = λ n rest lt.
      let len = wide.len n in
      let long : ltb (length (to_be_bytes w n ++ rest)) (byte_len w) ≡ false = le-ltb _ _ (omega (arith, length-append (to_be_bytes w n) rest)) in
      rw (long, take_at (to_be_bytes w n) rest (byte_len w) len, drop_at (to_be_bytes w n) rest (byte_len w) len, wide.again n lt) refl;
}

pub number_exact : IsExact spelled_number IsNumber number_at
unfolding spelled_number
number_exact = wide_exact w64 (2 ^ 64) wide64

pub half_exact : IsExact spelled_half (λ n. n < 2 ^ 32) half_at
unfolding spelled_half
half_exact = wide_exact w32 (2 ^ 32) wide32

-- ---- texts

pub text_exact : IsExact spelled_text IsText text_at
unfolding text_at
text_exact = record {
  taken = λ bytes found are e.
      let b = bind_some (number_at bytes) (λ n. cond (ltb (length n.1) n.0) None (cond (is_utf8 (take n.0 n.1)) (Some (take n.0 n.1, drop n.0 n.1)) None)) found e in
      let n = b.0 in
      let t = number_exact.taken bytes n are b.1 in
      let g = guard_some (ltb (length n.1) n.0) (cond (is_utf8 (take n.0 n.1)) (Some (take n.0 n.1, drop n.0 n.1)) None) found b.2 in
      let u = guard_true (is_utf8 (take n.0 n.1)) (Some (take n.0 n.1, drop n.0 n.1)) found g.1 in
      let long : n.0 ≤ length n.1 = ltb-false _ _ g.0 in
      let len : length (take n.0 n.1) ≡ n.0 = omega (arith, length-take n.0 n.1) in
      let whole : bytes ≡ spelled_number n.0 ++ (take n.0 n.1 ++ drop n.0 n.1) = rw (take-append-drop) t.1 in
      let fits : IsNumber (length (take n.0 n.1)) = rw len t.0 in
      let parts : bytes ≡ spelled_text (take n.0 n.1) ++ drop n.0 n.1 = rw (len, append_assoc) whole in
      subst (λ (x : List ℕ × List ℕ). IsText x.0 × (bytes ≡ spelled_text x.0 ++ x.1)) (some_is _ _ u.1) ((fits, u.0), parts);
  again = λ text rest fits.
      let long : ltb (length (text ++ rest)) (length text) ≡ false = le-ltb _ _ (omega (arith, length-append text rest)) in
      rw (append_assoc, number_exact.again (length text) (text ++ rest) fits.0, long, take_at text rest (length text) refl, drop_at text rest (length text) refl, fits.1) refl;
}

-- ---- lists

items_taken : {A : Type 0} (spelled : A → List ℕ) (Is : A → Type 0) (one : List ℕ → Option (A × List ℕ)) → IsExact spelled Is one → (n : ℕ) (bytes : List ℕ) (found : List A × List ℕ) → IsBytes bytes → items_at one n bytes ≡ Some found → (length found.0 ≡ n) × AllByRecursion Is found.0 × (bytes ≡ flat_map spelled found.0 ++ found.1)
unfolding items_at
items_taken {A} spelled Is one exact zero bytes found are e = subst (λ (x : List A × List ℕ). (length x.0 ≡ 0) × AllByRecursion Is x.0 × (bytes ≡ flat_map spelled x.0 ++ x.1)) (some_is _ _ e) (refl, tt, refl)
items_taken {A} spelled Is one exact (suc n) bytes found are e =
    let first = bind_some (one bytes) (λ first. items_at one n first.1 >>= λ others. Some (first.0 ∷ others.0, others.1)) found e in
    let a = first.0 in
    let others = bind_some (items_at one n a.1) (λ others. Some (a.0 ∷ others.0, others.1)) found first.2 in
    let b = others.0 in
    let t = exact.taken bytes a are first.1 in
    let r = items_taken spelled Is one exact n a.1 b (IsBytes-behind (spelled a.0) a.1 bytes are t.1) others.1 in
    let parts : bytes ≡ flat_map spelled (a.0 ∷ b.0) ++ b.1 = t.1 ∙ ap (λ (x : List ℕ). spelled a.0 ++ x) r.2 ∙ sym (append_assoc (spelled a.0) (flat_map spelled b.0) b.1) in
    subst (λ (x : List A × List ℕ). (length x.0 ≡ suc n) × AllByRecursion Is x.0 × (bytes ≡ flat_map spelled x.0 ++ x.1)) (some_is _ _ others.2) (ap suc r.0, (t.0, r.1), parts)

items_again : {A : Type 0} (spelled : A → List ℕ) (Is : A → Type 0) (one : List ℕ → Option (A × List ℕ)) → IsExact spelled Is one → (items : List A) (rest : List ℕ) → AllByRecursion Is items → items_at one (length items) (flat_map spelled items ++ rest) ≡ Some (items, rest)
unfolding items_at
items_again spelled Is one exact [] rest are = refl
items_again {A} spelled Is one exact (a ∷ items) rest are =
    let parts : flat_map spelled (a ∷ items) ++ rest ≡ spelled a ++ (flat_map spelled items ++ rest) = append_assoc (spelled a) (flat_map spelled items) rest in
    rw (parts, exact.again a (flat_map spelled items ++ rest) are.0, items_again spelled Is one exact items rest are.1) refl

pub list_exact : {A : Type 0} {spelled : A → List ℕ} {Is : A → Type 0} {one : List ℕ → Option (A × List ℕ)} → IsExact spelled Is one → IsExact (spelled_list spelled) (IsList Is) (list_at one)
unfolding list_at
list_exact {A} {spelled} {Is} {one} exact = record {
  taken = λ bytes found are e.
      let b = bind_some (number_at bytes) (λ n. items_at one n.0 n.1) found e in
      let n = b.0 in
      let t = number_exact.taken bytes n are b.1 in
      let r = items_taken spelled Is one exact n.0 n.1 found (IsBytes-behind (spelled_number n.0) n.1 bytes are t.1) b.2 in
      let fits : IsNumber (length found.0) = rw r.0 t.0 in
      let parts : bytes ≡ spelled_list spelled found.0 ++ found.1 = t.1 ∙ ap (λ (x : List ℕ). spelled_number n.0 ++ x) r.2 ∙ ap (λ (k : ℕ). spelled_number k ++ (flat_map spelled found.0 ++ found.1)) (sym r.0) ∙ sym (append_assoc (spelled_number (length found.0)) (flat_map spelled found.0) found.1) in
      ((fits, r.1), parts);
  again = λ items rest are.
      rw (append_assoc, number_exact.again (length items) (flat_map spelled items ++ rest) are.0) (items_again spelled Is one exact items rest are.1);
}

-- ---- fields one after the other, and what is made of them

pub both_exact : {A B : Type 0} {s : A → List ℕ} {t : B → List ℕ} {F : A → Type 0} {G : B → Type 0} {r : List ℕ → Option (A × List ℕ)} {q : List ℕ → Option (B × List ℕ)}
    → IsExact s F r → IsExact t G q → IsExact (λ (p : A × B). s p.0 ++ t p.1) (λ p. F p.0 × G p.1) (both_at r q)
both_exact {A} {B} {s} {t} {F} {G} {r} {q} one two = record {
  taken = λ bytes found are e.
      let a = bind_some (r bytes) (λ x. q x.1 >>= λ y. Some ((x.0, y.0), y.1)) found e in
      let b = bind_some (q a.0.1) (λ y. Some ((a.0.0, y.0), y.1)) found a.2 in
      let h = one.taken bytes a.0 are a.1 in
      let k = two.taken a.0.1 b.0 (IsBytes-behind (s a.0.0) a.0.1 bytes are h.1) b.1 in
      let parts : bytes ≡ (s a.0.0 ++ t b.0.0) ++ b.0.1 = h.1 ∙ ap (λ (x : List ℕ). s a.0.0 ++ x) k.1 ∙ sym (append_assoc (s a.0.0) (t b.0.0) b.0.1) in
      subst (λ (x : (A × B) × List ℕ). (F x.0.0 × G x.0.1) × (bytes ≡ (s x.0.0 ++ t x.0.1) ++ x.1)) (some_is _ _ b.2) ((h.0, k.0), parts);
  again = λ p rest fits.
      rw (append_assoc, one.again p.0 (t p.1 ++ rest) fits.0, two.again p.1 rest fits.1) refl;
}

pub made_exact : {A B : Type 0} {s : A → List ℕ} {F : A → Type 0} {r : List ℕ → Option (A × List ℕ)} (make : A → B) (parts : B → A)
    → ((a : A) → parts (make a) ≡ a) → ((b : B) → make (parts b) ≡ b) → IsExact s F r → IsExact (λ b. s (parts b)) (λ b. F (parts b)) (made_at make r)
made_exact {A} {B} {s} {F} {r} make parts back forth exact = record {
  taken = λ bytes found are e.
      let a = bind_some (r bytes) (λ x. Some (make x.0, x.1)) found e in
      let h = exact.taken bytes a.0 are a.1 in
      let made : F (parts (make a.0.0)) × (bytes ≡ s (parts (make a.0.0)) ++ a.0.1) = subst (λ (x : A). F x × (bytes ≡ s x ++ a.0.1)) (sym (back a.0.0)) h in
      subst (λ (x : B × List ℕ). F (parts x.0) × (bytes ≡ s (parts x.0) ++ x.1)) (some_is _ _ a.2) made;
  again = λ b rest fits. rw (exact.again (parts b) rest fits) (ap (λ (x : B). Some (x, rest)) (forth b));
}

-- ---- a byte that says which

pub byte_taken : (bytes : List ℕ) (found : ℕ × List ℕ) → byte_at bytes ≡ Some found → bytes ≡ found.0 ∷ found.1
unfolding byte_at
byte_taken [] found e = absurd cc
byte_taken (byte ∷ rest) found e = ap (λ (x : ℕ × List ℕ). x.0 ∷ x.1) (some_is (byte, rest) found e)

pub byte_again : (byte : ℕ) (rest : List ℕ) → byte_at (byte ∷ rest) ≡ Some (byte, rest)
unfolding byte_at
byte_again byte rest = refl

pub byte_exact : IsExact spelled_byte IsByte byte_at
byte_exact = record {
  taken = λ bytes found are e.
      let front = byte_taken bytes found e in
      (subst (λ (x : List ℕ). get_or x 0 0 < 256) front (are 0), front);
  again = λ byte rest is. byte_again byte rest;
}

pub coded_exact : {A : Type 0} (code : A → ℕ) (meaning : ℕ → Option A) → ((a : A) → meaning (code a) ≡ Some a) → ((byte : ℕ) (a : A) → meaning byte ≡ Some a → byte ≡ code a) → IsExact (λ a. code a ∷ []) (λ a. ⊤) (coded_at meaning)
unfolding coded_at
coded_exact {A} code meaning forth back = record {
  taken = λ bytes found are e.
      let b = bind_some (byte_at bytes) (λ byte. meaning byte.0 >>= λ a. Some (a, byte.1)) found e in
      let a = bind_some (meaning b.0.0) (λ a. Some (a, b.0.1)) found b.2 in
      let parts : bytes ≡ code a.0 ∷ b.0.1 = byte_taken bytes b.0 b.1 ∙ ap (λ (x : ℕ). x ∷ b.0.1) (back b.0.0 a.0 a.1) in
      subst (λ (x : A × List ℕ). ⊤ × (bytes ≡ code x.0 ∷ x.1)) (some_is _ _ a.2) (tt, parts);
  again = λ a rest fits. rw (byte_again (code a) rest, forth a) refl;
}

-- a test between two readings
pub tag_case : {A : Type 0} (tag k : ℕ) (x y : Option A) (z : A) → cond (eqb tag k) x y ≡ Some z → ((tag ≡ k) × (x ≡ Some z)) ⊎ (y ≡ Some z)
tag_case {A} tag k x y z e = by_test (eqb tag k) refl e where
  by_test : (b : Bool) → eqb tag k ≡ b → cond b x y ≡ Some z → ((tag ≡ k) × (x ≡ Some z)) ⊎ (y ≡ Some z)
  by_test true is e = inl (eqb-true tag k is, e)
  by_test false is e = inr e

-- a part that was read behind the byte
pub part_taken : {A B : Type 0} {s : A → List ℕ} {F : A → Type 0} {r : List ℕ → Option (A × List ℕ)} → IsExact s F r → (make : A → B) (rest : List ℕ) (found : B × List ℕ) → IsBytes rest → made_at make r rest ≡ Some found
    → (a : A) × F a × (make a ≡ found.0) × (rest ≡ s a ++ found.1)
part_taken {A} {B} {s} {F} {r} exact make rest found are e =
    let a = bind_some (r rest) (λ x. Some (make x.0, x.1)) found e in
    let h = exact.taken rest a.0 are a.1 in
    let same : (make a.0.0, a.0.1) ≡ found = some_is _ _ a.2 in
    (a.0.0, h.0, ap (λ (x : B × List ℕ). x.0) same, h.1 ∙ ap (λ (x : List ℕ). s a.0.0 ++ x) (ap (λ (x : B × List ℕ). x.1) same))
