-- Reading states one after the other, as a loop does, and what the whole says.
use Rattle.std.proofs.Common.{◌≡◌, ◌↔◌, ℕ, suc, get_or, subst, ◌-◌, ◌+◌, ◌≤◌, ◌<◌, List, [], ◌∷◌, ◌++◌, length, drop, Option, Some, None, refl, sym, ap, ◌∙◌, append_assoc, arith}
use Rattle.std.proofs.lemmas.List.{append-nil, length-drop, drop_all, drop_more}
use Rattle.std.specs.List.{AllByRecursion}
use Rattle.segment_rows.specs.Exact.{IsBytes, IsExact, IsSpelling, Spells}
use Rattle.segment_rows.specs.FieldLaws.{some_is, one_reading, whole_law}
use Rattle.segment_rows.specs.Reading.{◌>>=◌, items_at, list_at}
use Rattle.commit_payloads.specs.declared.definition.Definition.{Definition}
use Rattle.commit_payloads.specs.declared.state.DatasetState.{DatasetState}
use Rattle.commit_payloads.specs.declared.state.State.{State}
use Rattle.commit_payloads.specs.Ranges.{IsState}
use Rattle.commit_payloads.specs.Reading.{dataset_state_at, definition_at, state_at}
use Rattle.commit_payloads.specs.Spelling.{spelled_state}
use Rattle.commit_payloads.specs.StateLaws.{state_exact}

-- what was read before, and what is still read
abbrev pub with_front : {A : Type 0} → List A → Option (List A × List ℕ) → Option (List A × List ℕ)
with_front front read = read >>= λ x. Some (front ++ x.0, x.1)

regroup : {A : Type 0} (front : List A) (n : A) (read : Option (List A × List ℕ)) → with_front front (read >>= λ x. Some (n ∷ x.0, x.1)) ≡ with_front (front ++ n ∷ []) read
regroup {A} front n (Some x) = ap (λ (ns : List A). Some (ns, x.1)) (simp append_assoc)
regroup front n None = refl

pub goes_on : {A : Type 0} (one : List ℕ → Option (A × List ℕ)) (front : List A) (count i : ℕ) (bytes : List ℕ) (n : A) (after : List ℕ) (total : Option (List A × List ℕ)) → i < count → one bytes ≡ Some (n, after)
    → with_front front (items_at one (count - i) bytes) ≡ total → with_front (front ++ n ∷ []) (items_at one (count - (i + 1)) after) ≡ total
unfolding items_at
goes_on one front count i bytes n after total lt h so_far =
    let k : count - i ≡ suc (count - (i + 1)) = omega arith in
    let first : with_front front (items_at one (count - i) bytes) ≡ with_front (front ++ n ∷ []) (items_at one (count - (i + 1)) after) = rw (k, h) (regroup front n (items_at one (count - (i + 1)) after)) in
    sym first ∙ so_far

pub ends : {A : Type 0} (one : List ℕ → Option (A × List ℕ)) (front : List A) (count i : ℕ) (bytes : List ℕ) (total : Option (List A × List ℕ)) → i < count → one bytes ≡ None
    → with_front front (items_at one (count - i) bytes) ≡ total → total ≡ None
unfolding items_at
ends one front count i bytes total lt h so_far =
    let k : count - i ≡ suc (count - (i + 1)) = omega arith in
    let first : with_front front (items_at one (count - i) bytes) ≡ None = rw (k, h) refl in
    sym so_far ∙ first

pub is_done : {A : Type 0} (one : List ℕ → Option (A × List ℕ)) (front : List A) (count i : ℕ) (bytes : List ℕ) (total : Option (List A × List ℕ)) → count ≤ i → with_front front (items_at one (count - i) bytes) ≡ total → total ≡ Some (front, bytes)
unfolding items_at
is_done {A} one front count i bytes total le so_far =
    let k : count - i ≡ 0 = omega arith in
    let first : with_front front (items_at one (count - i) bytes) ≡ Some (front, bytes) = rw k (ap (λ (ns : List A). Some (ns, bytes)) (append-nil front)) in
    sym so_far ∙ first

-- ---- the whole

none_spelled : (bytes : List ℕ) → state_at bytes ≡ None → Spells spelled_state IsState bytes None
none_spelled bytes none value is e = absurd (let clash : None ≡ Some (value, []) = one_reading state_exact value [] None bytes is (e ∙ sym (append-nil (spelled_state value))) none in cc)

-- no definitions begin the bytes
pub no_definitions : (bytes : List ℕ) → list_at definition_at bytes ≡ None → Spells spelled_state IsState bytes None
no_definitions bytes none = none_spelled bytes (rw none refl)

pub no_states : (bytes rest : List ℕ) (list : List Definition) → list_at definition_at bytes ≡ Some (list, rest) → items_at dataset_state_at (length list) rest ≡ None → Spells spelled_state IsState bytes None
no_states bytes rest list first none = none_spelled bytes (rw (first, none) refl)

both_read : (bytes rest left : List ℕ) (list : List Definition) (states : List DatasetState) → list_at definition_at bytes ≡ Some (list, rest) → items_at dataset_state_at (length list) rest ≡ Some (states, left) → state_at bytes ≡ Some (record { list = list; states = states }, left)
both_read bytes rest left list states first second = rw (first, second) refl

pub more_is_left : (bytes rest : List ℕ) (end : ℕ) (list : List Definition) (states : List DatasetState) → list_at definition_at bytes ≡ Some (list, rest) → items_at dataset_state_at (length list) rest ≡ Some (states, drop end bytes) → end < length bytes → Spells spelled_state IsState bytes None
more_is_left bytes rest end list states first second lt value is e =
    let found : State = record { list = list; states = states } in
    let same : (found, drop end bytes) ≡ (value, []) = some_is (found, drop end bytes) (value, []) (one_reading state_exact value [] (Some (found, drop end bytes)) bytes is (e ∙ sym (append-nil (spelled_state value))) (both_read bytes rest (drop end bytes) list states first second)) in
    let empty : length (drop end bytes) ≡ 0 = ap (λ (p : State × List ℕ). length p.1) same in
    absurd (omega (arith, empty, length-drop end bytes))

pub state_is : (bytes rest : List ℕ) (end : ℕ) (list : List Definition) (states : List DatasetState) → IsBytes bytes → list_at definition_at bytes ≡ Some (list, rest) → items_at dataset_state_at (length list) rest ≡ Some (states, drop end bytes) → end ≡ length bytes → IsSpelling spelled_state IsState bytes (record { list = list; states = states })
state_is bytes rest end list states are first second full =
    let found : State = record { list = list; states = states } in
    let nothing : drop end bytes ≡ [] = drop_all end bytes (omega arith) in
    let t = state_exact.taken bytes (found, drop end bytes) are (both_read bytes rest (drop end bytes) list states first second) in
    let parts : bytes ≡ spelled_state found = t.1 ∙ ap (λ (left : List ℕ). spelled_state found ++ left) nothing ∙ append-nil (spelled_state found) in
    record { range = t.0; bytes_are = parts; only = λ other is same. whole_law state_exact other found is t.0 (sym same ∙ parts) }

-- ---- a test of each item

left : {X : Type 0} (xs : List X) (i : ℕ) (x : X) → i < length xs → x ≡ get_or xs i x → drop i xs ≡ x ∷ drop (i + 1) xs
left xs i x h e = subst (λ y. drop i xs ≡ y ∷ drop (i + 1) xs) (sym e) (drop_more xs i x h)

pub passes_by : {X : Type 0} (P : X → Type 0) (xs : List X) (i : ℕ) (x : X) → i < length xs → x ≡ get_or xs i x → P x → (AllByRecursion P (drop i xs) ↔ AllByRecursion P xs) → AllByRecursion P (drop (i + 1) xs) ↔ AllByRecursion P xs
passes_by P xs i x h e is so_far =
    let split : drop i xs ≡ x ∷ drop (i + 1) xs = left xs i x h e in
    (λ rest. so_far.0 (subst (AllByRecursion P) (sym split) (is, rest)), λ all. (subst (AllByRecursion P) split (so_far.1 all)).1)

pub stops_at : {X : Type 0} (P : X → Type 0) (xs : List X) (i : ℕ) (x : X) → i < length xs → x ≡ get_or xs i x → (P x → ⊥) → (AllByRecursion P (drop i xs) ↔ AllByRecursion P xs) → AllByRecursion P xs → ⊥
stops_at P xs i x h e not so_far all = not (subst (AllByRecursion P) (left xs i x h e) (so_far.1 all)).0
