-- Events without repeats and ties have moments of their own.
use Rattle.std.proofs.Common.{◌≡◌, ℕ, ◌+◌, ◌≤◌, Bool, true, false, cond, not, ◌&&◌, ◌||◌, List, [], ◌∷◌, refl, sym, ap, ◌∙◌, arith}
use Rattle.std.specs.Prelude.{count_by, ◌==◌}
use Rattle.std.specs.List.{list_any}
use Rattle.std.proofs.lemmas.List.Sums.{sum_by-cons}
use Rattle.value_core.specs.declared.event.Event.{Event}
use Rattle.value_core.specs.declared.event.EventKind.{EventKind}
use Rattle.value_core.specs.declared.event.EventKind.TheVariants.{Delete, Truncate, Upsert}
use Rattle.value_core.specs.EventOrder.{clash, is_truncate, kind_rank, same_event, same_moment}
use Rattle.value_core.specs.Order.{Row, same_row}
use Rattle.value_core.specs.OrderLaws.{same_row_laws}
use Rattle.flow_model.specs.Events.{AreOnce, IsAmong, IsClashFree}
use Rattle.cdc_arrivals.specs.Arrivals.{AreOfOwnMoments, CollidesWithNone, HaveWidth, are_alike, collide, heard}
use Rattle.cdc_current.specs.Keeping.{AreKeyless, HaveOwnMoments}
use Rattle.cdc_current.proofs.CountLemmas.{same_is}

-- ---- an event is itself

rank_itself : (kind : EventKind) → (kind_rank kind == kind_rank kind) ≡ true
rank_itself Truncate = refl
rank_itself Delete = refl
rank_itself Upsert = refl

itself : (event : Event) → same_event event event ≡ true
itself event =
    λ i. ((same_row_laws.refl event.key i && same_row_laws.refl event.sequence i) && rank_itself event.kind i) && same_row_laws.refl event.columns i

among_rest : (a b : Bool) → b ≡ true → (a || b) ≡ true
among_rest true b e = refl
among_rest false b e = e

among_first : (event : Event) (events : List Event) → IsAmong event (event ∷ events)
among_first event events = ap (λ b. b || list_any (same_event event) events) (itself event)

-- ---- no two are of one moment

abbrev AreOther : Event → List Event → Type 0
AreOther x [] = Unit {0}
AreOther x (y ∷ ys) = (same_moment x y ≡ false) × AreOther x ys

none_by : (b : Bool) (n : ℕ) → cond b 1 0 + n ≤ 0 → (b ≡ false) × (n ≤ 0)
none_by true n e = absurd (wrong n e)
  where
    wrong : (n : ℕ) → 1 + n ≤ 0 → ⊥
    wrong n e = omega arith
none_by false n e = (refl, omega arith)

moment_by : (moment event : Bool) → event ≡ false → (moment && not event) ≡ false → moment ≡ false
moment_by true true e f = e
moment_by true false e f = f
moment_by false event e f = refl

others : (x : Event) (ys : List Event) → count_by (same_event x) ys ≤ 0 → ((y : Event) → IsAmong y ys → clash x y ≡ false) → AreOther x ys
others x [] once free = tt
others x (y ∷ ys) once free =
    let split = none_by (same_event x y) (count_by (same_event x) ys) (omega (arith, once, sum_by-cons (λ z. cond (same_event x z) 1 0) y ys)) in (
      moment_by (same_moment x y) (same_event x y) split.0 (free y (among_first y ys)),
      others x ys split.1 (λ z is. free z (among_rest (same_event z y) (list_any (same_event z) ys) is)),
    )

-- ---- events that a key hears of collide only where they are of one moment

keys_same : (x y : Event) (key : Row) (s t : Bool) → are_alike s t ≡ true → (s ≡ true → x.key ≡ []) → (t ≡ true → y.key ≡ []) → (s || same_row x.key key) ≡ true → (t || same_row y.key key) ≡ true
    → same_row x.key y.key ≡ true
keys_same x y key true true alike bare blank hears here = (λ i. same_row (bare refl i) (blank refl i)) ∙ same_row_laws.refl []
keys_same x y key true false alike bare blank hears here = cc
keys_same x y key false true alike bare blank hears here = cc
keys_same x y key false false alike bare blank hears here = (λ i. same_row (same_is x.key key hears i) (same_is y.key key here i)) ∙ same_row_laws.refl key

apart_by : (x y : Event) (a b : Bool) → same_row x.sequence y.sequence ≡ a → (b ≡ true → same_row x.key y.key ≡ true) → same_moment x y ≡ false → (a && b) ≡ false
apart_by x y true true e keys other = sym (λ i. keys refl i && e i) ∙ other
apart_by x y true false e keys other = refl
apart_by x y false b e keys other = refl

apart : (x y : Event) (key : Row) → (is_truncate x ≡ true → x.key ≡ []) → (is_truncate y ≡ true → y.key ≡ []) → (is_truncate x || same_row x.key key) ≡ true → (is_truncate y || same_row y.key key) ≡ true
    → same_moment x y ≡ false → collide x y ≡ false
apart x y key bare blank hears here other =
    apart_by x y (same_row x.sequence y.sequence) (are_alike (is_truncate x) (is_truncate y)) refl (λ alike. keys_same x y key (is_truncate x) (is_truncate y) alike bare blank hears here) other

none_collides_by : (x y : Event) (key : Row) (ys more : List Event) (b : Bool) → (is_truncate y || same_row y.key key) ≡ b → (b ≡ true → collide x y ≡ false) → CollidesWithNone x more
    → CollidesWithNone x (cond b (y ∷ more) more)
none_collides_by x y key ys more true is mine later = (mine refl, later)
none_collides_by x y key ys more false is mine later = later

none_collides : (x : Event) (key : Row) (ys : List Event) → (is_truncate x ≡ true → x.key ≡ []) → AreKeyless ys → (is_truncate x || same_row x.key key) ≡ true → AreOther x ys → CollidesWithNone x (heard key ys)
none_collides x key [] bare keyless hears other = tt
none_collides x key (y ∷ ys) bare keyless hears other =
    none_collides_by x y key ys (heard key ys) (is_truncate y || same_row y.key key) refl (λ is. apart x y key bare keyless.0 hears is other.0) (none_collides x key ys bare keyless.1 hears other.1)

pub own_by : (x : Event) (more : List Event) (b : Bool) → (b ≡ true → CollidesWithNone x more) → AreOfOwnMoments more → AreOfOwnMoments (cond b (x ∷ more) more)
own_by x more true mine later = (mine refl, later)
own_by x more false mine later = later

once_more : (x y : Event) (ys : List Event) → AreOnce (y ∷ ys) → count_by (same_event x) ys ≤ 1
once_more x y ys once = omega (arith, once x, sum_by-cons (λ z. cond (same_event x z) 1 0) y ys)

one_by : (b : Bool) (n m : ℕ) → b ≡ true → m ≡ cond b 1 0 + n → m ≤ 1 → n ≤ 0
one_by true n m e f g = omega arith
one_by false n m e f g = cc

once_first : (x : Event) (xs : List Event) → AreOnce (x ∷ xs) → count_by (same_event x) xs ≤ 0
once_first x xs once =
    one_by (same_event x x) (count_by (same_event x) xs) (count_by (same_event x) (x ∷ xs)) (itself x) (sum_by-cons (λ z. cond (same_event x z) 1 0) x xs) (once x)

own : (key : Row) (events : List Event) → AreOnce events → IsClashFree events → AreKeyless events → AreOfOwnMoments (heard key events)
own key [] once free keyless = tt
own key (x ∷ xs) once free keyless =
    let rest : (y : Event) → IsAmong y xs → IsAmong y (x ∷ xs) = λ y is. among_rest (same_event y x) (list_any (same_event y) xs) is in
    own_by x (heard key xs) (is_truncate x || same_row x.key key)
    (λ hears. none_collides x key xs keyless.0 keyless.1 hears (others x xs (once_first x xs once) (λ y is. free x y (among_first x xs) (rest y is))))
    (own key xs (λ e. once_more e x xs once) (λ a b p q. free a b (rest a p) (rest b q)) keyless.1)

pub own_moments : (events : List Event) (wide : ℕ) → AreOnce events → IsClashFree events → AreKeyless events → HaveWidth wide events → HaveOwnMoments events
own_moments events wide once free keyless widths = record { wide = wide; widths = widths; apart = λ key. own key events once free keyless }
