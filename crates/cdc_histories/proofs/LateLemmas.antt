-- Events of other sequences, and a late one among those that are kept.
use Rattle.std.proofs.Common.{◌≡◌, Bool, true, false, ◌&&◌, List, [], ◌∷◌, refl}
use Rattle.value_core.specs.declared.event.Event.{Event}
use Rattle.value_core.specs.EventOrder.{Fresh, event_order, sorted_by, standing}
use Rattle.value_core.specs.Order.{same_row}
use Rattle.event_ledger.specs.Keyed.{AreApart}
use Rattle.cdc_histories.proofs.ApplyLemmas.{apart_placed, joined}
use Rattle.cdc_histories.proofs.CutLemmas.{fresh_sorted}

-- each of these events is of another sequence
abbrev pub AreOthers : Event → List Event → Type 0
AreOthers event [] = Unit {0}
AreOthers event (x ∷ xs) = (same_row x.sequence event.sequence ≡ false) × AreOthers event xs

-- no two of these events are of one sequence
abbrev pub Differ : List Event → Type 0
Differ [] = Unit {0}
Differ (x ∷ xs) = AreOthers x xs × Differ xs

both_by : (a b : Bool) → b ≡ false → (a && b) ≡ false
both_by true b e = e
both_by false b e = refl

pub fresh_others : (event : Event) (xs : List Event) → AreOthers event xs → standing xs event ≡ Fresh
fresh_others event [] others = refl
fresh_others event (x ∷ xs) others = joined x event xs (both_by (same_row x.key event.key) (same_row x.sequence event.sequence) others.0) (fresh_others event xs others.1)

pub apart_differ : (xs : List Event) → Differ xs → AreApart xs
apart_differ [] differ = tt
apart_differ (x ∷ xs) differ = (fresh_others x xs differ.0, apart_differ xs differ.1)

pub apart_sorted : (xs : List Event) → AreApart xs → AreApart (sorted_by event_order xs)
apart_sorted [] apart = tt
apart_sorted (x ∷ xs) apart = apart_placed x (sorted_by event_order xs) (fresh_sorted xs x apart.0) (apart_sorted xs apart.1)

-- a late event of a free moment among sorted ones
pub late_apart : (late : Event) (xs : List Event) → AreApart xs → standing xs late ≡ Fresh → AreApart (late ∷ sorted_by event_order xs)
late_apart late xs apart fresh = (fresh_sorted xs late fresh, apart_sorted xs apart)
