-- Where an event changes the interval of a run.
use Rattle.std.proofs.Common.{◌≡◌, ◌≢◌, ℕ, Bool, true, false, ◌&&◌, if◌then◌else◌, List, [], ◌∷◌, ◌++◌, Option, Some, None, refl, sym, ap, ◌∙◌}
use Rattle.std.specs.Prelude.{unwrap_or}
use Rattle.value_core.specs.Order.{Row}
use Rattle.flow_model.specs.History.{Moment, Interval, goes_on, agree, next_sequence}
use Rattle.cdc_runs.specs.Runs.{stands_by, interval_at, moment_goes_on, goes_through, recolumned}
use Rattle.cdc_runs.proofs.StandLemmas.{and-both}
use Rattle.cdc_scd2.specs.Zones.{IsApart, AreApart, IsOther, AreOthers}

abbrev end_of : Option Interval → Option Row
end_of None = None
end_of (Some interval) = interval.end

abbrev columns_of : Option Interval → Option Row
columns_of None = None
columns_of (Some interval) = Some interval.columns

at_on : (tracked : List ℕ) (start : Row) (later : List Moment) (behind : Option Interval) (columns : Row) → goes_on tracked columns later ≡ true
    → stands_by tracked start later behind (Some columns) ≡ behind
at_on tracked start later behind columns e = ap (λ test. if test then behind else Some (record { columns = columns; start = start; end = next_sequence later })) e

pub at_off : (tracked : List ℕ) (start : Row) (later : List Moment) (behind : Option Interval) (columns : Row) → goes_on tracked columns later ≡ false
    → stands_by tracked start later behind (Some columns) ≡ Some (record { columns = columns; start = start; end = next_sequence later })
at_off tracked start later behind columns e = ap (λ test. if test then behind else Some (record { columns = columns; start = start; end = next_sequence later })) e

-- ---- an interval ends at a later moment

next_apart : (sequence : Row) (later : List Moment) → IsApart sequence later → next_sequence later ≢ Some sequence
next_apart sequence [] apart e = cc
next_apart sequence (moment ∷ later) apart e = apart.0 (inside e)
  where
    inside : Some moment.sequence ≡ Some sequence → moment.sequence ≡ sequence
    inside h = cc

end_apart_by : (tracked : List ℕ) (sequence start : Row) (later : List Moment) (behind : Option Interval) (columns : Option Row) → IsApart sequence later
    → end_of behind ≢ Some sequence → end_of (stands_by tracked start later behind columns) ≢ Some sequence
end_apart_by tracked sequence start later behind None apart past e = cc
end_apart_by tracked sequence start later behind (Some columns) apart past e = by (goes_on tracked columns later) e
  where
    by : (test : Bool) → end_of (if test then behind else Some (record { columns = columns; start = start; end = next_sequence later })) ≡ Some sequence → ⊥
    by true h = past h
    by false h = next_apart sequence later apart h

end_apart : (tracked : List ℕ) (sequence : Row) (since : Option Row) (moment : Moment) (later : List Moment) → IsApart sequence later
    → end_of (interval_at tracked since (moment ∷ later)) ≢ Some sequence
end_apart tracked sequence since moment [] apart = end_apart_by tracked sequence (unwrap_or since moment.sequence) [] None moment.columns apart (λ e. cc)
end_apart tracked sequence since moment (next ∷ later) apart =
    end_apart_by tracked sequence (unwrap_or since moment.sequence) (next ∷ later) (interval_at tracked (Some (unwrap_or since moment.sequence)) (next ∷ later)) moment.columns apart
    (end_apart tracked sequence (Some (unwrap_or since moment.sequence)) next later apart.1)

-- an interval that goes on into these moments doesn't end at the first of them
goes_past : (tracked : List ℕ) (columns : Row) (since : Option Row) (later : List Moment) → goes_on tracked columns later ≡ true → AreApart later
    → end_of (interval_at tracked since later) ≢ next_sequence later
goes_past tracked columns since [] e apart h = cc
goes_past tracked columns since (moment ∷ later) e apart h = end_apart tracked moment.sequence since moment later apart.0 h

-- ---- moments with other columns have the same sequences

next_recolumned : (moments : List Moment) (rows : List Row) (after : List Moment) → AreOthers moments rows → next_sequence (recolumned moments rows ++ after) ≡ next_sequence (moments ++ after)
next_recolumned [] [] after others = refl
next_recolumned [] (row ∷ rows) after others = absurd others
next_recolumned (moment ∷ moments) [] after others = refl
next_recolumned (moment ∷ moments) (row ∷ rows) after others = refl

apart_recolumned : (sequence : Row) (moments : List Moment) (rows : List Row) (after : List Moment) → AreOthers moments rows → IsApart sequence (moments ++ after) → IsApart sequence (recolumned moments rows ++ after)
apart_recolumned sequence [] [] after others apart = apart
apart_recolumned sequence [] (row ∷ rows) after others apart = absurd others
apart_recolumned sequence (moment ∷ moments) [] after others apart = apart
apart_recolumned sequence (moment ∷ moments) (row ∷ rows) after others apart = (apart.0, apart_recolumned sequence moments rows after others.1 apart.1)

are_apart_recolumned : (moments : List Moment) (rows : List Row) (after : List Moment) → AreOthers moments rows → AreApart (moments ++ after) → AreApart (recolumned moments rows ++ after)
are_apart_recolumned [] [] after others apart = apart
are_apart_recolumned [] (row ∷ rows) after others apart = absurd others
are_apart_recolumned (moment ∷ moments) [] after others apart = apart
are_apart_recolumned (moment ∷ moments) (row ∷ rows) after others apart = (apart_recolumned moment.sequence moments rows after others.1 apart.0, are_apart_recolumned moments rows after others.1 apart.1)

-- ---- two walks side by side

some_inside : (a b : Row) → Some a ≡ Some b → a ≡ b
some_inside a b h = cc

-- one run ends here and the other goes on
off_on : (tracked : List ℕ) (start : Row) (columns others : Row) (mine later : List Moment) → next_sequence mine ≡ next_sequence later → goes_on tracked others later ≡ true → AreApart later
    → (i : Option Interval) → i ≡ interval_at tracked (Some start) later → Some (record { columns = columns; start = start; end = next_sequence mine }) ≡ i → ⊥
off_on tracked start columns others mine later same on apart i is h =
    goes_past tracked others (Some start) later on apart (ap end_of (sym is) ∙ ap end_of (sym h) ∙ same)

abbrev pub Walks : List ℕ → List Moment → List Row → List Moment → Type 0
Walks tracked moments rows after = (start : Row) → AreOthers moments rows → AreApart (moments ++ after)
    → (goes_through tracked moments after ≡ true → goes_through tracked (recolumned moments rows) after ≡ true → ⊥)
    → interval_at tracked (Some start) (moments ++ after) ≢ interval_at tracked (Some start) (recolumned moments rows ++ after)

walk_tests : (tracked : List ℕ) (start columns row : Row) (mine later : List Moment) → columns ≢ row → next_sequence mine ≡ next_sequence later → AreApart mine → AreApart later
    → (goes_on tracked columns mine ≡ true → goes_on tracked row later ≡ true → interval_at tracked (Some start) mine ≢ interval_at tracked (Some start) later)
    → (t u : Bool) → goes_on tracked columns mine ≡ t → goes_on tracked row later ≡ u
    → (if t then interval_at tracked (Some start) mine else Some (record { columns = columns; start = start; end = next_sequence mine }))
    ≢ (if u then interval_at tracked (Some start) later else Some (record { columns = row; start = start; end = next_sequence later }))
walk_tests tracked start columns row mine later other same apart also both true true e f h = both e f h
walk_tests tracked start columns row mine later other same apart also both true false e f h =
    off_on tracked start row columns later mine (sym same) e apart (interval_at tracked (Some start) mine) refl (sym h)
walk_tests tracked start columns row mine later other same apart also both false true e f h =
    off_on tracked start columns row mine later same f also (interval_at tracked (Some start) later) refl h
walk_tests tracked start columns row mine later other same apart also both false false e f h = other (some_inside columns row (ap columns_of h))

walk_by : (tracked : List ℕ) (start : Row) (columns : Option Row) (row : Row) (mine later : List Moment) → IsOther columns row → next_sequence mine ≡ next_sequence later → AreApart mine → AreApart later
    → (moment_goes_on tracked columns mine ≡ true → goes_on tracked row later ≡ true → interval_at tracked (Some start) mine ≢ interval_at tracked (Some start) later)
    → stands_by tracked start mine (interval_at tracked (Some start) mine) columns ≢ stands_by tracked start later (interval_at tracked (Some start) later) (Some row)
walk_by tracked start None row mine later other same apart also both h = absurd other
walk_by tracked start (Some columns) row mine later other same apart also both h =
    walk_tests tracked start columns row mine later other same apart also both (goes_on tracked columns mine) (goes_on tracked row later) refl refl h

pub walks : (tracked : List ℕ) (moments : List Moment) (rows : List Row) (after : List Moment) → Walks tracked moments rows after
walks tracked [] [] after start others apart through h = through refl refl
walks tracked [] (row ∷ rows) after start others apart through h = absurd others
walks tracked (moment ∷ moments) [] after start others apart through h = absurd others
walks tracked (moment ∷ moments) (row ∷ rows) after start others apart through h =
    walk_by tracked start moment.columns row (moments ++ after) (recolumned moments rows ++ after) others.0 (sym (next_recolumned moments rows after others.1)) apart.1 (are_apart_recolumned moments rows after others.1 apart.1)
    (λ e f. walks tracked moments rows after start others.1 apart.1
    (λ p q. through (and-both (moment_goes_on tracked moment.columns (moments ++ after)) (goes_through tracked moments after) e p) (and-both (goes_on tracked row (recolumned moments rows ++ after)) (goes_through tracked (recolumned moments rows) after) f q))) h

-- ---- the run before an event: it has another interval, unless it goes through both histories, or the event changes nothing

head_by : (tracked : List ℕ) (since : Option Row) (at columns sequence : Row) (is : Option Row) (moments : List Moment) (rows : List Row) (after : List Moment)
    → AreOthers moments rows → AreApart (moments ++ after) → IsApart sequence (moments ++ after) → is ≢ Some columns
    → (goes_through tracked (record { sequence = at; columns = Some columns } ∷ moments) after ≡ true
    → goes_through tracked (record { sequence = at; columns = Some columns } ∷ record { sequence = sequence; columns = is } ∷ recolumned moments rows) after ≡ true → ⊥)
    → (test : Bool) → agree tracked columns is ≡ test
    → interval_at tracked since (record { sequence = at; columns = Some columns } ∷ (moments ++ after))
    ≢ (if test then stands_by tracked (unwrap_or since at) (recolumned moments rows ++ after) (interval_at tracked (Some (unwrap_or since at)) (recolumned moments rows ++ after)) is
    else Some (record { columns = columns; start = unwrap_or since at; end = Some sequence }))
head_by tracked since at columns sequence is moments rows after others apart alone new through false e h =
    end_apart tracked sequence since (record { sequence = at; columns = Some columns }) (moments ++ after) alone (ap end_of h)
head_by tracked since at columns sequence None moments rows after others apart alone new through true e h = absurd (let none : ⊥ = cc in none)
head_by tracked since at columns sequence (Some row) moments rows after others apart alone new through true e h =
    walk_by tracked (unwrap_or since at) (Some columns) row (moments ++ after) (recolumned moments rows ++ after) (λ same. new (ap Some (sym same))) (sym (next_recolumned moments rows after others)) apart (are_apart_recolumned moments rows after others apart)
    (λ t u. walks tracked moments rows after (unwrap_or since at) others apart
    (λ p q. through (and-both (goes_on tracked columns (moments ++ after)) (goes_through tracked moments after) t p)
    (and-both (agree tracked columns (Some row)) (goes_on tracked row (recolumned moments rows ++ after) && goes_through tracked (recolumned moments rows) after) e
    (and-both (goes_on tracked row (recolumned moments rows ++ after)) (goes_through tracked (recolumned moments rows) after) u q)))) h

pub heads_differ : (tracked : List ℕ) (since : Option Row) (at columns sequence : Row) (is : Option Row) (moments : List Moment) (rows : List Row) (after : List Moment)
    → AreOthers moments rows → AreApart (moments ++ after) → IsApart sequence (moments ++ after) → is ≢ Some columns
    → (goes_through tracked (record { sequence = at; columns = Some columns } ∷ moments) after ≡ true
    → goes_through tracked (record { sequence = at; columns = Some columns } ∷ record { sequence = sequence; columns = is } ∷ recolumned moments rows) after ≡ true → ⊥)
    → interval_at tracked since (record { sequence = at; columns = Some columns } ∷ (moments ++ after))
    ≢ interval_at tracked since (record { sequence = at; columns = Some columns } ∷ record { sequence = sequence; columns = is } ∷ (recolumned moments rows ++ after))
heads_differ tracked since at columns sequence is moments rows after others apart alone new through =
    head_by tracked since at columns sequence is moments rows after others apart alone new through (agree tracked columns is) refl
