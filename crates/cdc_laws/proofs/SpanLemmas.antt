-- An event stands in the interval that spans its sequence, and in no other one.
use Rattle.std.proofs.Common.{◌≡◌, ◌⊎◌, inl, inr, ℕ, Bool, true, false, if◌then◌else◌, List, [], ◌∷◌, ◌++◌, map, Option, Some, None, refl, sym, ap, ◌∙◌, subst}
use Rattle.std.specs.Prelude.{unwrap_or}
use Rattle.std.specs.declared.cmp.Ordering.TheVariants.{Less, Equal}
use Rattle.std.specs.Cmp.{tied_itself}
use Rattle.std.proofs.lemmas.List.{append-nil}
use Rattle.value_core.specs.Order.{Row, row_order}
use Rattle.value_core.specs.OrderLaws.{row_order_total}
use Rattle.flow_model.specs.History.{Moment, Interval, goes_on, next_sequence}
use Rattle.cdc_runs.specs.Runs.{ended, ended_by, ends_in, interval_at, opened, opened_by, stands_by}
use Rattle.cdc_scd2.specs.Looks.{Seen, seen_in}

-- ---- the order of sequences

less-equal : Less ≡ Equal → ⊥
less-equal h = cc

never : (a : Row) → row_order a a ≡ Less → ⊥
never a e = less-equal (sym e ∙ tied_itself row_order_total a)

both_ways : (a b : Row) → row_order a b ≡ Less → row_order b a ≡ Less → ⊥
both_ways a b e f = never a (row_order_total.trans a b a e f)

-- ---- moments in order

abbrev pub AllUp : Row → List Moment → Type 0
AllUp sequence [] = Unit {0}
AllUp sequence (moment ∷ moments) = (row_order sequence moment.sequence ≡ Less) × AllUp sequence moments

abbrev pub AreUp : List Moment → Type 0
AreUp [] = Unit {0}
AreUp (moment ∷ moments) = AllUp moment.sequence moments × AreUp moments

up_trans : (a b : Row) (moments : List Moment) → row_order a b ≡ Less → AllUp b moments → AllUp a moments
up_trans a b [] e all = tt
up_trans a b (moment ∷ moments) e all = (row_order_total.trans a b moment.sequence e all.0, up_trans a b moments e all.1)

-- ---- intervals and what is seen, with nothing behind

abbrev pub ends : List ℕ → Option Row → List Moment → List Interval
ends tracked since [] = []
ends tracked since (moment ∷ later) = ended tracked since moment later ++ ends tracked (opened tracked since moment later) later

abbrev pub stands : List ℕ → Option Row → List Moment → List Seen
stands tracked since [] = []
stands tracked since (moment ∷ later) = record { columns = moment.columns; interval = interval_at tracked since (moment ∷ later) } ∷ stands tracked (opened tracked since moment later) later

pub ends_are : (tracked : List ℕ) (since : Option Row) (moments : List Moment) → ends_in tracked since moments [] ≡ ends tracked since moments
ends_are tracked since [] = refl
ends_are tracked since (moment ∷ later) =
    ap (λ behind. ended tracked since moment behind ++ ends_in tracked (opened tracked since moment behind) later []) (append-nil later)
    ∙ ap (λ more. ended tracked since moment later ++ more) (ends_are tracked (opened tracked since moment later) later)

pub stands_are : (tracked : List ℕ) (since : Option Row) (moments : List Moment) → seen_in tracked since moments [] ≡ stands tracked since moments
stands_are tracked since [] = refl
stands_are tracked since (moment ∷ later) =
    ap (λ behind. record { columns = moment.columns; interval = interval_at tracked since (moment ∷ behind) } ∷ seen_in tracked (opened tracked since moment behind) later []) (append-nil later)
    ∙ ap (λ more. record { columns = moment.columns; interval = interval_at tracked since (moment ∷ later) } ∷ more) (stands_are tracked (opened tracked since moment later) later)

-- ---- members

abbrev pub Member : Interval → List Interval → Type 0
Member interval [] = ⊥
Member interval (x ∷ xs) = (interval ≡ x) ⊎ Member interval xs

member_behind : (interval : Interval) (xs ys : List Interval) → Member interval ys → Member interval (xs ++ ys)
member_behind interval [] ys m = m
member_behind interval (x ∷ xs) ys m = inr (member_behind interval xs ys m)

pub member_either : (interval : Interval) (xs ys : List Interval) → Member interval (xs ++ ys) → Member interval xs ⊎ Member interval ys
member_either interval [] ys m = inr m
member_either interval (x ∷ xs) ys (inl e) = inl (inl e)
member_either interval (x ∷ xs) ys (inr m) = lifted (member_either interval xs ys m)
  where
    lifted : Member interval xs ⊎ Member interval ys → Member interval (x ∷ xs) ⊎ Member interval ys
    lifted (inl h) = inl (inr h)
    lifted (inr h) = inr h

-- ---- the sequences that an interval spans

abbrev pub Before : Row → Option Row → Type 0
Before sequence None = Unit {0}
Before sequence (Some end) = row_order sequence end ≡ Less

pub record Spans (interval : Interval) (sequence : Row) : Type 0 where
  pub starts : row_order sequence interval.start ≡ Less → ⊥
  pub until : Before sequence interval.end

before_trans : (a b : Row) (end : Option Row) → row_order a b ≡ Less → Before b end → Before a end
before_trans a b None e before = tt
before_trans a b (Some end) e before = row_order_total.trans a b end e before

before_next : (sequence : Row) (moments : List Moment) → AllUp sequence moments → Before sequence (next_sequence moments)
before_next sequence [] all = tt
before_next sequence (moment ∷ moments) all = all.0

-- ---- where the intervals of some moments begin and end

abbrev Since : Row → Option Row → Type 0
Since sequence None = Unit {0}
Since sequence (Some start) = row_order sequence start ≡ Less

since_start : (sequence : Row) (since : Option Row) (at : Row) → Since sequence since → row_order sequence at ≡ Less → row_order sequence (unwrap_or since at) ≡ Less
since_start sequence None at s e = e
since_start sequence (Some start) at s e = s

since_opened : (tracked : List ℕ) (sequence : Row) (since : Option Row) (at : Row) (later : List Moment) (columns : Option Row) → Since sequence since → row_order sequence at ≡ Less → Since sequence (opened_by tracked since at later columns)
since_opened tracked sequence since at later None s e = tt
since_opened tracked sequence since at later (Some columns) s e = by (goes_on tracked columns later)
  where
    by : (test : Bool) → Since sequence (if test then Some (unwrap_or since at) else None)
    by true = since_start sequence since at s e
    by false = tt

-- what ends with a moment is one interval at most
ended_is : (tracked : List ℕ) (since : Option Row) (at : Row) (later : List Moment) (columns : Option Row) (interval : Interval) → Member interval (ended_by tracked since at later columns)
    → (interval.start ≡ unwrap_or since at) × (interval.end ≡ next_sequence later)
ended_is tracked since at later None interval m = absurd m
ended_is tracked since at later (Some columns) interval m = by (goes_on tracked columns later) m
  where
    by : (test : Bool) → Member interval (if test then [] else record { columns = columns; start = unwrap_or since at; end = next_sequence later } ∷ []) → (interval.start ≡ unwrap_or since at) × (interval.end ≡ next_sequence later)
    by true h = absurd h
    by false (inl e) = (ap (λ i. i.start) e, ap (λ i. i.end) e)
    by false (inr h) = absurd h

starts_after : (tracked : List ℕ) (sequence : Row) (since : Option Row) (moments : List Moment) → AllUp sequence moments → Since sequence since
    → (interval : Interval) → Member interval (ends tracked since moments) → row_order sequence interval.start ≡ Less
starts_after tracked sequence since [] all s interval m = absurd m
starts_after tracked sequence since (moment ∷ later) all s interval m =
    by (member_either interval (ended tracked since moment later) (ends tracked (opened tracked since moment later) later) m)
    (starts_after tracked sequence (opened tracked since moment later) later all.1 (since_opened tracked sequence since moment.sequence later moment.columns s all.0) interval)
  where
    by : Member interval (ended tracked since moment later) ⊎ Member interval (ends tracked (opened tracked since moment later) later)
        → (Member interval (ends tracked (opened tracked since moment later) later) → row_order sequence interval.start ≡ Less) → row_order sequence interval.start ≡ Less
    by (inl h) more = subst (λ start. row_order sequence start ≡ Less) (sym (ended_is tracked since moment.sequence later moment.columns interval h).0) (since_start sequence since moment.sequence s all.0)
    by (inr h) more = more h

ends_after : (tracked : List ℕ) (sequence : Row) (since : Option Row) (moments : List Moment) → AllUp sequence moments
    → (interval : Interval) → Member interval (ends tracked since moments) → Before sequence interval.end
ends_after tracked sequence since [] all interval m = absurd m
ends_after tracked sequence since (moment ∷ later) all interval m =
    by (member_either interval (ended tracked since moment later) (ends tracked (opened tracked since moment later) later) m)
    (ends_after tracked sequence (opened tracked since moment later) later all.1 interval)
  where
    by : Member interval (ended tracked since moment later) ⊎ Member interval (ends tracked (opened tracked since moment later) later)
        → (Member interval (ends tracked (opened tracked since moment later) later) → Before sequence interval.end) → Before sequence interval.end
    by (inl h) more = subst (Before sequence) (sym (ended_is tracked since moment.sequence later moment.columns interval h).1) (before_next sequence later all.1)
    by (inr h) more = more h

-- each of them ends behind the first moment
ends_behind : (tracked : List ℕ) (since : Option Row) (moment : Moment) (later : List Moment) → AllUp moment.sequence later
    → (interval : Interval) → Member interval (ends tracked since (moment ∷ later)) → Before moment.sequence interval.end
ends_behind tracked since moment later all interval m =
    by (member_either interval (ended tracked since moment later) (ends tracked (opened tracked since moment later) later) m)
  where
    by : Member interval (ended tracked since moment later) ⊎ Member interval (ends tracked (opened tracked since moment later) later) → Before moment.sequence interval.end
    by (inl h) = subst (Before moment.sequence) (sym (ended_is tracked since moment.sequence later moment.columns interval h).1) (before_next moment.sequence later all)
    by (inr h) = ends_after tracked moment.sequence (opened tracked since moment later) later all interval h

some_inside : (a b : Interval) → Some a ≡ Some b → a ≡ b
some_inside a b h = cc

-- the interval of a moment began where its run did
began_at : (tracked : List ℕ) (start : Row) (moments : List Moment) (interval : Interval) → interval_at tracked (Some start) moments ≡ Some interval → interval.start ≡ start
began_at tracked start [] interval e = absurd (let none : ⊥ = cc in none)
began_at tracked start (moment ∷ later) interval e = by moment.columns (began_at tracked start later interval) e
  where
    by_test : (columns : Row) (test : Bool) → (interval_at tracked (Some start) later ≡ Some interval → interval.start ≡ start)
        → (if test then interval_at tracked (Some start) later else Some (record { columns = columns; start = start; end = next_sequence later })) ≡ Some interval → interval.start ≡ start
    by_test columns true more h = more h
    by_test columns false more h = ap (λ i. i.start) (sym (some_inside (record { columns = columns; start = start; end = next_sequence later }) interval h))

    by : (columns : Option Row) → (interval_at tracked (Some start) later ≡ Some interval → interval.start ≡ start)
        → stands_by tracked start later (interval_at tracked (Some start) later) columns ≡ Some interval → interval.start ≡ start
    by None more h = absurd (let none : ⊥ = cc in none)
    by (Some columns) more h = by_test columns (goes_on tracked columns later) more h

-- ---- an event stands in the interval that spans its sequence, and in no other

pub record Known (all : List Interval) (sequence : Row) (seen : Seen) : Type 0 where
  pub inside : (interval : Interval) → seen.interval ≡ Some interval → Spans interval sequence × Member interval all
  pub only : (interval : Interval) → Member interval all → Spans interval sequence → seen.interval ≡ Some interval

abbrev pub AllKnown : List Interval → List Row → List Seen → Type 0
AllKnown all [] [] = Unit {0}
AllKnown all [] (x ∷ xs) = ⊥
AllKnown all (s ∷ ss) [] = ⊥
AllKnown all (s ∷ ss) (x ∷ xs) = Known all s x × AllKnown all ss xs

abbrev pub sequences : List Moment → List Row
sequences moments = map (λ moment. moment.sequence) moments

-- the intervals in front of some moments span none of them
abbrev Past : List Interval → List Row → Type 0
Past front [] = Unit {0}
Past front (s ∷ ss) = ((interval : Interval) → Member interval front → Spans interval s → ⊥) × Past front ss

lift : (front all : List Interval) (ss : List Row) (xs : List Seen) → Past front ss → AllKnown all ss xs → AllKnown (front ++ all) ss xs
lift front all [] [] past known = tt
lift front all [] (x ∷ xs) past known = absurd known
lift front all (s ∷ ss) [] past known = absurd known
lift front all (s ∷ ss) (x ∷ xs) past known = (
  record {
    inside = λ interval e. let k : Spans interval s × Member interval all = known.0.inside interval e in (k.0, member_behind interval front all k.1);
    only = λ interval m spans. by interval spans (member_either interval front all m);
  },
  lift front all ss xs past.1 known.1,
)
  where
    by : (interval : Interval) → Spans interval s → Member interval front ⊎ Member interval all → x.interval ≡ Some interval
    by interval spans (inl h) = absurd (past.0 interval h spans)
    by interval spans (inr h) = known.0.only interval h spans

past_none : (ss : List Row) → Past [] ss
past_none [] = tt
past_none (s ∷ ss) = ((λ interval m spans. m), past_none ss)

-- what ends at a sequence spans nothing from there on
past_from : (columns start end : Row) (moments : List Moment) → AllUp end moments → Past (record { columns = columns; start = start; end = Some end } ∷ []) (sequences moments)
past_from columns start end [] all = tt
past_from columns start end (moment ∷ moments) all = (past, past_from columns start end moments all.1)
  where
    past : (interval : Interval) → Member interval (record { columns = columns; start = start; end = Some end } ∷ []) → Spans interval moment.sequence → ⊥
    past interval (inl e) spans = both_ways end moment.sequence all.0 (subst (Before moment.sequence) (ap (λ i. i.end) e) spans.until)
    past interval (inr h) spans = h

past_end : (columns start : Row) (later : List Moment) → AreUp later → Past (record { columns = columns; start = start; end = next_sequence later } ∷ []) (sequences later)
past_end columns start [] up = tt
past_end columns start (moment ∷ moments) up = (past, past_from columns start moment.sequence moments up.0)
  where
    past : (interval : Interval) → Member interval (record { columns = columns; start = start; end = Some moment.sequence } ∷ []) → Spans interval moment.sequence → ⊥
    past interval (inl e) spans = never moment.sequence (subst (Before moment.sequence) (ap (λ i. i.end) e) spans.until)
    past interval (inr h) spans = h

abbrev pub Began : Option Row → List Moment → Type 0
Began None moments = Unit {0}
Began (Some start) moments = AllUp start moments

began_start : (since : Option Row) (at : Row) (later : List Moment) → Began since later → AllUp at later → AllUp (unwrap_or since at) later
began_start None at later b all = all
began_start (Some start) at later b all = b

abbrev Starts : Option Row → Row → Type 0
Starts None at = Unit {0}
Starts (Some start) at = row_order start at ≡ Less

not_before : (since : Option Row) (at : Row) → Starts since at → row_order at (unwrap_or since at) ≡ Less → ⊥
not_before None at s e = never at e
not_before (Some start) at s e = both_ways start at s e

abbrev pub Knows : List ℕ → List Moment → Type 0
Knows tracked moments = (since : Option Row) → Began since moments → AllKnown (ends tracked since moments) (sequences moments) (stands tracked since moments)

-- a run that goes on stands in the interval of the next moment
known_on : (tracked : List ℕ) (start at : Row) (columns : Row) (later : List Moment) → goes_on tracked columns later ≡ true → AllUp at later → AreUp later → (row_order at start ≡ Less → ⊥)
    → AllKnown (ends tracked (Some start) later) (sequences later) (stands tracked (Some start) later)
    → Known (ends tracked (Some start) later) at (record { columns = Some columns; interval = interval_at tracked (Some start) later })
known_on tracked start at columns [] e all up from known = absurd (let none : ⊥ = cc in none)
known_on tracked start at columns (next ∷ later) e all up from known = record {
  inside = λ interval h. (
    record {
      starts = λ before. from (subst (λ s. row_order at s ≡ Less) (began_at tracked start (next ∷ later) interval h) before);
      until = before_trans at next.sequence interval.end all.0 (known.0.inside interval h).0.until;
    },
    (known.0.inside interval h).1,
  );
  only = λ interval m spans. known.0.only interval m (record {
    starts = λ before. spans.starts (row_order_total.trans at next.sequence interval.start all.0 before);
    until = ends_behind tracked (Some start) next later up.0 interval m;
  });
}

known_test : (tracked : List ℕ) (since : Option Row) (at columns : Row) (later : List Moment) → AllUp at later → AreUp later → Starts since at → Began since later → Knows tracked later
    → (test : Bool) → goes_on tracked columns later ≡ test
    → Known ((if test then [] else record { columns = columns; start = unwrap_or since at; end = next_sequence later } ∷ []) ++ ends tracked (if test then Some (unwrap_or since at) else None) later) at
    (record { columns = Some columns; interval = if test then interval_at tracked (Some (unwrap_or since at)) later else Some (record { columns = columns; start = unwrap_or since at; end = next_sequence later }) })
    × AllKnown ((if test then [] else record { columns = columns; start = unwrap_or since at; end = next_sequence later } ∷ []) ++ ends tracked (if test then Some (unwrap_or since at) else None) later) (sequences later)
    (stands tracked (if test then Some (unwrap_or since at) else None) later)
known_test tracked since at columns later all up starts began knows true e =
    let more = knows (Some (unwrap_or since at)) (began_start since at later began all) in
    (known_on tracked (unwrap_or since at) at columns later e all up (not_before since at starts) more, more)
known_test tracked since at columns later all up starts began knows false e =
    (record { inside = inside; only = only }, lift (mine ∷ []) (ends tracked None later) (sequences later) (stands tracked None later) (past_end columns (unwrap_or since at) later up) (knows None tt))
  where
    mine : Interval
    mine = record { columns = columns; start = unwrap_or since at; end = next_sequence later }

    spans_mine : Spans mine at
    spans_mine = record { starts = not_before since at starts; until = before_next at later all }

    inside : (interval : Interval) → Some mine ≡ Some interval → Spans interval at × Member interval (mine ∷ ends tracked None later)
    inside interval h = (subst (λ i. Spans i at) (some_inside mine interval h) spans_mine, inl (sym (some_inside mine interval h)))

    only : (interval : Interval) → Member interval (mine ∷ ends tracked None later) → Spans interval at → Some mine ≡ Some interval
    only interval (inl h) spans = ap Some (sym h)
    only interval (inr m) spans = absurd (spans.starts (starts_after tracked at None later all tt interval m))

known_by : (tracked : List ℕ) (since : Option Row) (at : Row) (later : List Moment) → AllUp at later → AreUp later → Starts since at → Began since later → Knows tracked later
    → (columns : Option Row)
    → Known (ended_by tracked since at later columns ++ ends tracked (opened_by tracked since at later columns) later) at
    (record { columns = columns; interval = stands_by tracked (unwrap_or since at) later (interval_at tracked (Some (unwrap_or since at)) later) columns })
    × AllKnown (ended_by tracked since at later columns ++ ends tracked (opened_by tracked since at later columns) later) (sequences later) (stands tracked (opened_by tracked since at later columns) later)
known_by tracked since at later all up starts began knows None = (
  record {
    inside = λ interval e. absurd (let none : ⊥ = cc in none);
    only = λ interval m spans. absurd (spans.starts (starts_after tracked at None later all tt interval m));
  },
  knows None tt,
)
known_by tracked since at later all up starts began knows (Some columns) = known_test tracked since at columns later all up starts began knows (goes_on tracked columns later) refl

starts_of : (since : Option Row) (moment : Moment) (later : List Moment) → Began since (moment ∷ later) → Starts since moment.sequence
starts_of None moment later began = tt
starts_of (Some start) moment later began = began.0

began_later : (since : Option Row) (moment : Moment) (later : List Moment) → Began since (moment ∷ later) → Began since later
began_later None moment later began = tt
began_later (Some start) moment later began = began.1

pub knows : (tracked : List ℕ) (moments : List Moment) → AreUp moments → Knows tracked moments
knows tracked [] up since began = tt
knows tracked (moment ∷ later) up since began =
    known_by tracked since moment.sequence later up.0 up.1 (starts_of since moment later began) (began_later since moment later began) (knows tracked later up.1) moment.columns
