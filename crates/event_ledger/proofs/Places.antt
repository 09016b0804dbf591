-- One event in the history of its key.
use Rattle.std.proofs.Common.{◌≡◌, ◌<◌, ◌&&◌, ℕ, zero, suc, Bool, true, false, if◌then◌else◌, List, [], ◌∷◌, ◌++◌, length, take, drop, slice_index_or, Result, Ok, Err, IfOk, OnErr, refl, sym, ap, ◌∙◌, subst, arith}
use Rattle.std.specs.declared.cmp.Ordering.{Ordering}
use Rattle.std.specs.declared.cmp.Ordering.TheVariants.{Less, Greater}
use Rattle.std.specs.Ordering.{is_eq, is_gt, nat_cmp, ordering_reverse, ordering_then}
use Rattle.value_core.specs.declared.event.Event.{Event}
use Rattle.value_core.specs.Order.{Row, row_order, same_row}
use Rattle.value_core.specs.OrderLaws.{row_order_total, same_row_laws}
use Rattle.value_core.specs.EventOrder.{Standing, Fresh, Repeat, Tied, history_order, kind_rank, same_event, same_moment, standing}
use Rattle.event_history.specs.declared.history.Entry.{Entry}
use Rattle.event_history.specs.Histories.{AllAbove, AllBelow, AreAscending, events_of}
use Rattle.event_ledger.specs.declared.spot.Spot.{Spot}
use Rattle.event_ledger.specs.declared.spot.Spot.TheVariants as spot
use Rattle.event_ledger.specs.declared.insertion.Insertion.{Insertion}
use Rattle.event_ledger.specs.Keyed.{AreOf, standing_in}
use Rattle.event_ledger.specs.Spots.{IsBeside, entries_after, entry_placed, standing_at}

and_false : (a b : Bool) → b ≡ false → (a && b) ≡ false
and_false true b e = e
and_false false b e = refl

below_not_same : (a b : Row) → row_order a b ≡ Less → same_row b a ≡ false
below_not_same a b e = same_row_laws.symm b a ∙ ap is_eq e

above_not_same : (a b : Row) → row_order a b ≡ Less → same_row a b ≡ false
above_not_same a b e = ap is_eq e

-- an event of another sequence leaves what stands behind it
passes_by : (kept event : Event) (more : List Event) → same_row kept.sequence event.sequence ≡ false → standing (kept ∷ more) event ≡ standing more event
passes_by kept event more e =
    ap (λ moment. if moment then (if same_event kept event then Repeat else Tied kept) else standing more event) (and_false (same_row kept.key event.key) (same_row kept.sequence event.sequence) e)

standing_above : (entries : List Entry) (event : Event) → AllAbove event.sequence entries → standing (events_of entries) event ≡ Fresh
standing_above [] event above = refl
standing_above (x ∷ xs) event above = passes_by x.event event (events_of xs) (below_not_same event.sequence x.event.sequence above.0) ∙ standing_above xs event above.1

pub standing_free : (entries : List Entry) (event : Event) (i : ℕ) → AllBelow event.sequence (take i entries) → AllAbove event.sequence (drop i entries) → standing (events_of entries) event ≡ Fresh
standing_free entries event zero below above = standing_above entries event above
standing_free [] event (suc i) below above = refl
standing_free (x ∷ xs) event (suc i) below above = passes_by x.event event (events_of xs) (above_not_same x.event.sequence event.sequence below.0) ∙ standing_free xs event i below.1 above

-- the entry at a place is above what a sequence is below
above_at : (s : Row) (entries : List Entry) (i : ℕ) (x : Entry) → AllAbove s entries → i < length entries → x ≡ slice_index_or entries i x → row_order s x.event.sequence ≡ Less
above_at s [] i x all within is = absurd (omega arith)
above_at s (entry ∷ entries) zero x all within is = subst (λ y. row_order s y.event.sequence ≡ Less) (sym is) all.0
above_at s (entry ∷ entries) (suc i) x all within is = above_at s entries i x all.1 (omega arith) is

abbrev judged : Event → Event → Standing
judged kept event = if same_event kept event then Repeat else Tied kept

meets : (kept event : Event) (more : List Event) → kept.key ≡ event.key → kept.sequence ≡ event.sequence → standing (kept ∷ more) event ≡ judged kept event
meets kept event more key sequence =
    let k : same_row kept.key event.key ≡ true = ap (λ z. same_row z event.key) key ∙ same_row_laws.refl event.key in
    let s : same_row kept.sequence event.sequence ≡ true = ap (λ z. same_row z event.sequence) sequence ∙ same_row_laws.refl event.sequence in
    let both : same_moment kept event ≡ true = ap (λ z. z && same_row kept.sequence event.sequence) k ∙ s in
    ap (λ moment. if moment then judged kept event else standing more event) both

standing_found : (entries : List Entry) (event : Event) (i : ℕ) (x : Entry) → AreAscending entries → AreOf event.key entries → i < length entries → x ≡ slice_index_or entries i x
    → x.event.sequence ≡ event.sequence → standing (events_of entries) event ≡ judged x.event event
standing_found [] event i x order own within is same = absurd (omega arith)
standing_found (y ∷ ys) event zero x order own within is same =
    let P : Entry → Type 0 = λ z. standing (y.event ∷ events_of ys) event ≡ judged z.event event in
    subst P (sym is) (meets y.event event (events_of ys) own.0 (ap (λ z. z.event.sequence) (sym is) ∙ same))
standing_found (y ∷ ys) event (suc i) x order own within is same =
    let e : row_order y.event.sequence x.event.sequence ≡ Less = above_at y.event.sequence ys i x order.0 (omega arith) is in
    passes_by y.event event (events_of ys) (above_not_same y.event.sequence event.sequence (subst (λ s. row_order y.event.sequence s ≡ Less) same e))
    ∙ standing_found ys event i x order.1 own.1 (omega arith) is same

beside_is : (kept event : Event) (s : Spot) → IsBeside kept event s → standing_at s ≡ judged kept event
beside_is kept event (spot.Free i) beside = absurd beside
beside_is kept event spot.Repeat beside = rw beside refl
beside_is kept event (spot.Tied one) beside = rw (beside.0, beside.1) refl

-- what the kept event at a place makes of an event is how it stands
pub standing_beside : (entries : List Entry) (event : Event) (i : ℕ) (x : Entry) (s : Spot) → AreAscending entries → AreOf event.key entries → i < length entries → x ≡ slice_index_or entries i x
    → x.event.sequence ≡ event.sequence → IsBeside x.event event s → standing_at s ≡ standing (events_of entries) event
standing_beside entries event i x s order own within is same beside = beside_is x.event event s beside ∙ sym (standing_found entries event i x order own within is same)

-- ---- a fresh event at its place

turned : (a b : Row) → row_order a b ≡ Less → row_order b a ≡ Greater
turned a b e = row_order_total.antisymm b a ∙ ap ordering_reverse e

-- events at one moment stand by their kinds
abbrev by_kind : Event → Event → Ordering
by_kind a b = nat_cmp (kind_rank a.kind) (kind_rank b.kind)

behind : (a b : Event) → row_order b.sequence a.sequence ≡ Less → is_gt (history_order a b) ≡ true
behind a b e = ap (λ o. is_gt (ordering_then o (by_kind a b))) (turned b.sequence a.sequence e)

before : (a b : Event) → row_order a.sequence b.sequence ≡ Less → is_gt (history_order a b) ≡ false
before a b e = ap (λ o. is_gt (ordering_then o (by_kind a b))) e

placed_above : (entry : Entry) (entries : List Entry) → AllAbove entry.event.sequence entries → entry ∷ entries ≡ entry_placed entry entries
placed_above entry [] above = refl
placed_above entry (x ∷ xs) above = rw (before entry.event x.event above.0) refl

-- an entry put between those below it and those above it is at its place
pub placed_between : (entry : Entry) (entries : List Entry) (i : ℕ) → AllBelow entry.event.sequence (take i entries) → AllAbove entry.event.sequence (drop i entries)
    → take i entries ++ entry ∷ drop i entries ≡ entry_placed entry entries
placed_between entry entries zero below above = placed_above entry entries above
placed_between entry [] (suc i) below above = refl
placed_between entry (x ∷ xs) (suc i) below above = rw (behind entry.event x.event below.0) (ap (λ zs. x ∷ zs) (placed_between entry xs i below.1 above))

own_either : (key : Row) (entry x : Entry) (xs ys : List Entry) (b : Bool) → entry.event.key ≡ key → AreOf key (x ∷ xs) → AreOf key ys → AreOf key (if b then x ∷ ys else entry ∷ x ∷ xs)
own_either key entry x xs ys true is own more = (own.0, more)
own_either key entry x xs ys false is own more = (is, own)

own_placed : (key : Row) (entry : Entry) (entries : List Entry) → entry.event.key ≡ key → AreOf key entries → AreOf key (entry_placed entry entries)
own_placed key entry [] is own = (is, tt)
own_placed key entry (x ∷ xs) is own = own_either key entry x xs (entry_placed entry xs) (is_gt (history_order entry.event x.event)) is own (own_placed key entry xs is own.1)

pub own_after : (s : Standing) (event : Event) (entries : List Entry) → AreOf event.key entries → AreOf event.key (entries_after s event entries)
own_after Fresh event entries own = own_placed event.key (record { event = event; effective = [] }) entries refl own
own_after Repeat event entries own = own
own_after (Tied kept) event entries own = own

-- ---- answers that may fail

pub carries : {A E : Type 0} (r : Result A E) (P Q : A → Type 0) → ((x : A) → P x → Q x) → IfOk r P → IfOk r Q
carries (Ok x) P Q f h = f x h
carries (Err e) P Q f h = tt

pub carries_err : {A E : Type 0} (r : Result A E) (P Q : Type 0) → (P → Q) → OnErr r P → OnErr r Q
carries_err (Ok x) P Q f h = tt
carries_err (Err e) P Q f h = f h

-- whatever the answer is, the history is of its key
pub own_either_way : {E : Type 0} (r : Result Insertion E) (event : Event) (old new : List Entry) → AreOf event.key old → IfOk r (λ answer. new ≡ entries_after (standing_in answer) event old)
    → OnErr r (new ≡ old) → AreOf event.key new
own_either_way (Ok answer) event old new own after err = subst (λ entries. AreOf event.key entries) (sym after) (own_after (standing_in answer) event old own)
own_either_way (Err e) event old new own after err = subst (λ entries. AreOf event.key entries) (sym err) own
