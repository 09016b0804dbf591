-- Events that are new beside others, told by a set of their moments.
use Rattle.std.proofs.Common.{◌≡◌, ℕ, ◌+◌, ◌<◌, Bool, true, false, not, ◌&&◌, ◌||◌, cond, List, [], ◌∷◌, ◌++◌, length, get_or, take, drop, refl, sym, ap, ◌∙◌, subst, append_assoc}
use Rattle.std.proofs.lemmas.List.{append-nil, drop_more, take_more}
use Rattle.std.proofs.lemmas.List.Folds.{list_any-append}
use Rattle.std.specs.declared.cmp.Ordering.{Ordering}
use Rattle.std.specs.declared.cmp.Ordering.TheVariants.{Less, Equal, Greater}
use Rattle.std.specs.BTreeMap.{is_at}
use Rattle.std.specs.BTreeSet.{BTreeSet, contains}
use Rattle.std.specs.List.{list_any}
use Rattle.std.specs.Ordering.{is_eq, ordering_then}
use Rattle.value_core.specs.declared.event.Event.{Event}
use Rattle.value_core.specs.EventOrder.{same_moment}
use Rattle.value_core.specs.Order.{row_order}
use Rattle.value_core.specs.OrderLaws.{same_row_laws}
use Rattle.state_model.specs.Follows.{are_new}
use Rattle.payload_parts.specs.Moments.{MomentKey, moment_key, moment_order, is_of, HasMoments}

-- ---- one more moment in the set

both-equal : (a b : Ordering) → is_eq (ordering_then a b) ≡ (is_eq a && is_eq b)
both-equal Less b = refl
both-equal Equal b = refl
both-equal Greater b = refl

at-moment : (event : Event) (when : MomentKey) → is_at (moment_order (moment_key event)) when ≡ is_of when event
at-moment event when =
    both-equal (row_order event.key when.0) (row_order event.sequence when.1) ∙ (λ i. (same_row_laws.symm event.key when.0) i && (same_row_laws.symm event.sequence when.1) i)

or-last : (here held : Bool) → cond here true held ≡ (held || (here || false))
or-last true true = refl
or-last true false = refl
or-last false true = refl
or-last false false = refl

pub one_more : (old new : BTreeSet MomentKey) (events : List Event) (event : Event)
    → ((when : MomentKey) → contains moment_order new when ≡ cond (is_at (moment_order (moment_key event)) when) true (contains moment_order old when))
    → HasMoments old events → HasMoments new (events ++ event ∷ [])
one_more old new events event updates has = record {
  has = λ when. updates when ∙ (λ i. cond (at-moment event when i) true (has.has when i)) ∙ or-last (is_of when event) (list_any (is_of when) events) ∙ sym (list_any-append (is_of when) events (event ∷ []));
}

-- ---- the events so far, and those that are left

pub goes_on : (events : List Event) (i : ℕ) (event : Event) → i < length events → event ≡ get_or events i event → list_any (same_moment event) (take i events) ≡ false
    → are_new (take i events) (drop i events) ≡ are_new [] events → are_new (take (i + 1) events) (drop (i + 1) events) ≡ are_new [] events
goes_on events i event h e apart so_far =
    let left : drop i events ≡ event ∷ drop (i + 1) events = drop_more events i event h ∙ ap (λ x. x ∷ drop (i + 1) events) (sym e) in
    let first : take (i + 1) events ≡ take i events ++ event ∷ [] = take_more events i event h ∙ ap (λ x. take i events ++ x ∷ []) (sym e) in
    let step : are_new (take i events) (drop i events) ≡ are_new (take i events ++ event ∷ []) (drop (i + 1) events) =
    ap (are_new (take i events)) left ∙ ap (λ b. not b && are_new (take i events ++ event ∷ []) (drop (i + 1) events)) apart in
    ap (λ xs. are_new xs (drop (i + 1) events)) first ∙ sym step ∙ so_far

pub stops : (events : List Event) (i : ℕ) (event : Event) → i < length events → event ≡ get_or events i event → list_any (same_moment event) (take i events) ≡ true
    → are_new (take i events) (drop i events) ≡ are_new [] events → are_new [] events ≡ false
stops events i event h e met so_far =
    let left : drop i events ≡ event ∷ drop (i + 1) events = drop_more events i event h ∙ ap (λ x. x ∷ drop (i + 1) events) (sym e) in
    sym so_far ∙ ap (are_new (take i events)) left ∙ ap (λ b. not b && are_new (take i events ++ event ∷ []) (drop (i + 1) events)) met

-- ---- beside kept ones

-- one of the later events is of the moment of one of the first
abbrev is_met : List Event → List Event → Bool
is_met events kept = list_any (λ event. list_any (same_moment event) events) kept

-- one of the events is of the moment of a kept one
meets : List Event → List Event → Bool
meets kept [] = false
meets kept (event ∷ events) = list_any (same_moment event) kept || meets kept events

regroup : (here before met new : Bool) → (not (here || before) && (not met && new)) ≡ (not (here || met) && (not before && new))
regroup true before met new = refl
regroup false true true new = refl
regroup false true false new = refl
regroup false false true new = refl
regroup false false false new = refl

new-behind : (kept first events : List Event) → are_new (kept ++ first) events ≡ (not (meets kept events) && are_new first events)
unfolding meets
new-behind kept first [] = refl
new-behind kept first (event ∷ events) =
    (λ i. not (list_any-append (same_moment event) kept first i) && are_new (append_assoc kept first (event ∷ []) i) events)
    ∙ ap (λ b. not (list_any (same_moment event) kept || list_any (same_moment event) first) && b) (new-behind kept (first ++ event ∷ []) events)
    ∙ regroup (list_any (same_moment event) kept) (list_any (same_moment event) first) (meets kept events) (are_new (first ++ event ∷ []) events)

none-met : (kept : List Event) → is_met [] kept ≡ false
none-met [] = refl
none-met (event ∷ kept) = none-met kept

exchange : (a b c d : Bool) → ((a || b) || (c || d)) ≡ ((a || c) || (b || d))
exchange true b c d = refl
exchange false true true d = refl
exchange false true false d = refl
exchange false false true d = refl
exchange false false false d = refl

same-moments : (a b : Event) → same_moment a b ≡ same_moment b a
same-moments a b = λ i. (same_row_laws.symm a.key b.key) i && (same_row_laws.symm a.sequence b.sequence) i

one-met : (event : Event) (events kept : List Event) → is_met (event ∷ events) kept ≡ (list_any (same_moment event) kept || is_met events kept)
one-met event events [] = refl
one-met event events (k ∷ kept) =
    (λ i. (same-moments k event i || list_any (same_moment k) events) || one-met event events kept i)
    ∙ exchange (same_moment event k) (list_any (same_moment k) events) (list_any (same_moment event) kept) (is_met events kept)

meets-is : (kept events : List Event) → meets kept events ≡ is_met events kept
unfolding meets
meets-is kept [] = sym (none-met kept)
meets-is kept (event ∷ events) = ap (λ b. list_any (same_moment event) kept || b) (meets-is kept events) ∙ sym (one-met event events kept)

beside : (kept events : List Event) → are_new kept events ≡ (not (is_met events kept) && are_new [] events)
beside kept events = ap (λ xs. are_new xs events) (sym (append-nil kept)) ∙ new-behind kept [] events ∙ ap (λ b. not b && are_new [] events) (meets-is kept events)

and-true : (a b : Bool) → b ≡ true → (a && b) ≡ a
and-true true b e = e
and-true false b e = refl

and-false : (a b : Bool) → b ≡ false → (a && b) ≡ false
and-false true b e = e
and-false false b e = refl

pub new_beside : (moments : BTreeSet MomentKey) (kept events : List Event) → HasMoments moments events → are_new [] events ≡ true
    → not (list_any (λ event. contains moment_order moments (moment_key event)) kept) ≡ are_new kept events
new_beside moments kept events has new =
    (λ i. not (list_any (λ event. has.has (moment_key event) i) kept)) ∙ sym (and-true (not (is_met events kept)) (are_new [] events) new) ∙ sym (beside kept events)

pub not_new : (kept events : List Event) → are_new [] events ≡ false → are_new kept events ≡ false
not_new kept events old = beside kept events ∙ and-false (not (is_met events kept)) (are_new [] events) old

-- ---- a moment that is there, or comes

not-of : (a b : Bool) → a ≡ not b → a ≡ false → b ≡ true
not-of a true e h = refl
not-of a false e h = absurd (let wrong : true ≡ false = sym e ∙ h in cc)

is-not : (a b : Bool) → a ≡ not b → a ≡ true → b ≡ false
is-not a false e h = refl
is-not a true e h = absurd (let wrong : false ≡ true = sym e ∙ h in cc)

has-event : (moments : BTreeSet MomentKey) (events : List Event) (event : Event) (when : MomentKey) → when ≡ moment_key event → HasMoments moments events → contains moment_order moments when ≡ list_any (same_moment event) events
has-event moments events event when e has = ap (contains moment_order moments) e ∙ has.has (moment_key event)

pub was_there : (moments : BTreeSet MomentKey) (events : List Event) (event : Event) (when : MomentKey) (added : Bool) → when ≡ moment_key event → HasMoments moments events → added ≡ not (contains moment_order moments when) → added ≡ false
    → list_any (same_moment event) events ≡ true
was_there moments events event when added e has told fails = sym (has-event moments events event when e has) ∙ not-of added (contains moment_order moments when) told fails

pub was_new : (moments : BTreeSet MomentKey) (events : List Event) (event : Event) (when : MomentKey) (added : Bool) → when ≡ moment_key event → HasMoments moments events → added ≡ not (contains moment_order moments when) → added ≡ true
    → list_any (same_moment event) events ≡ false
was_new moments events event when added e has told passes = sym (has-event moments events event when e has) ∙ is-not added (contains moment_order moments when) told passes

pub moments_more : (old new : BTreeSet MomentKey) (events : List Event) (i : ℕ) (event : Event) (when : MomentKey) → i < length events → event ≡ get_or events i event → when ≡ moment_key event
    → ((w : MomentKey) → contains moment_order new w ≡ cond (is_at (moment_order when) w) true (contains moment_order old w)) → HasMoments old (take i events) → HasMoments new (take (i + 1) events)
moments_more old new events i event when h e same updates has =
    let first : take (i + 1) events ≡ take i events ++ event ∷ [] = take_more events i event h ∙ ap (λ x. take i events ++ x ∷ []) (sym e) in
    subst (HasMoments new) (sym first) (one_more old new (take i events) event (λ w. updates w ∙ ap (λ k. cond (is_at (moment_order k) w) true (contains moment_order old w)) same) has)
