-- One event more.
use Rattle.std.proofs.Common.{◌≡◌, ℕ, ◌+◌, Bool, true, false, cond, ◌||◌, if◌then◌else◌, List, [], ◌∷◌, ◌++◌, fold, Option, Some, None, refl, sym, ap, ◌∙◌, subst, append_assoc, arith}
use Rattle.std.specs.Prelude.{unwrap_or, option_map, ◌==◌}
use Rattle.std.specs.List.{cons_option, sum_by}
use Rattle.std.specs.List.Sorted.{IsStrictlySortedBy}
use Rattle.std.specs.Map.{keys_of as map_keys, lookup, values_of}
use Rattle.std.specs.BTreeMap.{insert_entry, is_at}
use Rattle.std.proofs.lemmas.List.{append-nil}
use Rattle.std.proofs.lemmas.List.Elements.{filter-append}
use Rattle.std.proofs.lemmas.List.Sums.{fold-append}
use Rattle.std.proofs.lemmas.Map.Entries.{sum_by-insert_entry}
use Rattle.value_core.specs.declared.change.Change.{Change}
use Rattle.value_core.specs.declared.event.Event.{Event}
use Rattle.value_core.specs.declared.event.EventKind.{EventKind}
use Rattle.value_core.specs.declared.event.EventKind.TheVariants.{Delete, Truncate, Upsert}
use Rattle.value_core.specs.Bags.{count_of, net_change}
use Rattle.value_core.specs.EventOrder.{is_truncate, kind_rank}
use Rattle.value_core.specs.Order.{Row, row_order, same_row}
use Rattle.value_core.specs.OrderLaws.{row_order_total}
use Rattle.value_core.proofs.BagLemmas.{count-cons}
use Rattle.net_changes.proofs.NetLemmas.{net_same}
use Rattle.flow_model.specs.Current.{scd1}
use Rattle.cdc_scd1.specs.Stamps.{Stamps, latest, no_event, row_told, stamped, stamped_by}
use Rattle.cdc_arrivals.specs.Arrivals.{AreOfOwnMoments, CollidesWithNone, HaveWidth, heard, rows_told}
use Rattle.cdc_current.specs.Keeping.{HaveOwnMoments, IsBalanced, Keeping, Keeps, SetsKey, Takes, keeping, only, own_stamps, rows_kept, rows_under, under}
use Rattle.cdc_current.proofs.CountLemmas.{balance_net, balance_step, count_told, here, same_is}
use Rattle.cdc_current.proofs.KeyLemmas.{rows_are}

-- ---- an event of a key

under_stamped : (truncated : Option Row) (ignore_null : Bool) (stamps : Stamps) (event : Event) (kind : EventKind) → (kind_rank kind == 0) ≡ false
    → under truncated (stamped_by ignore_null stamps event kind) ≡ stamped_by ignore_null (under truncated stamps) event kind
under_stamped truncated ignore_null stamps event Truncate e = cc
under_stamped truncated ignore_null stamps event Delete e = refl
under_stamped truncated ignore_null stamps event Upsert e = refl

takes_key_by : (event : Event) (ignore_null : Bool) (truncated : Option Row) (old : List (Row × Stamps)) (kind : EventKind) (key : Row) (b : Bool) → same_row event.key key ≡ b
    → event.kind ≡ kind → (kind_rank kind == 0) ≡ false
    → under truncated (if b then stamped_by ignore_null (own_stamps event.key old) event kind else own_stamps key old)
    ≡ (if false || b then stamped ignore_null (under truncated (own_stamps key old)) event else under truncated (own_stamps key old))
takes_key_by event ignore_null truncated old kind key true same is keyed =
    under_stamped truncated ignore_null (own_stamps event.key old) event kind keyed
    ∙ (λ i. stamped_by ignore_null (under truncated (own_stamps (same_is event.key key same i) old)) event (sym is i))
takes_key_by event ignore_null truncated old kind key false same is keyed = refl

pub takes_key : (event : Event) (ignore_null : Bool) (truncated : Option Row) (old new : List (Row × Stamps)) (kind : EventKind) → event.kind ≡ kind → (kind_rank kind == 0) ≡ false
    → SetsKey event.key (stamped_by ignore_null (own_stamps event.key old) event kind) old new → Takes event (keeping ignore_null truncated old) (keeping ignore_null truncated new)
takes_key event ignore_null truncated old new kind is keyed sets key =
    let isnt : is_truncate event ≡ false = ap (λ k. kind_rank k == 0) is ∙ keyed in
    ap (under truncated) (sets key)
    ∙ takes_key_by event ignore_null truncated old kind key (same_row event.key key) refl is keyed
    ∙ ap (λ b. if b || same_row event.key key then stamped ignore_null (under truncated (own_stamps key old)) event else under truncated (own_stamps key old)) (sym isnt)

pub takes_truncate : (event : Event) (ignore_null : Bool) (truncated after : Option Row) (keys : List (Row × Stamps)) → event.kind ≡ Truncate → after ≡ latest truncated event.sequence
    → Takes event (keeping ignore_null truncated keys) (keeping ignore_null after keys)
takes_truncate event ignore_null truncated after keys is later key =
    ap (λ z. under z (own_stamps key keys)) later
    ∙ (λ i. if kind_rank (sym is i) == 0 || same_row event.key key then stamped_by ignore_null (under truncated (own_stamps key keys)) event (sym is i) else under truncated (own_stamps key keys))

-- ---- the row that goes and the row that comes

count_only : (row : Row) (o : Option Row) → count_of row (only o) ≡ here row o
count_only row None = refl
count_only row (Some x) = count-cons row x [] ∙ omega arith

weight_by : (row : Row) (truncated : Option Row) (o : Option Stamps)
    → unwrap_or (option_map (λ stamps. here row (row_told (under truncated stamps))) o) 0 ≡ here row (row_told (under truncated (unwrap_or o no_event)))
weight_by row truncated None = refl
weight_by row truncated (Some stamps) = refl

pub balance_key : (truncated : Option Row) (key : Row) (stamps : Stamps) (old new : List (Row × Stamps)) (before after : Option Row) (removed added : List Row) → IsStrictlySortedBy row_order (map_keys old)
    → new ≡ insert_entry row_order old key stamps → before ≡ row_told (under truncated (own_stamps key old)) → after ≡ row_told (under truncated stamps) → removed ≡ only before → added ≡ only after
    → IsBalanced (rows_under truncated (values_of old)) (rows_under truncated (values_of new)) removed added
balance_key truncated key stamps old new before after removed added sorted is goes comes out more row =
    let w : Stamps → ℕ = λ s. here row (row_told (under truncated s)) in
    sums (count_of row removed) (count_of row added) (count_of row (rows_under truncated (values_of old))) (count_of row (rows_under truncated (values_of new)))
    (sum_by w (values_of old)) (sum_by w (values_of (insert_entry row_order old key stamps))) (unwrap_or (option_map w (lookup (is_at (row_order key)) old)) 0) (w stamps)
    (ap (count_of row) out ∙ count_only row before ∙ ap (here row) goes ∙ sym (weight_by row truncated (lookup (is_at (row_order key)) old)))
    (ap (count_of row) more ∙ count_only row after ∙ ap (here row) comes)
    (count_told row (λ s. row_told (under truncated s)) (values_of old))
    (count_told row (λ s. row_told (under truncated s)) (values_of new) ∙ ap (λ es. sum_by w (values_of es)) is)
    (sum_by-insert_entry w row_order_total old key stamps sorted)
  where
    sums : (r a o n so sn before after : ℕ) → r ≡ before → a ≡ after → o ≡ so → n ≡ sn → sn + before ≡ so + after → r + n ≡ a + o
    sums r a o n so sn before after e f g h k = omega arith

pub sets_key : (key : Row) (stamps : Stamps) (old new : List (Row × Stamps)) → ((q : Row) → lookup (is_at (row_order q)) new ≡ cond (same_row key q) (Some stamps) (lookup (is_at (row_order q)) old))
    → SetsKey key stamps old new
sets_key key stamps old new updates other = ap (λ o. unwrap_or o no_event) (updates other) ∙ by (same_row key other)
  where
    by : (b : Bool) → unwrap_or (cond b (Some stamps) (lookup (is_at (row_order other)) old)) no_event ≡ (if b then stamps else own_stamps other old)
    by true = refl
    by false = refl

pub only_cons : {A : Type 0} (o : Option A) (xs : List A) → only o ++ xs ≡ cons_option o xs
only_cons None xs = refl
only_cons (Some x) xs = refl

pub balance_all : (old new removed added : List Row) → removed ≡ old → added ≡ new → IsBalanced old new removed added
balance_all old new removed added e f row = omega (arith, ap (count_of row) e, ap (count_of row) f)

-- ---- events, one after another

heard_by : (ignore_null : Bool) (event : Event) (before : List Event) (b : Bool)
    → (if b then stamped ignore_null (fold (stamped ignore_null) no_event before) event else fold (stamped ignore_null) no_event before) ≡ fold (stamped ignore_null) no_event (before ++ cond b (event ∷ []) [])
heard_by ignore_null event before true = sym (fold-append (stamped ignore_null) no_event before (event ∷ []))
heard_by ignore_null event before false = ap (fold (stamped ignore_null) no_event) (sym (append-nil before))

pub keeps_more : (event : Event) (ignore_null : Bool) (t u : Option Row) (old new : List (Row × Stamps)) (events : List Event) → Takes event (keeping ignore_null t old) (keeping ignore_null u new)
    → Keeps (keeping ignore_null t old) events → Keeps (keeping ignore_null u new) (events ++ event ∷ [])
keeps_more event ignore_null t u old new events takes keeps key =
    let b : Bool = is_truncate event || same_row event.key key in
    takes key
    ∙ ap (λ stamps. if b then stamped ignore_null stamps event else stamps) (keeps key)
    ∙ heard_by ignore_null event (heard key events) b
    ∙ ap (fold (stamped ignore_null) no_event) (sym (filter-append (λ e. is_truncate e || same_row e.key key) events (event ∷ [])))

-- where the events that are left come next
pub record Turning (first now : Keeping) (events left : List Event) (removed added : List Row) : Type 0 where
  pub done : List Event
  pub whole : done ++ left ≡ events
  pub keeps : (kept : List Event) → Keeps first kept → Keeps now (kept ++ done)
  pub balance : IsBalanced (rows_kept first) (rows_kept now) removed added

pub turns_first : (first : Keeping) (events : List Event) → Turning first first events events [] []
turns_first first events =
    record { done = []; whole = refl; keeps = λ kept keeps. subst (Keeps first) (sym (append-nil kept)) keeps; balance = λ row. refl }

pub turns_more : (first : Keeping) (ignore_null : Bool) (t u : Option Row) (old new : List (Row × Stamps)) (events more : List Event) (event : Event) (removed gone added come out out_more : List Row)
    → Turning first (keeping ignore_null t old) events (event ∷ more) removed added
    → Takes event (keeping ignore_null t old) (keeping ignore_null u new)
    → IsBalanced (rows_under t (values_of old)) (rows_under u (values_of new)) out out_more
    → gone ≡ removed ++ out → come ≡ added ++ out_more
    → Turning first (keeping ignore_null u new) events more gone come
turns_more first ignore_null t u old new events more event removed gone added come out out_more turning takes balance goes comes =
    record {
      done = turning.done ++ event ∷ [];
      whole = append_assoc turning.done (event ∷ []) more ∙ turning.whole;
      keeps = λ kept keeps.
          subst (Keeps (keeping ignore_null u new)) (append_assoc kept turning.done (event ∷ [])) (keeps_more event ignore_null t u old new (kept ++ turning.done) takes (turning.keeps kept keeps));
      balance = balance_step (rows_kept first) (rows_under t (values_of old)) (rows_under u (values_of new)) removed gone added come out out_more turning.balance balance goes comes;
    }

pub turns_all : (first now : Keeping) (events : List Event) (removed added : List Row) (left : List Event) → left ≡ [] → Turning first now events left removed added
    → (kept : List Event) → Keeps first kept → Keeps now (kept ++ events)
turns_all first now events removed added left none turning kept keeps =
    subst (λ done. Keeps now (kept ++ done)) (sym (append-nil turning.done) ∙ ap (λ more. turning.done ++ more) (sym none) ∙ turning.whole) (turning.keeps kept keeps)

-- ---- the net change of the rows of SCD type 1

none_part : (event : Event) (xs ys : List Event) → CollidesWithNone event (xs ++ ys) → CollidesWithNone event xs
none_part event [] ys e = tt
none_part event (x ∷ xs) ys e = (e.0, none_part event xs ys e.1)

own_part : (xs ys : List Event) → AreOfOwnMoments (xs ++ ys) → AreOfOwnMoments xs
own_part [] ys e = tt
own_part (x ∷ xs) ys e = (none_part x xs ys e.0, own_part xs ys e.1)

wide_part : (wide : ℕ) (xs ys : List Event) → HaveWidth wide (xs ++ ys) → HaveWidth wide xs
wide_part wide [] ys e = tt
wide_part wide (x ∷ xs) ys e = (e.0, wide_part wide xs ys e.1)

-- the first of some events have moments of their own if all have
first_of_own : (xs ys : List Event) → HaveOwnMoments (xs ++ ys) → HaveOwnMoments xs
first_of_own xs ys own =
    record {
      wide = own.wide;
      widths = wide_part own.wide xs ys own.widths;
      apart = λ key. own_part (heard key xs) (heard key ys) (subst AreOfOwnMoments (filter-append (λ e. is_truncate e || same_row e.key key) xs ys) (own.apart key));
    }

-- what `current_rows_are_told_in_any_order` tells
abbrev pub AreTold : Type 0
AreTold = (ignore_null : Bool) (events : List Event) (wide : ℕ) → HaveWidth wide events → ((key : Row) → AreOfOwnMoments (heard key events)) → rows_told ignore_null events ≡ scd1 ignore_null events

counts_are : AreTold → (kept : Keeping) (events : List Event) → Keeps kept events → HaveOwnMoments events → IsStrictlySortedBy row_order (map_keys kept.keys) → (row : Row)
    → count_of row (rows_kept kept) ≡ count_of row (scd1 kept.ignore_null events)
counts_are told kept events keeps own sorted row = rows_are kept events keeps sorted row ∙ ap (count_of row) (told kept.ignore_null events own.wide own.widths own.apart)

pub net_is : AreTold → (ignore_null : Bool) (t u : Option Row) (old new : List (Row × Stamps)) (kept events : List Event) (removed added : List Row)
    → IsStrictlySortedBy row_order (map_keys old) → IsStrictlySortedBy row_order (map_keys new)
    → IsBalanced (rows_kept (keeping ignore_null t old)) (rows_kept (keeping ignore_null u new)) removed added
    → Keeps (keeping ignore_null t old) kept → Keeps (keeping ignore_null u new) (kept ++ events) → HaveOwnMoments (kept ++ events)
    → net_change removed added ≡ net_change (scd1 ignore_null kept) (scd1 ignore_null (kept ++ events))
net_is told ignore_null t u old new kept events removed added sorted_old sorted_new balance before after own =
    balance_net (rows_under t (values_of old)) (rows_under u (values_of new)) removed added balance
    ∙ net_same (scd1 ignore_null kept) (scd1 ignore_null (kept ++ events)) (rows_under t (values_of old)) (rows_under u (values_of new))
    (counts_are told (keeping ignore_null t old) kept before (first_of_own kept events own) sorted_old)
    (counts_are told (keeping ignore_null u new) (kept ++ events) after own sorted_new)

-- the same, of what a contract sees
pub net_seen : AreTold → (seen : Keeping) (ignore_null : Bool) (t u : Option Row) (old new : List (Row × Stamps)) (events : List Event) (removed added : List Row) (change : Change)
    → keeping ignore_null t old ≡ seen → IsStrictlySortedBy row_order (map_keys old) → IsStrictlySortedBy row_order (map_keys new)
    → IsBalanced (rows_kept (keeping ignore_null t old)) (rows_kept (keeping ignore_null u new)) removed added
    → ((kept : List Event) → Keeps (keeping ignore_null t old) kept → Keeps (keeping ignore_null u new) (kept ++ events))
    → change ≡ net_change removed added
    → (kept : List Event) → Keeps seen kept → HaveOwnMoments (kept ++ events) → change ≡ net_change (scd1 seen.ignore_null kept) (scd1 seen.ignore_null (kept ++ events))
net_seen told seen ignore_null t u old new events removed added change is sorted_old sorted_new balance turn e =
    subst (λ (s : Keeping). (kept : List Event) → Keeps s kept → HaveOwnMoments (kept ++ events) → change ≡ net_change (scd1 s.ignore_null kept) (scd1 s.ignore_null (kept ++ events))) is
    (λ kept keeps own. e ∙ net_is told ignore_null t u old new kept events removed added sorted_old sorted_new balance keeps (turn kept keeps) own)
