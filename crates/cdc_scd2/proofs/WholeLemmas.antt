-- A splice of a whole history.
use Rattle.std.proofs.Common.{◌≡◌, ℕ, zero, suc, ◌+◌, ◌<◌, ◌≤◌, Bool, true, false, if◌then◌else◌, List, [], ◌∷◌, ◌++◌, length, take, drop, map, slice_index_or, Option, Some, None, refl, sym, ap, ◌∙◌, subst, arith}
use Rattle.std.specs.Prelude.{unwrap_or}
use Rattle.std.specs.List.{insert}
use Rattle.std.specs.declared.cmp.Ordering.{Ordering}
use Rattle.std.specs.declared.cmp.Ordering.TheVariants.{Less, Equal, Greater}
use Rattle.std.specs.Ordering.{is_gt, nat_cmp, ordering_reverse, ordering_then}
use Rattle.std.proofs.lemmas.List.{map-append}
use Rattle.value_core.specs.declared.event.Event.{Event}
use Rattle.value_core.specs.EventOrder.{is_upsert, kind_rank, history_order, placed_by}
use Rattle.value_core.specs.Order.{Row, row_order}
use Rattle.value_core.specs.OrderLaws.{row_order_total}
use Rattle.event_history.specs.declared.history.Entry.{Entry}
use Rattle.event_history.specs.Histories.{AllAbove, AllBelow, with_effective, events_of}
use Rattle.flow_model.specs.Current.{after_event, merged}
use Rattle.flow_model.specs.History.{interval_row, intervals, key_rows, moments_after}
use Rattle.cdc_scd2.specs.Cache.{CachedFrom, IsAbsent, IsCached, carried_on, last_state, recached}
use Rattle.cdc_runs.specs.Entries.{columns_after, moments_of}
use Rattle.cdc_runs.specs.Runs.{carried_by, same_columns}
use Rattle.cdc_scd2.specs.Splices.{rows_of, spliced}
use Rattle.cdc_runs.proofs.StandLemmas.{same_columns-is}

-- ---- what is cached

pub cached_moments : (ignore_null : Bool) (before : Option Row) (entries : List Entry) → CachedFrom ignore_null before entries → moments_of entries ≡ moments_after ignore_null before (events_of entries)
cached_moments ignore_null before [] cached = refl
cached_moments ignore_null before (x ∷ xs) cached = λ i. record { sequence = x.event.sequence; columns = cached.0 i }
    ∷ (cached_moments ignore_null (columns_after x) xs cached.1 ∙ ap (λ state. moments_after ignore_null state (events_of xs)) cached.0) i

pub cached_rows : (ignore_null : Bool) (tracked : List ℕ) (entries : List Entry) → IsCached ignore_null entries → rows_of tracked entries ≡ key_rows ignore_null tracked (events_of entries)
cached_rows ignore_null tracked entries cached = ap (λ ms. map interval_row (intervals tracked ms)) (cached_moments ignore_null None entries cached)

pub cached_take : (ignore_null : Bool) (before : Option Row) (entries : List Entry) (place : ℕ) → CachedFrom ignore_null before entries
    → CachedFrom ignore_null before (take place entries) × CachedFrom ignore_null (last_state before (take place entries)) (drop place entries)
cached_take ignore_null before entries zero cached = (tt, cached)
cached_take ignore_null before [] (suc place) cached = (tt, tt)
cached_take ignore_null before (x ∷ xs) (suc place) cached = let rest = cached_take ignore_null (columns_after x) xs place cached.1 in ((cached.0, rest.0), rest.1)

cached_join : (ignore_null : Bool) (before : Option Row) (xs ys : List Entry) → CachedFrom ignore_null before xs → CachedFrom ignore_null (last_state before xs) ys → CachedFrom ignore_null before (xs ++ ys)
cached_join ignore_null before [] ys first second = second
cached_join ignore_null before (x ∷ xs) ys first second = (first.0, cached_join ignore_null (columns_after x) xs ys first.1 second)

recached_test : (ignore_null : Bool) (x : Entry) (xs : List Entry) (was : Option Row) (row : Row) → CachedFrom ignore_null (columns_after x) xs → is_upsert x.event ≡ true → was ≡ Some row
    → CachedFrom ignore_null (Some row) (recached xs (carried_on ignore_null (Some row) xs))
    → (test : Bool) → same_columns (columns_after x) (Some row) ≡ test → (is : Option Row) → after_event ignore_null is x.event ≡ was
    → CachedFrom ignore_null is (recached (x ∷ xs) (if test then [] else row ∷ carried_on ignore_null (Some row) xs))
recached_test ignore_null x xs was row cached up at rest true e is after = (same_columns-is (columns_after x) (Some row) e ∙ sym at ∙ sym after, cached)
recached_test ignore_null x xs was row cached up at rest false e is after =
    let shown : columns_after (record { event = x.event; effective = row }) ≡ Some row = ap (λ test. if test then Some row else None) up in
    (shown ∙ sym at ∙ sym after, subst (λ state. CachedFrom ignore_null state (recached xs (carried_on ignore_null (Some row) xs))) (sym shown) rest)

recached_by : (ignore_null : Bool) (x : Entry) (xs : List Entry) (is : Option Row) (row : Row) → CachedFrom ignore_null (columns_after x) xs
    → ((state : Option Row) → CachedFrom ignore_null state (recached xs (carried_on ignore_null state xs)))
    → (upsert : Bool) → is_upsert x.event ≡ upsert → (if upsert then Some row else None) ≡ after_event ignore_null is x.event
    → CachedFrom ignore_null is (recached (x ∷ xs) (carried_by (columns_after x) (if upsert then Some row else None) (carried_on ignore_null (if upsert then Some row else None) xs)))
recached_by ignore_null x xs is row cached rest true up after =
    recached_test ignore_null x xs (Some row) row cached up refl (rest (Some row)) (same_columns (columns_after x) (Some row)) refl is (sym after)
recached_by ignore_null x xs is row cached rest false up after = (ap (λ test. if test then Some x.effective else None) up ∙ after, cached)

cached_again : (ignore_null : Bool) (entries : List Entry) (was : Option Row) → CachedFrom ignore_null was entries → (is : Option Row) → CachedFrom ignore_null is (recached entries (carried_on ignore_null is entries))
cached_again ignore_null [] was cached is = tt
cached_again ignore_null (x ∷ xs) was cached is =
    recached_by ignore_null x xs is (if ignore_null then merged is x.event.columns else x.event.columns) cached.1 (cached_again ignore_null xs (columns_after x) cached.1) (is_upsert x.event) refl refl

-- ---- what is spliced

shown_by : (upsert : Bool) (row : Row) → (if upsert then Some (unwrap_or (if upsert then Some row else None) []) else None) ≡ (if upsert then Some row else None)
shown_by true row = refl
shown_by false row = refl

pub shown : (ignore_null : Bool) (before : Option Row) (entry : Entry) → entry.effective ≡ unwrap_or (after_event ignore_null before entry.event) [] → columns_after entry ≡ after_event ignore_null before entry.event
shown ignore_null before entry is = ap (λ row. if is_upsert entry.event then Some row else None) is ∙ shown_by (is_upsert entry.event) (if ignore_null then merged before entry.event.columns else entry.event.columns)

pub cached_spliced : (ignore_null : Bool) (entries : List Entry) (place : ℕ) (entry : Entry) (rows : List Row) → IsCached ignore_null entries
    → columns_after entry ≡ after_event ignore_null (last_state None (take place entries)) entry.event → rows ≡ carried_on ignore_null (columns_after entry) (drop place entries)
    → IsCached ignore_null (spliced entries place entry rows)
cached_spliced ignore_null entries place entry rows cached is so =
    let parts = cached_take ignore_null None entries place cached in
    cached_join ignore_null None (take place entries) (entry ∷ recached (drop place entries) rows) parts.0
    (is, subst (λ rs. CachedFrom ignore_null (columns_after entry) (recached (drop place entries) rs)) (sym so) (cached_again ignore_null (drop place entries) (last_state None (take place entries)) parts.1 (columns_after entry)))

recached_events : (entries : List Entry) (rows : List Row) → length rows ≤ length entries → events_of (recached entries rows) ≡ events_of entries
recached_events entries [] short = refl
recached_events [] (row ∷ rows) short = absurd (let none : ⊥ = omega arith in none)
recached_events (x ∷ xs) (row ∷ rows) short = ap (λ more. x.event ∷ more) (recached_events xs rows (omega arith))

carried_short-by : (was is : Option Row) (more : List Row) (n : ℕ) → length more ≤ n → length (carried_by was is more) ≤ suc n
carried_short-by was None more n short = omega arith
carried_short-by was (Some row) more n short = by (same_columns was (Some row))
  where
    by : (test : Bool) → length (if test then [] else row ∷ more) ≤ suc n
    by true = omega arith
    by false = omega arith

pub carried_short : (ignore_null : Bool) (is : Option Row) (entries : List Entry) → length (carried_on ignore_null is entries) ≤ length entries
carried_short ignore_null is [] = omega arith
carried_short ignore_null is (x ∷ xs) = carried_short-by (columns_after x) (after_event ignore_null is x.event) (carried_on ignore_null (after_event ignore_null is x.event) xs) (length xs) (carried_short ignore_null (after_event ignore_null is x.event) xs)

pub order_up : (a b : Row) → row_order b a ≡ Less → row_order a b ≡ Greater
order_up a b e = turned (row_order b a) (row_order a b) (row_order_total.antisymm a b) e
  where
    turned : (r s : Ordering) → s ≡ ordering_reverse r → r ≡ Less → s ≡ Greater
    turned Less s f h = f
    turned Equal s f h = cc
    turned Greater s f h = cc

placed_there : (event : Event) (entries : List Entry) → AllAbove event.sequence entries → placed_by history_order event (events_of entries) ≡ event ∷ events_of entries
placed_there event [] above = refl
placed_there event (x ∷ xs) above = ap (λ o. if is_gt (ordering_then o (nat_cmp (kind_rank event.kind) (kind_rank x.event.kind))) then x.event ∷ placed_by history_order event (events_of xs) else event ∷ x.event ∷ events_of xs) above.0

pub placed_at : (event : Event) (entries : List Entry) (place : ℕ) → AllBelow event.sequence (take place entries) → AllAbove event.sequence (drop place entries)
    → placed_by history_order event (events_of entries) ≡ events_of (take place entries) ++ event ∷ events_of (drop place entries)
placed_at event entries zero below above = placed_there event entries above
placed_at event [] (suc place) below above = refl
placed_at event (x ∷ xs) (suc place) below above =
    ap (λ o. if is_gt (ordering_then o (nat_cmp (kind_rank event.kind) (kind_rank x.event.kind))) then x.event ∷ placed_by history_order event (events_of xs) else event ∷ x.event ∷ events_of xs) (order_up event.sequence x.event.sequence below.0)
    ∙ ap (λ more. x.event ∷ more) (placed_at event xs place below.1 above)

pub spliced_events : (entries : List Entry) (place : ℕ) (entry : Entry) (rows : List Row) → length rows ≤ length (drop place entries)
    → AllBelow entry.event.sequence (take place entries) → AllAbove entry.event.sequence (drop place entries)
    → events_of (spliced entries place entry rows) ≡ placed_by history_order entry.event (events_of entries)
spliced_events entries place entry rows short below above =
    map-append (λ e. e.event) (take place entries) (entry ∷ recached (drop place entries) rows)
    ∙ ap (λ more. events_of (take place entries) ++ entry.event ∷ more) (recached_events (drop place entries) rows short)
    ∙ sym (placed_at entry.event entries place below above)

-- ---- writing it

recached_end : (entries : List Entry) (rows : List Row) (row : Row) → recached entries (rows ++ row ∷ []) ≡ recached (with_effective entries (length rows) row) rows
recached_end [] [] row = refl
recached_end (x ∷ xs) [] row = refl
recached_end [] (r ∷ rs) row = refl
recached_end (x ∷ xs) (r ∷ rs) row = ap (λ more. record { event = x.event; effective = r } ∷ more) (recached_end xs rs row)

pub rows_end : (entries : List Entry) (from : ℕ) (rows : List Row) (row : Row)
    → take from entries ++ recached (drop from entries) (rows ++ row ∷ []) ≡ take from (with_effective entries (from + length rows) row) ++ recached (drop from (with_effective entries (from + length rows) row)) rows
rows_end entries zero rows row = let e : zero + length rows ≡ length rows = omega arith in rw e (recached_end entries rows row)
rows_end [] (suc from) rows row = refl_empty rows
  where
    none : (rs : List Row) → recached [] rs ≡ []
    none [] = refl
    none (r ∷ rs) = refl

    refl_empty : (rs : List Row) → recached [] (rs ++ row ∷ []) ≡ recached [] rs
    refl_empty rs = none (rs ++ row ∷ []) ∙ sym (none rs)
rows_end (x ∷ xs) (suc from) rows row = let e : suc from + length rows ≡ suc (from + length rows) = omega arith in rw e (ap (λ more. x ∷ more) (rows_end xs from rows row))

pub with_length : (entries : List Entry) (i : ℕ) (row : Row) → length (with_effective entries i row) ≡ length entries
with_length [] i row = refl
with_length (x ∷ xs) zero row = refl
with_length (x ∷ xs) (suc i) row = ap suc (with_length xs i row)

pub put_spliced : (entries : List Entry) (place : ℕ) (entry : Entry) (rows : List Row) → place ≤ length entries
    → take (place + 1) (insert entries place entry) ++ recached (drop (place + 1) (insert entries place entry)) rows ≡ spliced entries place entry rows
put_spliced entries zero entry rows within = refl
put_spliced [] (suc place) entry rows within = absurd (let none : ⊥ = omega arith in none)
put_spliced (x ∷ xs) (suc place) entry rows within = let e : suc place + 1 ≡ suc (place + 1) = omega arith in rw e (ap (λ more. x ∷ more) (put_spliced xs place entry rows (omega arith)))

pub last_state_at : (entries : List Entry) (state : Option Row) (less : ℕ) (last : Entry) → less < length entries → last ≡ slice_index_or entries less last → columns_after last ≡ last_state state (take (suc less) entries)
last_state_at [] state less last within at = absurd (let none : ⊥ = omega arith in none)
last_state_at (x ∷ xs) state zero last within at = ap columns_after at
last_state_at (x ∷ xs) state (suc less) last within at = last_state_at xs (columns_after x) less last (omega arith) at

pub absent_at : (sequence : Row) (entries : List Entry) (i : ℕ) → IsAbsent sequence entries → i < length entries → ((d : Entry) → (slice_index_or entries i d).event.sequence ≡ sequence) → ⊥
absent_at sequence [] i absent within at = absurd (let none : ⊥ = omega arith in none)
absent_at sequence (x ∷ xs) zero absent within at = absent.0 (at x)
absent_at sequence (x ∷ xs) (suc i) absent within at = absent_at sequence xs i absent.1 (omega arith) at

-- what a splice leaves
pub record IsWhole (ignore_null : Bool) (tracked : List ℕ) (entries new : List Entry) (place : ℕ) (entry : Entry) (rows : List Row) : Type 0 where
  pub events : events_of new ≡ placed_by history_order entry.event (events_of entries)
  pub cached : IsCached ignore_null new
  pub before : rows_of tracked entries ≡ key_rows ignore_null tracked (events_of entries)
  pub after : rows_of tracked (spliced entries place entry rows) ≡ key_rows ignore_null tracked (events_of new)

pub whole : (ignore_null : Bool) (tracked : List ℕ) (entries put new : List Entry) (place : ℕ) (entry : Entry) (rows : List Row) (state : Option Row) → IsCached ignore_null entries → place ≤ length entries
    → AllBelow entry.event.sequence (take place entries) → AllAbove entry.event.sequence (drop place entries)
    → entry.effective ≡ unwrap_or state [] → state ≡ after_event ignore_null (last_state None (take place entries)) entry.event → rows ≡ carried_on ignore_null state (drop place entries)
    → put ≡ insert entries place entry → new ≡ take (place + 1) put ++ recached (drop (place + 1) put) rows
    → IsWhole ignore_null tracked entries new place entry rows
whole ignore_null tracked entries put new place entry rows state cached within below above shows is carries puts writes =
    let before : Option Row = last_state None (take place entries) in
    let seen : columns_after entry ≡ after_event ignore_null before entry.event = shown ignore_null before entry (shows ∙ ap (λ s. unwrap_or s []) is) in
    let same : state ≡ columns_after entry = is ∙ sym seen in
    let mine : rows ≡ carried_on ignore_null (columns_after entry) (drop place entries) = carries ∙ ap (λ s. carried_on ignore_null s (drop place entries)) same in
    let short : length rows ≤ length (drop place entries) = subst (λ rs. length rs ≤ length (drop place entries)) (sym mine) (carried_short ignore_null (columns_after entry) (drop place entries)) in
    let full : new ≡ spliced entries place entry rows = writes ∙ ap (λ p. take (place + 1) p ++ recached (drop (place + 1) p) rows) puts ∙ put_spliced entries place entry rows within in
    let done : IsCached ignore_null (spliced entries place entry rows) = cached_spliced ignore_null entries place entry rows cached seen mine in
    record {
      events = ap events_of full ∙ spliced_events entries place entry rows short below above;
      cached = subst (IsCached ignore_null) (sym full) done;
      before = cached_rows ignore_null tracked entries cached;
      after = cached_rows ignore_null tracked (spliced entries place entry rows) done ∙ ap (λ es. key_rows ignore_null tracked (events_of es)) (sym full);
    }
