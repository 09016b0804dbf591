-- The looks of a splice against what it touches.
use Rattle.std.proofs.Common.{◌≡◌, ◌≢◌, ◌⊎◌, inl, inr, ℕ, zero, suc, ◌+◌, ◌-◌, ◌*◌, ◌^◌, ◌<◌, ◌≤◌, Bool, true, false, ◌&&◌, ◌||◌, if◌then◌else◌, List, [], ◌∷◌, ◌++◌, length, take, drop, slice_get, slice_index_or, Option, Some, None, refl, sym, ap, ◌∙◌, subst, append_assoc, arith}
use Rattle.std.specs.Prelude.{option_to_list, unwrap_or}
use Rattle.std.specs.List.{remove}
use Rattle.std.specs.declared.cmp.Ordering.TheVariants.{Less, Equal}
use Rattle.std.specs.Cmp.{tied_itself}
use Rattle.std.specs.Ordering.{is_gt}
use Rattle.std.proofs.lemmas.List.{map-append, length-append, length-take-le, length-drop, length_push, take-append-drop, take_at, drop_at}
use Rattle.value_core.specs.declared.event.Event.{Event}
use Rattle.value_core.specs.EventOrder.{is_upsert, history_order, placed_by}
use Rattle.value_core.specs.Order.{Row, row_order, same_row}
use Rattle.value_core.specs.OrderLaws.{row_order_total}
use Rattle.event_history.specs.declared.history.Entry.{Entry}
use Rattle.event_history.specs.Histories.{AllAbove, AllBelow, AreAscending, events_of}
use Rattle.flow_model.specs.Current.{after_event, merged}
use Rattle.flow_model.specs.History.{Moment, moments_after}
use Rattle.cdc_scd2.specs.Cache.{CachedFrom, IsCached, carried_on, last_state, recached}
use Rattle.cdc_runs.specs.Entries.{columns_after, moment_of, moments_of}
use Rattle.cdc_scd2.specs.Looks.{differing, place_of, seen_in, touched}
use Rattle.cdc_scd2.specs.Pays.{LooksBack, LooksBehind, Pays, PaysBoth, PaysFirst, PaysLater}
use Rattle.cdc_runs.specs.Runs.{carried_by, goes_through, left_open, one_run, opened, recolumned, same_columns}
use Rattle.cdc_scd2.specs.Splices.{is_quiet, leaves_rows, spliced}
use Rattle.cdc_scd2.specs.Zones.{AreApart, AreOthers, IsApart, IsOther}
use Rattle.cdc_runs.proofs.RunLemmas.{left_append, left_head}
use Rattle.cdc_runs.proofs.StandLemmas.{same_row-itself}
use Rattle.cdc_scd2.proofs.TouchLemmas.{touches, touch_left, touch_right}
use Rattle.cdc_scd2.proofs.TurnLemmas.{head_of, rows_other, something_there}
use Rattle.cdc_scd2.proofs.SpliceLemmas.{drop_index, goes_on_any, in_places, one_at, spliced_parts}
use Rattle.cdc_scd2.proofs.WholeLemmas.{cached_moments, cached_spliced, cached_take, carried_short, last_state_at, order_up, shown, spliced_events}

-- ---- the zone has other columns

others_test : (w row r : Row) (more rs : List Row) (test : Bool) → same_row w row ≡ test → r ∷ rs ≡ (if test then [] else row ∷ more) → (w ≢ r) × (rs ≡ more)
others_test w row r more rs true e is = absurd (let none : ⊥ = cc in none)
others_test w row r more rs false e is = let first : r ≡ row = cc in let rest : rs ≡ more = cc in (λ same. rows_other w row e (same ∙ first), rest)

others_by : (upsert : Bool) (w row r : Row) (more rs : List Row) → r ∷ rs ≡ carried_by (if upsert then Some w else None) (if upsert then Some row else None) more
    → IsOther (if upsert then Some w else None) r × (rs ≡ more)
others_by true w row r more rs is = others_test w row r more rs (same_row w row) refl is
others_by false w row r more rs is = absurd (let none : ⊥ = cc in none)

others_of : (ignore_null : Bool) (xs after : List Entry) (is : Option Row) (rows : List Row) → rows ≡ carried_on ignore_null is (xs ++ after) → length xs ≡ length rows → AreOthers (moments_of xs) rows
others_of ignore_null [] after is [] e size = tt
others_of ignore_null [] after is (r ∷ rs) e size = absurd (let none : ⊥ = omega arith in none)
others_of ignore_null (x ∷ xs) after is [] e size = absurd (let none : ⊥ = omega arith in none)
others_of ignore_null (x ∷ xs) after is (r ∷ rs) e size =
    let both = others_by (is_upsert x.event) x.effective (if ignore_null then merged is x.event.columns else x.event.columns) r (carried_on ignore_null (after_event ignore_null is x.event) (xs ++ after)) rs e in
    (both.0, others_of ignore_null xs after (after_event ignore_null is x.event) rs both.1 (omega arith))

recached_by : (upsert : Bool) (w r : Row) → IsOther (if upsert then Some w else None) r → (if upsert then Some r else None) ≡ Some r
recached_by true w r other = refl
recached_by false w r other = absurd other

zone_recached : (zone : List Entry) (rows : List Row) → AreOthers (moments_of zone) rows → moments_of (recached zone rows) ≡ recolumned (moments_of zone) rows
zone_recached [] [] others = refl
zone_recached [] (r ∷ rs) others = absurd others
zone_recached (z ∷ zs) [] others = refl
zone_recached (z ∷ zs) (r ∷ rs) others = λ i. record { sequence = z.event.sequence; columns = recached_by (is_upsert z.event) z.effective r others.0 i } ∷ zone_recached zs rs others.1 i

-- with the same state nothing is carried on
same_test : (row : Row) (more : List Row) (test : Bool) → same_row row row ≡ test → (if test then [] else row ∷ more) ≡ []
same_test row more true e = refl
same_test row more false e = absurd (rows_other row row e refl)

nothing_by : (upsert : Bool) (row : Row) (w : Option Row) (more : List Row) → w ≡ (if upsert then Some row else None) → carried_by w (if upsert then Some row else None) more ≡ []
nothing_by true row w more e = ap (λ v. carried_by v (Some row) more) e ∙ same_test row more (same_row row row) refl
nothing_by false row w more e = refl

nothing_carried : (ignore_null : Bool) (entries : List Entry) (was : Option Row) → CachedFrom ignore_null was entries → carried_on ignore_null was entries ≡ []
nothing_carried ignore_null [] was cached = refl
nothing_carried ignore_null (x ∷ xs) was cached = nothing_by (is_upsert x.event) (if ignore_null then merged was x.event.columns else x.event.columns) (columns_after x) (carried_on ignore_null (after_event ignore_null was x.event) xs) cached.0

-- ---- sequences are apart

less_apart : (a b : Row) → row_order a b ≡ Less → b ≢ a
less_apart a b e same = less-equal (sym e ∙ ap (row_order a) same ∙ tied_itself row_order_total a)
  where
    less-equal : Less ≡ Equal → ⊥
    less-equal h = cc

above_apart : (sequence : Row) (entries : List Entry) → AllAbove sequence entries → IsApart sequence (moments_of entries)
above_apart sequence [] all = tt
above_apart sequence (x ∷ xs) all = (less_apart sequence x.event.sequence all.0, above_apart sequence xs all.1)

pub ascending_apart : (entries : List Entry) → AreAscending entries → AreApart (moments_of entries)
ascending_apart [] order = tt
ascending_apart (x ∷ xs) order = (above_apart x.event.sequence xs order.0, ascending_apart xs order.1)

ascending_drop : (entries : List Entry) (place : ℕ) → AreAscending entries → AreAscending (drop place entries)
ascending_drop entries zero order = order
ascending_drop [] (suc place) order = tt
ascending_drop (x ∷ xs) (suc place) order = ascending_drop xs place order.1

-- ---- what the first run behind the zone adds

record Right (tracked : List ℕ) (entries : List Entry) (place : ℕ) (was is : Option Row) (few taken before : ℕ) : Type 0 where
  count : ℕ
  looks : ((count ≡ 0) × (taken ≤ before + few)) ⊎ ((0 < count) × (taken ≤ before + few + count + 3))
  within : place + count ≤ length entries
  least : count ≤ differing (seen_in tracked was (moments_of (drop place entries)) []) (seen_in tracked is (moments_of (drop place entries)) [])

right_of : (tracked : List ℕ) (entries : List Entry) (place : ℕ) (was is : Option Row) (few taken before : ℕ) → place ≤ length entries → LooksBehind tracked entries place was is few taken before → Right tracked entries place was is few taken before
right_of tracked entries place was is few taken before within (inl less) = record { count = 0; looks = inl (refl, less); within = omega arith; least = omega arith }
right_of tracked entries place was is few taken before within (inr on) =
    let size : ℕ = on.end - place in
    let ordered : place ≤ on.end = on.run.ordered in
    let inside : on.end < length entries = on.run.within in
    let spent : taken + place ≤ before + on.end + 4 + few = on.looks in
    let here : drop place entries ≡ on.first ∷ drop 1 (drop place entries) = something_there (drop place entries) on.first (on.there ∙ head_of entries place) in
    let rest : List Entry = drop 1 (drop place entries) in
    let long : length (drop place entries) ≡ length entries - place = length-drop place entries in
    let n : suc on.end - place ≡ suc size = omega arith in
    let whole : moments_of (drop place entries) ≡ moments_of (on.first ∷ take size rest) ++ moments_of (drop size rest) =
    ap moments_of (here ∙ ap (λ zs. on.first ∷ zs) (sym (take-append-drop size rest))) ∙ map-append moment_of (on.first ∷ take size rest) (drop size rest) in
    let one : one_run tracked (moments_of (on.first ∷ take size rest)) ≡ true = sym ((λ i. one_run tracked (moments_of (take (n i) (here i))))) ∙ on.run.one in
    let fits : length rest + 1 ≡ length entries - place = (let e : length (on.first ∷ rest) ≡ length entries - place = ap length (sym here) ∙ long in omega arith) in
    let many : length (take size rest) ≡ size = length-take-le size rest (omega arith) in
    let counted : length (moments_of (on.first ∷ take size rest)) ≡ suc size = length-moments (on.first ∷ take size rest) ∙ ap suc many in
    let all = touch_right tracked (moment_of on.first) (moments_of (take size rest)) (moments_of (drop size rest)) on.columns was is one on.has on.apart in
    record {
      count = suc size;
      looks = inr (omega arith, omega arith);
      within = omega arith;
      least = subst (λ ms. suc size ≤ differing (seen_in tracked was ms []) (seen_in tracked is ms [])) (sym whole) (subst (λ k. k ≤ differing (seen_in tracked was (moments_of (on.first ∷ take size rest) ++ moments_of (drop size rest)) []) (seen_in tracked is (moments_of (on.first ∷ take size rest) ++ moments_of (drop size rest)) [])) counted all);
    }
  where
    length-moments : (xs : List Entry) → length (moments_of xs) ≡ length xs
    length-moments [] = refl
    length-moments (x ∷ xs) = ap suc (length-moments xs)

-- ---- what is spent

-- how many kept events a splice touches, by the cached columns
abbrev pub touches_of : List ℕ → List Entry → ℕ → Entry → List Row → ℕ
touches_of tracked entries place entry rows = differing (seen_in tracked None (moments_of entries) []) (remove (seen_in tracked None (moments_of (spliced entries place entry rows)) []) place)

pub record Spent (tracked : List ℕ) (entries : List Entry) (place : ℕ) (entry : Entry) (rows : List Row) (taken before : ℕ) : Type 0 where
  pub left : ℕ
  pub right : ℕ
  pub first : ℕ
  pub second : ℕ
  pub left_cost : ((left ≡ 0) × (first ≡ 0)) ⊎ ((0 < left) × (first ≡ left + 2))
  pub right_cost : ((right ≡ 0) × (second ≡ 0)) ⊎ ((0 < right) × (second ≡ right + 3))
  pub looks : taken ≤ before + length rows + 5 + first + second
  pub within : left + length rows + right ≤ length entries
  pub least : left + length rows + right ≤ touches_of tracked entries place entry rows

cost_of : (count taken before few : ℕ) → ((count ≡ 0) × (taken ≤ before + few)) ⊎ ((0 < count) × (taken ≤ before + few + count + 3))
    → (cost : ℕ) × (((count ≡ 0) × (cost ≡ 0)) ⊎ ((0 < count) × (cost ≡ count + 3))) × (taken ≤ before + few + cost)
cost_of count taken before few (inl none) = (0, inl (none.0, refl), omega arith)
cost_of count taken before few (inr some) = (count + 3, inr (some.0, refl), omega arith)

pub spent_first : (tracked : List ℕ) (entries : List Entry) (entry : Entry) (rows : List Row) (taken before : ℕ) (ignore_null : Bool) → rows ≡ carried_on ignore_null (columns_after entry) (drop 0 entries) → length rows ≤ length entries
    → PaysFirst tracked entries entry rows taken before → Spent tracked entries 0 entry rows taken before
spent_first tracked entries entry rows taken before ignore_null carries short pays =
    let after : List Entry = drop (length rows) entries in
    let size : length pays.old ≡ length rows = (let e : length pays.old + 0 ≡ length rows = pays.long in omega arith) in
    let all : pays.old ++ after ≡ entries = pays.whole in
    let others : AreOthers (moments_of pays.old) rows = others_of ignore_null pays.old after (columns_after entry) rows (carries ∙ ap (carried_on ignore_null (columns_after entry)) (sym all)) size in
    let again : moments_of (recached pays.old rows) ≡ recolumned (moments_of pays.old) rows = zone_recached pays.old rows others in
    let r = right_of tracked entries (length rows) (left_open tracked None (moments_of pays.old) (moments_of after)) (left_open tracked None (moments_of (entry ∷ recached pays.old rows)) (moments_of after)) 2 taken (before + length rows) short pays.behind in
    let cost = cost_of r.count taken (before + length rows) 2 r.looks in
    let within : length rows + r.count ≤ length entries = r.within in
    let spent : taken ≤ before + length rows + 2 + cost.0 = cost.2 in
    let mine : moments_of pays.old ++ moments_of after ≡ moments_of entries = sym (map-append moment_of pays.old after) ∙ ap moments_of all in
    let also : moment_of entry ∷ (recolumned (moments_of pays.old) rows ++ moments_of after) ≡ moments_of (spliced entries 0 entry rows) =
    ap (λ ms. moment_of entry ∷ (ms ++ moments_of after)) (sym again) ∙ sym (map-append moment_of (entry ∷ recached pays.old rows) after) ∙ ap moments_of (sym (spliced_parts [] [] pays.old after entry rows 0 refl size)) ∙ ap (λ zs. moments_of (spliced zs 0 entry rows)) all in
    let least = touches tracked [] (moments_of pays.old) (moments_of after) (moment_of entry) rows 0 0 r.count refl others (omega arith)
    (subst (λ ms. r.count ≤ differing (seen_in tracked (left_open tracked None (moments_of pays.old) (moments_of after)) (moments_of after) []) (seen_in tracked (left_open tracked None (moment_of entry ∷ ms) (moments_of after)) (moments_of after) [])) again r.least) in
    record {
      left = 0;
      right = r.count;
      first = 0;
      second = cost.0;
      left_cost = inl (refl, refl);
      right_cost = cost.1;
      looks = omega arith;
      within = omega arith;
      least = subst (λ ms. 0 + length rows + r.count ≤ differing (seen_in tracked None ms []) (remove (seen_in tracked None (moments_of (spliced entries 0 entry rows)) []) 0)) mine
          (subst (λ ms. 0 + length rows + r.count ≤ differing (seen_in tracked None (moments_of pays.old ++ moments_of after) []) (remove (seen_in tracked None ms []) 0)) also least);
    }

-- ---- the run before

record Left (tracked : List ℕ) (entries : List Entry) (less taken before target : ℕ) : Type 0 where
  count : ℕ
  looks : ((count ≡ 0) × (taken ≤ before + 1)) ⊎ ((0 < count) × (taken ≤ before + count + 3))
  within : count ≤ less + 1
  least : count ≤ target

or-false : (a b : Bool) → (a || b) ≡ false → (a ≡ false) × (b ≡ false)
or-false true b e = absurd (let none : ⊥ = cc in none)
or-false false b e = (refl, e)

both-false : (a b : Bool) → (a && b) ≡ false → a ≡ true → b ≡ true → ⊥
both-false true true e p q = cc
both-false true false e p q = cc
both-false false b e p q = cc

same-same : (columns : Option Row) → same_columns columns columns ≡ true
same-same None = refl
same-same (Some row) = same_row-itself row

-- an event that leaves the state as it is would be quiet
not_quiet : (ignore_null : Bool) (last entry : Entry) (zone after : List Entry) (rows : List Row) → length zone ≡ length rows → rows ≡ carried_on ignore_null (columns_after entry) (zone ++ after) → CachedFrom ignore_null (columns_after last) (zone ++ after)
    → is_quiet (last ∷ zone) (last ∷ (entry ∷ recached zone rows)) ≡ false → columns_after entry ≢ columns_after last
not_quiet ignore_null last entry zone after rows size carries cached quiet same =
    none zone rows size (carries ∙ ap (λ state. carried_on ignore_null state (zone ++ after)) same ∙ nothing_carried ignore_null (zone ++ after) (columns_after last) cached) quiet
  where
    none : (zs : List Entry) (rs : List Row) → length zs ≡ length rs → rs ≡ [] → is_quiet (last ∷ zs) (last ∷ (entry ∷ recached zs rs)) ≡ false → ⊥
    none [] [] e nil q = true-false (sym (ap (same_columns (columns_after last)) same ∙ same-same (columns_after last)) ∙ q)
      where
        true-false : true ≡ false → ⊥
        true-false h = cc
    none [] (r ∷ rs) e nil q = absurd (let no' : ⊥ = omega arith in no')
    none (z ∷ zs) [] e nil q = absurd (let no' : ⊥ = omega arith in no')
    none (z ∷ zs) (r ∷ rs) e nil q = absurd (let no' : ⊥ = cc in no')

-- the run of the entry before, as far as it was looked at
left_of : (tracked : List ℕ) (before zone after : List Entry) (last entry : Entry) (rows : List Row) (next : Option Entry) (less taken spent : ℕ) (ignore_null : Bool) → length before ≡ less → AreOthers (moments_of zone) rows → length zone ≡ length rows
    → AreApart (moments_of (zone ++ after)) → IsApart entry.event.sequence (moments_of (zone ++ after)) → columns_after entry ≢ columns_after last → next ≡ slice_get after 0
    → leaves_rows tracked (last ∷ zone) (last ∷ (entry ∷ recached zone rows)) (option_to_list next) ≡ false
    → LooksBack tracked (before ++ ((last ∷ zone) ++ after)) less taken spent
    → Left tracked (before ++ ((last ∷ zone) ++ after)) less taken spent
    (differing (seen_in tracked None (moments_of before ++ moment_of last ∷ []) (moments_of zone ++ moments_of after)) (seen_in tracked None (moments_of before ++ moment_of last ∷ []) (moment_of entry ∷ (recolumned (moments_of zone) rows ++ moments_of after))))
left_of tracked before zone after last entry rows next less taken spent ignore_null at others size apart alone new there changes (inl few) =
    record { count = 0; looks = inl (refl, few); within = omega arith; least = omega arith }
left_of tracked before zone after last entry rows next less taken spent ignore_null at others size apart alone new there changes (inr from) =
    let all : List Entry = before ++ ((last ∷ zone) ++ after) in
    let ordered : from.start ≤ less = from.run.ordered in
    let many : ℕ = less - from.start in
    let cost : taken + from.start ≤ spent + less + 4 = from.looks in
    let inside : less < length all = (let e : length all ≡ length before + length ((last ∷ zone) ++ after) = length-append before ((last ∷ zone) ++ after) in omega arith) in
    let here : (d : Entry) → last ≡ slice_index_or all less d = λ d. sym (sym (drop_index all less d) ∙ ap (λ zs. slice_index_or zs 0 d) (drop_at before ((last ∷ zone) ++ after) less at)) in
    let same : from.last ≡ last = one_at all less from.last last inside from.at (here last) in
    let has : columns_after last ≡ Some from.columns = ap columns_after (sym same) ∙ from.has in
    let sum : from.start + many ≡ less = omega arith in
    let parts = in_places all from.start many last (omega arith) (subst (λ k. last ≡ slice_index_or all k last) (sym sum) (here last)) in
    let run : List Entry = take many (drop from.start all) in
    let n : suc less - from.start ≡ suc many = omega arith in
    let one : one_run tracked (moments_of run ++ moment_of last ∷ []) ≡ true =
    sym (ap (λ k. one_run tracked (moments_of (take k (drop from.start all)))) n ∙ ap (λ zs. one_run tracked (moments_of zs)) parts.0 ∙ ap (one_run tracked) (map-append moment_of run (last ∷ []))) ∙ from.run.one in
    let front : moments_of before ≡ moments_of (take from.start all) ++ moments_of run =
    ap moments_of (sym (take_at before ((last ∷ zone) ++ after) less at) ∙ ap (λ k. take k all) (sym sum) ∙ parts.2) ∙ map-append moment_of (take from.start all) run in
    let long : length run ≡ many = length-take-le many (drop from.start all) (let e : length (drop from.start all) ≡ length all - from.start = length-drop from.start all in omega arith) in
    let behind : moments_of (zone ++ after) ≡ moments_of zone ++ moments_of after = map-append moment_of zone after in
    let plain : Moment = record { sequence = last.event.sequence; columns = Some from.columns } in
    let is : moment_of last ≡ plain = λ i. record { sequence = last.event.sequence; columns = has i } in
    let parted = or-false (is_quiet (last ∷ zone) (last ∷ (entry ∷ recached zone rows))) (goes_through tracked (moments_of (last ∷ zone)) (moments_of (option_to_list next)) && goes_through tracked (moments_of (last ∷ (entry ∷ recached zone rows))) (moments_of (option_to_list next))) changes in
    let again : moments_of (recached zone rows) ≡ recolumned (moments_of zone) rows = zone_recached zone rows others in
    let least = touch_left tracked (moments_of (take from.start all)) (moments_of run) last.event.sequence from.columns (moments_of zone) rows (moments_of after) entry.event.sequence (columns_after entry)
    (subst (λ m. one_run tracked (moments_of run ++ m ∷ []) ≡ true) is one) others (subst AreApart behind apart) (subst (IsApart entry.event.sequence) behind alone) (λ e. new (e ∙ sym has))
    (λ p q. both-false (goes_through tracked (moments_of (last ∷ zone)) (moments_of (option_to_list next))) (goes_through tracked (moments_of (last ∷ (entry ∷ recached zone rows))) (moments_of (option_to_list next))) parted.1
    (goes_on_any tracked (moments_of (last ∷ zone)) after next there ∙ ap (λ m. goes_through tracked (m ∷ moments_of zone) (moments_of after)) is ∙ p)
    (goes_on_any tracked (moments_of (last ∷ (entry ∷ recached zone rows))) after next there ∙ (λ i. goes_through tracked (is i ∷ (moment_of entry ∷ again i)) (moments_of after)) ∙ q)) in
    let count : length (moments_of run ++ plain ∷ []) ≡ suc many = length_push (moments_of run) plain ∙ (let e : length (moments_of run) ≡ length run = length-moments run in omega arith) in
    let joined : moments_of (take from.start all) ++ (moments_of run ++ plain ∷ []) ≡ moments_of before ++ moment_of last ∷ [] =
    sym (append_assoc (moments_of (take from.start all)) (moments_of run) (plain ∷ [])) ∙ (λ i. sym front i ++ sym is i ∷ []) in
    record {
      count = suc many;
      looks = inr (omega arith, omega arith);
      within = omega arith;
      least = subst (λ ms. suc many ≤ differing (seen_in tracked None ms (moments_of zone ++ moments_of after)) (seen_in tracked None ms (moment_of entry ∷ (recolumned (moments_of zone) rows ++ moments_of after)))) joined
          (subst (λ k. k ≤ differing (seen_in tracked None (moments_of (take from.start all) ++ (moments_of run ++ plain ∷ [])) (moments_of zone ++ moments_of after)) (seen_in tracked None (moments_of (take from.start all) ++ (moments_of run ++ plain ∷ [])) (moment_of entry ∷ (recolumned (moments_of zone) rows ++ moments_of after)))) count least);
    }
  where
    length-moments : (xs : List Entry) → length (moments_of xs) ≡ length xs
    length-moments [] = refl
    length-moments (x ∷ xs) = ap suc (length-moments xs)

left_cost_of : (count taken before : ℕ) → ((count ≡ 0) × (taken ≤ before + 1)) ⊎ ((0 < count) × (taken ≤ before + count + 3))
    → (cost : ℕ) × (((count ≡ 0) × (cost ≡ 0)) ⊎ ((0 < count) × (cost ≡ count + 2))) × (taken ≤ before + 1 + cost)
left_cost_of count taken before (inl none) = (0, inl (none.0, refl), omega arith)
left_cost_of count taken before (inr some) = (count + 2, inr (some.0, refl), omega arith)

-- where runs go on, seen from the beginning of the history
seen_start : (tracked : List ℕ) (before : List Moment) (last : Moment) (xs after : List Moment) (since : Option Row)
    → left_open tracked since (last ∷ xs) after ≡ left_open tracked (left_open tracked None before (last ∷ [])) (last ∷ xs) after
    → left_open tracked since (last ∷ xs) after ≡ left_open tracked (left_open tracked None (before ++ last ∷ []) (xs ++ after)) xs after
seen_start tracked before last xs after since same =
    same ∙ ap (λ from. left_open tracked from (last ∷ xs) after) (left_head tracked None before last [] (xs ++ after))
    ∙ ap (λ from. left_open tracked from xs after) (sym (left_append tracked None before (last ∷ []) (xs ++ after)))

drop_next : (entries : List Entry) (k : ℕ) → drop (suc k) entries ≡ drop 1 (drop k entries)
drop_next entries zero = refl
drop_next [] (suc k) = refl
drop_next (x ∷ xs) (suc k) = drop_next xs k

spent_both : (tracked : List ℕ) (before zone after : List Entry) (last entry : Entry) (rows : List Row) (place less left right first second taken start : ℕ) (entries : List Entry) → less + 1 ≡ place → length before ≡ less → length zone ≡ length rows
    → before ++ ((last ∷ zone) ++ after) ≡ entries → AreOthers (moments_of zone) rows
    → ((left ≡ 0) × (first ≡ 0)) ⊎ ((0 < left) × (first ≡ left + 2)) → ((right ≡ 0) × (second ≡ 0)) ⊎ ((0 < right) × (second ≡ right + 3)) → taken ≤ start + length rows + 5 + first + second → left + length rows + right ≤ length entries
    → let front = moments_of before ++ moment_of last ∷ [] in
    let was = left_open tracked None front (moments_of zone ++ moments_of after) in
    let then' = opened tracked (left_open tracked None front (moment_of entry ∷ (recolumned (moments_of zone) rows ++ moments_of after))) (moment_of entry) (recolumned (moments_of zone) rows ++ moments_of after) in
    left ≤ differing (seen_in tracked None front (moments_of zone ++ moments_of after)) (seen_in tracked None front (moment_of entry ∷ (recolumned (moments_of zone) rows ++ moments_of after)))
    → right ≤ differing (seen_in tracked (left_open tracked was (moments_of zone) (moments_of after)) (moments_of after) []) (seen_in tracked (left_open tracked then' (recolumned (moments_of zone) rows) (moments_of after)) (moments_of after) [])
    → Spent tracked entries place entry rows taken start
spent_both tracked before zone after last entry rows place less left right first second taken start entries up at size all others l r looks within lower upper =
    let front : List Moment = moments_of before ++ moment_of last ∷ [] in
    let again : moments_of (recached zone rows) ≡ recolumned (moments_of zone) rows = zone_recached zone rows others in
    let here : length (before ++ last ∷ []) ≡ place = (let e : length (before ++ last ∷ []) ≡ length before + 1 = length_push before last in omega arith) in
    let mine : front ++ (moments_of zone ++ moments_of after) ≡ moments_of entries =
    append_assoc (moments_of before) (moment_of last ∷ []) (moments_of zone ++ moments_of after)
    ∙ ap (λ ms. moments_of before ++ ms) (sym (map-append moment_of (last ∷ zone) after)) ∙ sym (map-append moment_of before ((last ∷ zone) ++ after)) ∙ ap moments_of all in
    let also : front ++ (moment_of entry ∷ (recolumned (moments_of zone) rows ++ moments_of after)) ≡ moments_of (spliced entries place entry rows) =
    append_assoc (moments_of before) (moment_of last ∷ []) (moment_of entry ∷ (recolumned (moments_of zone) rows ++ moments_of after))
    ∙ ap (λ ms. moments_of before ++ (moment_of last ∷ (moment_of entry ∷ (ms ++ moments_of after)))) (sym again)
    ∙ ap (λ ms. moments_of before ++ ms) (sym (map-append moment_of (last ∷ (entry ∷ recached zone rows)) after)) ∙ sym (map-append moment_of before ((last ∷ (entry ∷ recached zone rows)) ++ after))
    ∙ ap moments_of (sym (spliced_parts before (last ∷ []) zone after entry rows place here size)) ∙ ap (λ zs. moments_of (spliced zs place entry rows)) all in
    let counted : length front ≡ place = length_push (moments_of before) (moment_of last) ∙ (let e : length (moments_of before) ≡ length before = length-moments before in omega arith) in
    let least = touches tracked front (moments_of zone) (moments_of after) (moment_of entry) rows place left right counted others lower upper in
    record {
      left = left;
      right = right;
      first = first;
      second = second;
      left_cost = l;
      right_cost = r;
      looks = looks;
      within = within;
      least = subst (λ ms. left + length rows + right ≤ differing (seen_in tracked None ms []) (remove (seen_in tracked None (moments_of (spliced entries place entry rows)) []) place)) mine
          (subst (λ ms. left + length rows + right ≤ differing (seen_in tracked None (front ++ (moments_of zone ++ moments_of after)) []) (remove (seen_in tracked None ms []) place)) also least);
    }
  where
    length-moments : (xs : List Entry) → length (moments_of xs) ≡ length xs
    length-moments [] = refl
    length-moments (x ∷ xs) = ap suc (length-moments xs)

spent_by : (tracked : List ℕ) (entries : List Entry) (place less : ℕ) (entry : Entry) (rows : List Row) (taken start : ℕ) (ignore_null : Bool) (last : Entry) (zone new : List Entry) (next : Option Entry) → less + 1 ≡ place → place - 1 ≡ less → place + length rows ≤ length entries
    → (last ∷ zone) ++ drop (place + length rows) entries ≡ drop less entries → new ≡ take 1 (last ∷ zone) ++ entry ∷ recached (drop 1 (last ∷ zone)) rows → next ≡ slice_get entries (place + length rows)
    → (after front : List Entry) → after ≡ drop (place + length rows) entries → front ≡ take less entries
    → length zone ≡ length rows → less < length entries → length front ≡ less → front ++ ((last ∷ zone) ++ after) ≡ entries → ((d : Entry) → last ≡ slice_index_or entries less d) → CachedFrom ignore_null (columns_after last) (zone ++ after)
    → rows ≡ carried_on ignore_null (columns_after entry) (zone ++ after) → AreOthers (moments_of zone) rows → AreApart (moments_of (zone ++ after)) → IsApart entry.event.sequence (moments_of (zone ++ after))
    → (taken ≤ start + length rows + 2) ⊎ PaysBoth tracked entries place (last ∷ zone) new next (length rows) taken start
    → Spent tracked entries place entry rows taken start
spent_by tracked entries place less entry rows taken start ignore_null last zone new next up down within whole is there after front ends begins size inside at all here kept carried others apart alone (inl few) =
    spent_both tracked front zone after last entry rows place less 0 0 0 0 taken start entries up at size all others (inl (refl, refl)) (inl (refl, refl)) (omega arith) (omega arith) (omega arith) (omega arith)
spent_by tracked entries place less entry rows taken start ignore_null last zone new next up down within whole is there after front ends begins size inside at all here kept carried others apart alone (inr both) =
    let end : ℕ = place + length rows in
    let c : List Moment = moments_of after in
    let z : List Moment = moments_of zone in
    let f : List Moment = moments_of front in
    let again : moments_of (recached zone rows) ≡ recolumned z rows = zone_recached zone rows others in
    let changes : leaves_rows tracked (last ∷ zone) (last ∷ (entry ∷ recached zone rows)) (option_to_list next) ≡ false = ap (λ zs. leaves_rows tracked (last ∷ zone) zs (option_to_list next)) (sym is) ∙ both.changes in
    let quiet = or-false (is_quiet (last ∷ zone) (last ∷ (entry ∷ recached zone rows))) (goes_through tracked (moments_of (last ∷ zone)) (moments_of (option_to_list next)) && goes_through tracked (moments_of (last ∷ (entry ∷ recached zone rows))) (moments_of (option_to_list next))) changes in
    let new' : columns_after entry ≢ columns_after last = not_quiet ignore_null last entry zone after rows size carried kept quiet.0 in
    let head : next ≡ slice_get after 0 = there ∙ head_of entries end ∙ ap (λ zs. slice_get zs 0) (sym ends) in
    let back : LooksBack tracked (front ++ ((last ∷ zone) ++ after)) less both.middle (start + length rows + 2) = subst (λ zs. LooksBack tracked zs less both.middle (start + length rows + 2)) (sym all) (subst (λ k. LooksBack tracked entries k both.middle (start + length rows + 2)) down both.back) in
    let l = left_of tracked front zone after last entry rows next less both.middle (start + length rows + 2) ignore_null at others size apart alone new' head changes back in
    let lcost = left_cost_of l.count both.middle (start + length rows + 2) l.looks in
    let r = right_of tracked entries end (left_open tracked both.since (moments_of (last ∷ zone)) (moments_of (drop end entries))) (left_open tracked both.since (moments_of new) (moments_of (drop end entries))) 2 taken both.middle within both.behind in
    let rcost = cost_of r.count taken both.middle 2 r.looks in
    let s : left_open tracked None (moments_of (take (place - 1) entries)) (moments_of (drop (place - 1) entries)) ≡ left_open tracked None f (moment_of last ∷ []) =
    (λ i. left_open tracked None (moments_of (take (down i) entries)) (moments_of (drop (down i) entries))) ∙ (λ i. left_open tracked None (moments_of (sym begins i)) (moments_of (sym whole i)))
    ∙ left_head tracked None f (moment_of last) (moments_of (zone ++ drop end entries)) [] in
    let d : List Moment = moments_of (drop end entries) in
    let e : Moment = moment_of entry in
    let here' : last ≡ slice_index_or entries (place - 1) last = here last ∙ ap (λ k. slice_index_or entries k last) (sym down) in
    let w : left_open tracked both.since (moments_of (last ∷ zone)) d ≡ left_open tracked (left_open tracked None (f ++ moment_of last ∷ []) (z ++ c)) z c =
    seen_start tracked f (moment_of last) z d both.since (both.begins.goes_on last z d here' ∙ ap (λ from. left_open tracked from (moment_of last ∷ z) d) s)
    ∙ (λ i. left_open tracked (left_open tracked None (f ++ moment_of last ∷ []) (z ++ moments_of (sym ends i))) z (moments_of (sym ends i))) in
    let v : left_open tracked both.since (moments_of new) d ≡ left_open tracked (left_open tracked None (f ++ moment_of last ∷ []) ((e ∷ recolumned z rows) ++ c)) (e ∷ recolumned z rows) c =
    ap (λ zs. left_open tracked both.since (moments_of zs) d) is ∙ ap (λ ms. left_open tracked both.since (moment_of last ∷ (e ∷ ms)) d) again
    ∙ seen_start tracked f (moment_of last) (e ∷ recolumned z rows) d both.since (both.begins.goes_on last (e ∷ recolumned z rows) d here' ∙ ap (λ from. left_open tracked from (moment_of last ∷ (e ∷ recolumned z rows)) d) s)
    ∙ (λ i. left_open tracked (left_open tracked None (f ++ moment_of last ∷ []) ((e ∷ recolumned z rows) ++ moments_of (sym ends i))) (e ∷ recolumned z rows) (moments_of (sym ends i))) in
    let upper = subst (λ n. r.count ≤ n) (λ i. differing (seen_in tracked (w i) (moments_of (sym ends i)) []) (seen_in tracked (v i) (moments_of (sym ends i)) [])) r.least in
    let first : both.middle ≤ start + length rows + 2 + 1 + lcost.0 = lcost.2 in
    let second : taken ≤ both.middle + 2 + rcost.0 = rcost.2 in
    let lower : l.count ≤ less + 1 = l.within in
    let higher : place + length rows + r.count ≤ length entries = r.within in
    spent_both tracked front zone after last entry rows place less l.count r.count lcost.0 rcost.0 taken start entries up at size all others lcost.1 rcost.1 (omega arith) (omega arith) l.least upper

spent_old : (tracked : List ℕ) (entries : List Entry) (place less : ℕ) (entry : Entry) (rows : List Row) (taken start : ℕ) (ignore_null : Bool) (old new : List Entry) (next : Option Entry) → less + 1 ≡ place → place - 1 ≡ less → place + length rows ≤ length entries
    → AreAscending entries → AllAbove entry.event.sequence (drop place entries) → IsCached ignore_null entries → rows ≡ carried_on ignore_null (columns_after entry) (drop place entries)
    → old ++ drop (place + length rows) entries ≡ drop less entries → length old + less ≡ place + length rows → new ≡ take 1 old ++ entry ∷ recached (drop 1 old) rows → next ≡ slice_get entries (place + length rows)
    → (taken ≤ start + length rows + 2) ⊎ PaysBoth tracked entries place old new next (length rows) taken start
    → Spent tracked entries place entry rows taken start
spent_old tracked entries place less entry rows taken start ignore_null [] new next up down within order above cached carries whole long is there looks = absurd (let none : ⊥ = omega arith in none)
spent_old tracked entries place less entry rows taken start ignore_null (last ∷ zone) new next up down within order above cached carries whole long is there looks =
    let after : List Entry = drop (place + length rows) entries in
    let front : List Entry = take less entries in
    let size : length zone ≡ length rows = omega arith in
    let inside : less < length entries = omega arith in
    let at : length front ≡ less = length-take-le less entries (omega arith) in
    let all : front ++ ((last ∷ zone) ++ after) ≡ entries = ap (λ more. front ++ more) whole ∙ take-append-drop less entries in
    let step : suc less ≡ place = omega arith in
    let dropped : drop place entries ≡ zone ++ after = ap (λ k. drop k entries) (sym step) ∙ drop_next entries less ∙ ap (drop 1) (sym whole) in
    let here : (d : Entry) → last ≡ slice_index_or entries less d = λ d. sym (sym (drop_index entries less d) ∙ ap (λ zs. slice_index_or zs 0 d) (sym whole)) in
    let state : last_state None (take place entries) ≡ columns_after last = ap (λ k. last_state None (take k entries)) (sym step) ∙ sym (last_state_at entries None less last inside (here last)) in
    let kept : CachedFrom ignore_null (columns_after last) (zone ++ after) = subst (λ zs. CachedFrom ignore_null (columns_after last) zs) dropped (subst (λ s. CachedFrom ignore_null s (drop place entries)) state (cached_take ignore_null None entries place cached).1) in
    let carried : rows ≡ carried_on ignore_null (columns_after entry) (zone ++ after) = carries ∙ ap (carried_on ignore_null (columns_after entry)) dropped in
    let others : AreOthers (moments_of zone) rows = others_of ignore_null zone after (columns_after entry) rows carried size in
    let apart : AreApart (moments_of (zone ++ after)) = subst (λ zs. AreApart (moments_of zs)) dropped (ascending_apart (drop place entries) (ascending_drop entries place order)) in
    let alone : IsApart entry.event.sequence (moments_of (zone ++ after)) = subst (λ zs. IsApart entry.event.sequence (moments_of zs)) dropped (above_apart entry.event.sequence (drop place entries) above) in
    spent_by tracked entries place less entry rows taken start ignore_null last zone new next up down within whole is there after front refl refl size inside at all here kept carried others apart alone looks

pub spent_later : (tracked : List ℕ) (entries : List Entry) (place less : ℕ) (entry : Entry) (rows : List Row) (taken start : ℕ) (ignore_null : Bool) → less + 1 ≡ place → place + length rows ≤ length entries
    → AreAscending entries → AllAbove entry.event.sequence (drop place entries) → IsCached ignore_null entries → rows ≡ carried_on ignore_null (columns_after entry) (drop place entries)
    → PaysLater tracked entries place entry rows taken start → Spent tracked entries place entry rows taken start
spent_later tracked entries place less entry rows taken start ignore_null up within order above cached carries pays =
    let down : place - 1 ≡ less = omega arith in
    spent_old tracked entries place less entry rows taken start ignore_null pays.old pays.new pays.next up down within order above cached carries
    (pays.whole ∙ ap (λ k. drop k entries) down) (subst (λ k. length pays.old + k ≡ place + length rows) down pays.long) pays.spliced pays.there pays.looks

pub spent : (tracked : List ℕ) (entries : List Entry) (place : ℕ) (entry : Entry) (rows : List Row) (taken start : ℕ) (ignore_null : Bool) → place + length rows ≤ length entries
    → AreAscending entries → AllAbove entry.event.sequence (drop place entries) → IsCached ignore_null entries → rows ≡ carried_on ignore_null (columns_after entry) (drop place entries)
    → Pays tracked entries place entry rows taken start → Spent tracked entries place entry rows taken start
spent tracked entries place entry rows taken start ignore_null within order above cached carries (inl none) =
    subst (λ k. Spent tracked entries k entry rows taken start) (sym none.0)
    (spent_first tracked entries entry rows taken start ignore_null (carries ∙ ap (λ k. carried_on ignore_null (columns_after entry) (drop k entries)) none.0) (omega arith) none.1)
spent tracked entries place entry rows taken start ignore_null within order above cached carries (inr some) =
    let down : place - 1 + 1 ≡ place = (let positive : place ≢ 0 = some.0 in omega arith) in
    spent_later tracked entries place (place - 1) entry rows taken start ignore_null down within order above cached carries some.1

-- ---- in terms of events, and of halvings

place_there : (event : Event) (entries : List Entry) → AllAbove event.sequence entries → place_of event (events_of entries) ≡ 0
place_there event [] above = refl
place_there event (x ∷ xs) above = ap (λ o. if is_gt o then suc (place_of event (events_of xs)) else 0) above.0

place_is : (event : Event) (entries : List Entry) (place : ℕ) → place ≤ length entries → AllBelow event.sequence (take place entries) → AllAbove event.sequence (drop place entries) → place_of event (events_of entries) ≡ place
place_is event entries zero within below above = place_there event entries above
place_is event [] (suc place) within below above = absurd (let none : ⊥ = omega arith in none)
place_is event (x ∷ xs) (suc place) within below above =
    ap (λ o. if is_gt o then suc (place_of event (events_of xs)) else 0) (order_up event.sequence x.event.sequence below.0) ∙ ap suc (place_is event xs place (omega arith) below.1 above)

pub touched_is : (ignore_null : Bool) (tracked : List ℕ) (entries new : List Entry) (place : ℕ) (entry : Entry) (rows : List Row) → IsCached ignore_null entries → IsCached ignore_null (spliced entries place entry rows) → place ≤ length entries
    → AllBelow entry.event.sequence (take place entries) → AllAbove entry.event.sequence (drop place entries)
    → events_of (spliced entries place entry rows) ≡ placed_by history_order entry.event (events_of entries)
    → touches_of tracked entries place entry rows ≡ touched ignore_null tracked (events_of entries) entry.event
touched_is ignore_null tracked entries new place entry rows cached also within below above events =
    λ i. differing (seen_in tracked None (cached_moments ignore_null None entries cached i) [])
    (remove (seen_in tracked None ((cached_moments ignore_null None (spliced entries place entry rows) also ∙ ap (moments_after ignore_null None) events) i) []) (sym (place_is entry.event entries place within below above) i))

two_halvings : (n h : ℕ) → n < 2 ^ h → 2 ≤ n → 2 ≤ h
two_halvings n zero small big = absurd (let none : ⊥ = omega arith in none)
two_halvings n (suc zero) small big = absurd (let none : ⊥ = omega arith in none)
two_halvings n (suc (suc h)) small big = omega arith

one_halving : (n h : ℕ) → n < 2 ^ h → 1 ≤ n → 1 ≤ h
one_halving n zero small big = absurd (let none : ⊥ = omega arith in none)
one_halving n (suc h) small big = omega arith

-- all looks of a splice
pub all_looks : (left right first second c t n h : ℕ) (start one two three taken : ℕ)
    → ((left ≡ 0) × (first ≡ 0)) ⊎ ((0 < left) × (first ≡ left + 2)) → ((right ≡ 0) × (second ≡ 0)) ⊎ ((0 < right) × (second ≡ right + 3))
    → left + c + right ≤ n → left + c + right ≤ t → n < 2 ^ h → one ≤ start + h → two ≤ one + 1 → three ≤ two + c + 1 → taken ≤ three + c + 5 + first + second
    → taken ≤ start + 2 * h + 2 * t + 8
all_looks left right first second c t n h start one two three taken (inl a) (inl b) within least small p q r s = omega arith
all_looks left right first second c t n h start one two three taken (inr a) (inl b) within least small p q r s = omega arith
all_looks left right first second c t n h start one two three taken (inl a) (inr b) within least small p q r s = let k : 1 ≤ h = one_halving n h small (omega arith) in omega arith
all_looks left right first second c t n h start one two three taken (inr a) (inr b) within least small p q r s = let k : 2 ≤ h = two_halvings n h small (omega arith) in omega arith

pub bounded : (ignore_null : Bool) (tracked : List ℕ) (entries : List Entry) (place : ℕ) (entry : Entry) (rows : List Row) (state : Option Row) (start one two three taken h : ℕ) → IsCached ignore_null entries → AreAscending entries → place ≤ length entries
    → AllBelow entry.event.sequence (take place entries) → AllAbove entry.event.sequence (drop place entries)
    → entry.effective ≡ unwrap_or state [] → state ≡ after_event ignore_null (last_state None (take place entries)) entry.event → rows ≡ carried_on ignore_null state (drop place entries)
    → Pays tracked entries place entry rows taken three → length entries < 2 ^ h → one ≤ start + h → two ≤ one + 1 → three ≤ two + length rows + 1
    → taken ≤ start + 2 * h + 2 * touched ignore_null tracked (events_of entries) entry.event + 8
bounded ignore_null tracked entries place entry rows state start one two three taken h cached order within below above shows is carries pays small p q r =
    let before : Option Row = last_state None (take place entries) in
    let seen' : columns_after entry ≡ after_event ignore_null before entry.event = shown ignore_null before entry (shows ∙ ap (λ s. unwrap_or s []) is) in
    let mine : rows ≡ carried_on ignore_null (columns_after entry) (drop place entries) = carries ∙ ap (λ s. carried_on ignore_null s (drop place entries)) (is ∙ sym seen') in
    let short : length rows ≤ length (drop place entries) = subst (λ rs. length rs ≤ length (drop place entries)) (sym mine) (carried_short ignore_null (columns_after entry) (drop place entries)) in
    let long : length (drop place entries) ≡ length entries - place = length-drop place entries in
    let also : IsCached ignore_null (spliced entries place entry rows) = cached_spliced ignore_null entries place entry rows cached seen' mine in
    let sp : Spent tracked entries place entry rows taken three = spent tracked entries place entry rows taken three ignore_null (omega arith) order above cached mine pays in
    let same : touches_of tracked entries place entry rows ≡ touched ignore_null tracked (events_of entries) entry.event =
    touched_is ignore_null tracked entries entries place entry rows cached also within below above (spliced_events entries place entry rows short below above) in
    all_looks sp.left sp.right sp.first sp.second (length rows) (touched ignore_null tracked (events_of entries) entry.event) (length entries) h start one two three taken sp.left_cost sp.right_cost sp.within
    (subst (λ t. sp.left + length rows + sp.right ≤ t) same sp.least) small p q r sp.looks
