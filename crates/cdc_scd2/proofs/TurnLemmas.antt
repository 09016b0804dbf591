-- What ends behind a place.
use Rattle.std.proofs.Common.{◌≡◌, inl, inr, ℕ, zero, suc, ◌+◌, ◌<◌, ◌≤◌, true, false, List, [], ◌∷◌, ◌++◌, length, drop, map, slice_get, slice_index_or, Option, Some, None, refl, sym, ap, ◌∙◌, arith}
use Rattle.std.specs.Prelude.{option_to_list, unwrap_or}
use Rattle.std.proofs.lemmas.List.{append-nil, map-append}
use Rattle.value_core.specs.declared.change.Change.{Change}
use Rattle.value_core.specs.declared.value.Value.TheVariants.{Null}
use Rattle.value_core.specs.Bags.{net_change}
use Rattle.value_core.specs.Order.{Row, same_row}
use Rattle.event_history.specs.declared.history.Entry.{Entry}
use Rattle.flow_model.specs.History.{Moment, goes_on, next_sequence, interval_row}
use Rattle.cdc_runs.specs.Entries.{IsRunTo, columns_after, moment_of, moments_of}
use Rattle.cdc_runs.specs.Runs.{ended_by, opened_by, ends_in, ends_past, interval_at, left_open, moment_goes_on, stands_by}
use Rattle.cdc_scd2.specs.Pays.{LooksBehind, LooksOn, LooksTo}
use Rattle.cdc_scd2.specs.Splices.{Closes, Turns}
use Rattle.cdc_runs.proofs.RunLemmas.{ends_head, left_head}
use Rattle.cdc_runs.proofs.StandLemmas.{parted, ends_start, same_row-itself, same_row-is}
use Rattle.cdc_scd2.proofs.DifferLemmas.{at_off}
use Rattle.cdc_runs.proofs.CodeLemmas.{at_place}

-- the entry at a place is the head of what is there
pub head_of : (entries : List Entry) (place : ℕ) → slice_get entries place ≡ slice_get (drop place entries) 0
head_of entries zero = refl
head_of [] (suc place) = refl
head_of (x ∷ xs) (suc place) = head_of xs place

next_of : (entries : List Entry) (next : Option Entry) → next ≡ slice_get entries 0 → next_sequence (moments_of (option_to_list next)) ≡ next_sequence (moments_of entries)
next_of [] next e = ap (λ n. next_sequence (moments_of (option_to_list n))) e
next_of (x ∷ xs) next e = ap (λ n. next_sequence (moments_of (option_to_list n))) e

interval_in : (tracked : List ℕ) (entries : List Entry) (place end : ℕ) (last : Entry) (start : Row) → IsRunTo tracked entries place end → last ≡ slice_index_or entries end last
    → interval_at tracked (Some start) (moments_of (drop place entries))
    ≡ stands_by tracked start (moments_of (drop (end + 1) entries)) (interval_at tracked (Some start) (moments_of (drop (end + 1) entries))) (columns_after last)
interval_in tracked entries place end last start run at = run.same start ∙ ap (λ zs. interval_at tracked (Some start) (moments_of zs)) (at_place entries end last run.within at)

interval_there : (tracked : List ℕ) (entries : List Entry) (place end : ℕ) (last : Entry) (start columns : Row) (next : Option Entry) → IsRunTo tracked entries place end → last ≡ slice_index_or entries end last
    → columns_after last ≡ Some columns → next ≡ slice_get entries (end + 1)
    → interval_at tracked (Some start) (moments_of (drop place entries)) ≡ Some (record { columns = columns; start = start; end = next_sequence (moments_of (option_to_list next)) })
interval_there tracked entries place end last start columns next run at is there =
    let behind : List Moment = moments_of (drop (end + 1) entries) in
    let off : goes_on tracked columns behind ≡ false = ap (λ c. moment_goes_on tracked c behind) (sym is) ∙ ap (λ w. moment_goes_on tracked (columns_after w) behind) at ∙ run.stops last in
    interval_in tracked entries place end last start run at ∙ ap (stands_by tracked start behind (interval_at tracked (Some start) behind)) is
    ∙ at_off tracked start behind (interval_at tracked (Some start) behind) columns off
    ∙ ap (λ e. Some (record { columns = columns; start = start; end = e })) (sym (next_of (drop (end + 1) entries) next (there ∙ head_of entries (end + 1))))

interval_none : (tracked : List ℕ) (entries : List Entry) (place end : ℕ) (last : Entry) (start : Row) → IsRunTo tracked entries place end → last ≡ slice_index_or entries end last
    → columns_after last ≡ None → interval_at tracked (Some start) (moments_of (drop place entries)) ≡ None
interval_none tracked entries place end last start run at is =
    let behind : List Moment = moments_of (drop (end + 1) entries) in
    interval_in tracked entries place end last start run at ∙ ap (stands_by tracked start behind (interval_at tracked (Some start) behind)) is

pub closes_run : (tracked : List ℕ) (entries : List Entry) (place end : ℕ) (last : Entry) (was is columns : Row) (next : Option Entry) (gone come : Row) (removed removed' added added' : List Row)
    → IsRunTo tracked entries place end → last ≡ slice_index_or entries end last → columns_after last ≡ Some columns → next ≡ slice_get entries (end + 1)
    → gone ≡ columns ++ was ++ unwrap_or (next_sequence (moments_of (option_to_list next))) (Null ∷ []) → come ≡ columns ++ is ++ unwrap_or (next_sequence (moments_of (option_to_list next))) (Null ∷ [])
    → removed' ≡ removed ++ gone ∷ [] → added' ≡ added ++ come ∷ []
    → Closes tracked (moments_of (drop place entries)) (Some was) (Some is) removed removed' added added'
closes_run tracked entries place end last was is columns next gone come removed removed' added added' run at holds there g c put also =
    let behind : List Moment = moments_of (drop place entries) in
    record {
      old = record { columns = columns; start = was; end = next_sequence (moments_of (option_to_list next)) } ∷ [];
      new = record { columns = columns; start = is; end = next_sequence (moments_of (option_to_list next)) } ∷ [];
      rest = ends_past tracked behind;
      removes = put ∙ ap (λ row. removed ++ row ∷ []) g;
      adds = also ∙ ap (λ row. added ++ row ∷ []) c;
      first = parted tracked behind (Some was) ∙ ap (λ i. option_to_list i ++ ends_past tracked behind) (interval_there tracked entries place end last was columns next run at holds there);
      second = parted tracked behind (Some is) ∙ ap (λ i. option_to_list i ++ ends_past tracked behind) (interval_there tracked entries place end last is columns next run at holds there);
    }

pub closes_none : (tracked : List ℕ) (entries : List Entry) (place end : ℕ) (last : Entry) (was is : Row) (removed added : List Row)
    → IsRunTo tracked entries place end → last ≡ slice_index_or entries end last → columns_after last ≡ None
    → Closes tracked (moments_of (drop place entries)) (Some was) (Some is) removed removed added added
closes_none tracked entries place end last was is removed added run at holds =
    let behind : List Moment = moments_of (drop place entries) in
    record {
      old = [];
      new = [];
      rest = ends_past tracked behind;
      removes = sym (append-nil removed);
      adds = sym (append-nil added);
      first = parted tracked behind (Some was) ∙ ap (λ i. option_to_list i ++ ends_past tracked behind) (interval_none tracked entries place end last was run at holds);
      second = parted tracked behind (Some is) ∙ ap (λ i. option_to_list i ++ ends_past tracked behind) (interval_none tracked entries place end last is run at holds);
    }

nothing_there : (entries : List Entry) → None ≡ slice_get entries 0 → entries ≡ []
nothing_there [] e = refl
nothing_there (x ∷ xs) e = cc

pub something_there : (entries : List Entry) (x : Entry) → Some x ≡ slice_get entries 0 → entries ≡ x ∷ drop 1 entries
something_there [] x e = cc
something_there (y ∷ ys) x e = let same : x ≡ y = cc in ap (λ z. z ∷ ys) (sym same)

pub closes_nothing : (tracked : List ℕ) (entries : List Entry) (place : ℕ) (was is : Option Row) (removed added : List Row) → None ≡ slice_get entries place
    → Closes tracked (moments_of (drop place entries)) was is removed removed added added
closes_nothing tracked entries place was is removed added none =
    let nil : drop place entries ≡ [] = nothing_there (drop place entries) (none ∙ head_of entries place) in
    record {
      old = [];
      new = [];
      rest = [];
      removes = sym (append-nil removed);
      adds = sym (append-nil added);
      first = ap (λ zs. ends_in tracked was (moments_of zs) []) nil;
      second = ap (λ zs. ends_in tracked is (moments_of zs) []) nil;
    }

starts_at : (tracked : List ℕ) (entries : List Entry) (place : ℕ) (x : Entry) (since : Option Row) (start : Row) → Some x ≡ slice_get entries place → start ≡ unwrap_or since x.event.sequence
    → ends_in tracked since (moments_of (drop place entries)) [] ≡ ends_in tracked (Some start) (moments_of (drop place entries)) []
starts_at tracked entries place x since start at is =
    let here : drop place entries ≡ x ∷ drop 1 (drop place entries) = something_there (drop place entries) x (at ∙ head_of entries place) in
    ap (λ zs. ends_in tracked since (moments_of zs) []) here
    ∙ ends_start tracked since (moment_of x) (moments_of (drop 1 (drop place entries))) []
    ∙ (λ i. ends_in tracked (Some (sym is i)) (moments_of (sym here i)) [])

pub closes_same : (tracked : List ℕ) (entries : List Entry) (place : ℕ) (x : Entry) (was is : Option Row) (old new : Row) (removed added : List Row) → Some x ≡ slice_get entries place
    → old ≡ unwrap_or was x.event.sequence → new ≡ unwrap_or is x.event.sequence → same_row old new ≡ true
    → Closes tracked (moments_of (drop place entries)) was is removed removed added added
closes_same tracked entries place x was is old new removed added at o n same =
    let behind : List Moment = moments_of (drop place entries) in
    record {
      old = [];
      new = [];
      rest = ends_in tracked is behind [];
      removes = sym (append-nil removed);
      adds = sym (append-nil added);
      first = starts_at tracked entries place x was old at o ∙ ap (λ s. ends_in tracked (Some s) behind []) (same_row-is old new same) ∙ sym (starts_at tracked entries place x is new at n);
      second = refl;
    }

pub closes_from : (tracked : List ℕ) (entries : List Entry) (place : ℕ) (x : Entry) (was is : Option Row) (old new : Row) (removed removed' added added' : List Row) → Some x ≡ slice_get entries place
    → old ≡ unwrap_or was x.event.sequence → new ≡ unwrap_or is x.event.sequence
    → Closes tracked (moments_of (drop place entries)) (Some old) (Some new) removed removed' added added'
    → Closes tracked (moments_of (drop place entries)) was is removed removed' added added'
closes_from tracked entries place x was is old new removed removed' added added' at o n closes =
    record {
      old = closes.old;
      new = closes.new;
      rest = closes.rest;
      removes = closes.removes;
      adds = closes.adds;
      first = starts_at tracked entries place x was old at o ∙ closes.first;
      second = starts_at tracked entries place x is new at n ∙ closes.second;
    }

-- ---- a stretch and what is behind it

stretch_ends : (tracked : List ℕ) (since : Option Row) (xs : List Moment) (entries : List Entry) (next : Option Entry) → next ≡ slice_get entries 0
    → ends_in tracked since xs (moments_of (option_to_list next)) ≡ ends_in tracked since xs (moments_of entries)
stretch_ends tracked since xs [] next e = ap (λ n. ends_in tracked since xs (moments_of (option_to_list n))) e
stretch_ends tracked since xs (x ∷ rest) next e = ap (λ n. ends_in tracked since xs (moments_of (option_to_list n))) e ∙ ends_head tracked since xs (moment_of x) [] (moments_of rest)

stretch_left : (tracked : List ℕ) (since : Option Row) (xs : List Moment) (entries : List Entry) (next : Option Entry) → next ≡ slice_get entries 0
    → left_open tracked since xs (moments_of (option_to_list next)) ≡ left_open tracked since xs (moments_of entries)
stretch_left tracked since xs [] next e = ap (λ n. left_open tracked since xs (moments_of (option_to_list n))) e
stretch_left tracked since xs (x ∷ rest) next e = ap (λ n. left_open tracked since xs (moments_of (option_to_list n))) e ∙ left_head tracked since xs (moment_of x) [] (moments_of rest)

pub turns : (tracked : List ℕ) (entries : List Entry) (place : ℕ) (since was is : Option Row) (old new : List Entry) (next : Option Entry) (removed removed' added added' : List Row) (change : Change)
    → next ≡ slice_get entries place
    → removed ≡ map interval_row (ends_in tracked since (moments_of old) (moments_of (option_to_list next))) → was ≡ left_open tracked since (moments_of old) (moments_of (option_to_list next))
    → added ≡ map interval_row (ends_in tracked since (moments_of new) (moments_of (option_to_list next))) → is ≡ left_open tracked since (moments_of new) (moments_of (option_to_list next))
    → Closes tracked (moments_of (drop place entries)) was is removed removed' added added' → change ≡ net_change removed' added'
    → Turns tracked since (moments_of old) (moments_of new) (moments_of (drop place entries)) change
turns tracked entries place since was is old new next removed removed' added added' change at gone w come i closes net =
    let here : next ≡ slice_get (drop place entries) 0 = at ∙ head_of entries place in
    let behind : List Moment = moments_of (drop place entries) in
    record {
      old = closes.old;
      new = closes.new;
      rest = closes.rest;
      first = ap (λ s. ends_in tracked s behind []) (sym (w ∙ stretch_left tracked since (moments_of old) (drop place entries) next here)) ∙ closes.first;
      second = ap (λ s. ends_in tracked s behind []) (sym (i ∙ stretch_left tracked since (moments_of new) (drop place entries) next here)) ∙ closes.second;
      net = net ∙ (λ k. net_change
          ((closes.removes ∙ ap (λ rows. rows ++ map interval_row closes.old) (gone ∙ ap (map interval_row) (stretch_ends tracked since (moments_of old) (drop place entries) next here)) ∙ sym (map-append interval_row (ends_in tracked since (moments_of old) behind) closes.old)) k)
          ((closes.adds ∙ ap (λ rows. rows ++ map interval_row closes.new) (come ∙ ap (map interval_row) (stretch_ends tracked since (moments_of new) (drop place entries) next here)) ∙ sym (map-append interval_row (ends_in tracked since (moments_of new) behind) closes.new)) k));
    }

pub there_is : (entries : List Entry) (place : ℕ) (x : Entry) → Some x ≡ slice_get entries place → place < length entries
there_is [] place x e = absurd (let none : ⊥ = cc in none)
there_is (y ∷ ys) zero x e = omega arith
there_is (y ∷ ys) (suc place) x e = let k : place < length ys = there_is ys place x e in omega arith

-- ---- an entry without columns, and the looks

bare_ends : (tracked : List ℕ) (since other : Option Row) (x : Entry) (xs : List Moment) → columns_after x ≡ None
    → ends_in tracked since (moment_of x ∷ xs) [] ≡ ends_in tracked other (moment_of x ∷ xs) []
bare_ends tracked since other x xs none =
    (λ i. ended_by tracked since x.event.sequence (xs ++ []) (none i) ++ ends_in tracked (opened_by tracked since x.event.sequence (xs ++ []) (none i)) xs [])
    ∙ (λ i. ended_by tracked other x.event.sequence (xs ++ []) (sym none i) ++ ends_in tracked (opened_by tracked other x.event.sequence (xs ++ []) (sym none i)) xs [])

pub closes_bare : (tracked : List ℕ) (entries : List Entry) (place : ℕ) (x : Entry) (was is : Option Row) (removed added : List Row) → Some x ≡ slice_get entries place → columns_after x ≡ None
    → Closes tracked (moments_of (drop place entries)) was is removed removed added added
closes_bare tracked entries place x was is removed added at none =
    let behind : List Moment = moments_of (drop place entries) in
    let here : drop place entries ≡ x ∷ drop 1 (drop place entries) = something_there (drop place entries) x (at ∙ head_of entries place) in
    record {
      old = [];
      new = [];
      rest = ends_in tracked is behind [];
      removes = sym (append-nil removed);
      adds = sym (append-nil added);
      first = ap (λ zs. ends_in tracked was (moments_of zs) []) here ∙ bare_ends tracked was is x (moments_of (drop 1 (drop place entries))) none ∙ ap (λ zs. ends_in tracked is (moments_of zs) []) (sym here);
      second = refl;
    }

pub some_not : (columns : Option Row) (row : Row) → Some row ≡ columns → columns ≡ None → ⊥
some_not columns row e h = cc

pub rows_other : (a b : Row) → same_row a b ≡ false → a ≡ b → ⊥
rows_other a b e same = false-true (sym e ∙ ap (λ c. same_row a c) (sym same) ∙ same_row-itself a)
  where
    false-true : false ≡ true → ⊥
    false-true h = cc

some_columns : (columns : Option Row) → (columns ≡ None → ⊥) → columns ≡ Some (unwrap_or columns [])
some_columns None h = absurd (h refl)
some_columns (Some row) h = refl

pub looks_on : (tracked : List ℕ) (entries : List Entry) (place : ℕ) (x : Entry) (was is : Option Row) (old new : Row) (middle taken before : ℕ) → Some x ≡ slice_get entries place → (columns_after x ≡ None → ⊥)
    → old ≡ unwrap_or was x.event.sequence → new ≡ unwrap_or is x.event.sequence → (old ≡ new → ⊥) → middle ≤ before + 1 → LooksTo tracked entries place taken middle
    → LooksOn tracked entries place was is 1 taken before
looks_on tracked entries place x was is old new middle taken before at some o n other few to =
    let spent : taken + place ≤ middle + to.end + 4 = to.looks in
    record { first = x; there = at; columns = unwrap_or (columns_after x) []; has = some_columns (columns_after x) some; apart = λ e. other (o ∙ e ∙ sym n); end = to.end; run = to.run; looks = omega arith }

more_by : (tracked : List ℕ) (entries : List Entry) (place : ℕ) (was is mine also : Option Row) (taken middle before : ℕ) → was ≡ mine → is ≡ also → middle ≤ before + 1
    → LooksBehind tracked entries place was is 1 taken middle → LooksBehind tracked entries place mine also 2 taken before
more_by tracked entries place was is mine also taken middle before w i few (inl less) = inl (omega arith)
more_by tracked entries place was is mine also taken middle before w i few (inr on) =
    let spent : taken + place ≤ middle + on.end + 4 + 1 = on.looks in
    inr (record {
      first = on.first;
      there = on.there;
      columns = on.columns;
      has = on.has;
      apart = λ e. on.apart (ap (λ s. unwrap_or s on.first.event.sequence) w ∙ e ∙ ap (λ s. unwrap_or s on.first.event.sequence) (sym i));
      end = on.end;
      run = on.run;
      looks = omega arith;
    })

pub looks_more : (tracked : List ℕ) (entries : List Entry) (place : ℕ) (since was is : Option Row) (old new : List Entry) (next : Option Entry) (taken middle before : ℕ) → next ≡ slice_get entries place
    → was ≡ left_open tracked since (moments_of old) (moments_of (option_to_list next)) → is ≡ left_open tracked since (moments_of new) (moments_of (option_to_list next)) → middle ≤ before + 1
    → LooksBehind tracked entries place was is 1 taken middle
    → LooksBehind tracked entries place (left_open tracked since (moments_of old) (moments_of (drop place entries))) (left_open tracked since (moments_of new) (moments_of (drop place entries))) 2 taken before
looks_more tracked entries place since was is old new next taken middle before at w i few behind =
    let here : next ≡ slice_get (drop place entries) 0 = at ∙ head_of entries place in
    more_by tracked entries place was is (left_open tracked since (moments_of old) (moments_of (drop place entries))) (left_open tracked since (moments_of new) (moments_of (drop place entries))) taken middle before
    (w ∙ stretch_left tracked since (moments_of old) (drop place entries) next here) (i ∙ stretch_left tracked since (moments_of new) (drop place entries) next here) few behind
