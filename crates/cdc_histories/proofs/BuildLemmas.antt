-- Histories of parts, put together.
use Rattle.std.proofs.Common.{◌≡◌, ℕ, zero, suc, arith, Bool, List, [], ◌∷◌, ◌++◌, Result, Ok, IfOk, refl, sym, ap, ◌∙◌, subst, append_assoc}
use Rattle.std.specs.Prelude.{map, slice_index_or, length, ◌<◌, ◌+◌}
use Rattle.std.specs.declared.cmp.Ordering.TheVariants.{Less, Greater}
use Rattle.std.specs.List.Sorted.{IsStrictlySortedBy}
use Rattle.std.specs.Map.{keys_of as map_keys}
use Rattle.std.specs.BTreeMap.{insert_entry}
use Rattle.std.specs.Ordering.{match_ordering, ordering_reverse}
use Rattle.std.proofs.lemmas.List.{append-nil}
use Rattle.value_core.specs.Bags.{in_row_order}
use Rattle.value_core.specs.Order.{Row, row_order}
use Rattle.value_core.specs.OrderLaws.{row_order_total}
use Rattle.event_history.specs.declared.history.Entry.{Entry}
use Rattle.event_history.specs.Histories.{events_of}
use Rattle.par_rows.specs.Rows.{Answered}
use Rattle.event_ledger.specs.Keyed.{all_events, AreByKey, AreOf}
use Rattle.flow_model.specs.History.{key_rows, scd2}
use Rattle.cdc_histories.specs.declared.cutting.KeyEvents.{KeyEvents}
use Rattle.cdc_histories.specs.declared.folding.KeyHistory.{KeyHistory}
use Rattle.cdc_histories.specs.Keeping.{AreHistories, AreInParts, IsHistory, rows_by_key}
use Rattle.cdc_histories.specs.Building.{AllAboveKey, AreBuilt, AreOfKey, AreParts, AreUp, HaveCome, IsFolded, IsPart, events_in}
use Rattle.cdc_histories.proofs.PartLemmas.{scd2_is}

-- ---- one part of many

pub part_at : (parts : List KeyEvents) (k : ℕ) (part : KeyEvents) → AreParts parts → k < length parts → part ≡ slice_index_or parts k part → IsPart part
part_at [] k part each low is = absurd (omega arith)
part_at (p ∷ ps) zero part each low is = subst IsPart (sym is) each.0
part_at (p ∷ ps) (suc k) part each low is = part_at ps k part each.1 (omega arith) is

pub come_of : {E : Type 0} (ignore_null : Bool) (tracked : List ℕ) (from : ℕ) (parts : List KeyEvents) (answers : List (Result KeyHistory E))
    → Answered (λ i part answer. IfOk answer (IsFolded ignore_null tracked part)) from parts answers → HaveCome ignore_null tracked parts answers
come_of ignore_null tracked from [] [] a = tt
come_of ignore_null tracked from [] (r ∷ answers) a = absurd a
come_of ignore_null tracked from (p ∷ parts) [] a = absurd a
come_of ignore_null tracked from (p ∷ parts) (r ∷ answers) a = (a.0, come_of ignore_null tracked (from + 1) parts answers a.1)

-- ---- a history behind those of lesser keys

-- these keys are all below one
abbrev AllBelowKey : Row → List Row → Type 0
AllBelowKey key [] = Unit {0}
AllBelowKey key (k ∷ ks) = (row_order k key ≡ Less) × AllBelowKey key ks

abbrev part_keys : List KeyEvents → List Row
part_keys parts = map (λ part. part.key) parts

above_part : (key : Row) (done left : List KeyEvents) (part : KeyEvents) → AllAboveKey key (done ++ part ∷ left) → row_order key part.key ≡ Less
above_part key [] left part all = all.0
above_part key (p ∷ ps) left part all = above_part key ps left part all.1

below_part : (done left : List KeyEvents) (part : KeyEvents) → AreUp (done ++ part ∷ left) → AllBelowKey part.key (part_keys done)
below_part [] left part up = tt
below_part (p ∷ ps) left part up = (above_part p.key ps left part up.0, below_part ps left part up.1)

turned : (a b : Row) → row_order a b ≡ Less → row_order b a ≡ Greater
turned a b e = row_order_total.antisymm b a ∙ ap ordering_reverse e

insert_last : (histories : List (Row × List Entry)) (key : Row) (entries : List Entry) → AllBelowKey key (map_keys histories) → insert_entry row_order histories key entries ≡ histories ++ (key, entries) ∷ []
insert_last [] key entries below = refl
insert_last (p ∷ ps) key entries below =
    ap (λ o. match_ordering o ((key, entries) ∷ p ∷ ps) ((p.0, entries) ∷ ps) (p ∷ insert_entry row_order ps key entries)) (turned p.0 key below.0)
    ∙ ap (λ qs. p ∷ qs) (insert_last ps key entries below.1)

-- ---- one history more

by_key_more : (histories : List (Row × List Entry)) (key : Row) (entries : List Entry) → AreByKey histories → AreOf key entries → AreByKey (histories ++ (key, entries) ∷ [])
by_key_more [] key entries all of = (of, tt)
by_key_more (p ∷ ps) key entries all of = (all.0, by_key_more ps key entries all.1 of)

each_more : (ignore_null : Bool) (histories : List (Row × List Entry)) (key : Row) (entries : List Entry) → AreHistories ignore_null histories → IsHistory ignore_null entries → AreHistories ignore_null (histories ++ (key, entries) ∷ [])
each_more ignore_null [] key entries all is = (is, tt)
each_more ignore_null (p ∷ ps) key entries all is = (all.0, each_more ignore_null ps key entries all.1 is)

events_more : (histories : List (Row × List Entry)) (key : Row) (entries : List Entry) → all_events (histories ++ (key, entries) ∷ []) ≡ all_events histories ++ events_of entries
events_more [] key entries = append-nil (events_of entries)
events_more (p ∷ ps) key entries = ap (λ ys. events_of p.1 ++ ys) (events_more ps key entries) ∙ sym (append_assoc (events_of p.1) (all_events ps) (events_of entries))

in_more : (parts : List KeyEvents) (part : KeyEvents) → events_in (parts ++ part ∷ []) ≡ events_in parts ++ part.events
in_more [] part = append-nil part.events
in_more (p ∷ ps) part = ap (λ ys. p.events ++ ys) (in_more ps part) ∙ sym (append_assoc p.events (events_in ps) part.events)

keys_more : (histories : List (Row × List Entry)) (key : Row) (entries : List Entry) → map_keys (histories ++ (key, entries) ∷ []) ≡ map_keys histories ++ key ∷ []
keys_more [] key entries = refl
keys_more (p ∷ ps) key entries = ap (λ ks. p.0 ∷ ks) (keys_more ps key entries)

part_keys_more : (parts : List KeyEvents) (part : KeyEvents) → part_keys (parts ++ part ∷ []) ≡ part_keys parts ++ part.key ∷ []
part_keys_more [] part = refl
part_keys_more (p ∷ ps) part = ap (λ ks. p.key ∷ ks) (part_keys_more ps part)

rows_more : (ignore_null : Bool) (tracked : List ℕ) (histories : List (Row × List Entry)) (key : Row) (entries : List Entry)
    → rows_by_key ignore_null tracked (histories ++ (key, entries) ∷ []) ≡ rows_by_key ignore_null tracked histories ++ key_rows ignore_null tracked (events_of entries)
rows_more ignore_null tracked [] key entries = append-nil (key_rows ignore_null tracked (events_of entries))
rows_more ignore_null tracked (p ∷ ps) key entries =
    ap (λ ys. key_rows ignore_null tracked (events_of p.1) ++ ys) (rows_more ignore_null tracked ps key entries)
    ∙ sym (append_assoc (key_rows ignore_null tracked (events_of p.1)) (rows_by_key ignore_null tracked ps) (key_rows ignore_null tracked (events_of entries)))

of_part : (key : Row) (entries : List Entry) → AreOfKey key (events_of entries) → AreOf key entries
of_part key [] of = tt
of_part key (x ∷ xs) of = (of.0, of_part key xs of.1)

built_more : (ignore_null : Bool) (tracked : List ℕ) (done : List KeyEvents) (part : KeyEvents) (folded : KeyHistory) (histories fresh : List (Row × List Entry)) (rows after : List Row)
    → AreBuilt ignore_null tracked done histories rows → IsPart part → IsFolded ignore_null tracked part folded → fresh ≡ histories ++ (folded.key, folded.history) ∷ [] → after ≡ rows ++ folded.rows
    → AreBuilt ignore_null tracked (done ++ part ∷ []) fresh after
built_more ignore_null tracked done part folded histories fresh rows after built one is put come =
    let of : AreOf folded.key folded.history =
    subst (λ k. AreOf k folded.history) (sym is.same_key) (of_part part.key folded.history (subst (AreOfKey part.key) (sym is.same_events) one.own)) in
    record {
      in_parts = subst (AreInParts ignore_null) (sym put)
          (record {
            by_key = by_key_more histories folded.key folded.history built.in_parts.by_key of;
            each = each_more ignore_null histories folded.key folded.history built.in_parts.each is.kept;
          });
      kept = ap all_events put ∙ events_more histories folded.key folded.history ∙ (λ i. built.kept i ++ is.same_events i) ∙ sym (in_more done part);
      keys = ap map_keys put ∙ keys_more histories folded.key folded.history ∙ (λ i. built.keys i ++ is.same_key i ∷ []) ∙ sym (part_keys_more done part);
      tells = come ∙ (λ i. built.tells i ++ (is.tells ∙ ap (key_rows ignore_null tracked) (sym is.same_events)) i) ∙ sym (rows_more ignore_null tracked histories folded.key folded.history) ∙ ap (rows_by_key ignore_null tracked) (sym put);
    }

-- ---- part by part

-- the parts whose histories are there, and those that are left with their answers
pub record Building {E : Type 0} (ignore_null : Bool) (tracked : List ℕ) (parts : List KeyEvents) (answers : List (Result KeyHistory E)) (histories : List (Row × List Entry)) (rows : List Row) : Type 0 where
  pub done : List KeyEvents
  pub left : List KeyEvents
  pub whole : done ++ left ≡ parts
  pub each : AreParts left
  pub come : HaveCome ignore_null tracked left answers
  pub built : AreBuilt ignore_null tracked done histories rows

pub built_first : {E : Type 0} (ignore_null : Bool) (tracked : List ℕ) (parts : List KeyEvents) (answers : List (Result KeyHistory E)) (histories : List (Row × List Entry)) (rows : List Row)
    → AreParts parts → HaveCome ignore_null tracked parts answers → histories ≡ [] → rows ≡ [] → Building ignore_null tracked parts answers histories rows
built_first ignore_null tracked parts answers histories rows each come none no_rows =
    record {
      done = [];
      left = parts;
      whole = refl;
      each = each;
      come = come;
      built = subst (λ hs. AreBuilt ignore_null tracked [] hs rows) (sym none)
          (subst (λ rs. AreBuilt ignore_null tracked [] [] rs) (sym no_rows) (record { in_parts = record { by_key = tt; each = tt }; kept = refl; keys = refl; tells = refl }));
    }

built_by : {E : Type 0} (ignore_null : Bool) (tracked : List ℕ) (parts done left : List KeyEvents) (folded : KeyHistory) (more : List (Result KeyHistory E)) (histories fresh : List (Row × List Entry)) (rows after : List Row)
    → AreUp parts → done ++ left ≡ parts → AreParts left → HaveCome ignore_null tracked left (Ok folded ∷ more) → AreBuilt ignore_null tracked done histories rows
    → fresh ≡ insert_entry row_order histories folded.key folded.history → after ≡ rows ++ folded.rows → Building ignore_null tracked parts more fresh after
built_by ignore_null tracked parts done [] folded more histories fresh rows after up whole each come built put grown = absurd come
built_by ignore_null tracked parts done (part ∷ left) folded more histories fresh rows after up whole each come built put grown =
    let below : AllBelowKey folded.key (map_keys histories) =
    subst (λ k. AllBelowKey k (map_keys histories)) (sym come.0.same_key)
    (subst (AllBelowKey part.key) (sym built.keys) (below_part done left part (subst AreUp (sym whole) up))) in
    record {
      done = done ++ part ∷ [];
      left = left;
      whole = append_assoc done (part ∷ []) left ∙ whole;
      each = each.1;
      come = come.1;
      built = built_more ignore_null tracked done part folded histories fresh rows after built each.0 come.0 (put ∙ insert_last histories folded.key folded.history below) grown;
    }

pub built_next : {E : Type 0} (ignore_null : Bool) (tracked : List ℕ) (parts : List KeyEvents) (folded : KeyHistory) (more : List (Result KeyHistory E)) (histories fresh : List (Row × List Entry)) (rows after : List Row)
    → AreUp parts → Building ignore_null tracked parts (Ok folded ∷ more) histories rows
    → fresh ≡ insert_entry row_order histories folded.key folded.history → after ≡ rows ++ folded.rows → Building ignore_null tracked parts more fresh after
built_next ignore_null tracked parts folded more histories fresh rows after up b put grown =
    built_by ignore_null tracked parts b.done b.left folded more histories fresh rows after up b.whole b.each b.come b.built put grown

none_left : {E : Type 0} (ignore_null : Bool) (tracked : List ℕ) (left : List KeyEvents) (answers : List (Result KeyHistory E)) → answers ≡ [] → HaveCome ignore_null tracked left answers → left ≡ []
none_left ignore_null tracked [] answers none come = refl
none_left ignore_null tracked (p ∷ ps) [] none come = absurd come
none_left ignore_null tracked (p ∷ ps) (a ∷ answers) none come = cc

pub built_last : {E : Type 0} (ignore_null : Bool) (tracked : List ℕ) (parts : List KeyEvents) (answers : List (Result KeyHistory E)) (histories : List (Row × List Entry)) (rows : List Row)
    → Building ignore_null tracked parts answers histories rows → answers ≡ [] → AreBuilt ignore_null tracked parts histories rows
built_last ignore_null tracked parts answers histories rows b none =
    subst (λ ps. AreBuilt ignore_null tracked ps histories rows) (sym (append-nil b.done) ∙ ap (λ ps. b.done ++ ps) (sym (none_left ignore_null tracked b.left answers none b.come)) ∙ b.whole) b.built

-- ---- the rows of all

pub built_rows : (ignore_null : Bool) (tracked : List ℕ) (parts : List KeyEvents) (histories : List (Row × List Entry)) (rows sorted : List Row) → AreBuilt ignore_null tracked parts histories rows
    → IsStrictlySortedBy row_order (map_keys histories) → sorted ≡ in_row_order rows → sorted ≡ scd2 ignore_null tracked (all_events histories)
built_rows ignore_null tracked parts histories rows sorted built up is =
    is ∙ ap in_row_order built.tells ∙ sym (scd2_is ignore_null tracked histories built.in_parts up)
