-- Several events, one after another.
use Rattle.std.proofs.Common.{◌≡◌, ◌<◌, ◌≤◌, ◌+◌, ◌-◌, ◌*◌, ◌^◌, ℕ, Bool, true, false, cond, ◌&&◌, if◌then◌else◌, List, [], ◌∷◌, ◌++◌, length, refl, sym, ap, ◌∙◌, subst, append_assoc, arith}
use Rattle.std.specs.Ordering.{is_gt}
use Rattle.std.proofs.lemmas.List.{append-nil}
use Rattle.value_core.specs.declared.event.Event.{Event}
use Rattle.value_core.specs.Bags.{count_of, in_row_order, net_change, surplus}
use Rattle.value_core.specs.EventOrder.{Fresh, Repeat, Tied, event_order, placed_by, same_event, same_moment, standing}
use Rattle.value_core.specs.Order.{Row, same_row}
use Rattle.value_core.specs.OrderLaws.{same_row_laws}
use Rattle.std.proofs.lemmas.List.Sums.{sum_by-append}
use Rattle.value_core.proofs.BagLemmas.{count-in_row_order, one, same_list}
use Rattle.value_core.proofs.ChangeLemmas.{count-surplus}
use Rattle.event_history.specs.declared.history.Entry.{Entry}
use Rattle.event_ledger.specs.Keyed.{all_events, AreApart, of_key}
use Rattle.flow_model.specs.Current.{history}
use Rattle.flow_model.specs.History.{scd2}
use Rattle.cdc_scd2.specs.Keys.{AreKeyed}
use Rattle.cdc_scd2.specs.Looks.{touched}
use Rattle.cdc_histories.specs.Keeping.{AreInParts, HaveFirst, all_placed, looks_for}
use Rattle.cdc_histories.proofs.TurnLemmas.{free}

-- ---- no two events of one moment

pub joined : (kept event : Event) (more : List Event) → same_moment kept event ≡ false → standing more event ≡ Fresh → standing (kept ∷ more) event ≡ Fresh
joined kept event more apart later = ap (λ b. if b then (if same_event kept event then Repeat else Tied kept) else standing more event) apart ∙ later

placed_either : (y z event : Event) (zs more : List Event) (b : Bool) → same_moment y event ≡ false → standing (z ∷ zs) event ≡ Fresh → standing more event ≡ Fresh
    → standing (if b then z ∷ more else y ∷ z ∷ zs) event ≡ Fresh
placed_either y z event zs more true apart later placed = joined z event more (free z event zs later).0 placed
placed_either y z event zs more false apart later placed = joined y event (z ∷ zs) apart later

pub fresh_placed : (y event : Event) (ys : List Event) → same_moment y event ≡ false → standing ys event ≡ Fresh → standing (placed_by event_order y ys) event ≡ Fresh
fresh_placed y event [] apart later = joined y event [] apart refl
fresh_placed y event (z ∷ zs) apart later =
    placed_either y z event zs (placed_by event_order y zs) (is_gt (event_order y z)) apart later (fresh_placed y event zs apart (free z event zs later).1)

pub turned : (a b : Event) → same_moment a b ≡ false → same_moment b a ≡ false
turned a b e = (λ i. same_row_laws.symm b.key a.key i && same_row_laws.symm b.sequence a.sequence i) ∙ e

fresh_part : (event : Event) (more kept : List Event) → standing (more ++ kept) event ≡ Fresh → standing kept event ≡ Fresh
fresh_part event [] kept is = is
fresh_part event (x ∷ xs) kept is = fresh_part event xs kept (free x event (xs ++ kept) is).1

fresh_all : (x event : Event) (more kept : List Event) → same_moment event x ≡ false → standing (more ++ kept) x ≡ Fresh → standing (more ++ placed_by event_order event kept) x ≡ Fresh
fresh_all x event [] kept apart is = fresh_placed event x kept apart is
fresh_all x event (y ∷ ys) kept apart is =
    let rest = free y x (ys ++ kept) is in joined y x (ys ++ placed_by event_order event kept) rest.0 (fresh_all x event ys kept apart rest.1)

apart_by : (event y : Event) (ys more : List Event) (b : Bool) → standing (y ∷ ys) event ≡ Fresh → AreApart (y ∷ ys) → standing more y ≡ Fresh → AreApart more → AreApart (if b then y ∷ more else event ∷ y ∷ ys)
apart_by event y ys more true fresh apart mine later = (mine, later)
apart_by event y ys more false fresh apart mine later = (fresh, apart)

pub apart_placed : (event : Event) (kept : List Event) → standing kept event ≡ Fresh → AreApart kept → AreApart (placed_by event_order event kept)
apart_placed event [] fresh apart = (refl, tt)
apart_placed event (y ∷ ys) fresh apart =
    let rest = free y event ys fresh in
    apart_by event y ys (placed_by event_order event ys) (is_gt (event_order event y)) fresh apart (fresh_placed event y ys (turned y event rest.0) apart.0) (apart_placed event ys rest.1 apart.1)

apart_step : (event : Event) (more kept : List Event) → standing (more ++ kept) event ≡ Fresh → AreApart (more ++ kept) → AreApart (more ++ placed_by event_order event kept)
apart_step event [] kept fresh apart = apart_placed event kept fresh apart
apart_step event (x ∷ xs) kept fresh apart =
    let rest = free x event (xs ++ kept) fresh in
    (fresh_all x event xs kept (turned x event rest.0) apart.0, apart_step event xs kept rest.1 apart.1)

-- ---- how many events a key has

abbrev here : Row → Event → ℕ
here key event = if same_row event.key key then 1 else 0

abbrev counted : Row → List Event → ℕ
counted key events = length (of_key key events)

counted_by : (x : Event) (ys : List Event) (b : Bool) → length (cond b (x ∷ ys) ys) ≡ (if b then 1 else 0) + length ys
counted_by x ys true = omega arith
counted_by x ys false = omega arith

counted_cons : (key : Row) (x : Event) (ys : List Event) → counted key (x ∷ ys) ≡ here key x + counted key ys
counted_cons key x ys = counted_by x (of_key key ys) (same_row x.key key)

counted_append : (key : Row) (xs ys : List Event) → counted key (xs ++ ys) ≡ counted key xs + counted key ys
counted_append key [] ys = omega arith
counted_append key (x ∷ xs) ys = omega (arith, counted_cons key x (xs ++ ys), counted_cons key x xs, counted_append key xs ys)

placed_count_by : (key : Row) (event y : Event) (ys more : List Event) (b : Bool) → counted key more ≡ here key event + counted key ys
    → counted key (if b then y ∷ more else event ∷ y ∷ ys) ≡ here key event + counted key (y ∷ ys)
placed_count_by key event y ys more true later = omega (arith, counted_cons key y more, counted_cons key y ys, later)
placed_count_by key event y ys more false later = counted_cons key event (y ∷ ys)

placed_count : (key : Row) (event : Event) (ys : List Event) → counted key (placed_by event_order event ys) ≡ here key event + counted key ys
placed_count key event [] = counted_cons key event []
placed_count key event (y ∷ ys) = placed_count_by key event y ys (placed_by event_order event ys) (is_gt (event_order event y)) (placed_count key event ys)

count_step : (key : Row) (event : Event) (more kept : List Event) → counted key (more ++ placed_by event_order event kept) ≡ counted key ((event ∷ more) ++ kept)
count_step key event more kept =
    omega (arith, counted_append key more (placed_by event_order event kept), placed_count key event kept, counted_cons key event (more ++ kept), counted_append key more kept)

-- ---- rows that go and come

pub count-append : (a : Row) (xs ys : List Row) → count_of a (xs ++ ys) ≡ count_of a xs + count_of a ys
count-append a xs ys = sum_by-append (one a) xs ys

abbrev IsBalanced : List Row → List Row → List Row → List Row → Type 0
IsBalanced first now removed added = (row : Row) → count_of row removed + count_of row now ≡ count_of row added + count_of row first

count_net : (row : Row) (xs ys : List Row) → count_of row (in_row_order (surplus xs ys)) ≡ count_of row xs - count_of row ys
count_net row xs ys = count-in_row_order row (surplus xs ys) ∙ count-surplus row xs ys

balance_step : (first now after removed gone added come : List Row) → IsBalanced first now removed added
    → gone ≡ removed ++ (net_change now after).removed → come ≡ added ++ (net_change now after).added → IsBalanced first after gone come
balance_step first now after removed gone added come balanced goes comes row =
    omega (
      arith,
      balanced row,
      ap (count_of row) goes ∙ count-append row removed (in_row_order (surplus now after)),
      ap (count_of row) comes ∙ count-append row added (in_row_order (surplus after now)),
      count_net row now after,
      count_net row after now,
    )

pub balance_net : (first now removed added : List Row) → IsBalanced first now removed added → net_change removed added ≡ net_change first now
balance_net first now removed added balanced = λ i. record {
  removed = same_list (surplus removed added) (surplus first now) (λ a. omega (arith, balanced a, count-surplus a first now, count-surplus a removed added)) i;
  added = same_list (surplus added removed) (surplus now first) (λ a. omega (arith, balanced a, count-surplus a now first, count-surplus a added removed)) i;
}

-- ---- events, one after another

placed_more : (kept done : List Event) (event : Event) → all_placed kept (done ++ event ∷ []) ≡ placed_by event_order event (all_placed kept done)
placed_more kept [] event = refl
placed_more kept (x ∷ xs) event = placed_more (placed_by event_order x kept) xs event

pub have_more : (kept events more now after : List Event) (event : Event) → HaveFirst kept events (event ∷ more) now → after ≡ placed_by event_order event now → HaveFirst kept events more after
have_more kept events more now after event have is =
    record {
      done = have.done ++ event ∷ [];
      whole = append_assoc have.done (event ∷ []) more ∙ have.whole;
      placed = is ∙ ap (placed_by event_order event) have.placed ∙ sym (placed_more kept have.done event);
    }

pub have_all : (kept events now : List Event) → HaveFirst kept events [] now → now ≡ all_placed kept events
have_all kept events now have = have.placed ∙ ap (all_placed kept) (sym (append-nil have.done) ∙ have.whole)

-- where the events that are left come next
pub record Applying (ignore_null : Bool) (tracked : List ℕ) (kept events left : List Event) (parts : List (Row × List Entry)) (removed added : List Row) (before now : ℕ) : Type 0 where
  pub in_parts : AreInParts ignore_null parts
  pub apart : AreApart (left ++ all_events parts)
  pub keyed : AreKeyed left
  pub first : HaveFirst kept events left (all_events parts)
  pub counts : (key : Row) → length (of_key key (left ++ all_events parts)) ≡ length (of_key key (events ++ kept))
  pub balance : (row : Row) → count_of row removed + count_of row (scd2 ignore_null tracked (all_events parts)) ≡ count_of row added + count_of row (scd2 ignore_null tracked kept)
  pub looks : (halvings : Row → ℕ) → ((key : Row) → length (of_key key (events ++ kept)) < 2 ^ halvings key)
      → now + looks_for halvings ignore_null tracked (all_events parts) left ≤ before + looks_for halvings ignore_null tracked kept events

pub applies_first : (ignore_null : Bool) (tracked : List ℕ) (events : List Event) (parts : List (Row × List Entry)) (before : ℕ) → AreInParts ignore_null parts → AreApart (events ++ all_events parts) → AreKeyed events
    → Applying ignore_null tracked (all_events parts) events events parts [] [] before before
applies_first ignore_null tracked events parts before in_parts apart keyed =
    record {
      in_parts = in_parts;
      apart = apart;
      keyed = keyed;
      first = record { done = []; whole = refl; placed = refl };
      counts = λ key. refl;
      balance = λ row. refl;
      looks = λ halvings small. omega arith;
    }

pub free_first : (event : Event) (more kept : List Event) → AreApart ((event ∷ more) ++ kept) → standing kept event ≡ Fresh
free_first event more kept apart = fresh_part event more kept apart.0

pub applies_more : (ignore_null : Bool) (tracked : List ℕ) (kept events more : List Event) (event : Event) (parts fresh : List (Row × List Entry)) (removed gone added come : List Row) (before now after : ℕ)
    → Applying ignore_null tracked kept events (event ∷ more) parts removed added before now
    → AreInParts ignore_null fresh
    → all_events fresh ≡ placed_by event_order event (all_events parts)
    → gone ≡ removed ++ (net_change (scd2 ignore_null tracked (all_events parts)) (scd2 ignore_null tracked (all_events fresh))).removed
    → come ≡ added ++ (net_change (scd2 ignore_null tracked (all_events parts)) (scd2 ignore_null tracked (all_events fresh))).added
    → ((h : ℕ) → length (of_key event.key (all_events parts)) < 2 ^ h → after ≤ now + (2 * h + 2 * touched ignore_null tracked (history event.key (all_events parts)) event + 8))
    → Applying ignore_null tracked kept events more fresh gone come before after
applies_more ignore_null tracked kept events more event parts fresh removed gone added come before now after a in_parts is goes comes looks =
    record {
      in_parts = in_parts;
      apart = subst (λ ys. AreApart (more ++ ys)) (sym is) (apart_step event more (all_events parts) a.apart.0 a.apart.1);
      keyed = a.keyed.1;
      first = have_more kept events more (all_events parts) (all_events fresh) event a.first is;
      counts = λ key. ap (λ ys. length (of_key key (more ++ ys))) is ∙ count_step key event more (all_events parts) ∙ a.counts key;
      balance = balance_step (scd2 ignore_null tracked kept) (scd2 ignore_null tracked (all_events parts)) (scd2 ignore_null tracked (all_events fresh)) removed gone added come a.balance goes comes;
      looks = λ halvings small. (
          let within : length (of_key event.key (all_events parts)) < 2 ^ halvings event.key =
          below (counted event.key (event ∷ more)) (counted event.key (all_events parts)) (counted event.key ((event ∷ more) ++ all_events parts)) (counted event.key (events ++ kept)) (2 ^ halvings event.key)
          (counted_append event.key (event ∷ more) (all_events parts)) (a.counts event.key) (small event.key) in
          subst (λ ys. after + looks_for halvings ignore_null tracked ys more ≤ before + looks_for halvings ignore_null tracked kept events) (sym is)
          (added_up after now before (2 * halvings event.key + 2 * touched ignore_null tracked (history event.key (all_events parts)) event + 8)
          (looks_for halvings ignore_null tracked (placed_by event_order event (all_events parts)) more) (looks_for halvings ignore_null tracked kept events)
          (looks (halvings event.key) within) (a.looks halvings small)));
    }
  where
    below : (m n s t p : ℕ) → s ≡ m + n → s ≡ t → t < p → n < p
    below m n s t p e f small = omega arith

    added_up : (after now before x r t : ℕ) → after ≤ now + x → now + (x + r) ≤ before + t → after + r ≤ before + t
    added_up after now before x r t e f = omega arith
