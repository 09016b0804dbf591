-- A ledger that is built of events, from the last to the first.
use Rattle.std.proofs.Common.{◌≡◌, ◌<◌, ◌≤◌, ◌-◌, ℕ, zero, suc, Bool, true, false, if◌then◌else◌, List, [], ◌∷◌, length, drop, slice_index_or, refl, sym, ap, ◌∙◌, subst, arith}
use Rattle.std.specs.Ordering.{is_gt}
use Rattle.value_core.specs.declared.event.Event.{Event}
use Rattle.value_core.specs.EventOrder.{Standing, Fresh, Repeat, Tied, event_order, placed_by, same_event, same_moment, sorted_by, standing}
use Rattle.event_ledger.specs.Keyed.{AreApart, events_after}

-- ---- a fresh event among others in any order

record Passes (kept event : Event) (more : List Event) : Type 0 where
  pub apart : same_moment kept event ≡ false
  pub later : standing more event ≡ Fresh

passes_by : (kept event : Event) (more : List Event) (b c : Bool) → same_moment kept event ≡ b → (if b then (if c then Repeat else Tied kept) else standing more event) ≡ Fresh → Passes kept event more
passes_by kept event more true true e is = cc
passes_by kept event more true false e is = cc
passes_by kept event more false c e is = record { apart = e; later = is }

passes : (kept event : Event) (more : List Event) → standing (kept ∷ more) event ≡ Fresh → Passes kept event more
passes kept event more is = passes_by kept event more (same_moment kept event) (same_event kept event) refl is

joined : (kept event : Event) (more : List Event) → same_moment kept event ≡ false → standing more event ≡ Fresh → standing (kept ∷ more) event ≡ Fresh
joined kept event more apart later = ap (λ b. if b then (if same_event kept event then Repeat else Tied kept) else standing more event) apart ∙ later

placed_either : (y z event : Event) (zs more : List Event) (b : Bool) → same_moment y event ≡ false → standing (z ∷ zs) event ≡ Fresh → standing more event ≡ Fresh
    → standing (if b then z ∷ more else y ∷ z ∷ zs) event ≡ Fresh
placed_either y z event zs more true apart later placed = joined z event more (passes z event zs later).apart placed
placed_either y z event zs more false apart later placed = joined y event (z ∷ zs) apart later

fresh_placed : (y event : Event) (ys : List Event) → same_moment y event ≡ false → standing ys event ≡ Fresh → standing (placed_by event_order y ys) event ≡ Fresh
fresh_placed y event [] apart later = joined y event [] apart refl
fresh_placed y event (z ∷ zs) apart later =
    placed_either y z event zs (placed_by event_order y zs) (is_gt (event_order y z)) apart later (fresh_placed y event zs apart (passes z event zs later).later)

fresh_sorted : (events : List Event) (event : Event) → standing events event ≡ Fresh → standing (sorted_by event_order events) event ≡ Fresh
fresh_sorted [] event is = refl
fresh_sorted (y ∷ ys) event is = fresh_placed y event (sorted_by event_order ys) (passes y event ys is).apart (fresh_sorted ys event (passes y event ys is).later)

-- ---- one event more

drop_at : (events : List Event) (i : ℕ) (x d : Event) → i < length events → x ≡ slice_index_or events i d → drop i events ≡ x ∷ drop (suc i) events
drop_at [] i x d within is = absurd (omega arith)
drop_at (y ∷ ys) zero x d within is = ap (λ z. z ∷ ys) (sym is)
drop_at (y ∷ ys) (suc i) x d within is = drop_at ys i x d (omega arith) is

apart_at : (events : List Event) (i : ℕ) (x d : Event) → AreApart events → i < length events → x ≡ slice_index_or events i d → standing (drop (suc i) events) x ≡ Fresh
apart_at [] i x d apart within is = absurd (omega arith)
apart_at (y ∷ ys) zero x d apart within is = subst (λ z. standing ys z ≡ Fresh) (sym is) apart.0
apart_at (y ∷ ys) (suc i) x d apart within is = apart_at ys i x d apart.1 (omega arith) is

-- with the event before the others, the ledger keeps it and them
pub one_more : (events : List Event) (i : ℕ) (x d copy : Event) (old new : List Event) (s : Standing) → AreApart events → i ≤ length events → 0 < i → x ≡ slice_index_or events (i - 1) d → copy ≡ x
    → old ≡ sorted_by event_order (drop i events) → s ≡ standing old copy → new ≡ events_after s copy old → new ≡ sorted_by event_order (drop (i - 1) events)
one_more events zero x d copy old new s apart within some is same kept stands after = absurd (omega arith)
one_more events (suc j) x d copy old new s apart within some is same kept stands after =
    let at : suc j - 1 ≡ j = omega arith in
    let here : x ≡ slice_index_or events j d = subst (λ k. x ≡ slice_index_or events k d) at is in
    let inside : j < length events = omega arith in
    let fresh : standing old copy ≡ Fresh = rw (kept, same) (fresh_sorted (drop (suc j) events) x (apart_at events j x d apart inside here)) in
    let placed : new ≡ placed_by event_order copy old = after ∙ ap (λ t. events_after t copy old) (stands ∙ fresh) in
    let sorted : placed_by event_order copy old ≡ sorted_by event_order (x ∷ drop (suc j) events) = rw (kept, same) refl in
    placed ∙ sorted ∙ ap (λ ys. sorted_by event_order ys) (sym (drop_at events j x d inside here)) ∙ ap (λ k. sorted_by event_order (drop k events)) (sym at)
