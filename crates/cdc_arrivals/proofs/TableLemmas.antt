-- The rows of SCD type 1, told by the stamps of each key.
use Rattle.std.proofs.Common.{◌≡◌, ℕ, Bool, true, false, cond, ◌||◌, List, [], ◌∷◌, fold, Option, None, refl, ap}
use Rattle.std.specs.Prelude.{filter_map}
use Rattle.std.specs.List.{cons_option}
use Rattle.value_core.specs.declared.event.Event.{Event}
use Rattle.value_core.specs.Bags.{in_row_order}
use Rattle.value_core.specs.EventOrder.{is_truncate}
use Rattle.value_core.specs.Order.{Row, same_row}
use Rattle.flow_model.specs.Current.{after_event, history, keys_of, scd1}
use Rattle.cdc_scd1.specs.Stamps.{no_event, row_told, stamped}
use Rattle.cdc_arrivals.specs.Arrivals.{AreOfOwnMoments, HaveWidth, heard, rows_told}
use Rattle.cdc_arrivals.proofs.TurnLemmas.{read_in_any_order}

wide_by : (wide : ℕ) (x : Event) (xs more : List Event) (b : Bool) → HaveWidth wide (x ∷ xs) → HaveWidth wide more → HaveWidth wide (cond b (x ∷ more) more)
wide_by wide x xs more true have later = (have.0, later)
wide_by wide x xs more false have later = later

wide_heard : (wide : ℕ) (key : Row) (events : List Event) → HaveWidth wide events → HaveWidth wide (heard key events)
wide_heard wide key [] have = tt
wide_heard wide key (x ∷ xs) have = wide_by wide x xs (heard key xs) (is_truncate x || same_row x.key key) have (wide_heard wide key xs have.1)

same_rows : (f g : Row → Option Row) (keys : List Row) → ((key : Row) → f key ≡ g key) → filter_map f keys ≡ filter_map g keys
same_rows f g [] same = refl
same_rows f g (key ∷ keys) same = λ i. cons_option (same key i) (same_rows f g keys same i)

pub told_in_any_order : (ignore_null : Bool) (events : List Event) (wide : ℕ) → HaveWidth wide events → ((key : Row) → AreOfOwnMoments (heard key events)) → rows_told ignore_null events ≡ scd1 ignore_null events
told_in_any_order ignore_null events wide have own =
    ap in_row_order
    (same_rows (λ key. row_told (fold (stamped ignore_null) no_event (heard key events))) (λ key. fold (after_event ignore_null) None (history key events)) (keys_of events)
    (λ key. read_in_any_order ignore_null (heard key events) wide (wide_heard wide key events have) (own key)))
