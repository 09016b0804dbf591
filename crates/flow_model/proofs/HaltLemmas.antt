-- Ties are judged on the events before the halt.
use Rattle.std.proofs.Common.{◌≡◌, ◌∙◌, refl, ap, ℕ, ◌+◌, List, [], ◌∷◌, ◌++◌, map, Option, Some, None}
use Rattle.std.specs.Prelude.{filter_map, option_map}
use Rattle.std.specs.List.{cons_option}
use Rattle.std.specs.Option.{option_or}
use Rattle.value_core.specs.declared.event.Event.{Event}
use Rattle.value_core.specs.declared.event.NumberedEvent.{NumberedEvent}
use Rattle.value_core.specs.Order.{Row}
use Rattle.plan_core.specs.declared.expectation.Expectation.{Expectation}
use Rattle.plan_core.specs.declared.flow.Cdc.{Cdc}
use Rattle.plan_core.specs.declared.stop.Stop.{Stop}
use Rattle.plan_core.specs.declared.stop.Stop.TheVariants as stop
use Rattle.flow_model.specs.Feed.{Reading, Stops, NoSequence, Drops, Gives, reading, event_in, upsert_in, stop_by, tied_with, feed_stop_from, feed_stop, given, feed_seen}
use Rattle.flow_model.specs.Halts.{readings, own_stop, halt_from, feed_halt, up_to_halt, front, numbered_from, front_events, first_tie}

or_later : (a b c : Option Stop) → option_or a (option_or b c) ≡ option_or (option_or a b) c
or_later None b c = refl
or_later (Some s) b c = refl

module _ (cdc : Cdc) (xs : List Expectation) where
  -- the stop of one row and of those behind it
  stop_of_row : (number : ℕ) (old : List Event) (next : List Event → Option Stop) (rs : List Reading)
      → ((old : List Event) → next old ≡ option_or (first_tie old (numbered_from (number + 1) (up_to_halt rs))) (halt_from (number + 1) rs))
      → (r : Reading) → stop_by number old next r ≡ option_or (first_tie old (numbered_from number (up_to_halt (r ∷ rs)))) (halt_from number (r ∷ rs))
  stop_of_row number old next rs behind (Stops cause) = refl
  stop_of_row number old next rs behind NoSequence = refl
  stop_of_row number old next rs behind (Drops columns) = behind old
  stop_of_row number old next rs behind (Gives event) =
      let tie = option_map (λ kept. stop.Tied number kept event) (tied_with event old) in
      ap (option_or tie) (behind (old ++ event ∷ [])) ∙ or_later tie (first_tie (old ++ event ∷ []) (numbered_from (number + 1) (up_to_halt rs))) (halt_from (number + 1) rs)

  pub stop_from : (number : ℕ) (rows : List Row) (old : List Event)
      → feed_stop_from number cdc xs rows old ≡ option_or (first_tie old (numbered_from number (up_to_halt (readings cdc xs rows)))) (halt_from number (readings cdc xs rows))
  stop_from number [] old = refl
  stop_from number (row ∷ rows) old = stop_of_row number old (feed_stop_from (number + 1) cdc xs rows) (readings cdc xs rows) (stop_from (number + 1) rows) (reading cdc xs row)

  events_by : (number : ℕ) (rs : List Reading) (es : List Event) → map (λ (n : NumberedEvent). n.event) (numbered_from (number + 1) rs) ≡ es
      → (r : Reading) → map (λ (n : NumberedEvent). n.event) (numbered_from number (r ∷ rs)) ≡ cons_option (event_in r) es
  events_by number rs es behind (Stops cause) = behind
  events_by number rs es behind NoSequence = behind
  events_by number rs es behind (Drops columns) = behind
  events_by number rs es behind (Gives event) = ap (λ more. event ∷ more) behind

  pub events_are_given : (number : ℕ) (rows : List Row) → map (λ (n : NumberedEvent). n.event) (numbered_from number (readings cdc xs rows)) ≡ given cdc xs rows
  events_are_given number [] = refl
  events_are_given number (row ∷ rows) = events_by number (readings cdc xs rows) (given cdc xs rows) (events_are_given (number + 1) rows) (reading cdc xs row)

  pub seen_are_upserts : (rows : List Row) → filter_map upsert_in (readings cdc xs rows) ≡ feed_seen cdc xs rows
  seen_are_upserts [] = refl
  seen_are_upserts (row ∷ rows) = ap (cons_option (upsert_in (reading cdc xs row))) (seen_are_upserts rows)

-- where nothing halts, nothing is left out
pub all_in_front : (number : ℕ) (rs : List Reading) → halt_from number rs ≡ None → up_to_halt rs ≡ rs
all_in_front number [] none = refl
all_in_front number (Stops cause ∷ rs) none = absurd cc
all_in_front number (NoSequence ∷ rs) none = absurd cc
all_in_front number (Drops columns ∷ rs) none = ap (λ more. Drops columns ∷ more) (all_in_front (number + 1) rs none)
all_in_front number (Gives event ∷ rs) none = ap (λ more. Gives event ∷ more) (all_in_front (number + 1) rs none)
