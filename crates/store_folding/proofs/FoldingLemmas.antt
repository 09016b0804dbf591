-- A folded store as a payload has it.
use Rattle.std.proofs.Common.{◌≡◌, ℕ, ◌+◌, ◌++◌, List, [], ◌∷◌, map, take, Some, refl, ap, ◌∙◌}
use Rattle.std.specs.Prelude.{option_map, slice_get}
use Rattle.std.proofs.lemmas.Option.{slice_get-map}
use Rattle.state_model.specs.Dataset.{Dataset, State, definitions_of}
use Rattle.state_model.specs.Saved.{compacted, folded_for, kept_of, saved}
use Rattle.store_folding.specs.Folding.{folded_states}
use Rattle.store_folding.proofs.ReaderLemmas.{take_step}

definitions_stay : (whole state : State) → definitions_of (map (folded_for whole) state) ≡ definitions_of state
definitions_stay whole [] = refl
definitions_stay whole (d ∷ state) = ap (λ more. d.definition ∷ more) (definitions_stay whole state)

states_come : (whole state : State) → map kept_of (map (folded_for whole) state) ≡ map (λ d. kept_of (folded_for whole d)) state
states_come whole [] = refl
states_come whole (d ∷ state) = ap (λ more. kept_of (folded_for whole d) ∷ more) (states_come whole state)

pub saved_parts : (state : State) → record { list = definitions_of state; states = folded_states state } ≡ saved (compacted state)
saved_parts state = rw (definitions_stay state state, states_come state state) refl

-- one dataset more
pub states_step : (state : State) (i : ℕ) (d : Dataset) → slice_get state i ≡ Some d → take (i + 1) (folded_states state) ≡ take i (folded_states state) ++ kept_of (folded_for state d) ∷ []
states_step state i d here =
    take_step (folded_states state) i (kept_of (folded_for state d)) (slice_get-map (λ one. kept_of (folded_for state one)) state i ∙ ap (option_map (λ one. kept_of (folded_for state one))) here)
