-- The state that payloads come to.
use Rattle.std.proofs.Common.{◌≡◌, ℕ, Bool, true, false, List, [], ◌∷◌, ◌++◌, length, map, drop, refl, sym, ap, ◌∙◌}
use Rattle.std.proofs.lemmas.List.{map-append, take-append-drop}
use Rattle.commit_records.specs.declared.definition.Definition.{Definition}
use Rattle.commit_records.specs.declared.payload.Payload.{Payload}
use Rattle.commit_records.specs.declared.payload.Payload.TheVariants as payload
use Rattle.store_state.specs.Dataset.{Dataset, State, empty_state, after_payload, begun, defined, definition_of, definitions_of, is_named, state_from, state_after, taken, updated}
use Rattle.store_state.specs.Follows.{Fits, Keeps, are_distinct}
use Rattle.store_state.proofs.FirstLemmas.{by_cases}

state_from-append : (state : State) (payloads : List Payload) (payload : Payload) → state_from state (payloads ++ payload ∷ []) ≡ after_payload (state_from state payloads) payload
state_from-append state [] payload = refl
state_from-append state (first ∷ payloads) payload = state_from-append (after_payload state first) payloads payload

-- one payload more
pub state_after-append : (payloads : List Payload) (payload : Payload) → state_after (payloads ++ payload ∷ []) ≡ after_payload (state_after payloads) payload
state_after-append payloads payload = state_from-append empty_state payloads payload

-- ---- the definitions of a state after a payload

definitions-begun : (list : List Definition) → definitions_of (map begun list) ≡ list
definitions-begun [] = refl
definitions-begun (d ∷ list) = ap (λ rest. d ∷ rest) (definitions-begun list)

definitions-updated : (name : List ℕ) (f : Dataset → Dataset) (state : State) → ((x : Dataset) → (f x).definition ≡ x.definition) → definitions_of (updated name f state) ≡ definitions_of state
definitions-updated name f [] keeps = refl
definitions-updated name f (x ∷ state) keeps =
    by_cases (is_named name x)
    (λ t. rw t (ap (λ d. d ∷ definitions_of state) (keeps x)))
    (λ n. rw n (ap (λ rest. x.definition ∷ rest) (definitions-updated name f state keeps)))

definitions-defined : (fresh : Bool) (list : List Definition) (state : State) → Keeps state fresh list → definitions_of (defined fresh list state) ≡ list
definitions-defined true list state kept = definitions-begun list
definitions-defined false list state kept =
    map-append definition_of state (map begun (drop (length state) list))
    ∙ ap (λ rest. definitions_of state ++ rest) (definitions-begun (drop (length state) list))
    ∙ ap (λ first. first ++ drop (length state) list) (sym kept)
    ∙ take-append-drop (length state) list

pub stay-distinct : (state : State) (payload : Payload) → Fits state payload → are_distinct (definitions_of state) ≡ true → are_distinct (definitions_of (after_payload state payload)) ≡ true
stay-distinct state (payload.Define fresh list) fits distinct = ap are_distinct (definitions-defined fresh list state fits.kept) ∙ fits.distinct
stay-distinct state (payload.Take batch) fits distinct = ap are_distinct (definitions-updated batch.table (taken batch) state (λ x. refl)) ∙ distinct
stay-distinct state (payload.Refresh refresh) fits distinct = distinct
stay-distinct state (payload.Reset names) fits distinct = distinct
stay-distinct state (payload.Base base) fits distinct = distinct
