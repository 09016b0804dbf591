-- The state that payloads come to.
use Rattle.std.proofs.Common.{◌≡◌, ℕ, Bool, true, false, List, [], ◌∷◌, ◌++◌, if◌then◌else◌, length, map, drop, refl, sym, ap, ◌∙◌}
use Rattle.std.proofs.lemmas.List.{map-append, take-append-drop}
use Rattle.commit_payloads.specs.declared.definition.Definition.{Definition}
use Rattle.commit_payloads.specs.declared.payload.Payload.{Payload}
use Rattle.commit_payloads.specs.declared.payload.Payload.TheVariants as payload
use Rattle.state_model.specs.After.{after_payload, begun, defined, emptied, is_member, refreshed, reset, state_after, state_from, taken, updated}
use Rattle.state_model.specs.Dataset.{Dataset, State, definition_of, definitions_of, empty_state, is_named}
use Rattle.state_model.specs.Follows.{Fits, Keeps, are_distinct}
use Rattle.state_model.specs.Saved.{read_back, saved}

-- ---- a saved state

pub saved-read_back : (state : State) → read_back (saved state) ≡ state
saved-read_back [] = refl
saved-read_back (dataset ∷ state) = ap (λ (rest : State). dataset ∷ rest) (saved-read_back state)

-- ---- one payload more

state_from-append : (state : State) (payloads : List Payload) (last : Payload) → state_from state (payloads ++ last ∷ []) ≡ after_payload (state_from state payloads) last
state_from-append state [] last = refl
state_from-append state (first ∷ payloads) last = state_from-append (after_payload state first) payloads last

pub state_after-append : (payloads : List Payload) (last : Payload) → state_after (payloads ++ last ∷ []) ≡ after_payload (state_after payloads) last
state_after-append payloads last = state_from-append empty_state payloads last

-- ---- the definitions of a state after a payload

pub definitions-begun : (list : List Definition) → definitions_of (map begun list) ≡ list
definitions-begun [] = refl
definitions-begun (d ∷ list) = ap (λ (rest : List Definition). d ∷ rest) (definitions-begun list)

updated_by : (f : Dataset → Dataset) (name : List ℕ) (x : Dataset) (state : State) → ((x : Dataset) → (f x).definition ≡ x.definition) → definitions_of (updated name f state) ≡ definitions_of state
    → (here : Bool) → definitions_of (if here then f x ∷ state else x ∷ updated name f state) ≡ x.definition ∷ definitions_of state
updated_by f name x state keeps behind true = ap (λ (d : Definition). d ∷ definitions_of state) (keeps x)
updated_by f name x state keeps behind false = ap (λ (rest : List Definition). x.definition ∷ rest) behind

pub definitions-updated : (name : List ℕ) (f : Dataset → Dataset) (state : State) → ((x : Dataset) → (f x).definition ≡ x.definition) → definitions_of (updated name f state) ≡ definitions_of state
definitions-updated name f [] keeps = refl
definitions-updated name f (x ∷ state) keeps = updated_by f name x state keeps (definitions-updated name f state keeps) (is_named name x)

pub definitions-defined : (is_fresh : Bool) (list : List Definition) (state : State) → Keeps state is_fresh list → definitions_of (defined is_fresh list state) ≡ list
definitions-defined true list state kept = definitions-begun list
definitions-defined false list state kept =
    map-append definition_of state (map begun (drop (length state) list))
    ∙ ap (λ (rest : List Definition). definitions_of state ++ rest) (definitions-begun (drop (length state) list))
    ∙ ap (λ (first : List Definition). first ++ drop (length state) list) (sym kept)
    ∙ take-append-drop (length state) list

emptied_by : (x : Dataset) (b : Bool) → (if b then emptied x else x).definition ≡ x.definition
emptied_by x true = refl
emptied_by x false = refl

pub definitions-reset : (names : List (List ℕ)) (state : State) → definitions_of (reset names state) ≡ definitions_of state
definitions-reset names [] = refl
definitions-reset names (x ∷ state) = λ i. emptied_by x (is_member names x) i ∷ definitions-reset names state i

pub stay-distinct : (state : State) (body : Payload) → Fits state body → are_distinct (definitions_of state) ≡ true → are_distinct (definitions_of (after_payload state body)) ≡ true
stay-distinct state (payload.Define is_fresh list) fits distinct = ap are_distinct (definitions-defined is_fresh list state fits.kept) ∙ fits.distinct
stay-distinct state (payload.Take batch) fits distinct = ap are_distinct (definitions-updated batch.table (taken batch) state (λ x. refl)) ∙ distinct
stay-distinct state (payload.Refresh renewal) fits distinct = ap are_distinct (definitions-updated renewal.view (refreshed renewal) state (λ x. refl)) ∙ distinct
stay-distinct state (payload.Reset names) fits distinct = ap are_distinct (definitions-reset names state) ∙ distinct
stay-distinct state (payload.Base base) fits distinct = fits.store.distinct
