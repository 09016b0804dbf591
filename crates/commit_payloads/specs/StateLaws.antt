-- The reading of definitions with a state for each is exact.
use Rattle.std.proofs.Common.{◌≡◌, ℕ, zero, suc, List, [], ◌∷◌, ◌++◌, length, Option, Some, refl, sym, ap, subst, ◌∙◌, append_assoc}
use Rattle.std.specs.List.{flat_map, AllByRecursion}
use Rattle.segment_rows.specs.Exact.{IsBytes, IsExact}
use Rattle.segment_rows.specs.FieldLaws.{bind_some, some_is, list_exact, IsBytes-behind}
use Rattle.segment_rows.specs.Ranges.{IsList}
use Rattle.segment_rows.specs.Reading.{◌>>=◌, items_at, list_at}
use Rattle.segment_rows.specs.Spelling.{spelled_list}
use Rattle.commit_payloads.specs.declared.definition.Definition.{Definition}
use Rattle.commit_payloads.specs.declared.state.DatasetState.{DatasetState}
use Rattle.commit_payloads.specs.declared.state.State.{State}
use Rattle.commit_payloads.specs.PartLaws.{definition_exact, dataset_state_exact}
use Rattle.commit_payloads.specs.Ranges.{IsDatasetState, IsDefinition, IsState}
use Rattle.commit_payloads.specs.Reading.{dataset_state_at, definition_at, state_at}
use Rattle.commit_payloads.specs.Spelling.{spelled_dataset_state, spelled_definition, spelled_state}

items_taken : {A : Type 0} (spelled : A → List ℕ) (Is : A → Type 0) (one : List ℕ → Option (A × List ℕ)) → IsExact spelled Is one → (n : ℕ) (bytes : List ℕ) (found : List A × List ℕ) → IsBytes bytes → items_at one n bytes ≡ Some found → (length found.0 ≡ n) × AllByRecursion Is found.0 × (bytes ≡ flat_map spelled found.0 ++ found.1)
unfolding items_at
items_taken {A} spelled Is one exact zero bytes found are e = subst (λ (x : List A × List ℕ). (length x.0 ≡ 0) × AllByRecursion Is x.0 × (bytes ≡ flat_map spelled x.0 ++ x.1)) (some_is _ _ e) (refl, tt, refl)
items_taken {A} spelled Is one exact (suc n) bytes found are e =
    let first = bind_some (one bytes) (λ first. items_at one n first.1 >>= λ others. Some (first.0 ∷ others.0, others.1)) found e in
    let a = first.0 in
    let others = bind_some (items_at one n a.1) (λ others. Some (a.0 ∷ others.0, others.1)) found first.2 in
    let b = others.0 in
    let t = exact.taken bytes a are first.1 in
    let r = items_taken spelled Is one exact n a.1 b (IsBytes-behind (spelled a.0) a.1 bytes are t.1) others.1 in
    let parts : bytes ≡ flat_map spelled (a.0 ∷ b.0) ++ b.1 = t.1 ∙ ap (λ (x : List ℕ). spelled a.0 ++ x) r.2 ∙ sym (append_assoc (spelled a.0) (flat_map spelled b.0) b.1) in
    subst (λ (x : List A × List ℕ). (length x.0 ≡ suc n) × AllByRecursion Is x.0 × (bytes ≡ flat_map spelled x.0 ++ x.1)) (some_is _ _ others.2) (ap suc r.0, (t.0, r.1), parts)

items_again : {A : Type 0} (spelled : A → List ℕ) (Is : A → Type 0) (one : List ℕ → Option (A × List ℕ)) → IsExact spelled Is one → (items : List A) (rest : List ℕ) → AllByRecursion Is items → items_at one (length items) (flat_map spelled items ++ rest) ≡ Some (items, rest)
unfolding items_at
items_again spelled Is one exact [] rest are = refl
items_again {A} spelled Is one exact (a ∷ items) rest are =
    let parts : flat_map spelled (a ∷ items) ++ rest ≡ spelled a ++ (flat_map spelled items ++ rest) = append_assoc (spelled a) (flat_map spelled items) rest in
    rw (parts, exact.again a (flat_map spelled items ++ rest) are.0, items_again spelled Is one exact items rest are.1) refl

abbrev Parts : List ℕ → State × List ℕ → Type 0
Parts bytes found = IsState found.0 × (bytes ≡ spelled_state found.0 ++ found.1)

abbrev state_made : List Definition → List DatasetState → State
state_made list states = record { list = list; states = states }

state_taken : (bytes : List ℕ) (found : State × List ℕ) → IsBytes bytes → state_at bytes ≡ Some found → Parts bytes found
state_taken bytes found are e =
    let first = bind_some (list_at definition_at bytes) (λ list. items_at dataset_state_at (length list.0) list.1 >>= λ states. Some (state_made list.0 states.0, states.1)) found e in
    let a = first.0 in
    let second = bind_some (items_at dataset_state_at (length a.0) a.1) (λ states. Some (state_made a.0 states.0, states.1)) found first.2 in
    let b = second.0 in
    let t = (list_exact definition_exact).taken bytes a are first.1 in
    let r = items_taken spelled_dataset_state IsDatasetState dataset_state_at dataset_state_exact (length a.0) a.1 b (IsBytes-behind (spelled_list spelled_definition a.0) a.1 bytes are t.1) second.1 in
    let parts : bytes ≡ spelled_state (state_made a.0 b.0) ++ b.1 =
    t.1 ∙ ap (λ (x : List ℕ). spelled_list spelled_definition a.0 ++ x) r.2 ∙ sym (append_assoc (spelled_list spelled_definition a.0) (flat_map spelled_dataset_state b.0) b.1) in
    let ranges : IsState (state_made a.0 b.0) = (t.0, r.0, r.1) in
    subst (Parts bytes) (some_is _ _ second.2) (ranges, parts)

state_again : (state : State) (rest : List ℕ) → IsState state → state_at (spelled_state state ++ rest) ≡ Some (state, rest)
state_again state rest is =
    let states : items_at dataset_state_at (length state.list) (flat_map spelled_dataset_state state.states ++ rest) ≡ Some (state.states, rest) =
    rw (← is.1) (items_again spelled_dataset_state IsDatasetState dataset_state_at dataset_state_exact state.states rest is.2) in
    let parts : spelled_state state ++ rest ≡ spelled_list spelled_definition state.list ++ (flat_map spelled_dataset_state state.states ++ rest) =
    append_assoc (spelled_list spelled_definition state.list) (flat_map spelled_dataset_state state.states) rest in
    rw (parts, (list_exact definition_exact).again state.list (flat_map spelled_dataset_state state.states ++ rest) is.0, states) refl

pub state_exact : IsExact spelled_state IsState state_at
state_exact = record { taken = state_taken; again = state_again }
