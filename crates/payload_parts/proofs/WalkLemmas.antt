-- What the last step of a walk along lists shows.
use Rattle.std.proofs.Common.{◌≡◌, ◌↔◌, ℕ, ◌+◌, ◌<◌, ◌≤◌, Bool, true, false, List, [], ◌∷◌, ◌++◌, Option, Some, None, length, get_or, drop, refl, sym, ap, ◌∙◌, subst, arith, append_assoc, length-drop}
use Rattle.std.proofs.lemmas.List.{drop_all, drop_more}
use Rattle.std.specs.Prelude.{IsTrue, filter_map, option_to_list}
use Rattle.std.specs.List.{cons_option}
use Rattle.value_core.specs.declared.change.Tally.{Tally}
use Rattle.value_core.specs.declared.value.Kind.{Kind}
use Rattle.commit_payloads.specs.declared.definition.Definition.{Definition}
use Rattle.commit_payloads.specs.declared.state.DatasetState.{DatasetState}
use Rattle.commit_payloads.specs.declared.state.State.{State as Saved}
use Rattle.state_model.specs.Dataset.{State, definitions_of}
use Rattle.state_model.specs.Follows.{AllFitStored, IsStore, are_distinct, counts_fit}
use Rattle.state_model.specs.Saved.{read_back, side_by_side}

counts-none : (counts more : List Tally) → 0 < length counts → length more ≡ 0 → counts_fit counts more ≡ false
counts-none [] more h e = absurd (omega arith)
counts-none (kept ∷ counts) [] h e = refl
counts-none (kept ∷ counts) (tally ∷ more) h e = absurd (omega arith)

pub counts-left : (counts more : List Tally) (i : ℕ) → i < length counts → length more ≡ 0 → counts_fit (drop i counts) more ≡ false
counts-left counts more i h e = counts-none (drop i counts) more (omega (arith, length-drop i counts)) e

-- ---- the kinds at places

cons-is : (kind : Option Kind) (kinds : List Kind) → cons_option kind kinds ≡ option_to_list kind ++ kinds
cons-is None kinds = refl
cons-is (Some kind) kinds = refl

pub kinds_more : (at_place : ℕ → Option Kind) (places : List ℕ) (i : ℕ) (old new : List Kind) → i < length places → new ≡ old ++ option_to_list (at_place (get_or places i 0))
    → old ++ filter_map at_place (drop i places) ≡ filter_map at_place places → new ++ filter_map at_place (drop (i + 1) places) ≡ filter_map at_place places
kinds_more at_place places i old new h put so_far =
    let first : List Kind = option_to_list (at_place (get_or places i 0)) in
    let rest : List Kind = filter_map at_place (drop (i + 1) places) in
    let split : filter_map at_place (drop i places) ≡ first ++ rest = ap (filter_map at_place) (drop_more places i 0 h) ∙ cons-is (at_place (get_or places i 0)) rest in
    ap (λ x. x ++ rest) put ∙ append_assoc old first rest ∙ ap (λ x. old ++ x) (sym split) ∙ so_far

-- ---- what is never so

pub never : {P : Type 0} → (P → ⊥) → IsTrue false ↔ P
never not = (λ is. absurd (let wrong : false ≡ true = is in cc), λ p. absurd (not p))

-- ---- saved datasets

definitions-are : (list : List Definition) (states : List DatasetState) → length states ≡ length list → definitions_of (side_by_side list states) ≡ list
definitions-are [] states e = refl
definitions-are (definition ∷ list) [] e = absurd (let none : ⊥ = omega arith in none)
definitions-are (definition ∷ list) (state ∷ states) e = ap (λ x. definition ∷ x) (definitions-are list states (omega arith))

pub not_distinct : (store : Saved) (test : Bool) (list : List Definition) → length store.states ≡ length store.list → test ≡ are_distinct list → list ≡ store.list → test ≡ false → IsStore (read_back store) → ⊥
not_distinct store test list long told same fails is =
    let all : definitions_of (read_back store) ≡ store.list = definitions-are store.list store.states long in
    let wrong : false ≡ true = sym fails ∙ told ∙ ap are_distinct (same ∙ sym all) ∙ is.distinct in
    cc

pub may_be : (store : Saved) (test : Bool) (list : List Definition) → length store.states ≡ length store.list → test ≡ are_distinct list → list ≡ store.list → test ≡ true
    → AllFitStored (read_back store) (read_back store) → IsTrue true ↔ IsStore (read_back store)
may_be store test list long told same passes each =
    let all : definitions_of (read_back store) ≡ store.list = definitions-are store.list store.states long in
    (λ is. record { distinct = ap are_distinct (all ∙ sym same) ∙ sym told ∙ passes; each = each }, λ is. refl)

pub none_left_to_fit : (state : State) (list : List Definition) (states : List DatasetState) → length states ≡ 0 → AllFitStored state (side_by_side list states)
none_left_to_fit state [] states e = tt
none_left_to_fit state (definition ∷ list) [] e = tt
none_left_to_fit state (definition ∷ list) (s ∷ states) e = absurd (let none : ⊥ = omega arith in none)

pub all_fitted : (state : State) (list : List Definition) (i : ℕ) (states : List DatasetState) → length list ≤ i → AllFitStored state (side_by_side (drop i list) states)
all_fitted state list i states h = subst (λ x. AllFitStored state (side_by_side x states)) (sym (drop_all i list h)) tt
