-- A plan and a store have one answer.
use Rattle.std.proofs.Common.{◌≡◌, inl, inr, ℕ, List, [], ◌∷◌, Option, Some, None, refl, sym, ap, ◌∙◌}
use Rattle.commit_payloads.specs.declared.definition.Definition.{Definition}
use Rattle.plan_core.specs.declared.plan.Dataset.{Dataset as Part}
use Rattle.state_model.specs.Dataset.{State, definitions_of}
use Rattle.store_fitness.specs.Fitness.{Answers, IsAlike, ReadsOn}
use Rattle.store_fitness.specs.Walks.{Finds}

-- one name is found, or none
one_found : (P : Definition → Type 0) (list : List Definition) (a b : Option (List ℕ)) → Finds P list a → Finds P list b → a ≡ b
one_found P [] None None h k = refl
one_found P [] None (Some b) h k = absurd k
one_found P [] (Some a) b h k = absurd h
one_found P (d ∷ ds) None None h k = refl
one_found P (d ∷ ds) None (Some b) h k = elim k [ inl m ↦ absurd (m.0 h.0) | inr m ↦ one_found P ds None (Some b) h.1 m.1 ]
one_found P (d ∷ ds) (Some a) None h k = elim h [ inl n ↦ absurd (n.0 k.0) | inr n ↦ one_found P ds (Some a) None n.1 k.1 ]
one_found P (d ∷ ds) (Some a) (Some b) h k =
    elim h [
      | inl n ↦ elim k [ inl m ↦ ap Some (n.1 ∙ sym m.1) | inr m ↦ absurd (n.0 m.0) ]
      | inr n ↦ elim k [ inl m ↦ absurd (m.0 n.0) | inr m ↦ one_found P ds (Some a) (Some b) n.1 m.1 ]
    ]

none_some : (a : List ℕ) → None ≡ Some a → ⊥
none_some a e = cc

pub one_answer : (plan : List Part) (state : State) (a b : Option (List ℕ)) → Answers plan state a → Answers plan state b → a ≡ b
one_answer plan state None None h k = refl
one_answer plan state None (Some b) h k =
    elim k [
      | inl m ↦ one_found (IsAlike plan) (definitions_of state) None (Some b) h.alike m
      | inr m ↦ one_found (ReadsOn state) (definitions_of state) None (Some b) h.read_on m.1
    ]
one_answer plan state (Some a) None h k =
    elim h [
      | inl n ↦ one_found (IsAlike plan) (definitions_of state) (Some a) None n k.alike
      | inr n ↦ one_found (ReadsOn state) (definitions_of state) (Some a) None n.1 k.read_on
    ]
one_answer plan state (Some a) (Some b) h k =
    elim h [
      | inl n ↦
          elim k [
            | inl m ↦ one_found (IsAlike plan) (definitions_of state) (Some a) (Some b) n m
            | inr m ↦ absurd (none_some a (one_found (IsAlike plan) (definitions_of state) None (Some a) m.0 n))
          ]
      | inr n ↦
          elim k [
            | inl m ↦ absurd (none_some b (one_found (IsAlike plan) (definitions_of state) None (Some b) n.0 m))
            | inr m ↦ one_found (ReadsOn state) (definitions_of state) (Some a) (Some b) n.1 m.1
          ]
    ]
