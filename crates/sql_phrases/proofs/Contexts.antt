-- A mark that stands for an outermost expression: where the grammar has a word with the mark behind some tokens, the
-- reader comes to the reader of outermost expressions behind those tokens, whatever expression begins there.
use Rattle.std.proofs.Common.{◌≡◌, ℕ, ◌≤◌, List, [], ◌∷◌, ◌++◌, length, Result, Ok, Err, refl, sym, ap, ◌∙◌, subst, append_assoc, arith, length-append, ◌⊎◌, inl, inr, ⊎_elim}
use Rattle.sql_tree.specs.declared.lexeme.LexemeKind.{LexemeKind}
use Rattle.sql_tree.specs.declared.lexeme.Lexeme.{Lexeme}
use Rattle.sql_tree.specs.Lexemes.{kind}
use Rattle.sql_phrases.specs.Parsers.{Outcome, Parser, and_then, ◌>>=◌}
use Rattle.sql_phrases.proofs.Phrases.{Language, ◌⨾◌}

-- where the mark stands in two words behind each other
split : (mark : Lexeme) (u more w v : List Lexeme) → u ++ mark ∷ more ≡ w ++ v →
    ((rest : List Lexeme) × (w ≡ u ++ mark ∷ rest)) ⊎ ((u' : List Lexeme) × (u ≡ w ++ u') × (v ≡ u' ++ mark ∷ more))
split mark u more [] v e = inr (u, refl, sym e)
split mark [] more (t ∷ w) v e = inl (w, cc)
split mark (s ∷ u) more (t ∷ w) v e =
    let tail : u ++ mark ∷ more ≡ w ++ v = cc in
    let head : s ≡ t = cc in
    ⊎_elim (λ g. inl (g.0, ap (λ z. t ∷ z) g.1 ∙ ap (λ z. z ∷ (u ++ mark ∷ g.0)) (sym head))) (λ g. inr (g.0, ap (λ z. s ∷ z) g.1 ∙ ap (λ z. z ∷ (w ++ g.0)) head, g.2)) (split mark u more w v tail)

module _ {X : Type 0} (mark : Lexeme) (starts : LexemeKind → Type 0) (outer : ℕ → ℕ → Parser X) where
  -- behind these tokens the reader goes on with an outermost expression
  abbrev pub Reaches : {A : Type 0} → (ℕ → ℕ → Parser A) → List Lexeme → Type 0
  Reaches {A} P u =
      (go_on : ℕ → ℕ → X → Parser A)
      × ((e m : ℕ) (v : List Lexeme) → starts (kind v) → length (u ++ v) ≤ e → length (u ++ v) ≤ m → P e m (u ++ v) ≡ and_then (outer e m v) (go_on e m))

  abbrev pub Marks : {A : Type 0} → (ℕ → ℕ → Parser A) → Language A → Type 0
  Marks P L = (u more : List Lexeme) (x : _) → L (u ++ mark ∷ more) x → Reaches P u

  and_then_twice : {A B : Type 0} (r : Outcome X) (f : X → Parser A) (g : A → Parser B) → and_then (and_then r f) g ≡ and_then r (λ x. f x >>= g)
  and_then_twice (Ok p) f g = refl
  and_then_twice (Err r) f g = refl

  pub marks_bind : {A B : Type 0} (P : ℕ → ℕ → Parser A) (Q : A → ℕ → ℕ → Parser B) (L : Language A) (M : A → Language B) →
      ((e m : ℕ) (w o : List Lexeme) (x : A) (y : B) (u more v : List Lexeme) → L w x → M x (u ++ mark ∷ more) y → starts (kind v) → o ≡ u ++ v → length (w ++ o) ≤ e → length (w ++ o) ≤ m → P e m (w ++ o) ≡ Ok (x, o)) →
      Marks P L → ((x : A) → Marks (Q x) (M x)) → Marks (λ e m. P e m >>= (λ y. Q y e m)) (L ⨾ M)
  marks_bind P Q L M complete first second u more y g = ⊎_elim in_first in_second (split mark u more g.0 g.1 g.3)
    where
      in_first : ((rest : List Lexeme) × (g.0 ≡ u ++ mark ∷ rest)) → Reaches (λ e m. P e m >>= (λ y. Q y e m)) u
      in_first s =
          let at = first u s.0 g.2 (subst (λ z. L z g.2) s.1 g.4) in (
            λ e m x. at.0 e m x >>= (λ y. Q y e m),
            λ e m v h n k. ap (λ z. and_then z (λ y. Q y e m)) (at.1 e m v h n k) ∙ and_then_twice (outer e m v) (at.0 e m) (λ y. Q y e m),
          )

      in_second : ((u' : List Lexeme) × (u ≡ g.0 ++ u') × (g.1 ≡ u' ++ mark ∷ more)) → Reaches (λ e m. P e m >>= (λ y. Q y e m)) u
      in_second s =
          let rest = subst (λ z. M g.2 z y) s.2 g.5 in
          let at = second g.2 s.0 more y rest in (
            at.0,
            λ e m v h n k.
                let whole : u ++ v ≡ g.0 ++ (s.0 ++ v) = ap (λ z. z ++ v) s.1 ∙ append_assoc g.0 s.0 v in
                let deep : length (g.0 ++ (s.0 ++ v)) ≤ e = omega (arith, ap length whole) in
                let long : length (g.0 ++ (s.0 ++ v)) ≤ m = omega (arith, ap length whole) in
                ap (λ z. and_then (P e m z) (λ y. Q y e m)) whole
                ∙ ap (λ z. and_then z (λ y. Q y e m)) (complete e m g.0 (s.0 ++ v) g.2 y s.0 more v g.4 rest h refl deep long)
                ∙ at.1 e m v h (omega (arith, length-append g.0 (s.0 ++ v))) (omega (arith, length-append g.0 (s.0 ++ v))),
          )
