-- Languages: which tokens are read as which value.
use Rattle.std.specs.Prelude.{◌≡◌, ◌⊎◌, List, [], ◌∷◌, ◌++◌, Option, Some}
use Rattle.sql_tree.specs.declared.lexeme.LexemeKind.{LexemeKind}
use Rattle.sql_tree.specs.declared.lexeme.Lexeme.{Lexeme}

abbrev pub Language : Type 0 → Type 1
Language A = List Lexeme → A → Type 0

-- one token of which the function has this value
abbrev pub one : {A : Type 0} → (Lexeme → Option A) → Language A
one f w x = (t : Lexeme) × (w ≡ t ∷ []) × (f t ≡ Some x)

-- no token, for this value
abbrev pub nothing : {A : Type 0} → A → Language A
nothing a w x = (w ≡ []) × (a ≡ x)

-- one after the other
infixl 10 ◌>>=◌
abbrev pub ◌>>=◌ : {A B : Type 0} → Language A → (A → Language B) → Language B
(L >>= M) w y = (u : List Lexeme) × (v : List Lexeme) × (x : _) × (w ≡ u ++ v) × L u x × M x v y

infixl 10 ◌>>◌
abbrev pub ◌>>◌ : {A B : Type 0} → Language A → Language B → Language B
L >> M = L >>= (λ _. M)

abbrev pub either : {A : Type 0} → Language A → Language A → Language A
either L M w x = L w x ⊎ M w x

-- zero or more, each behind a token of this kind
abbrev pub followed : {A : Type 0} → LexemeKind → Language A → Language (List A)
followed sep L w [] = w ≡ []
followed sep L w (x ∷ xs) =
    (c : Lexeme) × (u : List Lexeme) × (v : List Lexeme) × (w ≡ c ∷ (u ++ v)) × (c.kind ≡ sep) × L u x × followed sep L v xs

-- one or more, with a token of this kind between two of them
abbrev pub separated : {A : Type 0} → LexemeKind → Language A → Language (List A)
separated sep L = L >>= (λ x. followed sep L >>= (λ xs. nothing (x ∷ xs)))
