-- A word's kind and what it leaves a minus behind it to be.
use Rattle.std.proofs.Common.{◌≡◌, Bool, true, false, not, cond, ◌&&◌, ◌||◌, List, [], ◌∷◌, refl, sym, ap, ◌∙◌, ◌⊎◌, inl, inr, ⊎_elim, bytes_eq}
use Rattle.std.specs.Str.{str_eq_ignore_ascii_case, str_to_ascii_lowercase}
use Rattle.std.proofs.lemmas.Bool.{and_parts, and_from, or_from, or_cases, not-true, not_from_false, cond-true, cond-false, cases_Bool, false_from_ne_true, both_ways}
use Rattle.std.proofs.lemmas.Slice.Eq.{bytes_eq-Decides}
use Rattle.sql_tokens.specs.Lexical.{Text, inner_words, is_among}
use Rattle.sql_tree.specs.declared.lexeme.LexemeKind.{LexemeKind}
use Rattle.sql_tree.specs.declared.lexeme.LexemeKind.TheVariants as k
use Rattle.sql_tree.specs.Lexemes.{keyword, kind_among, reserved_kinds, word_kind}
use Rattle.sql_tree.specs.Spelling.{ends_operand}

-- the word is none of these
abbrev none_of : List LexemeKind → Text → Bool
none_of [] z = true
none_of (kind ∷ kinds) z = not (str_eq_ignore_ascii_case z (keyword kind)) && none_of kinds z

-- what the tokens and the grammar say of the words of these kinds
abbrev agree : List LexemeKind → Bool
agree [] = true
agree (kind ∷ kinds) = (cond (is_among inner_words (keyword kind)) (not (ends_operand kind)) (ends_operand kind)) && agree kinds

all_agree : agree reserved_kinds ≡ true
all_agree = refl

same_lower : (y z : Text) → str_eq_ignore_ascii_case y z ≡ true → str_to_ascii_lowercase y ≡ str_to_ascii_lowercase z
same_lower y z h = (bytes_eq-Decides (str_to_ascii_lowercase y) (str_to_ascii_lowercase z)).0 h

-- words that are equal but for case are among the same words
same_among : (ws : List Text) (y z : Text) → str_to_ascii_lowercase y ≡ str_to_ascii_lowercase z → is_among ws y ≡ is_among ws z
same_among [] y z h = refl
same_among (w ∷ ws) y z h = ap (λ low. bytes_eq low (str_to_ascii_lowercase w) || is_among ws y) h ∙ ap (λ b. str_eq_ignore_ascii_case z w || b) (same_among ws y z h)

-- a word that is reserved ends an operand unless it is an inner one
agree_at : (kind : LexemeKind) (z : Text) → (cond (is_among inner_words (keyword kind)) (not (ends_operand kind)) (ends_operand kind)) ≡ true →
    str_eq_ignore_ascii_case z (keyword kind) ≡ true → is_among inner_words z ≡ not (ends_operand kind)
agree_at kind z ok h = same_among inner_words z (keyword kind) (same_lower z (keyword kind) h) ∙ opposite (is_among inner_words (keyword kind)) (ends_operand kind) ok
  where
    opposite : (a b : Bool) → cond a (not b) b ≡ true → a ≡ not b
    opposite true b h = sym h
    opposite false b h = sym (ap not h)

agrees : (kinds : List LexemeKind) (z : Text) → agree kinds ≡ true → (is_among inner_words z ≡ not (ends_operand (kind_among kinds z))) ⊎ ((kind_among kinds z ≡ k.Word) × (none_of kinds z ≡ true))
agrees [] z ok = inr (refl, refl)
agrees (kind ∷ kinds) z ok = ⊎_elim yes (no (agrees kinds z (and_parts _ (agree kinds) ok).1)) (cases_Bool (str_eq_ignore_ascii_case z (keyword kind)))
  where
    parts : ((cond (is_among inner_words (keyword kind)) (not (ends_operand kind)) (ends_operand kind)) ≡ true) × (agree kinds ≡ true)
    parts = and_parts _ (agree kinds) ok

    yes : str_eq_ignore_ascii_case z (keyword kind) ≡ true → (is_among inner_words z ≡ not (ends_operand (kind_among (kind ∷ kinds) z))) ⊎ ((kind_among (kind ∷ kinds) z ≡ k.Word) × (none_of (kind ∷ kinds) z ≡ true))
    yes h = inl (agree_at kind z parts.0 h ∙ ap (λ x. not (ends_operand x)) (sym (cond-true _ kind (kind_among kinds z) h)))

    no : (is_among inner_words z ≡ not (ends_operand (kind_among kinds z))) ⊎ ((kind_among kinds z ≡ k.Word) × (none_of kinds z ≡ true)) → str_eq_ignore_ascii_case z (keyword kind) ≡ false → (is_among inner_words z ≡ not (ends_operand (kind_among (kind ∷ kinds) z))) ⊎ ((kind_among (kind ∷ kinds) z ≡ k.Word) × (none_of (kind ∷ kinds) z ≡ true))
    no rest h = let same : kind_among (kind ∷ kinds) z ≡ kind_among kinds z = cond-false _ kind (kind_among kinds z) h in
        ⊎_elim (λ e. inl (e ∙ ap (λ x. not (ends_operand x)) (sym same))) (λ e. inr (same ∙ e.0, and_from _ _ (not_from_false _ h) e.1)) rest

-- each inner word is reserved
abbrev among_kinds : Text → List LexemeKind → Bool
among_kinds w [] = false
among_kinds w (kind ∷ kinds) = str_eq_ignore_ascii_case w (keyword kind) || among_kinds w kinds

abbrev all_among : List Text → Bool
all_among [] = true
all_among (w ∷ ws) = among_kinds w reserved_kinds && all_among ws

inner_reserved : all_among inner_words ≡ true
inner_reserved = refl

not_this : (kinds : List LexemeKind) (w z : Text) → among_kinds w kinds ≡ true → none_of kinds z ≡ true → str_eq_ignore_ascii_case z w ≡ true → ⊥
not_this [] w z among none h = absurd (cc)
not_this (kind ∷ kinds) w z among none h =
    let parts = and_parts (not (str_eq_ignore_ascii_case z (keyword kind))) (none_of kinds z) none in
    let here : str_eq_ignore_ascii_case w (keyword kind) ≡ true → ⊥ = λ e.
    both_ways (str_eq_ignore_ascii_case z (keyword kind)) (not-true _ parts.0) (ap (λ low. bytes_eq low (str_to_ascii_lowercase (keyword kind))) (same_lower z w h) ∙ e) in
    ⊎_elim here (λ e. not_this kinds w z e parts.1 h) (or_cases _ _ among)

none_among : (ws : List Text) (z : Text) → all_among ws ≡ true → none_of reserved_kinds z ≡ true → is_among ws z ≡ false
none_among [] z all none = refl
none_among (w ∷ ws) z all none =
    let parts = and_parts (among_kinds w reserved_kinds) (all_among ws) all in
    or_from (str_eq_ignore_ascii_case z w) (is_among ws z) (false_from_ne_true _ (λ h. not_this reserved_kinds w z parts.0 none h)) (none_among ws z parts.1 none)

-- the words that leave a minus behind them to be a sign are those whose kind ends no operand
pub inner_word : (z : Text) → is_among inner_words z ≡ not (ends_operand (word_kind z))
unfolding word_kind
inner_word z = ⊎_elim (λ e. e) (λ e. none_among inner_words z inner_reserved e.1 ∙ sym (ap (λ x. not (ends_operand x)) e.0)) (agrees reserved_kinds z all_agree)
