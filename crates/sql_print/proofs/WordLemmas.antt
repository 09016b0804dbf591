-- A word is spelled as it stands, whatever kind it is of.
use Rattle.std.proofs.Common.{◌≡◌, ℕ, true, List, [], ◌∷◌, refl, arith, rules}
use Rattle.std.specs.List.{list_all}
use Rattle.std.specs.Str.{str_eq_ignore_ascii_case}
use Rattle.std.proofs.lemmas.Bool.{and_parts, cond_both}
use Rattle.sql_tree.specs.declared.lexeme.LexemeKind.{LexemeKind}
use Rattle.sql_tree.specs.declared.lexeme.LexemeKind.TheVariants as k
use Rattle.sql_tree.specs.Lexemes.{same_kind, keyword, kind_among, reserved_kinds, word_kind, is_any_word}
use Rattle.sql_tree.specs.Spelling.{spelling}

kind_any : (kinds : List LexemeKind) (s : List ℕ) → list_all is_any_word kinds ≡ true → is_any_word (kind_among kinds s) ≡ true
unfolding is_any_word same_kind
kind_any [] s h = refl
kind_any (kind ∷ kinds) s h =
    let parts = and_parts (is_any_word kind) (list_all is_any_word kinds) h in
    cond_both (str_eq_ignore_ascii_case s (keyword kind)) kind (kind_among kinds s) (λ x. is_any_word x ≡ true) (λ _. parts.0) (λ _. kind_any kinds s parts.1)

all_any : list_all is_any_word reserved_kinds ≡ true
unfolding is_any_word same_kind
all_any = refl

word_any : (s : List ℕ) → is_any_word (word_kind s) ≡ true
unfolding word_kind
word_any s = kind_any reserved_kinds s all_any

word_spelling : (kind : LexemeKind) (z : List ℕ) (value : ℕ) → is_any_word kind ≡ true → spelling (record { kind = kind; text = z; value = value }) ≡ z
unfolding is_any_word same_kind
word_spelling k.End z value h = refl
word_spelling _ z value h = first_of (search rules, grind arith)

pub word_kind_spelling : (z : List ℕ) → spelling (record { kind = word_kind z; text = z; value = 0 }) ≡ z
word_kind_spelling z = word_spelling (word_kind z) z 0 (word_any z)
