-- The lexemes that a text can have.
use Rattle.std.specs.Prelude.{ℕ, ◌^◌, ◌-◌, Bool, true, false, not, ◌&&◌, ◌||◌, if◌then◌else◌, ◌==◌, nat_le, List, [], ◌∷◌, bytes_eq}
use Rattle.std.specs.List.{list_all}
use Rattle.std.specs.Str.{is_utf8}
use Rattle.sql_tokens.specs.declared.lexical.Class.TheVariants as class
use Rattle.sql_tokens.specs.Lexical.{Text, is_in}
use Rattle.sql_tree.specs.declared.lexeme.LexemeKind.{LexemeKind}
use Rattle.sql_tree.specs.declared.lexeme.LexemeKind.TheVariants as k
use Rattle.sql_tree.specs.declared.lexeme.Lexeme.{Lexeme}
use Rattle.sql_tree.specs.Lexemes.{same_kind, word_kind, is_any_word}
use Rattle.sql_tree.specs.Spelling.{is_word, ends_operand}

-- some characters other than a backquote and those below U+0020
abbrev pub is_quotable : Text → Bool
is_quotable [] = false
is_quotable (b ∷ z) = list_all (is_in class.Quoted) (b ∷ z) && is_utf8 (b ∷ z)

-- one lexeme for itself: a word is of its kind, and a symbol has no text
abbrev pub is_spellable : Lexeme → Bool
is_spellable t = is_spelled t.kind t.text t.value
  where
    is_spelled : LexemeKind → Text → ℕ → Bool
    is_spelled k.End text value = false
    is_spelled k.Quoted text value = is_quotable text && value == 0
    is_spelled k.Str text value = is_utf8 text && value == 0
    is_spelled k.Number text value = bytes_eq text [] && nat_le value (2 ^ 63)
    is_spelled kind text value = (if is_any_word kind then is_word text && same_kind (word_kind text) kind else bytes_eq text []) && value == 0

-- 9223372036854775808 stands behind a minus alone that no operand stands before
abbrev pub is_within_limit : LexemeKind → LexemeKind → Lexeme → Bool
is_within_limit second first t = not (same_kind t.kind k.Number) || nat_le t.value (2 ^ 63 - 1) || (same_kind first k.Minus && not (ends_operand second))

-- lexemes behind two of these kinds
abbrev pub are_spellable_behind : LexemeKind → LexemeKind → List Lexeme → Bool
are_spellable_behind second first [] = true
are_spellable_behind second first (t ∷ ts) = is_spellable t && is_within_limit second first t && are_spellable_behind first t.kind ts

unfoldable pub are_spellable : List Lexeme → Bool
are_spellable = are_spellable_behind k.End k.End
