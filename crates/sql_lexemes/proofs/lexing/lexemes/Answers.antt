use Rattle.std.proofs.Common.{◌≡◌, ℕ, ◌≤◌, ◌<◌, List, [], ◌∷◌, ◌++◌, true, length, map, get_or, sym, ◌∙◌, subst, append-nil, arith}
use Rattle.std.specs.List.{list_all}
use Rattle.sql_tokens.specs.declared.token.Token as tokens
use Rattle.sql_tokens.specs.Lexical.{Text}
use Rattle.sql_tokens.specs.Slices.{IsSliced}
use Rattle.sql_tree.specs.declared.lexeme.Lexeme.{Lexeme}
use Rattle.sql_lexemes.specs.Lexing.{lexeme_of}
use Rattle.sql_lexemes.specs.Spellable.{is_spellable}
use Rattle.sql_lexemes.proofs.Slicing.{sliced_head}
use Rattle.sql_lexemes.proofs.Spelled.{spellable_all}
use Rattle.sql_lexemes.proofs.lexing.lexemes.Goals as goal

head_within : (text : Text) (from end : ℕ) (ts : List tokens.Token) (d : tokens.Token) → 1 ≤ length ts → IsSliced text from end ts → (get_or ts 0 d).end ≤ end
head_within text from end [] d some h = absurd (omega arith)
head_within text from end (t ∷ ts) d some h = (sliced_head text from end t ts h).0

done : (text : Text) (found all : List Lexeme) (ts : List tokens.Token) → length ts < 1 → found ++ map (lexeme_of text) ts ≡ all → found ≡ all
done text found all [] none h = sym (append-nil found) ∙ h
done text found all (t ∷ ts) none h = absurd (omega arith)

pub lexeme_of-requires-clause-within : goal.lexeme_of-requires-clause-within
lexeme_of-requires-clause-within c =
    let s = c.loop-tokens in
    head_within c.args.text.now s.invariant.1.0 (length c.args.text.now) s.tokens.now _ c.in-len1-up.len_at_least s.invariant.1.1

pub returns-clause-spellable : goal.returns-clause-spellable
returns-clause-spellable c =
    let s = c.loop-tokens in
    subst (λ l. list_all is_spellable l ≡ true) (sym (done c.args.text.now s.found (map (lexeme_of c.args.text.now) c.args.tokens.now) s.tokens.now c.in_default.len_below s.invariant.0))
    (spellable_all c.args.text.now 0 c.args.tokens.now c.requires.utf8 c.requires.sliced)
