use Rattle.std.proofs.Common.{◌≡◌, ℕ, ◌++◌, map, length}
use Rattle.sql_tokens.specs.Slices.{IsSliced}
use Rattle.sql_lexemes.specs.Lexing.{lexeme_of}
use Rattle.sql_lexemes.proofs.lexing.lexemes.Given as goal

abbrev pub invariant-loop-tokens : goal.invariant-loop-tokens
invariant-loop-tokens l = (l.found ++ map (lexeme_of l.text) l.tokens ≡ map (lexeme_of l.text) l.initial.tokens) × ((from : ℕ) × IsSliced l.text from (length l.text) l.tokens)

abbrev pub decreases-loop-tokens : goal.decreases-loop-tokens
decreases-loop-tokens l = length l.tokens
