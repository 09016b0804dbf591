-- Some of the statements that are read of a text are told apart by their print.
use Rattle.std.proofs.Common.{◌≡◌, inl, ℕ, zero, suc, Bool, true, false, List, [], ◌∷◌, ◌++◌, refl, subst}
use Rattle.std.specs.Prelude.{◌&&◌, slice_get}
use Rattle.std.specs.List.{cons_option, list_all}
use Rattle.sql_tree.specs.declared.lexeme.Lexeme.{Lexeme}
use Rattle.sql_tree.specs.declared.lexeme.LexemeKind.TheVariants as k
use Rattle.sql_tree.specs.declared.statement.Statement.{Statement}
use Rattle.sql_tree.specs.Lexemes.{is_any_word, same_kind}
use Rattle.sql_tree.specs.Print.{token}
use Rattle.sql_print.specs.Placed.{statements_at}
use Rattle.sql_lexemes.specs.Spellable.{is_spellable}
use Rattle.sql_expr.specs.Grammar.{IsExpr}
use Rattle.sql_statements.specs.Grammar.{more_statements, statement_of}
use Rattle.sql_statements.specs.Pipelines.{IsPipeline, IsShortPipeline}
use Rattle.pipeline_sql.specs.Read.{lexemes_of, print_text}
use Rattle.pipeline_sql.proofs.TextLexemes.{text_spellable}
use Rattle.plan_texts.specs.Readings.{AreRead}

-- tokens that a text can have
abbrev Spells : List Lexeme → Type 0
Spells tokens = list_all is_spellable tokens ≡ true

both_true : (a b : Bool) → (a && b) ≡ true → (a ≡ true) × (b ≡ true)
both_true true b e = (refl, e)
both_true false b e = absurd (cc)

true_both : (a b : Bool) → a ≡ true → b ≡ true → (a && b) ≡ true
true_both true b e f = f
true_both false b e f = absurd (cc)

spells_parts : (u v : List Lexeme) → Spells (u ++ v) → Spells u × Spells v
spells_parts [] v e = (refl, e)
spells_parts (t ∷ u) v e =
    let here = both_true (is_spellable t) (list_all is_spellable (u ++ v)) e in
    let rest = spells_parts u v here.1 in
    (true_both (is_spellable t) (list_all is_spellable u) here.0 rest.0, rest.1)

spells_both : (u v : List Lexeme) → Spells u → Spells v → Spells (u ++ v)
spells_both [] v e f = f
spells_both (t ∷ u) v e f =
    let here = both_true (is_spellable t) (list_all is_spellable u) e in
    true_both (is_spellable t) (list_all is_spellable (u ++ v)) here.0 (spells_both u v here.1 f)

-- the grammar gives the statement of some tokens that a text can have
record IsGiven (statement : Statement) : Type 0 where
  tokens : List Lexeme
  spells : Spells tokens
  gives : statement_of IsExpr tokens statement

abbrev AreGiven : List Statement → Type 0
AreGiven [] = Unit {0}
AreGiven (first ∷ more) = IsGiven first × AreGiven more

-- ---- each statement of a pipeline is given

more_given : (w : List Lexeme) (p : List Statement) → Spells w → more_statements IsExpr w p → AreGiven p
more_given w [] spells h = tt
more_given w (s ∷ more) spells (c, u, v, is, semicolon, gives, rest) =
    let all : Spells (c ∷ (u ++ v)) = subst Spells is spells in
    let parts = spells_parts u v (both_true (is_spellable c) (list_all is_spellable (u ++ v)) all).1 in
    (record { tokens = u; spells = parts.0; gives = gives }, more_given v more parts.1 rest)

all_given : (w : List Lexeme) (p : List Statement) → Spells w → IsPipeline w p → AreGiven p
all_given w [] spells h = tt
all_given w (s ∷ more) spells (u, v, is, gives, rest) =
    let parts = spells_parts u v (subst Spells is spells) in
    (record { tokens = u; spells = parts.0; gives = gives }, more_given v more parts.1 rest)

-- ---- statements that are each given are a pipeline

semicolon_spells : is_spellable (token k.Semicolon) ≡ true
unfolding is_any_word same_kind
semicolon_spells = refl

record IsMore (p : List Statement) : Type 0 where
  tokens : List Lexeme
  spells : Spells tokens
  is_more : more_statements IsExpr tokens p

given_more : (p : List Statement) → AreGiven p → IsMore p
given_more [] given = record { tokens = []; spells = refl; is_more = inl refl }
given_more (s ∷ more) given =
    let rest = given_more more given.1 in
    record {
      tokens = token k.Semicolon ∷ (given.0.tokens ++ rest.tokens);
      spells = true_both (is_spellable (token k.Semicolon)) (list_all is_spellable (given.0.tokens ++ rest.tokens)) semicolon_spells (spells_both given.0.tokens rest.tokens given.0.spells rest.spells);
      is_more = (token k.Semicolon, given.0.tokens, rest.tokens, refl, refl, given.0.gives, rest.is_more);
    }

record IsWhole (p : List Statement) : Type 0 where
  tokens : List Lexeme
  spells : Spells tokens
  is_pipeline : IsPipeline tokens p

given_whole : (p : List Statement) → AreGiven p → IsWhole p
given_whole [] given = record { tokens = []; spells = refl; is_pipeline = refl }
given_whole (s ∷ more) given =
    let rest = given_more more given.1 in
    record {
      tokens = given.0.tokens ++ rest.tokens;
      spells = spells_both given.0.tokens rest.tokens given.0.spells rest.spells;
      is_pipeline = (given.0.tokens, rest.tokens, refl, given.0.gives, rest.is_more);
    }

-- ---- some of them

given_at : (p : List Statement) (place : ℕ) → AreGiven p → (more : List Statement) → AreGiven more → AreGiven (cons_option (slice_get p place) more)
given_at [] place given more rest = rest
given_at (s ∷ p) zero given more rest = (given.0, rest)
given_at (s ∷ p) (suc place) given more rest = given_at p place given.1 more rest

some_given : (p : List Statement) (places : List ℕ) → AreGiven p → AreGiven (statements_at p places)
some_given p [] given = tt
some_given p (place ∷ more) given = given_at p place given (statements_at p more) (some_given p more given)

-- ---- what is read of a text

-- within the limit of expressions a pipeline is one without it
abbrev pub IsWider : Type 0
IsWider = (tokens : List Lexeme) (p : List Statement) → IsShortPipeline tokens p → IsPipeline tokens p

-- no two lists of statements that the grammar gives have one print
abbrev pub ArePrintedApart : Type 0
ArePrintedApart = (v w : List Lexeme) (p q : List Statement) → list_all is_spellable v ≡ true → list_all is_spellable w ≡ true → IsPipeline v p → IsPipeline w q → print_text p ≡ print_text q → p ≡ q

read_given : IsWider → (statements : List Statement) → AreRead statements → AreGiven statements
read_given wider statements are =
    let tokens = lexemes_of are.text are.is_read.found in
    all_given tokens statements (text_spellable are.text are.is_read.found are.is_read.scanned) (wider tokens statements are.is_read.derived)

pub parts_apart : IsWider → ArePrintedApart → (first second : List Statement) (some others : List ℕ) → AreRead first → AreRead second → print_text (statements_at first some) ≡ print_text (statements_at second others) → statements_at first some ≡ statements_at second others
parts_apart wider apart first second some others a b same =
    let one = given_whole (statements_at first some) (some_given first some (read_given wider first a)) in
    let two = given_whole (statements_at second others) (some_given second others (read_given wider second b)) in
    apart one.tokens two.tokens (statements_at first some) (statements_at second others) one.spells two.spells one.is_pipeline two.is_pipeline same
