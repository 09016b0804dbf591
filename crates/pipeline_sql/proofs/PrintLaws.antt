-- The canonical print of what the grammar gives of a text's tokens is read as it.
use Rattle.std.proofs.Common.{◌≡◌, ℕ, ◌≤◌, true, List, [], length, map, Result, Ok, Err, refl, sym, ap, ◌∙◌, subst, ◌⊎◌, ⊎_elim}
use Rattle.std.specs.List.{list_all}
use Rattle.std.proofs.lemmas.Bool.{cases_lt}
use Rattle.sql_tokens.specs.declared.token.Token as tokens
use Rattle.sql_tokens.specs.declared.lexical.Context.TheVariants.{Open}
use Rattle.sql_tokens.specs.Scanning.{Answer, Scans, max_text}
use Rattle.sql_tokens.proofs.Once.{scans_once}
use Rattle.sql_tree.specs.declared.lexeme.Lexeme.{Lexeme}
use Rattle.sql_tree.specs.declared.statement.Statement.{Statement}
use Rattle.sql_tree.specs.Print.{print}
use Rattle.sql_tree.specs.Spelling.{spelled}
use Rattle.sql_lexemes.specs.Lexing.{lexeme_of}
use Rattle.sql_lexemes.specs.Spellable.{is_spellable, are_spellable}
use Rattle.sql_lexemes.proofs.Readback.{reads_back}
use Rattle.sql_lexemes.proofs.Spelled.{spelled_utf8}
use Rattle.sql_statements.specs.declared.error.Refusal.{Refusal}
use Rattle.sql_statements.specs.declared.error.Refusal.TheVariants as refused
use Rattle.sql_statements.specs.Pipelines.{IsPipeline, IsShortPipeline, IsTooLong, whole}
use Rattle.sql_statements.proofs.Prints.{pipeline_reads, prints_apart}
use Rattle.sql_statements.proofs.Answers.{IsTrueOf, whole_true, wide, one_pipeline}
use Rattle.pipeline_sql.specs.Read.{Text, IsScanned, lexemes_of, IsRead, print_text, IsWithinLimits}
use Rattle.pipeline_sql.proofs.SafeStatements.{print_spellable}
use Rattle.pipeline_sql.proofs.TextLexemes.{text_spellable}

-- a pipeline of which no token goes past the limit is within the limit
short_by : (ts : List Lexeme) (p : List Statement) (r : Result (List Statement) Refusal) → IsPipeline ts p → ((at : ℕ) → IsTooLong ts at → ⊥) → IsTrueOf ts r → IsShortPipeline ts p
short_by ts p (Ok q) is within h = subst (IsShortPipeline ts) (one_pipeline ts q p (wide ts q h) is) h
short_by ts p (Err refused.Memory) is within h = absurd h
short_by ts p (Err (refused.Unexpected at)) is within h = absurd (h.not_whole p is)
short_by ts p (Err (refused.TooLong at)) is within h = absurd (within at h)

pub print_reads : (ts : List Lexeme) (p : List Statement) → list_all is_spellable ts ≡ true → IsPipeline ts p → IsWithinLimits (print_text p) → IsRead (print_text p) p
print_reads ts p spells is within =
    let spellable = print_spellable ts p spells is in
    let back = reads_back (print p) spellable in
    let scanned : IsScanned (print_text p) (Ok back.0) = record { short = low; utf8 = spelled_utf8 (print p) spellable; scans = back.1 } in
    record { found = back.0; scanned = scanned; derived = subst (λ z. IsShortPipeline z p) (sym back.2) (short scanned back.2) }
  where
    low : length (print_text p) ≤ max_text
    low = ⊎_elim (λ long. absurd (within.0 long)) (λ le. le) (cases_lt max_text (length (print_text p)))

    short : {found : List tokens.Token} → IsScanned (print_text p) (Ok found) → lexemes_of (print_text p) found ≡ print p → IsShortPipeline (print p) p
    short {found} scanned same =
        short_by (print p) p (whole (print p)) (pipeline_reads ts p is)
        (λ at long. within.1 _ (record { found = found; scanned = scanned; place = at; caused = subst (λ z. IsTooLong z at) (sym same) long; begins = refl }))
        (whole_true (print p))

same_tokens : (found other : List tokens.Token) → ◌≡◌ {A = Answer} (Ok found) (Ok other) → found ≡ other
same_tokens found other h = cc

-- two lists of lexemes with one text are one
one_text : (ts us : List Lexeme) → are_spellable ts ≡ true → are_spellable us ≡ true → spelled ts ≡ spelled us → ts ≡ us
one_text ts us g h same =
    let a = reads_back ts g in
    let b = reads_back us h in
    let scans : Scans Open 0 (spelled ts) [] (Ok b.0) = subst (λ z. Scans Open 0 z [] (Ok b.0)) (sym same) b.1 in
    let found = same_tokens a.0 b.0 (scans_once a.1 scans) in
    sym a.2 ∙ ap (λ f. map (lexeme_of (spelled ts)) f) found ∙ ap (λ z. map (lexeme_of z) b.0) same ∙ b.2

pub texts_apart : (v w : List Lexeme) (p q : List Statement) → list_all is_spellable v ≡ true → list_all is_spellable w ≡ true → IsPipeline v p → IsPipeline w q → print_text p ≡ print_text q → p ≡ q
texts_apart v w p q s t g h same = prints_apart v w p q g h (one_text (print p) (print q) (print_spellable v p s g) (print_spellable w q t h) same)

-- ---- the same of texts

read_spellable : (text : Text) (p : List Statement) → (h : IsRead text p) → list_all is_spellable (lexemes_of text h.found) ≡ true
read_spellable text p h = text_spellable text h.found h.scanned

read_wide : (text : Text) (p : List Statement) → (h : IsRead text p) → IsPipeline (lexemes_of text h.found) p
read_wide text p h = wide (lexemes_of text h.found) p h.derived

pub read_again : (text : Text) (p : List Statement) → IsRead text p → IsWithinLimits (print_text p) → IsRead (print_text p) p
read_again text p h within = print_reads (lexemes_of text h.found) p (read_spellable text p h) (read_wide text p h) within

pub readings_apart : (text other : Text) (p q : List Statement) → IsRead text p → IsRead other q → print_text p ≡ print_text q → p ≡ q
readings_apart text other p q g h same =
    texts_apart (lexemes_of text g.found) (lexemes_of other h.found) p q (read_spellable text p g) (read_spellable other q h) (read_wide text p g) (read_wide other q h) same
