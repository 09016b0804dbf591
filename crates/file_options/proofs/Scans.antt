-- What the scan of a text says of its tokens, and that it is one.
use Rattle.std.proofs.Common.{◌≡◌, ◌≢◌, ℕ, ◌<◌, ◌≤◌, List, [], length, Option, Some, None, Ok, Err, refl, sym, ap, ◌∙◌, subst, arith, ⊎_elim, IsUtf8}
use Rattle.std.specs.Prelude.{option_and_then}
use Rattle.std.proofs.lemmas.Bool.{cases_lt}
use Rattle.sql_tokens.specs.declared.lexical.Context.TheVariants.{Open}
use Rattle.sql_tokens.specs.declared.error.SqlRefusal.{SqlRefusal}
use Rattle.sql_tokens.specs.declared.error.SqlRefusal.TheVariants.{Memory, TextTooLong}
use Rattle.sql_tokens.specs.Lexical.{Text}
use Rattle.sql_tokens.specs.Scanning.{Answer, Scans, max_text}
use Rattle.sql_tree.specs.declared.lexeme.Lexeme.{Lexeme}
use Rattle.sql_tree.specs.declared.statement.OptionValue.{OptionValue}
use Rattle.sql_tree.specs.declared.statement.OptionValue.TheVariants as value
use Rattle.sql_tree.specs.declared.statement.SqlOption.{SqlOption}
use Rattle.value_core.specs.declared.cursor.Format.{Format}
use Rattle.value_core.specs.declared.schema.Column.{Column}
use Rattle.file_options.specs.declared.files.FilesRead.{FilesRead}
use Rattle.file_options.specs.Schemas.{IsTokenized, too_long, scanned, HasLexemes, lexemes_by, columns_of, SchemaBy}
use Rattle.file_options.specs.Rules.{By, Ends, ended_by}

pub scan_of : (text : Text) (r : Answer) → (max_text < length text → r ≡ Err TextTooLong) →
    (length text ≤ max_text → IsUtf8 text → r ≢ Err Memory → Scans Open 0 text [] r) → IsUtf8 text → r ≢ Err Memory → IsTokenized text r
scan_of text r long scans utf8 some =
    ⊎_elim (λ past. subst (IsTokenized text) (sym (long past)) (too_long past)) (λ short. scanned short (scans short utf8 some)) (cases_lt max_text (length text))

pub not_memory : (e : SqlRefusal) → (e ≡ Memory → ⊥) → ◌≢◌ {A = Answer} (Err e) (Err Memory)
not_memory e other same = let here : e ≡ Memory = cc in other here

-- ---- one answer

abbrev pub IsOneScan : Type 0
IsOneScan = (text : Text) (r s : Answer) → Scans Open 0 text [] r → Scans Open 0 text [] s → r ≡ s

scan_once : IsOneScan → (text : Text) {r s : Answer} → IsTokenized text r → IsTokenized text s → r ≡ s
scan_once one text (too_long past) (too_long later) = refl
scan_once one text (too_long past) (scanned short scans) = absurd (omega arith)
scan_once one text (scanned short scans) (too_long past) = absurd (omega arith)
scan_once one text {r = r} {s = s} (scanned short scans) (scanned other again) = one text r s scans again

lexemes_once : IsOneScan → (text : Text) (a b : Option (List Lexeme)) → HasLexemes text a → HasLexemes text b → a ≡ b
lexemes_once one text a b f g = f.read ∙ (ap (lexemes_by text) (scan_once one text f.scanned g.scanned) ∙ sym g.read)

schema_once : IsOneScan → (set : Option OptionValue) (a b : Option (List Column)) → SchemaBy set a → SchemaBy set b → a ≡ b
schema_once one None a b f g = f ∙ sym g
schema_once one (Some (value.Bool truth)) a b f g = f ∙ sym g
schema_once one (Some (value.Str text)) a b f g =
    f.listed ∙ (ap (option_and_then columns_of) (lexemes_once one text f.lexemes g.lexemes f.lexed g.lexed) ∙ sym g.listed)

pub ends_once : IsOneScan → (options : List SqlOption) (begun : By (List ℕ × Format)) (a b : By FilesRead) → Ends options begun a → Ends options begun b → a ≡ b
ends_once one options (Err word) a b f g = f ∙ sym g
ends_once one options (Ok begun) a b f g =
    f.2 ∙ (ap (λ schema. ended_by begun.0 begun.1 schema options) (schema_once one _ f.0 g.0 f.1 g.1) ∙ sym g.2)
