-- The columns of a schema.
use Rattle.std.specs.Prelude.{◌≡◌, ℕ, ◌==◌, nat_le, ◌≤◌, ◌<◌, List, [], ◌∷◌, ◌++◌, map, length, codes, Bool, true, not, ◌&&◌, ◌||◌, if◌then◌else◌, Option, Some, None, option_map, option_and_then, Ok, Err}
use Rattle.std.specs.List.{list_any}
use Rattle.sql_tokens.specs.declared.error.SqlRefusal.TheVariants.{TextTooLong}
use Rattle.sql_tokens.specs.declared.lexical.Context.TheVariants.{Open}
use Rattle.sql_tokens.specs.Scanning.{Answer, Scans, max_text}
use Rattle.sql_tree.specs.declared.expr.SqlType.{SqlType}
use Rattle.sql_tree.specs.declared.expr.SqlType.TheVariants as type
use Rattle.sql_tree.specs.declared.lexeme.LexemeKind.TheVariants as k
use Rattle.sql_tree.specs.declared.lexeme.Lexeme.{Lexeme}
use Rattle.sql_tree.specs.declared.statement.OptionValue.{OptionValue}
use Rattle.sql_tree.specs.declared.statement.OptionValue.TheVariants as value
use Rattle.sql_tree.specs.declared.statement.SqlOption.{SqlOption}
use Rattle.sql_tree.specs.Lexemes.{same_kind, type_of}
use Rattle.sql_lexemes.specs.Lexing.{lexeme_of}
use Rattle.value_core.specs.declared.schema.Column.{Column}
use Rattle.value_core.specs.declared.value.Kind.{Kind}
use Rattle.value_core.specs.declared.value.Kind.TheVariants as kind
use Rattle.value_core.specs.NameFold.{same_name}
use Rattle.file_options.specs.Options.{Word, set_to}

-- ---- the tokens of a text

-- a text of more than 1 MiB has none, and any other one, which is UTF-8 as each `Text` is, has those of its scan from the front
pub data IsTokenized (text : List ℕ) : Answer → Type 0 where
  too_long : max_text < length text → IsTokenized text (Err TextTooLong)
  scanned : {answer : Answer} → length text ≤ max_text → Scans Open 0 text [] answer → IsTokenized text answer

abbrev pub lexemes_by : List ℕ → Answer → Option (List Lexeme)
lexemes_by text (Ok tokens) = Some (map (lexeme_of text) tokens)
lexemes_by text (Err refusal) = None

-- the tokens of a text as the grammar reads them; nothing where something in it is no token
pub record HasLexemes (text : List ℕ) (lexemes : Option (List Lexeme)) : Type 0 where
  pub scan : Answer
  pub scanned : IsTokenized text scan
  pub read : lexemes ≡ lexemes_by text scan

-- ---- name type { "," name type }

abbrev pub column : Word → Kind → Column
column name held = record { name = name; kind = held }

abbrev pub kind_by : SqlType → Kind
kind_by type.Bool = kind.Bool
kind_by type.Int = kind.Int
kind_by type.Big = kind.Big
kind_by type.Str = kind.Str

-- a word that is not reserved, or a name in backquotes
abbrev pub is_name : Lexeme → Bool
is_name t = same_kind t.kind k.Word || same_kind t.kind k.Quoted

-- BOOLEAN, INT or INTEGER, BIGINT or LONG, STRING, in any case of letters
abbrev pub kind_of : Lexeme → Option Kind
kind_of t = option_map kind_by (type_of t)

abbrev pub column_of : Lexeme → Lexeme → Option Column
column_of name held = if is_name name then option_map (column name.text) (kind_of held) else None

-- a column before others, where they are there
abbrev pub onto : Option Column → Option (List Column) → Option (List Column)
onto first others = option_and_then (λ found. option_map (λ more. found ∷ more) others) first

abbrev pub listed : List Lexeme → Option (List Column)
listed [] = None
listed (name ∷ []) = None
listed (name ∷ held ∷ []) = onto (column_of name held) (Some [])
listed (name ∷ held ∷ comma ∷ more) = if same_kind comma.kind k.Comma then onto (column_of name held) (listed more) else None

-- ---- names

-- whether a column has this name, but for the case of ASCII letters
abbrev pub has_name : List Column → Word → Bool
has_name columns name = list_any (λ found. same_name found.name name) columns

abbrev pub are_distinct : List Column → Bool
are_distinct [] = true
are_distinct (first ∷ others) = not (has_name others first.name) && are_distinct others

-- distinct names, and at most 256
abbrev pub are_sound : List Column → Bool
are_sound columns = nat_le (length columns) 256 && are_distinct columns

abbrev pub if_sound : List Column → Option (List Column)
if_sound columns = if are_sound columns then Some columns else None

abbrev pub columns_of : List Lexeme → Option (List Column)
columns_of lexemes = option_and_then if_sound (listed lexemes)

-- ---- the schema

-- the columns that a text lists, if it does
pub record Lists (text : List ℕ) (columns : Option (List Column)) : Type 0 where
  pub lexemes : Option (List Lexeme)
  pub lexed : HasLexemes text lexemes
  pub listed : columns ≡ option_and_then columns_of lexemes

abbrev pub SchemaBy : Option OptionValue → Option (List Column) → Type 0
SchemaBy None columns = columns ≡ None
SchemaBy (Some (value.Bool truth)) columns = columns ≡ None
SchemaBy (Some (value.Str text)) columns = Lists text columns

-- the columns of the option `schema`; nothing where it is missing or no string, or lists none
abbrev pub SchemaOf : List SqlOption → Option (List Column) → Type 0
SchemaOf options columns = SchemaBy (set_to (codes "schema") options) columns

-- ---- the rescued column

-- the columns and then a STRING column of the rescued name, which is not empty and no column's name
abbrev pub with_rescued : List Column → Option OptionValue → Option (List Column)
with_rescued columns None = Some columns
with_rescued columns (Some (value.Bool truth)) = None
with_rescued columns (Some (value.Str name)) = if length name == 0 || has_name columns name then None else Some (columns ++ column name kind.Str ∷ [])
