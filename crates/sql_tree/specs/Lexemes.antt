-- What the grammar reads: tokens by kind, with the bytes of a word, a name or a string and the value of a number.
use Rattle.std.specs.Prelude.{ℕ, Bool, ◌&&◌, ◌||◌, if◌then◌else◌, List, [], ◌∷◌, Option, Some, None, codes}
use Rattle.std.specs.List.{list_any}
use Rattle.std.specs.Str.{str_eq_ignore_ascii_case}
use denote.Enum.Bare.{sameb}
use Rattle.sql_tree.specs.declared.expr.SqlType.{SqlType}
use Rattle.sql_tree.specs.declared.expr.SqlType.TheVariants as type
use Rattle.sql_tree.specs.contracts.lexeme.LexemeKind.{the_type}
use Rattle.sql_tree.specs.declared.lexeme.LexemeKind.{LexemeKind}
use Rattle.sql_tree.specs.declared.lexeme.LexemeKind.TheVariants as k
use Rattle.sql_tree.specs.declared.lexeme.Lexeme.{Lexeme}

-- the kind of the next token
abbrev pub kind : List Lexeme → LexemeKind
kind [] = k.End
kind (t ∷ ts) = t.kind

-- `==` on kinds
unfoldable pub same_kind : LexemeKind → LexemeKind → Bool
same_kind = sameb the_type

-- ---- words

-- a reserved word as it is printed
abbrev pub keyword : LexemeKind → List ℕ
keyword k.And = codes "AND"
keyword k.As = codes "AS"
keyword k.Between = codes "BETWEEN"
keyword k.By = codes "BY"
keyword k.Case = codes "CASE"
keyword k.Cast = codes "CAST"
keyword k.Constraint = codes "CONSTRAINT"
keyword k.Create = codes "CREATE"
keyword k.Div = codes "DIV"
keyword k.Else = codes "ELSE"
keyword k.EndWord = codes "END"
keyword k.Except = codes "EXCEPT"
keyword k.False = codes "FALSE"
keyword k.From = codes "FROM"
keyword k.Group = codes "GROUP"
keyword k.In = codes "IN"
keyword k.Is = codes "IS"
keyword k.Not = codes "NOT"
keyword k.Null = codes "NULL"
keyword k.On = codes "ON"
keyword k.Or = codes "OR"
keyword k.Select = codes "SELECT"
keyword k.Stream = codes "STREAM"
keyword k.Struct = codes "STRUCT"
keyword k.Then = codes "THEN"
keyword k.True = codes "TRUE"
keyword k.TryCast = codes "TRY_CAST"
keyword k.When = codes "WHEN"
keyword k.Where = codes "WHERE"
keyword _ = []

abbrev pub reserved_kinds : List LexemeKind
reserved_kinds =
    k.And ∷ k.As ∷ k.Between ∷ k.By ∷ k.Case ∷ k.Cast ∷ k.Constraint ∷ k.Create ∷ k.Div ∷ k.Else ∷ k.EndWord ∷ k.Except ∷ k.False ∷ k.From ∷
    k.Group ∷ k.In ∷ k.Is ∷ k.Not ∷ k.Null ∷ k.On ∷ k.Or ∷ k.Select ∷ k.Stream ∷ k.Struct ∷ k.Then ∷ k.True ∷ k.TryCast ∷ k.When ∷ k.Where ∷ []

abbrev pub kind_among : List LexemeKind → List ℕ → LexemeKind
kind_among [] word = k.Word
kind_among (kind ∷ kinds) word = if str_eq_ignore_ascii_case word (keyword kind) then kind else kind_among kinds word

-- a word is the reserved word that it spells in any case of letters, or else no reserved word
unfoldable pub word_kind : List ℕ → LexemeKind
word_kind = kind_among reserved_kinds

-- a word, reserved or not, such as an option of read_files has
unfoldable pub is_any_word : LexemeKind → Bool
is_any_word kind = same_kind kind k.Word || list_any (same_kind kind) reserved_kinds

-- a word that is not reserved and reads so in any case of letters, such as `coalesce`
abbrev pub is_bare : List ℕ → Lexeme → Bool
is_bare word t = same_kind t.kind k.Word && str_eq_ignore_ascii_case t.text word

-- the type that a word names, in any case of letters
abbrev pub type_named : List ℕ → Option SqlType
type_named word =
    if str_eq_ignore_ascii_case word (codes "BOOLEAN") then Some type.Bool
    else (if str_eq_ignore_ascii_case word (codes "INT") || str_eq_ignore_ascii_case word (codes "INTEGER") then Some type.Int
    else (if str_eq_ignore_ascii_case word (codes "BIGINT") || str_eq_ignore_ascii_case word (codes "LONG") then Some type.Big
    else (if str_eq_ignore_ascii_case word (codes "STRING") then Some type.Str else None)))

abbrev pub type_of : Lexeme → Option SqlType
type_of t = if same_kind t.kind k.Word then type_named t.text else None
