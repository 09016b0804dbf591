-- The canonical print of a tree, as lexemes. Each operator, test and NOT stands in parentheses.
use Rattle.std.specs.Prelude.{ℕ, suc, ℤ, pos, negsuc, Bool, if◌then◌else◌, List, [], ◌∷◌, ◌++◌, map, Option, Some, None, codes}
use Rattle.sql_tree.specs.declared.expr.SqlOp.{SqlOp}
use Rattle.sql_tree.specs.declared.expr.SqlOp.TheVariants as op
use Rattle.sql_tree.specs.declared.expr.SqlType.{SqlType}
use Rattle.sql_tree.specs.declared.expr.SqlType.TheVariants as type
use Rattle.sql_tree.specs.declared.expr.SqlExpr.{SqlExpr, SqlExpr-F, fold-SqlExpr}
use Rattle.sql_tree.specs.declared.expr.SqlArm.{SqlArm, fold-SqlArm}
use Rattle.sql_tree.specs.declared.expr.SqlExpr.TheOpen as layer
use Rattle.sql_tree.specs.declared.expr.SqlExpr.TheOpen.{SqlArm-F}
use Rattle.sql_tree.specs.declared.statement.Statement.{Statement}
use Rattle.sql_tree.specs.declared.statement.Statement.TheVariants as statement
use Rattle.sql_tree.specs.declared.statement.SqlAction.{SqlAction}
use Rattle.sql_tree.specs.declared.statement.SqlAction.TheVariants as action
use Rattle.sql_tree.specs.declared.statement.SqlItem.{SqlItem}
use Rattle.sql_tree.specs.declared.statement.SqlItem.TheVariants as item
use Rattle.sql_tree.specs.declared.statement.Select.{Select}
use Rattle.sql_tree.specs.declared.statement.Out.{Out}
use Rattle.sql_tree.specs.declared.statement.Out.TheVariants as out
use Rattle.sql_tree.specs.declared.statement.SqlOrigin.{SqlOrigin}
use Rattle.sql_tree.specs.declared.statement.SqlOrigin.TheVariants as origin
use Rattle.sql_tree.specs.declared.statement.OptionValue.{OptionValue}
use Rattle.sql_tree.specs.declared.statement.OptionValue.TheVariants as option
use Rattle.sql_tree.specs.declared.statement.SqlOption.{SqlOption}
use Rattle.sql_tree.specs.declared.statement.SqlSequence.{SqlSequence}
use Rattle.sql_tree.specs.declared.statement.SqlSequence.TheVariants as sequence
use Rattle.sql_tree.specs.declared.statement.SqlSome.{SqlSome}
use Rattle.sql_tree.specs.declared.statement.SqlSome.TheVariants as some
use Rattle.sql_tree.specs.declared.statement.CdcTree.{CdcTree}
use Rattle.sql_tree.specs.declared.lexeme.LexemeKind.{LexemeKind}
use Rattle.sql_tree.specs.declared.lexeme.LexemeKind.TheVariants as k
use Rattle.sql_tree.specs.declared.lexeme.Lexeme.{Lexeme}
use Rattle.sql_tree.specs.Lexemes.{kind, same_kind, keyword, word_kind}
use Rattle.sql_tree.specs.Spelling.{is_bare_name}

abbrev pub Print : Type 0
Print = List Lexeme

-- ---- single lexemes

-- a symbol or a reserved word
abbrev pub token : LexemeKind → Lexeme
token kind = record { kind = kind; text = keyword kind; value = 0 }

-- a word that is not reserved, as it is spelled
abbrev pub word : List ℕ → Lexeme
word text = record { kind = k.Word; text = text; value = 0 }

abbrev pub numeral : ℕ → Lexeme
numeral value = record { kind = k.Number; text = []; value = value }

abbrev pub string : List ℕ → Lexeme
string text = record { kind = k.Str; text = text; value = 0 }

-- a name is bare where it can be, and else in backquotes
abbrev pub name : List ℕ → Lexeme
name text = record { kind = if is_bare_name text then k.Word else k.Quoted; text = text; value = 0 }

-- the word of an option as it stands, reserved or not
abbrev pub option_word : List ℕ → Lexeme
option_word text = record { kind = word_kind text; text = text; value = 0 }

abbrev pub operator : SqlOp → LexemeKind
operator op.Or = k.Or
operator op.And = k.And
operator op.Eq = k.Eq
operator op.Ne = k.Ne
operator op.Lt = k.Lt
operator op.Le = k.Le
operator op.Gt = k.Gt
operator op.Ge = k.Ge
operator op.Add = k.Plus
operator op.Sub = k.Minus
operator op.Concat = k.Concat
operator op.Mul = k.Star
operator op.Div = k.Div
operator op.Rem = k.Percent

abbrev pub type_word : SqlType → Lexeme
type_word type.Bool = word (codes "BOOLEAN")
type_word type.Int = word (codes "INT")
type_word type.Big = word (codes "BIGINT")
type_word type.Str = word (codes "STRING")

-- ---- lists

abbrev pub in_parens : Print → Print
in_parens ts = token k.LParen ∷ ts ++ token k.RParen ∷ []

-- with a comma between two of them
abbrev pub separated : List Print → Print
separated [] = []
separated (ts ∷ []) = ts
separated (ts ∷ us ∷ rest) = ts ++ token k.Comma ∷ separated (us ∷ rest)

abbrev pub all_of : List Print → Print
all_of [] = []
all_of (ts ∷ rest) = ts ++ all_of rest

abbrev pub one_name : List ℕ → Print
one_name text = name text ∷ []

-- "(" names ")"
abbrev pub names : List (List ℕ) → Print
names list = in_parens (separated (map one_name list))

-- a clause that the text has or leaves out
abbrev pub clause : Print → Option Print → Print
clause front None = []
clause front (Some ts) = front ++ ts

abbrev pub if_some : {A : Type 0} → (A → Print) → Option A → Print
if_some print None = []
if_some print (Some x) = print x

-- ---- expressions

-- the digits, behind a minus where the number is negative
abbrev pub literal : ℤ → Print
literal (pos n) = numeral n ∷ []
literal (negsuc n) = token k.Minus ∷ numeral (suc n) ∷ []

-- A literal that is not negative stands in parentheses of its own behind a minus. No other print begins with a number.
abbrev pub operand : Print → Print
operand ts = if same_kind (kind ts) k.Number then in_parens ts else ts

abbrev pub not_if : Bool → Print
not_if negated = if negated then token k.Not ∷ [] else []

-- one level, with the parts printed
abbrev pub print_layer : SqlExpr-F Print Print → Print
print_layer (layer.Number n) = literal n
print_layer (layer.Str s) = string s ∷ []
print_layer (layer.Bool b) = token (if b then k.True else k.False) ∷ []
print_layer layer.Null = token k.Null ∷ []
print_layer (layer.Name s) = name s ∷ []
print_layer (layer.Neg x) = in_parens (token k.Minus ∷ operand x)
print_layer (layer.Not x) = in_parens (token k.Not ∷ x)
print_layer (layer.Binary op x y) = in_parens (x ++ token (operator op) ∷ y)
print_layer (layer.IsNull x negated) = in_parens (x ++ token k.Is ∷ not_if negated ++ token k.Null ∷ [])
print_layer (layer.InList x ys negated) = in_parens (x ++ not_if negated ++ token k.In ∷ in_parens (separated ys))
print_layer (layer.Between x y z negated) = in_parens (x ++ not_if negated ++ token k.Between ∷ y ++ token k.And ∷ z)
print_layer (layer.Case arms other) = token k.Case ∷ all_of arms ++ clause (token k.Else ∷ []) other ++ token k.EndWord ∷ []
print_layer (layer.Cast x type trying) = token (if trying then k.TryCast else k.Cast) ∷ in_parens (x ++ token k.As ∷ type_word type ∷ [])
print_layer (layer.Coalesce xs) = word (codes "coalesce") ∷ in_parens (separated xs)
print_layer layer.CountAll = word (codes "count") ∷ in_parens (token k.Star ∷ [])
print_layer (layer.Count x) = word (codes "count") ∷ in_parens x
print_layer (layer.Sum x) = word (codes "sum") ∷ in_parens x
print_layer (layer.Min x) = word (codes "min") ∷ in_parens x
print_layer (layer.Max x) = word (codes "max") ∷ in_parens x

abbrev pub print_arm : SqlArm-F Print Print → Print
print_arm arm = token k.When ∷ arm.when ++ token k.Then ∷ arm.then

unfoldable pub expr_print : SqlExpr → Print
expr_print = fold-SqlExpr Print Print print_layer print_arm

unfoldable pub arm_print : SqlArm → Print
arm_print = fold-SqlArm Print Print print_layer print_arm

-- expressions with a comma between two of them
abbrev pub exprs_print : List SqlExpr → Print
exprs_print list = separated (map expr_print list)

-- ---- what a query reads and gives

abbrev pub stream_if : Bool → Print
stream_if stream = if stream then token k.Stream ∷ [] else []

abbrev pub option_value : OptionValue → Lexeme
option_value (option.Str s) = string s
option_value (option.Bool b) = token (if b then k.True else k.False)

-- word "=>" value
abbrev pub option_print : SqlOption → Print
option_print o = option_word o.word ∷ token k.Arrow ∷ option_value o.value ∷ []

-- name | STREAM name | [STREAM] read_files "(" string { "," option } ")"
abbrev pub origin_print : SqlOrigin → Print
origin_print (origin.Table stream table) = stream_if stream ++ name table ∷ []
origin_print (origin.Files stream path options) =
    stream_if stream ++ word (codes "read_files") ∷ in_parens (separated ((string path ∷ []) ∷ map option_print options))

abbrev pub except_print : List (List ℕ) → Print
except_print [] = []
except_print (n ∷ ns) = token k.Except ∷ names (n ∷ ns)

-- "*" [EXCEPT "(" names ")"] | expr [AS name]
abbrev pub out_print : Out → Print
out_print (out.Star except) = token k.Star ∷ except_print except
out_print (out.One expr alias) = expr_print expr ++ if_some (λ n. token k.As ∷ name n ∷ []) alias

abbrev pub group_print : List SqlExpr → Print
group_print [] = []
group_print (x ∷ xs) = token k.Group ∷ token k.By ∷ exprs_print (x ∷ xs)

-- SELECT outs FROM origin [WHERE expr] [GROUP BY exprs]
abbrev pub select_print : Select → Print
select_print s =
    token k.Select ∷ separated (map out_print s.outs) ++ token k.From ∷ origin_print s.origin ++
    if_some (λ x. token k.Where ∷ expr_print x) s.filter ++ group_print s.groups

-- ---- statements

abbrev pub action_print : SqlAction → Print
action_print action.Warn = []
action_print action.DropRow = token k.On ∷ word (codes "VIOLATION") ∷ word (codes "DROP") ∷ word (codes "ROW") ∷ []
action_print action.FailUpdate = token k.On ∷ word (codes "VIOLATION") ∷ word (codes "FAIL") ∷ word (codes "UPDATE") ∷ []

-- name type | CONSTRAINT name EXPECT "(" expr ")" [ON VIOLATION (DROP ROW | FAIL UPDATE)]
abbrev pub item_print : SqlItem → Print
item_print (item.Column column kind) = name column ∷ type_word kind ∷ []
item_print (item.Expect expectation test action) =
    token k.Constraint ∷ name expectation ∷ word (codes "EXPECT") ∷ in_parens (expr_print test) ++ action_print action

abbrev pub items_print : List SqlItem → Print
items_print [] = []
items_print (i ∷ is) = in_parens (separated (map item_print (i ∷ is)))

abbrev pub sequence_print : SqlSequence → Print
sequence_print (sequence.One column) = name column ∷ []
sequence_print (sequence.Struct columns) = token k.Struct ∷ names columns

-- "*" EXCEPT "(" names ")" | "(" names ")"
abbrev pub some_print : SqlSome → Print
some_print (some.Except columns) = token k.Star ∷ token k.Except ∷ names columns
some_print (some.Only columns) = names columns

-- INTO name FROM origin KEYS .. and the clauses behind it
abbrev pub cdc_print : CdcTree → Print
cdc_print c =
    word (codes "INTO") ∷ name c.target ∷ token k.From ∷ origin_print c.origin ++ word (codes "KEYS") ∷ names c.keys ++
    (if c.ignore_null then word (codes "IGNORE") ∷ token k.Null ∷ word (codes "UPDATES") ∷ [] else []) ++
    if_some (λ x. word (codes "APPLY") ∷ token k.As ∷ word (codes "DELETE") ∷ token k.When ∷ expr_print x) c.delete_when ++
    if_some (λ x. word (codes "APPLY") ∷ token k.As ∷ word (codes "TRUNCATE") ∷ token k.When ∷ expr_print x) c.truncate_when ++
    word (codes "SEQUENCE") ∷ token k.By ∷ sequence_print c.sequence ++
    if_some (λ s. word (codes "COLUMNS") ∷ some_print s) c.columns ++
    if_some (λ n. word (codes "STORED") ∷ token k.As ∷ word (codes "SCD") ∷ word (codes "TYPE") ∷ numeral n ∷ []) c.scd ++
    if_some (λ s. word (codes "TRACK") ∷ word (codes "HISTORY") ∷ token k.On ∷ some_print s) c.track

-- CREATE OR REFRESH
abbrev pub create : Print
create = token k.Create ∷ token k.Or ∷ word (codes "REFRESH") ∷ []

-- CREATE FLOW name AS
abbrev pub flow_print : List ℕ → Print
flow_print flow = token k.Create ∷ word (codes "FLOW") ∷ name flow ∷ token k.As ∷ []

abbrev pub statement_print : Statement → Print
statement_print (statement.Table table items select) =
    create ++ word (codes "STREAMING") ∷ word (codes "TABLE") ∷ name table ∷ items_print items ++ if_some (λ s. token k.As ∷ select_print s) select
statement_print (statement.View view items select) =
    create ++ word (codes "MATERIALIZED") ∷ word (codes "VIEW") ∷ name view ∷ items_print items ++ token k.As ∷ select_print select
statement_print (statement.Insert flow target select) =
    flow_print flow ++ word (codes "INSERT") ∷ word (codes "INTO") ∷ name target ∷ token k.By ∷ word (codes "NAME") ∷ select_print select
statement_print (statement.Cdc flow rest) = flow_print flow ++ word (codes "AUTO") ∷ word (codes "CDC") ∷ cdc_print rest

-- statements with a semicolon between two of them
abbrev pub print : List Statement → Print
print [] = []
print (s ∷ []) = statement_print s
print (s ∷ next ∷ rest) = statement_print s ++ token k.Semicolon ∷ print (next ∷ rest)
