-- The grammar of a pipeline, over the language of its outermost expressions.
--
--   pipeline  = [ stmt { ";" stmt } [ ";" ] ]
--   stmt      = CREATE [OR REFRESH] STREAMING TABLE name [items] [COMMENT string] [AS select]
--             | CREATE [OR REFRESH] MATERIALIZED VIEW name [items] [COMMENT string] AS select
--             | CREATE FLOW name AS ( INSERT INTO name BY NAME select | cdc )
--             | APPLY CHANGES cdcrest
use Rattle.std.specs.Prelude.{◌≡◌, ◌⊎◌, ℕ, Bool, true, false, List, [], ◌∷◌, ◌++◌, Option, Some, None, codes}
use Rattle.sql_tree.specs.declared.expr.SqlExpr.{SqlExpr}
use Rattle.sql_tree.specs.declared.expr.SqlType.{SqlType}
use Rattle.sql_tree.specs.declared.statement.Statement.{Statement}
use Rattle.sql_tree.specs.declared.statement.Statement.TheVariants as statement
use Rattle.sql_tree.specs.declared.statement.SqlAction.{SqlAction}
use Rattle.sql_tree.specs.declared.statement.SqlAction.TheVariants as action
use Rattle.sql_tree.specs.declared.statement.SqlItem.{SqlItem}
use Rattle.sql_tree.specs.declared.statement.SqlItem.TheVariants as item
use Rattle.sql_tree.specs.declared.statement.Select.{Select}
use Rattle.sql_tree.specs.declared.statement.Out.{Out}
use Rattle.sql_tree.specs.declared.statement.Out.TheVariants as out
use Rattle.sql_tree.specs.declared.statement.SqlOrigin.{SqlOrigin}
use Rattle.sql_tree.specs.declared.statement.SqlOrigin.TheVariants as origin
use Rattle.sql_tree.specs.declared.statement.OptionValue.{OptionValue}
use Rattle.sql_tree.specs.declared.statement.SqlOption.{SqlOption}
use Rattle.sql_tree.specs.declared.statement.SqlSequence.{SqlSequence}
use Rattle.sql_tree.specs.declared.statement.SqlSequence.TheVariants as sequence
use Rattle.sql_tree.specs.declared.statement.SqlSome.{SqlSome}
use Rattle.sql_tree.specs.declared.statement.SqlSome.TheVariants as some
use Rattle.sql_tree.specs.declared.statement.CdcTree.{CdcTree}
use Rattle.sql_tree.specs.declared.lexeme.LexemeKind.{LexemeKind}
use Rattle.sql_tree.specs.declared.lexeme.LexemeKind.TheVariants as k
use Rattle.sql_tree.specs.declared.lexeme.Lexeme.{Lexeme}
use Rattle.sql_tree.specs.Lexemes.{type_of, is_bare}
use Rattle.sql_phrases.specs.Tokens.{the, the_word, name_of, string_of, option_word_of, value_of, scd_of, read_files_of}
use Rattle.sql_statements.specs.Languages.{Language, one, nothing, either, followed, separated, ◌>>=◌, ◌>>◌}

-- a symbol or a reserved word
abbrev pub a : LexemeKind → Language (Unit {0})
a kind = one (the kind)

-- a word that is not reserved
abbrev pub word : List ℕ → Language (Unit {0})
word text = one (the_word text)

abbrev pub name : Language (List ℕ)
name = one name_of

abbrev pub string : Language (List ℕ)
string = one string_of

-- "(" .. ")"
abbrev pub in_parens : {A : Type 0} → Language A → Language A
in_parens L = do
  a k.LParen
  x ← L
  a k.RParen
  nothing x

-- [ .. ]
abbrev pub maybe : {A : Type 0} → Language A → Language (Option A)
maybe L = either (L >>= (λ x. nothing (Some x))) (nothing None)

-- name { "," name }
abbrev pub names : Language (List (List ℕ))
names = separated k.Comma name

-- [COMMENT string]
abbrev pub comment : Language (Unit {0})
comment = either (do word (codes "COMMENT"); s ← string; nothing tt) (nothing tt)

-- ---- what a query reads

abbrev pub an_option : List ℕ → OptionValue → SqlOption
an_option w v = record { word = w; value = v }

-- word "=>" (string | TRUE | FALSE)
abbrev pub option : Language SqlOption
option = do
  w ← one option_word_of
  a k.Arrow
  v ← one value_of
  nothing (an_option w v)

-- string { "," option }
abbrev pub files : Bool → Language SqlOrigin
files stream = do
  path ← string
  options ← followed k.Comma option
  nothing (origin.Files stream path options)

-- read_files "(" string { "," option } ")" | name
abbrev pub source : Bool → Language SqlOrigin
source stream = either (do w ← one read_files_of; in_parens (files stream)) (do table ← name; nothing (origin.Table stream table))

-- source | STREAM source | STREAM "(" name ")"
abbrev pub origin_of : Language SqlOrigin
origin_of = either (do a k.Stream; either (do table ← in_parens name; nothing (origin.Table true table)) (source true)) (source false)

-- "*" EXCEPT "(" names ")" | "(" names ")" | names
abbrev pub some_of : Language SqlSome
some_of =
    either (do a k.Star; a k.Except; columns ← in_parens names; nothing (some.Except columns))
    (either (do columns ← in_parens names; nothing (some.Only columns)) (do columns ← names; nothing (some.Only columns)))

-- name | STRUCT "(" names ")"
abbrev pub sequence_of : Language SqlSequence
sequence_of = either (do a k.Struct; columns ← in_parens names; nothing (sequence.Struct columns)) (do column ← name; nothing (sequence.One column))

-- [EXCEPT "(" names ")"]
abbrev pub except : Language (List (List ℕ))
except = either (do a k.Except; in_parens names) (nothing [])

-- [[AS] name]
abbrev pub alias : Language (Option (List ℕ))
alias = either (do a k.As; n ← name; nothing (Some n)) (either (do n ← name; nothing (Some n)) (nothing None))

-- [ON VIOLATION (DROP ROW | FAIL UPDATE)]
abbrev pub violation : Language SqlAction
violation =
    either
    (do
      a k.On
      word (codes "VIOLATION")
      either (do word (codes "DROP"); word (codes "ROW"); nothing action.DropRow) (do word (codes "FAIL"); word (codes "UPDATE"); nothing action.FailUpdate))
    (nothing action.Warn)

-- [IGNORE NULL UPDATES]
abbrev pub ignoring : Language Bool
ignoring = either (do word (codes "IGNORE"); a k.Null; word (codes "UPDATES"); nothing true) (nothing false)

-- [COLUMNS some]
abbrev pub columns_of : Language (Option SqlSome)
columns_of = maybe (do word (codes "COLUMNS"); some_of)

-- [STORED AS SCD TYPE (1 | 2)]
abbrev pub scd : Language (Option ℕ)
scd = maybe (do word (codes "STORED"); a k.As; word (codes "SCD"); word (codes "TYPE"); one scd_of)

-- [TRACK HISTORY ON some]
abbrev pub track : Language (Option SqlSome)
track = maybe (do word (codes "TRACK"); word (codes "HISTORY"); a k.On; some_of)

abbrev pub a_select : List Out → SqlOrigin → Option SqlExpr → List SqlExpr → Select
a_select outs origin filter groups = record { outs = outs; origin = origin; filter = filter; groups = groups }

abbrev pub a_cdc : List ℕ → SqlOrigin → List (List ℕ) → Bool → Option SqlExpr → Option SqlExpr → SqlSequence → Option SqlSome → Option ℕ → Option SqlSome → CdcTree
a_cdc target origin keys ignore_null delete_when truncate_when sequence columns scd track = record {
  target = target;
  origin = origin;
  keys = keys;
  ignore_null = ignore_null;
  delete_when = delete_when;
  truncate_when = truncate_when;
  sequence = sequence;
  columns = columns;
  scd = scd;
  track = track;
}

-- CREATE [OR REFRESH]
abbrev pub create : Language (Unit {0})
create = do
  a k.Create
  either (do a k.Or; word (codes "REFRESH"); nothing tt) (nothing tt)

module _ (expr : Language SqlExpr) where
  -- CONSTRAINT name EXPECT "(" expr ")" [ON VIOLATION ..]
  abbrev pub expectation : Language SqlItem
  expectation = do
    a k.Constraint
    n ← name
    word (codes "EXPECT")
    test ← in_parens expr
    act ← violation
    nothing (item.Expect n test act)

  -- name type [COMMENT string] | expectation
  abbrev pub item_of : Language SqlItem
  item_of = either expectation (do n ← name; type ← one type_of; comment; nothing (item.Column n type))

  -- [ "(" item { "," item } ")" ]
  abbrev pub items : Language (List SqlItem)
  items = either (in_parens (separated k.Comma item_of)) (nothing [])

  -- "*" [EXCEPT "(" names ")"] | expr [[AS] name]
  abbrev pub out_of : Language Out
  out_of = either (do a k.Star; columns ← except; nothing (out.Star columns)) (do x ← expr; n ← alias; nothing (out.One x n))

  -- [GROUP BY expr { "," expr }]
  abbrev pub groups : Language (List SqlExpr)
  groups = either (do a k.Group; a k.By; separated k.Comma expr) (nothing [])

  -- SELECT out { "," out } FROM origin [WHERE expr] [GROUP BY ..]
  abbrev pub select : Language Select
  select = do
    a k.Select
    outs ← separated k.Comma out_of
    a k.From
    from ← origin_of
    filter ← maybe (do a k.Where; expr)
    by ← groups
    nothing (a_select outs from filter by)

  -- [APPLY AS .. WHEN expr], of DELETE and of TRUNCATE
  abbrev pub applied : List ℕ → Language (Option SqlExpr)
  applied what = maybe (do word (codes "APPLY"); a k.As; word what; a k.When; expr)

  -- [APPLY AS DELETE WHEN expr] [APPLY AS TRUNCATE WHEN expr]
  abbrev pub conditions : Language (Option SqlExpr × Option SqlExpr)
  conditions = do
    delete ← applied (codes "DELETE")
    truncate ← applied (codes "TRUNCATE")
    nothing (delete, truncate)

  -- INTO name FROM origin KEYS "(" names ")" [IGNORE ..] [APPLY ..] SEQUENCE BY .. [COLUMNS ..] [STORED ..] [TRACK ..]
  abbrev pub cdc : Language CdcTree
  cdc = do
    word (codes "INTO")
    target ← name
    a k.From
    from ← origin_of
    word (codes "KEYS")
    keys ← in_parens names
    ignore_null ← ignoring
    when ← conditions
    word (codes "SEQUENCE")
    a k.By
    order ← sequence_of
    columns ← columns_of
    type ← scd
    history ← track
    nothing (a_cdc target from keys ignore_null when.0 when.1 order columns type history)

  -- STREAMING TABLE name [items] [COMMENT string] [AS select]
  abbrev pub table : Language Statement
  table = do
    word (codes "STREAMING")
    word (codes "TABLE")
    n ← name
    declared ← items
    comment
    query ← maybe (do a k.As; select)
    nothing (statement.Table n declared query)

  -- MATERIALIZED VIEW name [items] [COMMENT string] AS select
  abbrev pub view : Language Statement
  view = do
    word (codes "MATERIALIZED")
    word (codes "VIEW")
    n ← name
    declared ← items
    comment
    a k.As
    query ← select
    nothing (statement.View n declared query)

  -- INSERT INTO name BY NAME select
  abbrev pub insert : List ℕ → Language Statement
  insert flow = do
    word (codes "INSERT")
    word (codes "INTO")
    target ← name
    a k.By
    word (codes "NAME")
    query ← select
    nothing (statement.Insert flow target query)

  -- (AUTO CDC | APPLY CHANGES) cdcrest
  abbrev pub feed : List ℕ → Language Statement
  feed flow = do
    either (do word (codes "AUTO"); word (codes "CDC")) (do word (codes "APPLY"); word (codes "CHANGES"))
    rest ← cdc
    nothing (statement.Cdc flow rest)

  -- FLOW name AS ( INSERT .. | cdc )
  abbrev pub flow_of : Language Statement
  flow_of = do
    word (codes "FLOW")
    n ← name
    a k.As
    either (insert n) (feed n)

  -- APPLY CHANGES cdcrest: a flow with its target's name
  abbrev pub apply : Language Statement
  apply = do
    word (codes "APPLY")
    word (codes "CHANGES")
    rest ← cdc
    nothing (statement.Cdc rest.target rest)

  -- CREATE [OR REFRESH] table | CREATE [OR REFRESH] view | CREATE flow | apply
  abbrev pub statement_of : Language Statement
  statement_of = either (do create; table) (either (do create; view) (either (do a k.Create; flow_of) apply))

  -- { ";" stmt } [ ";" ]
  abbrev pub more_statements : Language (List Statement)
  more_statements w [] = (w ≡ []) ⊎ ((c : Lexeme) × (w ≡ c ∷ []) × (c.kind ≡ k.Semicolon))
  more_statements w (s ∷ more) =
      (c : Lexeme) × (u : List Lexeme) × (v : List Lexeme) × (w ≡ c ∷ (u ++ v)) × (c.kind ≡ k.Semicolon) × statement_of u s × more_statements v more

  -- [ stmt { ";" stmt } [ ";" ] ]
  abbrev pub pipeline : Language (List Statement)
  pipeline w [] = w ≡ []
  pipeline w (s ∷ more) = (u : List Lexeme) × (v : List Lexeme) × (w ≡ u ++ v) × statement_of u s × more_statements v more
