-- The reader of a pipeline as functions on lists of tokens. Where two productions share their front it is read once.
use Rattle.std.specs.Prelude.{◌≡◌, ℕ, zero, suc, Bool, true, false, if◌then◌else◌, List, [], ◌∷◌, ◌++◌, length, Option, Some, None, Result, Ok, Err, codes}
use Rattle.sql_tree.specs.declared.expr.SqlExpr.{SqlExpr}
use Rattle.sql_tree.specs.declared.expr.SqlType.{SqlType}
use Rattle.sql_tree.specs.declared.statement.Statement.{Statement}
use Rattle.sql_tree.specs.declared.statement.Statement.TheVariants as statement
use Rattle.sql_tree.specs.declared.statement.SqlAction.{SqlAction}
use Rattle.sql_tree.specs.declared.statement.SqlAction.TheVariants as action
use Rattle.sql_tree.specs.declared.statement.SqlItem.{SqlItem}
use Rattle.sql_tree.specs.declared.statement.SqlItem.TheVariants as item
use Rattle.sql_tree.specs.declared.statement.Select.{Select}
use Rattle.sql_tree.specs.declared.statement.Out.{Out}
use Rattle.sql_tree.specs.declared.statement.Out.TheVariants as out
use Rattle.sql_tree.specs.declared.statement.SqlOrigin.{SqlOrigin}
use Rattle.sql_tree.specs.declared.statement.SqlOrigin.TheVariants as origin
use Rattle.sql_tree.specs.declared.statement.OptionValue.{OptionValue}
use Rattle.sql_tree.specs.declared.statement.SqlOption.{SqlOption}
use Rattle.sql_tree.specs.declared.statement.SqlSequence.{SqlSequence}
use Rattle.sql_tree.specs.declared.statement.SqlSequence.TheVariants as sequence
use Rattle.sql_tree.specs.declared.statement.SqlSome.{SqlSome}
use Rattle.sql_tree.specs.declared.statement.SqlSome.TheVariants as some
use Rattle.sql_tree.specs.declared.statement.CdcTree.{CdcTree}
use Rattle.sql_tree.specs.declared.lexeme.LexemeKind.{LexemeKind}
use Rattle.sql_tree.specs.declared.lexeme.LexemeKind.TheVariants as k
use Rattle.sql_tree.specs.declared.lexeme.Lexeme.{Lexeme}
use Rattle.sql_tree.specs.Lexemes.{type_of, is_bare}
use Rattle.sql_phrases.specs.Parsers.{next, sees}
use Rattle.sql_statements.specs.declared.error.ParseError.TheVariants.{Unexpected}
use Rattle.sql_phrases.specs.Tokens.{is, is_name, the, the_word, name_of, string_of, option_word_of, value_of, scd_of}
use Rattle.sql_statements.specs.Grammar.{an_option, a_select, a_cdc}
use Rattle.sql_statements.specs.Parsers.{Outcome, Parser, and_then, ◌>>=◌, ◌>>◌, pure, token, choose, rest_from, separated}

abbrev pub a : LexemeKind → Parser (Unit {0})
a kind = token (the kind)

abbrev pub word : List ℕ → Parser (Unit {0})
word text = token (the_word text)

abbrev pub name : Parser (List ℕ)
name = token name_of

abbrev pub string : Parser (List ℕ)
string = token string_of

abbrev pub is_word : List ℕ → Lexeme → Bool
is_word = is_bare

unfoldable pub in_parens : {A : Type 0} → Parser A → Parser A
in_parens p = do
  a k.LParen
  x ← p
  a k.RParen
  pure x

-- behind a test of the next token
unfoldable pub maybe : {A : Type 0} → (Lexeme → Bool) → Parser A → Parser (Option A)
maybe test p = choose test (p >>= (λ x. pure (Some x))) (pure None)

unfoldable pub names : Parser (List (List ℕ))
names = separated k.Comma name

unfoldable pub comment : Parser (Unit {0})
comment = choose (is_word (codes "COMMENT")) (do word (codes "COMMENT"); s ← string; pure tt) (pure tt)

unfoldable pub option : Parser SqlOption
option = do
  w ← token option_word_of
  a k.Arrow
  v ← token value_of
  pure (an_option w v)

unfoldable pub options : Parser (List SqlOption)
options = λ i. rest_from k.Comma option (length i) [] i

unfoldable pub files : Bool → Parser SqlOrigin
files stream = do
  path ← string
  found ← options
  pure (origin.Files stream path found)

-- after the word read_files
unfoldable pub files_or_table : Bool → List ℕ → Parser SqlOrigin
files_or_table stream n = choose (is k.LParen) (in_parens (files stream)) (pure (origin.Table stream n))

unfoldable pub source : Bool → Parser SqlOrigin
source stream =
    choose (is_word (codes "read_files")) (do n ← name; files_or_table stream n) (do table ← name; pure (origin.Table stream table))

-- after STREAM
unfoldable pub streamed : Parser SqlOrigin
streamed = choose (is k.LParen) (do table ← in_parens name; pure (origin.Table true table)) (source true)

unfoldable pub origin_of : Parser SqlOrigin
origin_of = choose (is k.Stream) (do a k.Stream; streamed) (source false)

unfoldable pub some_of : Parser SqlSome
some_of =
    choose (is k.Star) (do a k.Star; a k.Except; columns ← in_parens names; pure (some.Except columns))
    (choose (is k.LParen) (do columns ← in_parens names; pure (some.Only columns)) (do columns ← names; pure (some.Only columns)))

unfoldable pub sequence_of : Parser SqlSequence
sequence_of = choose (is k.Struct) (do a k.Struct; columns ← in_parens names; pure (sequence.Struct columns)) (do column ← name; pure (sequence.One column))

unfoldable pub except : Parser (List (List ℕ))
except = choose (is k.Except) (do a k.Except; in_parens names) (pure [])

unfoldable pub alias : Parser (Option (List ℕ))
alias = choose (is k.As) (do a k.As; n ← name; pure (Some n)) (choose is_name (do n ← name; pure (Some n)) (pure None))

-- after VIOLATION
unfoldable pub reaction : Parser SqlAction
reaction =
    choose (is_word (codes "DROP")) (do word (codes "DROP"); word (codes "ROW"); pure action.DropRow) (do word (codes "FAIL"); word (codes "UPDATE"); pure action.FailUpdate)

unfoldable pub violation : Parser SqlAction
violation = choose (is k.On) (do a k.On; word (codes "VIOLATION"); reaction) (pure action.Warn)

unfoldable pub ignoring : Parser Bool
ignoring = choose (is_word (codes "IGNORE")) (do word (codes "IGNORE"); a k.Null; word (codes "UPDATES"); pure true) (pure false)

unfoldable pub columns_of : Parser (Option SqlSome)
columns_of = maybe (is_word (codes "COLUMNS")) (do word (codes "COLUMNS"); some_of)

unfoldable pub scd : Parser (Option ℕ)
scd = maybe (is_word (codes "STORED")) (do word (codes "STORED"); a k.As; word (codes "SCD"); word (codes "TYPE"); token scd_of)

unfoldable pub track : Parser (Option SqlSome)
track = maybe (is_word (codes "TRACK")) (do word (codes "TRACK"); word (codes "HISTORY"); a k.On; some_of)

module _ (expr : Parser SqlExpr) where
  unfoldable pub expectation : Parser SqlItem
  expectation = do
    a k.Constraint
    n ← name
    word (codes "EXPECT")
    test ← in_parens expr
    act ← violation
    pure (item.Expect n test act)

  unfoldable pub column : Parser SqlItem
  column = do
    n ← name
    type ← token type_of
    comment
    pure (item.Column n type)

  unfoldable pub item_of : Parser SqlItem
  item_of = choose (is k.Constraint) expectation column

  unfoldable pub item_list : Parser (List SqlItem)
  item_list = separated k.Comma item_of

  unfoldable pub items : Parser (List SqlItem)
  items = choose (is k.LParen) (in_parens item_list) (pure [])

  unfoldable pub out_of : Parser Out
  out_of = choose (is k.Star) (do a k.Star; columns ← except; pure (out.Star columns)) (do x ← expr; n ← alias; pure (out.One x n))

  unfoldable pub outs : Parser (List Out)
  outs = separated k.Comma out_of

  unfoldable pub exprs : Parser (List SqlExpr)
  exprs = separated k.Comma expr

  unfoldable pub groups : Parser (List SqlExpr)
  groups = choose (is k.Group) (do a k.Group; a k.By; exprs) (pure [])

  unfoldable pub filter_of : Parser (Option SqlExpr)
  filter_of = maybe (is k.Where) (do a k.Where; expr)

  unfoldable pub select : Parser Select
  select = do
    a k.Select
    found ← outs
    a k.From
    from ← origin_of
    filter ← filter_of
    by ← groups
    pure (a_select found from filter by)

  -- after APPLY AS
  unfoldable pub truncation : Parser SqlExpr
  truncation = do
    word (codes "TRUNCATE")
    a k.When
    expr

  unfoldable pub truncation_part : Parser (Option SqlExpr)
  truncation_part = maybe (is_word (codes "APPLY")) (do word (codes "APPLY"); a k.As; truncation)

  -- after APPLY AS, for the first time
  unfoldable pub first_condition : Parser (Option SqlExpr × Option SqlExpr)
  first_condition =
      choose (is_word (codes "DELETE")) (do word (codes "DELETE"); a k.When; x ← expr; y ← truncation_part; pure (Some x, y))
      (do y ← truncation; pure (None, Some y))

  unfoldable pub conditions : Parser (Option SqlExpr × Option SqlExpr)
  conditions = choose (is_word (codes "APPLY")) (do word (codes "APPLY"); a k.As; first_condition) (pure (None, None))

  -- the last clauses
  abbrev pub cdc_columns : List ℕ → SqlOrigin → List (List ℕ) → Bool → (Option SqlExpr × Option SqlExpr) → SqlSequence → Parser CdcTree
  cdc_columns target from keys ignore_null when order = do
    columns ← columns_of
    type ← scd
    history ← track
    pure (a_cdc target from keys ignore_null when.0 when.1 order columns type history)

  -- behind the keys
  abbrev pub cdc_order : List ℕ → SqlOrigin → List (List ℕ) → Parser CdcTree
  cdc_order target from keys = do
    ignore_null ← ignoring
    when ← conditions
    word (codes "SEQUENCE")
    a k.By
    order ← sequence_of
    cdc_columns target from keys ignore_null when order

  unfoldable pub cdc : Parser CdcTree
  cdc = do
    word (codes "INTO")
    target ← name
    a k.From
    from ← origin_of
    word (codes "KEYS")
    keys ← in_parens names
    cdc_order target from keys

  unfoldable pub query_part : Parser (Option Select)
  query_part = maybe (is k.As) (do a k.As; select)

  -- after CREATE OR REFRESH
  unfoldable pub table : Parser Statement
  table = do
    word (codes "STREAMING")
    word (codes "TABLE")
    n ← name
    declared ← items
    comment
    query ← query_part
    pure (statement.Table n declared query)

  unfoldable pub view : Parser Statement
  view = do
    word (codes "MATERIALIZED")
    word (codes "VIEW")
    n ← name
    declared ← items
    comment
    a k.As
    query ← select
    pure (statement.View n declared query)

  unfoldable pub dataset : Parser Statement
  dataset = choose (is_word (codes "STREAMING")) table view

  unfoldable pub insert : List ℕ → Parser Statement
  insert flow = do
    word (codes "INSERT")
    word (codes "INTO")
    target ← name
    a k.By
    word (codes "NAME")
    query ← select
    pure (statement.Insert flow target query)

  unfoldable pub feed_words : Parser (Unit {0})
  feed_words = choose (is_word (codes "AUTO")) (do word (codes "AUTO"); word (codes "CDC")) (do word (codes "APPLY"); word (codes "CHANGES"))

  unfoldable pub feed : List ℕ → Parser Statement
  feed flow = do
    feed_words
    rest ← cdc
    pure (statement.Cdc flow rest)

  abbrev pub flow_body : List ℕ → Parser Statement
  flow_body n = choose (is_word (codes "INSERT")) (insert n) (feed n)

  -- after CREATE
  unfoldable pub flow_of : Parser Statement
  flow_of = do
    word (codes "FLOW")
    n ← name
    a k.As
    flow_body n

  abbrev pub replaced : Parser Statement
  replaced = do
    a k.Or
    word (codes "REFRESH")
    dataset

  unfoldable pub created : Parser Statement
  created = choose (is k.Or) replaced (choose (is_word (codes "FLOW")) flow_of dataset)

  unfoldable pub apply : Parser Statement
  apply = do
    word (codes "APPLY")
    word (codes "CHANGES")
    rest ← cdc
    pure (statement.Cdc rest.target rest)

  unfoldable pub statement_of : Parser Statement
  statement_of = choose (is k.Create) (do a k.Create; created) apply

  -- Goes on with statements behind semicolons, in at most so many turns. The last semicolon may stand at the end.
  unfoldable pub statements_from : ℕ → List Statement → Parser (List Statement)
  statements_from zero found = pure found
  statements_from (suc n) found = λ i.
      if sees k.Semicolon i
      then (if sees k.End (next i) then Ok (found, next i) else (statement_of >>= (λ s. statements_from n (found ++ s ∷ []))) (next i))
      else Ok (found, i)

  unfoldable pub first_statements : Parser (List Statement)
  first_statements = statement_of >>= (λ s i. statements_from (length i) (s ∷ []) i)

  unfoldable pub pipeline : Parser (List Statement)
  pipeline = λ i. if sees k.End i then Ok ([], i) else first_statements i
