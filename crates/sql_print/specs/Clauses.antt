-- The fronts of statements and the clauses of a change feed, one by one.
use Rattle.std.specs.Prelude.{ℕ, Bool, List, [], ◌∷◌, ◌++◌, if◌then◌else◌, Option, codes}
use Rattle.sql_tree.specs.declared.expr.SqlExpr.{SqlExpr}
use Rattle.sql_tree.specs.declared.statement.SqlSome.{SqlSome}
use Rattle.sql_tree.specs.declared.statement.CdcTree.{CdcTree}
use Rattle.sql_tree.specs.declared.lexeme.LexemeKind.TheVariants as k
use Rattle.sql_tree.specs.Print.{Print, token, word, name, numeral, names, if_some, create, expr_print, origin_print, some_print}

-- INTO name FROM origin KEYS names
abbrev pub cdc_front : CdcTree → Print
cdc_front c = word (codes "INTO") ∷ name c.target ∷ token k.From ∷ origin_print c.origin ++ word (codes "KEYS") ∷ names c.keys

abbrev pub ignore_null : Bool → Print
ignore_null ignores = if ignores then word (codes "IGNORE") ∷ token k.Null ∷ word (codes "UPDATES") ∷ [] else []

abbrev pub apply_when : List ℕ → Option SqlExpr → Print
apply_when action = if_some (λ x. word (codes "APPLY") ∷ token k.As ∷ word action ∷ token k.When ∷ expr_print x)

abbrev pub columns : Option SqlSome → Print
columns = if_some (λ s. word (codes "COLUMNS") ∷ some_print s)

abbrev pub stored : Option ℕ → Print
stored = if_some (λ n. word (codes "STORED") ∷ token k.As ∷ word (codes "SCD") ∷ word (codes "TYPE") ∷ numeral n ∷ [])

abbrev pub track : Option SqlSome → Print
track = if_some (λ s. word (codes "TRACK") ∷ word (codes "HISTORY") ∷ token k.On ∷ some_print s)

-- CREATE OR REFRESH STREAMING TABLE name
abbrev pub table_front : List ℕ → Print
table_front table = create ++ word (codes "STREAMING") ∷ word (codes "TABLE") ∷ name table ∷ []

-- CREATE OR REFRESH MATERIALIZED VIEW name
abbrev pub view_front : List ℕ → Print
view_front view = create ++ word (codes "MATERIALIZED") ∷ word (codes "VIEW") ∷ name view ∷ []

-- INSERT INTO name BY NAME
abbrev pub insert_into : List ℕ → Print
insert_into target = word (codes "INSERT") ∷ word (codes "INTO") ∷ name target ∷ token k.By ∷ word (codes "NAME") ∷ []
