-- Statements that are read of a text.
use Rattle.std.specs.Prelude.{List}
use Rattle.sql_tree.specs.declared.statement.Statement.{Statement}
use Rattle.pipeline_sql.specs.Read.{Text, IsRead}

-- some text is read as these statements
pub record AreRead (statements : List Statement) : Type 0 where
  pub text : Text
  pub is_read : IsRead text statements
