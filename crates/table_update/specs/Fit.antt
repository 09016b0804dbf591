-- Two tables of one text.
use Rattle.std.specs.Prelude.{◌≡◌, ◌≢◌, true}
use Rattle.value_core.specs.NameFold.{same_name}
use Rattle.table_update.specs.Table.{definition_of}
use Rattle.table_update.specs.declared.table.AppendTable.{AppendTable}

-- Another table has this one's name and text, but is stored by another definition. Where the text is the canonical
-- print of a statement, which says all of its table, there is none.
pub record IsOtherOfItsText (table other : AppendTable) : Type 0 where
  pub name : same_name other.name table.name ≡ true
  pub text : other.text ≡ table.text
  pub parts : definition_of other ≢ definition_of table
