use Rattle.std.proofs.Common.{◌≡◌, drop, map}
use Rattle.expr_typing.specs.Typing.{all, all_from}
use Rattle.type_check.specs.Form.{declared_column}
use Rattle.type_check.proofs.form.declared_columns.Given as goal

-- the columns so far and those that are left are all
abbrev pub invariant-loop-item : goal.invariant-loop-item
invariant-loop-item l = all_from l.columns (map declared_column (drop l.item-index l.items)) ≡ all (map declared_column l.items)
