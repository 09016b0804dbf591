use Rattle.std.proofs.Common.{◌≡◌, ◌++◌, drop, map}
use Rattle.std.specs.Prelude.{filter}
use Rattle.value_core.specs.NameFold.{same_name}
use Rattle.statement_checks.specs.Repeats.{repeat_behind}
use Rattle.select_names.specs.SelectNames.{is_left}
use Rattle.select_names.proofs.repeats.repeat_in_star.Given as goal

-- the first among the columns that are left is the first of all, and what is seen and the rest are what all come to
abbrev pub invariant-loop-column : goal.invariant-loop-column
invariant-loop-column l = record {
  found : repeat_behind same_name l.seen (map (λ column. column.name) (filter (is_left l.except) (drop l.column-index l.source))) ≡ repeat_behind same_name l.initial.seen (map (λ column. column.name) (filter (is_left l.except) l.source));
  all_seen : l.seen ++ map (λ column. column.name) (filter (is_left l.except) (drop l.column-index l.source)) ≡ l.initial.seen ++ map (λ column. column.name) (filter (is_left l.except) l.source);
}
