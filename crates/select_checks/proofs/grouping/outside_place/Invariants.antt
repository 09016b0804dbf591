use Rattle.std.proofs.Common.{◌≡◌, drop}
use Rattle.std.specs.Prelude.{position}
use Rattle.std.specs.List.{position_from}
use Rattle.select_checks.specs.Views.{is_outside_groups}
use Rattle.select_checks.proofs.grouping.outside_place.Given as goal

-- no output so far is outside, and the first that is left is the first of all
abbrev pub invariant-loop-place : goal.invariant-loop-place
invariant-loop-place l = position_from (is_outside_groups l.table) l.place (drop l.place l.outs) ≡ position (is_outside_groups l.table) l.outs
