use Rattle.std.proofs.Common.{◌≡◌, drop}
use Rattle.std.specs.List.{list_all}
use Rattle.select_checks.specs.Views.{has_item_kind}
use Rattle.select_checks.proofs.items.have_item_kinds.Given as goal

-- each output so far has a kind
abbrev pub invariant-loop-given : goal.invariant-loop-given
invariant-loop-given l = list_all (has_item_kind l.source) (drop l.given-index l.outs) ≡ list_all (has_item_kind l.source) l.outs
