use Rattle.std.proofs.Common.{◌≡◌, drop}
use Rattle.std.specs.Prelude.{map}
use Rattle.expr_typing.specs.Typing as spec
use Rattle.expr_typing.proofs.operand.wide_join_results.Given as goal

-- the results that are left are joined to those so far
abbrev pub invariant-loop-branch : goal.invariant-loop-branch
invariant-loop-branch l = spec.wide_join_from l.joined (map (λ a. a.sort) (map (λ made. made.gives) (drop l.branch-index l.branches))) ≡ spec.wide_join_all (map (λ made. made.gives) l.branches)
