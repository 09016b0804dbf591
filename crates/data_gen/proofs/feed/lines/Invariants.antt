use Rattle.std.specs.Prelude.{◌≡◌}
use Rattle.data_gen.specs.Generated.{generated_lines}
use Rattle.data_gen.proofs.feed.lines.Given as goal

abbrev pub invariant-loop-place : goal.invariant-loop-place
invariant-loop-place l = l.text.items ≡ generated_lines l.place
