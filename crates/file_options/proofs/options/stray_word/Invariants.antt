use Rattle.std.proofs.Common.{◌≡◌, take, drop}
use Rattle.file_options.specs.Options.{stray_behind, stray_word}
use Rattle.file_options.proofs.options.stray_word.Given as goal

-- the first among those that are left is the first of all
abbrev pub invariant-loop-at : goal.invariant-loop-at
invariant-loop-at l = stray_behind (take l.at l.options) (drop l.at l.options) ≡ stray_word l.options
