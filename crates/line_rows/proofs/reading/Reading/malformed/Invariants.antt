use Rattle.std.proofs.Common.{◌≡◌, map, take}
use Rattle.value_core.specs.declared.value.Value.TheVariants.{Null}
use Rattle.line_rows.proofs.reading.Reading.malformed.Given as goal

abbrev pub invariant-loop-column : goal.invariant-loop-column
invariant-loop-column l = l.values ≡ map (λ column. Null) (take l._column-index l.columns)
