use Rattle.std.proofs.Common.{◌≡◌, drop}
use Rattle.std.specs.Prelude.{bytes_eq, position}
use Rattle.std.specs.List.{position_from}
use Rattle.csv.specs.Records.{fields_of}
use Rattle.line_rows.proofs.csv_line.place_in.Given as goal

abbrev pub invariant-loop-place : goal.invariant-loop-place
invariant-loop-place l = position (λ field. bytes_eq field l.name) (fields_of l.header) ≡ position_from (λ field. bytes_eq field l.name) l.place (drop l.place (fields_of l.header))
