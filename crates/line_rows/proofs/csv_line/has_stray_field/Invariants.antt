use Rattle.std.proofs.Common.{◌≡◌, drop}
use Rattle.std.specs.List.{list_any, enumerate_from}
use Rattle.csv.specs.Records.{fields_of}
use Rattle.line_rows.specs.Csv.{has_stray_field, is_stray}
use Rattle.line_rows.proofs.csv_line.has_stray_field.Given as goal

abbrev pub invariant-loop-place : goal.invariant-loop-place
invariant-loop-place l = has_stray_field l.sources (fields_of l.fields) ≡ list_any (is_stray l.sources) (enumerate_from l.place (drop l.place (fields_of l.fields)))
