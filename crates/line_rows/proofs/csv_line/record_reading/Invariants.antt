use Rattle.std.proofs.Common.{◌≡◌, map, take}
use Rattle.csv.specs.Records.{fields_of}
use Rattle.line_rows.specs.Csv.{csv_field}
use Rattle.line_rows.specs.Readings.{reading_of}
use Rattle.line_rows.proofs.csv_line.record_reading.Given as goal

abbrev pub invariant-loop-source : goal.invariant-loop-source
invariant-loop-source l = l.reading ≡ reading_of (map (csv_field (fields_of l.fields)) (take l.source-index l.source-items)) l.is_unfit
