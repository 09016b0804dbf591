use Rattle.std.proofs.Common.{◌≡◌, map, take}
use Rattle.serde_json.specs.View.{view}
use Rattle.line_rows.specs.Json.{json_member, has_stray_member}
use Rattle.line_rows.specs.Readings.{reading_of}
use Rattle.line_rows.proofs.json_line.object_reading.Given as goal

abbrev pub invariant-loop-column : goal.invariant-loop-column
invariant-loop-column l = l.reading ≡ reading_of (map (json_member (view l.json)) (take l.column-index l.columns)) (has_stray_member l.columns (view l.json))
