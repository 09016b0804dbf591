use Rattle.std.proofs.Common.{◌≡◌, ◌∙◌, true, false, sym, rules}
use Rattle.csv.specs.Records.{field_at, fields_of}
use Rattle.line_rows.specs.Csv.{is_name}
use Rattle.line_rows.proofs.CsvLemmas.{place_start, place_more, place_found}
use Rattle.line_rows.proofs.csv_line.place_in.Goals as goal

pub loop-place-init : goal.loop-place-init
loop-place-init c = place_start c.args.name.now (fields_of c.args.header.now)

pub returns-then-is_name : goal.returns-then-is_name
returns-then-is_name c =
    let is : is_name c.args.name.now (field_at (fields_of c.args.header.now) c.loop-place.place) ≡ true = rw (sym c.get.ensures.value) (sym c.is_name.ensures ∙ c.if-is_name.true) in
    sym (c.loop-place.invariant ∙ place_found c.args.name.now (fields_of c.args.header.now) c.loop-place.place (search rules) is)

pub loop-place-preserved : goal.loop-place-preserved
loop-place-preserved c =
    let other : is_name c.args.name.now (field_at (fields_of c.args.header.now) c.loop-place.place) ≡ false = rw (sym c.get.ensures.value) (sym c.is_name.ensures ∙ c.if-is_name.false) in
    c.loop-place.invariant ∙ place_more c.args.name.now (fields_of c.args.header.now) c.loop-place.place (search rules) other
