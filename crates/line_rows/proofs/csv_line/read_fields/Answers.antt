use Rattle.std.proofs.Common.{◌≡◌, ◌∙◌, Some, ap, inr}
use Rattle.csv.specs.Reading.{Ready, reader_config, reader_trim}
use Rattle.csv.specs.declared.parser.Config.{Config}
use Rattle.csv.specs.declared.reader.Trim.TheVariants as trim
use Rattle.line_rows.specs.Csv.{settings}
use Rattle.line_rows.proofs.CsvLemmas.{no_mark, record-found, record-none}
use Rattle.line_rows.proofs.csv_line.read_fields.Goals as goal

pub returns-in-Ok-true : goal.returns-in-Ok-true
returns-in-Ok-true c =
    let made = c.from_reader-reader.ensures in
    let config : reader_config c.from_reader-reader.result ≡ settings c.args.sep = rw (c.delimiter.ensures, c.flexible.ensures, c.has_headers.ensures) at made.config ∙ ap (λ (from : Config). let with_sep : Config = record from { delimiter = c.args.sep } in with_sep) c.new.ensures.config in
    let plain : reader_trim c.from_reader-reader.result ≡ trim.None = rw (c.delimiter.ensures, c.flexible.ensures, c.has_headers.ensures) at made.trim ∙ c.new.ensures.trim in
    let ready : Ready c.from_reader-reader.result = inr (inr (rw (c.delimiter.ensures, c.flexible.ensures, c.has_headers.ensures) at made.has_headers, made.headers)) in
    let source = made.source ∙ ap Some (no_mark c.args.line.now c.requires) in
    let next = (c.in-Ok-true.ensures.reads plain ready).0 in
    record-found _ _ _ _ _ _ (rw (config, made.state, source) at next) c.in-Ok-true.field-0-test

pub returns-in-Ok-false : goal.returns-in-Ok-false
returns-in-Ok-false c =
    let made = c.from_reader-reader.ensures in
    let config : reader_config c.from_reader-reader.result ≡ settings c.args.sep = rw (c.delimiter.ensures, c.flexible.ensures, c.has_headers.ensures) at made.config ∙ ap (λ (from : Config). let with_sep : Config = record from { delimiter = c.args.sep } in with_sep) c.new.ensures.config in
    let plain : reader_trim c.from_reader-reader.result ≡ trim.None = rw (c.delimiter.ensures, c.flexible.ensures, c.has_headers.ensures) at made.trim ∙ c.new.ensures.trim in
    let ready : Ready c.from_reader-reader.result = inr (inr (rw (c.delimiter.ensures, c.flexible.ensures, c.has_headers.ensures) at made.has_headers, made.headers)) in
    let source = made.source ∙ ap Some (no_mark c.args.line.now c.requires) in
    let next = (c.in-Ok-false.ensures.reads plain ready).0 in
    c.new-in-Ok-false.ensures.fields ∙ record-none _ _ _ _ _ _ (rw (config, made.state, source) at next) c.in-Ok-false.field-0-test
