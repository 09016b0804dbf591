use Rattle.std.proofs.Common.{◌≡◌, ◌<◌, ◌+◌, length, ap, sym, ◌∙◌, arith}
use Rattle.std.proofs.lemmas.List.{length-map}
use Rattle.state_model.specs.Dataset.{definition_of}
use Rattle.store_folding.proofs.ReaderLemmas.{none_past, reader_step}
use Rattle.store_folding.proofs.readers.least_reader.Goals as goal
use Rattle.store_folding.proofs.readers.least_reader.Goals.{in-Some, in_default}

pub loop-place-preserved : goal.loop-place-preserved
loop-place-preserved c =
    let items = c.as_slice-reader-items.ensures ∙ c.definitions.ensures.definitions in
    let lens : length c.as_slice-reader-items.result.now ≡ length c.args.contents.now = ap length items ∙ length-map c.args.contents.now definition_of in
    let within : c.loop-place.place < length c.args.contents.now = omega (arith, lens, c.loop-place-test.true) in
    elim c.match-cursors_at.branch [
      | in-Some w ↦ w.now-is ∙ w.least_of_flows-now.ensures ∙ rw (w.as_slice.ensures, c.loop-place.invariant)
          (reader_step c.args.name.now c.args.contents.now c.loop-place.place c.args.least c.reader-item.result w.in-Some.cursors.now within (rw (sym items) c.reader-item.is) w.in-Some.ensures)
      | in_default w ↦ absurd (none_past c.args.contents.now c.loop-place.place within w.in_default.ensures)
    ]
