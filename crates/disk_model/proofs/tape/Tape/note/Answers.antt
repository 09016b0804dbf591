use Rattle.std.proofs.Common.{rules, ◌≡◌, ◌+◌, ◌∷◌, [], ◌++◌, length, ◌∙◌, ap, arith, length-append}
use Rattle.disk_model.specs.Record.{all_written}
use Rattle.disk_model.proofs.RecordLemmas.{all_written-push}
use Rattle.disk_model.proofs.tape.Tape.note.Goals as goal

pub invariant_of-self : goal.invariant_of-self
invariant_of-self c =
    let tape = c.args.self.now in
    let piece = c.args.piece.now in
    let pieces : c.extend_from_slice.new.self.items ≡ tape.pieces.items ++ piece = search rules in
    let calls = c.push_reserved.ensures.items in
    let call = c.args.call in
    let many : length c.push_reserved.new.self.items ≡ length tape.calls.items + 1 = ap length calls ∙ length-append tape.calls.items (call ∷ []) in
    let long : length c.extend_from_slice.new.self.items ≡ length tape.pieces.items + length piece = ap length pieces ∙ length-append tape.pieces.items piece in
    record {
      within = omega (arith, c.requires.place, many, long);
      calls_reserved = omega (arith, tape.calls_reserved, c.push_reserved.ensures.capacity);
      pieces_reserved = omega (arith, tape.pieces_reserved, c.extend_from_slice.ensures.capacity);
      all_there = ap all_written calls ∙ all_written-push tape.calls.items call ∙ omega (arith, tape.all_there, c.requires.piece, long);
    }
