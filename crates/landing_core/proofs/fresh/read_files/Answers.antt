use Rattle.std.proofs.Common.{◌∙◌, ◌+◌, ◌∷◌, [], drop, arith}
use Rattle.landing_core.specs.Lines.{head_text}
use Rattle.landing_core.specs.Fresh.{head_in, heads_of, new_rows, new_lines}
use Rattle.landing_core.proofs.FreshLemmas.{split_listing, unshrunk_more, added, places_more}
use Rattle.landing_core.proofs.PlaceLawLemmas.{moved_ascending, moved_above, moved_later}
use Rattle.landing_core.proofs.fresh.read_files.Goals as goal

pub loop-k-preserved : goal.loop-k-preserved
loop-k-preserved g c =
    let before = c.loop-k.invariant in
    let step = c.in_ok-take_file.ensures in
    let dir = c.args.dir.now in
    let files = g.L.Landing.present c.args.landing.now in
    let cursor = c.args.cursor.now in
    let format = c.args.form.format in
    let header = c.args.form.header in
    let k = c.loop-k.k in
    let listed = c.index-listing-k.result in
    let more = drop (c.loop-k.k + 1) c.args.listing.now in
    let split = split_listing c.args.listing.now k listed (omega arith) c.index-listing-k.is in
    let kept = c.loop-k.fresh in
    let fresh = c.take_file.new.fresh in
    let there = step.later in
    record {
      present = λ t. step.present t ∙ before.present t;
      ever = λ t. step.ever t ∙ before.ever t;
      there = λ t. (rw split at (before.there t)).1;
      unshrunk = unshrunk_more cursor listed more (rw split at before.unshrunk);
      heads = λ t. added kept.heads fresh.heads (head_text (head_in format header dir files listed) ∷ []) (heads_of format header dir files more) _ (rw (before.present t) at (step.heads t)) (rw split at (before.heads t));
      lines = λ t. added kept.lines fresh.lines (new_rows format header dir files cursor k listed) (new_lines format header dir files cursor (k + 1) more) _ (rw (before.present t) at (step.lines t)) (rw split at (before.lines t));
      places = λ t. places_more dir files cursor listed more kept.places.items fresh.places.items _ (rw (before.present t) at (step.places t)) (rw split at (before.places t));
      ascending = rw (there.2) (moved_ascending listed.file (there.0) kept.places.items before.ascending);
      above_zero = rw (there.2) (moved_above listed.file (there.0) kept.places.items before.above_zero);
      later = rw (there.2) (moved_later cursor listed.file (there.0) kept.places.items (there.1) before.later);
      faults = step.cause.kept ∙ before.faults;
    }
