use Rattle.std.proofs.Common.{◌≡◌, ◌+◌, ◌≤◌, ◌∙◌, length, length-append, length-drop, length-take, refl, arith, rules}
use Rattle.std.specs.Prelude.{slice_range}
use Rattle.std.proofs.lemmas.Grind.{common_steps}
use Rattle.landing_core.specs.Folders.{bytes_of}
use Rattle.landing_core.proofs.PieceLemmas.{head_start, head_more, head_found, piece_is}
use Rattle.landing_core.proofs.heads.read_head.Goals as goal

pub loop-at-preserved : goal.loop-at-preserved
loop-at-preserved g c =
    let before = c.loop-at.invariant in
    let read = c.in_ok-read_at.ensures in
    let listed = c.args.listed.now in
    let bytes = bytes_of c.args.dir.now listed.file (g.L.Landing.present c.args.landing.now) in
    let len : length c.read_at.new.into ≡ c.min-len.result = search rules in
    let within : c.loop-at.at + c.min-len.result ≤ listed.size = omega arith in
    record {
      to = within;
      buffer = simp (length-append, length-drop) (omega arith);
      at = omega (arith, rw c.in_default.is at c.in_ok-head.ensures.place);
      present = λ t. read.present t ∙ before.present t;
      ever = λ t. read.ever t ∙ before.ever t;
      head = λ t.
          let is : c.read_at.new.into ≡ slice_range bytes c.loop-at.at (c.loop-at.at + c.min-len.result) = piece_is bytes _ c.loop-at.at c.min-len.result _ (rw (c.as_str.ensures, before.present t) at (read.bytes t)) (simp length-take (omega arith)) in
          head_more bytes c.read_at.new.into c.loop-at.at c.min-len.result listed.size c.loop-at.begun c.seek_piece.new.begun _ within is (rw c.in_default.is at c.in_ok-head.ensures.head) (before.head t);
      faults = read.cause.kept ∙ before.faults;
    }

pub loop-at-init : goal.loop-at-init
loop-at-init g c =
    let listed = c.args.listed.now in
    let bytes = bytes_of c.args.dir.now listed.file (g.L.Landing.present c.args.landing.now) in
    record {
      to = omega arith;
      buffer = grind (arith, common_steps);
      at = rw c.new.ensures.items refl;
      present = λ t. refl;
      ever = λ t. refl;
      head = λ t. rw (head_start bytes listed.size, c.new.ensures.items) refl;
      faults = refl;
    }

pub returns-in-Some-clause-head : goal.returns-in-Some-clause-head
returns-in-Some-clause-head g c t =
    let before = c.loop-at.invariant in
    let read = c.in_ok-read_at.ensures in
    let listed = c.args.listed.now in
    let bytes = bytes_of c.args.dir.now listed.file (g.L.Landing.present c.args.landing.now) in
    let within : c.loop-at.at + c.min-len.result ≤ listed.size = omega arith in
    let is : c.read_at.new.into ≡ slice_range bytes c.loop-at.at (c.loop-at.at + c.min-len.result) = piece_is bytes _ c.loop-at.at c.min-len.result _ (rw (c.as_str.ensures, before.present t) at (read.bytes t)) (simp length-take (omega arith)) in
    head_found bytes c.read_at.new.into c.loop-at.at c.min-len.result listed.size c.loop-at.begun c.seek_piece.new.begun c.in-Some.head _ within is (rw c.in-Some.is at c.in_ok-head.ensures.head) (before.head t)
