use Rattle.std.proofs.Common.{◌≡◌, drop}
use Rattle.disk_model.specs.Image.{picture_of, pictured}
use Rattle.disk_model.proofs.image.image_after.Given as goal

abbrev pub invariant-loop-call : goal.invariant-loop-call
invariant-loop-call l =
    pictured l.side l.pick (picture_of l.replay) (drop l.call-index l.calls) l.rest
    ≡ pictured l.side l.pick (record { now = l.first; image = l.first }) l.calls l.pieces
