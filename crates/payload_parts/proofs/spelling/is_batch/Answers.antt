use Rattle.std.proofs.Common.{refl, sym, ap, ◌∙◌}
use Rattle.commit_payloads.specs.Forms.{all_have_their_parts}
use Rattle.payload_parts.proofs.spelling.is_batch.Goals as goal

pub returns : goal.returns
returns c =
    let told = c.all_have_their_parts.ensures ∙ ap all_have_their_parts c.as_slice.ensures in
    (λ is. (c.if-not-is_progress.ensures.0 refl, c.if-not-is_net.ensures.0 refl, sym told ∙ is), λ batch. told ∙ batch.2)
