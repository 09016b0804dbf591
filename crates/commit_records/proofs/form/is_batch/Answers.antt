use Rattle.std.proofs.Common.{◌≡◌, sym, ap, ◌∙◌}
use Rattle.commit_records.specs.Forms.{all_have_their_parts}
use Rattle.commit_records.proofs.form.is_batch.Goals as goal

pub returns : goal.returns
returns c =
    let parts : c.all_have_their_parts.result ≡ all_have_their_parts c.args.take.now.events = c.all_have_their_parts.ensures ∙ ap all_have_their_parts c.as_slice.ensures in (
      λ holds. (c.is_progress.ensures.0 c.if-not-is_progress.false, c.is_net.ensures.0 c.if-not-is_net.false, sym parts ∙ holds),
      λ batch. parts ∙ batch.2,
    )
