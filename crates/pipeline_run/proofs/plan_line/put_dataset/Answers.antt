use Rattle.std.proofs.Common.{◌∙◌, append_assoc}
use Rattle.pipeline_run.proofs.plan_line.put_dataset.Goals as goal

pub returns : goal.returns
returns c =
    c.in_ok-push.ensures.items ∙ simp (append_assoc, c.in_ok-put_columns.ensures, c.as_slice.ensures, c.in_ok-put-2.ensures, c.as_str-2.ensures.value, c.in_ok-place.ensures.ok, c.in_ok-put_escaped.ensures, c.as_str.ensures, c.in_ok-put.ensures, c.body_words.ensures)
