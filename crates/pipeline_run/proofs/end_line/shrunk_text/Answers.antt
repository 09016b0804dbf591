use Rattle.std.proofs.Common.{◌∙◌, append_assoc}
use Rattle.pipeline_run.proofs.end_line.shrunk_text.Goals as goal

pub returns : goal.returns
returns c =
    c.in_ok-put.ensures ∙ simp (append_assoc, c.as_str-2.ensures.value, c.in_ok-rest.ensures.ok, c.in_ok-put_escaped.ensures, c.as_str.ensures, c.in_ok-text.ensures.items)
