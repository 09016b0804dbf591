use Rattle.std.proofs.Common.{◌∙◌, append_assoc}
use Rattle.pipeline_run.proofs.end_line.end_line.Goals as goal

pub returns-in_ok-format-in-Full : goal.returns-in_ok-format-in-Full
returns-in_ok-format-in-Full c =
    rw (c.in-Full.is, c.into_bytes-in-Full.ensures.value) (c.in_ok-format-in-Full.ensures.ok ∙ simp append_assoc)

pub returns-in-LandingFailed : goal.returns-in-LandingFailed
returns-in-LandingFailed c = rw c.in-LandingFailed.is c.flow_line.ensures
