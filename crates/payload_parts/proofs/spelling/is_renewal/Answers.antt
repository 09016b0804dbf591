use Rattle.std.proofs.Common.{refl}
use Rattle.payload_parts.proofs.spelling.is_renewal.Goals as goal

pub returns : goal.returns
returns c = (λ is. (c.if-not-is_progress.ensures.0 refl, c.is_net.ensures.0 is), λ renewal. c.is_net.ensures.1 renewal.1)
