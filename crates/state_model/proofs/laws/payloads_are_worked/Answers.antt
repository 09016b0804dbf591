use Rattle.std.proofs.Common.{rules}
use Rattle.state_model.proofs.laws.payloads_are_worked.Goals as goal

pub returns : goal.returns
returns c = record { taken = search rules; refreshed = search rules; emptied = search rules; added = search rules; anew = search rules; compacted = search rules }
