use Rattle.std.proofs.Common.{◌≡◌}
use Rattle.store_tables.proofs.part.Part.restore_if.Goals as goal

pub returns-in-Some : goal.returns-in-Some
returns-in-Some c = λ definition. rw c.in-Some.is (c.restore.ensures definition)
