use Rattle.std.proofs.Common.{◌≡◌, ◌++◌, take}
use Rattle.message_text.specs.Faults.{more_path}
use Rattle.message_text.proofs.faults.put_more_path.Given as goal

abbrev pub invariant-loop-name : goal.invariant-loop-name
invariant-loop-name l = l.out.items ≡ l.initial.out.items ++ more_path (take l.name-index l.names)
