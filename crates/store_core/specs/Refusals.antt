-- The refusals of the log as those of the store.
use Rattle.disk_model.specs.declared.disk.Side.TheVariants.{Left}
use Rattle.commit_gate.specs.declared.step.LogRefusal.{LogRefusal}
use Rattle.commit_gate.specs.declared.step.LogRefusal.TheVariants.{Damaged as LogDamaged, Failed as LogFailed, Memory as LogMemory}
use Rattle.commit_gate.specs.declared.log.AppendEnd.{AppendEnd}
use Rattle.commit_gate.specs.declared.log.AppendEnd.TheVariants.{Full as NoRoom, Failed as AppendFailed}
use Rattle.store_core.specs.declared.refusal.StoreRefusal.{StoreRefusal}
use Rattle.store_core.specs.declared.refusal.StoreRefusal.TheVariants.{Damaged, Full, Failed, Memory}

-- a damaged log is that of the left file
abbrev pub refusal_of_log : LogRefusal → StoreRefusal
refusal_of_log (LogDamaged at) = Damaged Left at
refusal_of_log LogFailed = Failed
refusal_of_log LogMemory = Memory

abbrev pub refusal_of_append : AppendEnd → StoreRefusal
refusal_of_append (NoRoom end room) = Full end room
refusal_of_append AppendFailed = Failed
