-- The status of a run, by why it ends.
use Rattle.sql_tokens.specs.declared.error.SqlRefusal.{SqlRefusal}
use Rattle.sql_tokens.specs.declared.error.SqlRefusal.TheVariants as reading
use Rattle.plan_check.specs.declared.refusal.CheckRefusal.{CheckRefusal}
use Rattle.plan_check.specs.declared.refusal.CheckRefusal.TheVariants as check
use Rattle.pair_store.specs.declared.refusal.StoreRefusal.{StoreRefusal}
use Rattle.pair_store.specs.declared.refusal.StoreRefusal.TheVariants as store
use Rattle.pair_store.specs.declared.ends.CommitEnd.{CommitEnd}
use Rattle.pair_store.specs.declared.ends.CommitEnd.TheVariants as commit
use Rattle.update_plan.specs.declared.ends.PlanEnd.{PlanEnd}
use Rattle.update_plan.specs.declared.ends.PlanEnd.TheVariants as planning
use Rattle.message_text.specs.declared.refusal.Refusal.{Refusal}
use Rattle.message_text.specs.declared.refusal.Refusal.TheVariants.{Usage, TextFailed, Unread, Unchecked, NotBuilt, Unloaded, Unplanned, Unfit, Uncommitted, UnknownTable, NoVersion, SinkFailed, Memory}
use Rattle.message_text.specs.declared.status.Status.{Status}
use Rattle.message_text.specs.declared.status.Status.TheVariants as status

-- a text that has no reading
abbrev pub unread_status : SqlRefusal → Status
unread_status reading.TextTooLong = status.Pipeline
unread_status (reading.BadToken at) = status.Pipeline
unread_status (reading.LiteralTooLarge at) = status.Pipeline
unread_status (reading.Unexpected at) = status.Pipeline
unread_status (reading.ExprTooLong at) = status.Pipeline
unread_status reading.Memory = status.Memory

-- statements that break a check
abbrev pub unchecked_status : CheckRefusal → Status
unchecked_status (check.Refused found) = status.Pipeline
unchecked_status (check.Cycle path) = status.Pipeline
unchecked_status check.Memory = status.Memory

-- a store that isn't loaded
abbrev pub unloaded_status : StoreRefusal → Status
unloaded_status (store.Foreign side len) = status.Store
unloaded_status (store.Damaged side at) = status.Store
unloaded_status (store.SameEpoch epoch) = status.Store
unloaded_status (store.Full end room) = status.Store
unloaded_status store.Failed = status.Disk
unloaded_status store.Memory = status.Memory

-- an update that isn't begun
abbrev pub unplanned_status : PlanEnd → Status
unplanned_status (planning.Changed name stored given) = status.Store
unplanned_status (planning.Removed name) = status.Store
unplanned_status (planning.UnknownTable name) = status.Store
unplanned_status planning.Memory = status.Memory

-- a payload that isn't committed, or a store that isn't compacted
abbrev pub uncommitted_status : CommitEnd → Status
uncommitted_status (commit.Failed count) = status.Disk
uncommitted_status (commit.Full end room) = status.Store
uncommitted_status (commit.VersionFull name) = status.Store
uncommitted_status (commit.EpochFull epoch) = status.Store
uncommitted_status commit.Memory = status.Memory

-- the status of a run that ends so
abbrev pub status_of : Refusal → Status
status_of Usage = status.Usage
status_of TextFailed = status.Text
status_of (Unread refusal) = unread_status refusal
status_of (Unchecked refusal) = unchecked_status refusal
status_of (NotBuilt statement) = status.Pipeline
status_of (Unloaded refusal) = unloaded_status refusal
status_of (Unplanned end) = unplanned_status end
status_of (Unfit name) = status.Store
status_of (Uncommitted end) = uncommitted_status end
status_of (UnknownTable name) = status.Store
status_of (NoVersion name asked base newest) = status.Store
status_of SinkFailed = status.Sink
status_of Memory = status.Memory
