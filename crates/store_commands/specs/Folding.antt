-- A store that was loaded is folded, and that is told.
use Rattle.std.specs.Prelude.{ℕ, List, Bool, Result}
use Rattle.commit_payloads.specs.declared.payload.Payload.{Payload}
use Rattle.disk_model.specs.Disk.{DiskState}
use Rattle.state_model.specs.Dataset.{State}
use Rattle.pair_store.specs.declared.ends.CommitEnd.{CommitEnd}
use Rattle.pair_store.specs.declared.ends.CommitEnd.TheVariants as commit
use Rattle.commit_trails.specs.Stints.{over}
use Rattle.commit_trails.specs.Trails.{Trail}
use Rattle.message_text.specs.declared.refusal.Refusal.{Refusal}
use Rattle.message_text.specs.declared.refusal.Refusal.TheVariants.{Memory, Uncommitted}
use Rattle.command_ends.specs.Ends.{Ending, Printed, status_by}
use Rattle.store_commands.specs.Commands.{Folds}

-- why a command ends where a store isn't folded
abbrev pub refusal_by : CommitEnd → Refusal
refusal_by (commit.Failed count) = Uncommitted (commit.Failed count)
refusal_by (commit.Full end room) = Uncommitted (commit.Full end room)
refusal_by (commit.VersionFull name) = Uncommitted (commit.VersionFull name)
refusal_by (commit.EpochFull epoch) = Uncommitted (commit.EpochFull epoch)
refusal_by commit.Memory = Memory

-- how a command ends that answered so, acknowledged and tried these payloads on a store of this state, and had this text to print
abbrev pub ending_over : Result Bool Refusal → State → List Payload → List Payload → List ℕ → Ending
ending_over answer state acked tried text = record { answer = answer; stint = over state acked tried; text = text }

-- A store of this state in the log of this epoch was folded, or it wasn't: what a crash leaves of that and, where the output
-- tells, what it got.
pub record HasFolded (timed told : Type 0) (room : ℕ) (state : State) (epoch : ℕ) (answer : Result Bool Refusal) (old new : DiskState) (was now : List ℕ) : Type 0 where
  pub acked : List Payload
  pub tried : List Payload
  pub text : List ℕ
  pub is : Folds room state epoch (ending_over answer state acked tried text)
  pub trail : Trail timed state acked tried old new
  pub printed : told → Printed (status_by answer) text was now
