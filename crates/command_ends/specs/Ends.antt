-- What a command comes to: its answer, what it did to the store, and what it prints.
use Rattle.std.specs.Prelude.{◌≡◌, ◌⊎◌, ◌≤◌, ⊤, ℕ, List, ◌++◌, take, Bool, true, false, Result, Ok, Err}
use Rattle.disk_model.specs.Disk.{DiskState}
use Rattle.disk_model.specs.Faults.{Rose}
use Rattle.pair_store.specs.declared.ends.CommitEnd.{CommitEnd}
use Rattle.pair_store.specs.declared.ends.CommitEnd.TheVariants as commit
use Rattle.pair_store.specs.declared.refusal.StoreRefusal.{StoreRefusal}
use Rattle.pair_store.specs.declared.refusal.StoreRefusal.TheVariants as store
use Rattle.commit_trails.specs.Stints.{Stint, StintTrail}
use Rattle.message_text.specs.Statuses.{status_of}
use Rattle.message_text.specs.declared.refusal.Refusal.{Refusal}
use Rattle.message_text.specs.declared.refusal.Refusal.TheVariants.{TextFailed, Unloaded, Uncommitted, SinkFailed}
use Rattle.message_text.specs.declared.status.Status.{Status}
use Rattle.message_text.specs.declared.status.Status.TheVariants as status

-- ---- a command

-- whether a flow stopped, or why the command broke off; what it did to the store; and its text
pub record Ending : Type 0 where
  pub answer : Result Bool Refusal
  pub stint : Stint
  pub text : List ℕ

-- a command of which no flow stopped, or why it broke off
abbrev pub succeeded : {T : Type 0} → Result T Refusal → Result Bool Refusal
succeeded (Ok done) = Ok false
succeeded (Err why) = Err why

-- the status of an answer
abbrev pub status_by : Result Bool Refusal → Status
status_by (Ok false) = status.Ok
status_by (Ok true) = status.Stopped
status_by (Err why) = status_of why

-- ---- what it printed

-- where the output failed or memory ran out, it may have got less than the text
abbrev pub MayBeCut : Status → Type 0
MayBeCut status.Sink = ⊤
MayBeCut status.Memory = ⊤
MayBeCut other = ⊥

-- the output got this text behind what it had, or a front of it where it may be cut short
abbrev pub Printed : Status → List ℕ → List ℕ → List ℕ → Type 0
Printed status text was now = (now ≡ was ++ text) ⊎ (MayBeCut status × (bytes : ℕ) × (now ≡ was ++ take bytes text))

-- A command has come to one of these endings: what a crash leaves of it and, where the output tells, what it printed.
pub record HasCome (timed told : Type 0) (Ends : Ending → Type 0) (answer : Result Bool Refusal) (old new : DiskState) (was now : List ℕ) : Type 0 where
  pub ending : Ending
  pub is : Ends ending
  pub answer_is : answer ≡ ending.answer
  pub trail : StintTrail timed ending.stint old new
  pub printed : told → Printed (status_by answer) ending.text was now

-- ---- whom it blames

-- how often the devices of a run have failed
pub record Faults : Type 0 where
  pub text : ℕ
  pub disk : ℕ
  pub sink : ℕ

-- no count of faults falls
pub record AreLater (was now : Faults) : Type 0 where
  pub text : was.text ≤ now.text
  pub disk : was.disk ≤ now.disk
  pub sink : was.sink ≤ now.sink

abbrev pub BlamesDiskAtLoad : Faults → Faults → StoreRefusal → Type 0
BlamesDiskAtLoad was now store.Failed = Rose was.disk now.disk
BlamesDiskAtLoad was now other = ⊤

abbrev pub BlamesDiskAtCommit : Faults → Faults → CommitEnd → Type 0
BlamesDiskAtCommit was now (commit.Failed count) = Rose was.disk now.disk × (count ≡ now.disk)
BlamesDiskAtCommit was now other = ⊤

-- a refusal that says that a device failed comes only where its count rose
abbrev pub Blames : Faults → Faults → Refusal → Type 0
Blames was now TextFailed = Rose was.text now.text
Blames was now (Unloaded refusal) = BlamesDiskAtLoad was now refusal
Blames was now (Uncommitted end) = BlamesDiskAtCommit was now end
Blames was now SinkFailed = Rose was.sink now.sink
Blames was now other = ⊤
