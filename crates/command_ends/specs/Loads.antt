-- A command loads its store, and goes on from it.
use Rattle.std.specs.Prelude.{◌≡◌, ◌⊎◌, ⊤, ℕ, ◌≤◌, ◌^◌, List, [], length, Bool, false, Some, Result, Ok, Err}
use Rattle.disk_model.specs.declared.disk.Side.{Side}
use Rattle.disk_model.specs.Disk.{DiskState, TwoFiles}
use Rattle.disk_model.specs.Moments.{LeavesOnly}
use Rattle.commit_payloads.specs.declared.payload.Payload.{Payload}
use Rattle.log_pair.specs.Pair.{IsNewest, IsUnbegun}
use Rattle.pair_state.specs.PairEnd.{PairEndsAt}
use Rattle.pair_state.specs.PairState.{HasPairState}
use Rattle.pair_store.specs.Load.{KeepsPairStateSynced, StoreLoadAnswers, StoreLoads}
use Rattle.pair_store.specs.declared.refusal.StoreRefusal.{StoreRefusal}
use Rattle.state_model.specs.Dataset.{State}
use Rattle.commit_trails.specs.Stints.{idle}
use Rattle.message_text.specs.declared.refusal.Refusal.{Refusal}
use Rattle.message_text.specs.declared.refusal.Refusal.TheVariants.{Unloaded, SinkFailed, Memory}
use Rattle.command_ends.specs.Ends.{Ending}

-- the epoch of the live log of the greater epoch, and 1 before the first log
abbrev pub HasEpoch : TwoFiles → ℕ → Type 0
HasEpoch files epoch = ((side : Side) × IsNewest side epoch files) ⊎ (IsUnbegun files × (epoch ≡ 1))

-- A store of this state is read from two files that each have this room: the gate of its next record stands at this place, and
-- this is the epoch of its log.
pub record IsLoaded (room : ℕ) (files : TwoFiles) (state : State) (end epoch : ℕ) : Type 0 where
  pub has : HasPairState files state
  pub small : (length files.left ≤ 2 ^ 40) × (length files.right ≤ 2 ^ 40)
  pub fits : IsUnbegun files → 18 ≤ room
  pub ends : (side : Side) × PairEndsAt side end files
  pub epoch_is : HasEpoch files epoch

-- why none is
abbrev pub IsNotLoaded : ℕ → TwoFiles → StoreRefusal → Type 0
IsNotLoaded room files refusal = StoreLoadAnswers room files (Err refusal)

-- what the load of a store leaves, before its first commit
pub record IsLed (timed : Type 0) (old new : DiskState) : Type 0 where
  pub loads : StoreLoads old new
  pub synced : timed → LeavesOnly (KeepsPairStateSynced old.now) old new

-- ---- a command

-- the load is refused, and the command prints nothing
pub record IsRefused (room : ℕ) (files : TwoFiles) (ending : Ending) : Type 0 where
  pub refusal : StoreRefusal
  pub cause : IsNotLoaded room files refusal
  pub ending_is : ending ≡ record { answer = Err (Unloaded refusal); stint = idle; text = [] }

-- a store is loaded, and the command goes on so from its state, the end of its log and its epoch
pub record GoesOn (room : ℕ) (files : TwoFiles) (Goes : State → ℕ → ℕ → Ending → Type 0) (ending : Ending) : Type 0 where
  pub state : State
  pub end : ℕ
  pub epoch : ℕ
  pub loaded : IsLoaded room files state end epoch
  pub over : ending.stint.loaded ≡ Some state
  pub goes : Goes state end epoch ending

abbrev pub Loads : ℕ → TwoFiles → (State → ℕ → ℕ → Ending → Type 0) → Ending → Type 0
Loads room files Goes ending = IsRefused room files ending ⊎ GoesOn room files Goes ending

-- ---- how it goes on

-- it breaks off after these payloads, and prints nothing
pub record BreaksOff (why : Refusal) (payloads : List Payload) (ending : Ending) : Type 0 where
  pub answer_is : ending.answer ≡ Err why
  pub acked_is : ending.stint.acked ≡ payloads
  pub tried_is : ending.stint.tried ≡ payloads
  pub text_is : ending.text ≡ []

-- an answer of a command that has a text to print: it printed it, or the output failed, or memory ran out
abbrev pub HasTold : Result Bool Refusal → Type 0
HasTold (Ok stopped) = stopped ≡ false
HasTold (Err SinkFailed) = ⊤
HasTold (Err Memory) = ⊤
HasTold (Err other) = ⊥

-- it tries no payload, and prints this
pub record Tells (text : List ℕ) (ending : Ending) : Type 0 where
  pub told : HasTold ending.answer
  pub acked_is : ending.stint.acked ≡ []
  pub tried_is : ending.stint.tried ≡ []
  pub text_is : ending.text ≡ text
