-- The commands that need a store alone.
use Rattle.std.specs.Prelude.{◌≡◌, ◌≢◌, ◌⊎◌, ℕ, ◌+◌, ◌-◌, ◌^◌, ◌<◌, ◌≤◌, List, [], ◌∷◌, Option, Some, None, Err}
use Rattle.disk_model.specs.Disk.{TwoFiles}
use Rattle.commit_gate.specs.Fill.{filled_end}
use Rattle.table_versions.specs.Versions.{IsKept}
use Rattle.pair_store.specs.Compact.{base_body, base_of}
use Rattle.pair_store.specs.declared.ends.CommitEnd.TheVariants as commit
use Rattle.state_model.specs.Dataset.{Dataset, State, content_at, dataset_of, version_of}
use Rattle.report_text.specs.Metrics.{print_metrics}
use Rattle.report_text.specs.Rows.{print_table}
use Rattle.message_text.specs.Messages.{compacted_line}
use Rattle.message_text.specs.declared.refusal.Refusal.TheVariants.{Memory, NoVersion, Uncommitted, UnknownTable}
use Rattle.command_ends.specs.Ends.{Ending}
use Rattle.command_ends.specs.Loads.{BreaksOff, HasTold, Loads, Tells}

-- ---- show

-- the version that is asked for, and the last one where none is named
abbrev pub version_asked : Option ℕ → Dataset → ℕ
version_asked None dataset = version_of dataset
version_asked (Some version) dataset = version

-- the columns of a dataset and its rows at a version, as a table
abbrev pub table_at : Dataset → ℕ → List ℕ
table_at dataset version = print_table dataset.definition.columns (content_at dataset version)

-- a version of a dataset: it is printed where it is kept, and else refused
pub record IsLacking (dataset : Dataset) (version : ℕ) (ending : Ending) : Type 0 where
  pub lacking : IsKept dataset.table version → ⊥
  pub breaks : BreaksOff (NoVersion dataset.definition.name version dataset.table.base (version_of dataset)) [] ending

pub record IsThere (dataset : Dataset) (version : ℕ) (ending : Ending) : Type 0 where
  pub kept : IsKept dataset.table version
  pub tells : Tells (table_at dataset version) ending

-- the dataset of a name, if there is one
abbrev pub ShowsIn : List ℕ → Option ℕ → Option Dataset → Ending → Type 0
ShowsIn name version None ending = BreaksOff (UnknownTable name) [] ending
ShowsIn name version (Some dataset) ending = IsLacking dataset (version_asked version dataset) ending ⊎ IsThere dataset (version_asked version dataset) ending

-- `show NAME [--version N]`, unless memory runs out before the output is called
abbrev pub Shows : ℕ → List ℕ → Option ℕ → TwoFiles → Ending → Type 0
Shows room name version files ending = Loads room files (λ state end epoch ending. BreaksOff Memory [] ending ⊎ ShowsIn name version (dataset_of state name) ending) ending

-- ---- metrics

abbrev pub Measures : ℕ → TwoFiles → Ending → Type 0
Measures room files ending = Loads room files (λ state end epoch. Tells (print_metrics state)) ending

-- ---- compact

-- where the log of the next epoch would end, with the base that the store folds to and behind its closed gate
abbrev pub folded_end : State → ℕ → ℕ
folded_end state epoch = filled_end (epoch + 1) (Some (base_body state))

-- a log of this epoch, which is not the last, would be folded into one that ends within the room
pub record MayFold (room : ℕ) (state : State) (epoch : ℕ) : Type 0 where
  pub epochs : epoch ≢ 2 ^ 64 - 1
  pub short : folded_end state epoch ≤ room

-- there is no next epoch
pub record IsLastEpoch (state : State) (epoch : ℕ) (ending : Ending) : Type 0 where
  pub last : epoch ≡ 2 ^ 64 - 1
  pub breaks : BreaksOff (Uncommitted (commit.EpochFull epoch)) [] ending

-- the new log has no room
pub record IsTooLong (room : ℕ) (state : State) (epoch : ℕ) (ending : Ending) : Type 0 where
  pub epochs : epoch ≢ 2 ^ 64 - 1
  pub long : room < folded_end state epoch
  pub breaks : BreaksOff (Uncommitted (commit.Full (folded_end state epoch) room)) [] ending

-- the disk failed, so that the store may be folded or not
pub record MayBeFolded (room : ℕ) (state : State) (epoch : ℕ) (ending : Ending) : Type 0 where
  pub may : MayFold room state epoch
  pub count : ℕ
  pub answer_is : ending.answer ≡ Err (Uncommitted (commit.Failed count))
  pub acked_is : ending.stint.acked ≡ []
  pub tried_is : ending.stint.tried ≡ base_of state ∷ []
  pub text_is : ending.text ≡ []

-- it was folded, and the epoch of its new log is told
pub record IsFolded (room : ℕ) (state : State) (epoch : ℕ) (ending : Ending) : Type 0 where
  pub may : MayFold room state epoch
  pub told : HasTold ending.answer
  pub acked_is : ending.stint.acked ≡ base_of state ∷ []
  pub tried_is : ending.stint.tried ≡ base_of state ∷ []
  pub text_is : ending.text ≡ compacted_line (epoch + 1)

-- a loaded store is folded into its other file, unless memory runs out before the disk is called
abbrev pub Folds : ℕ → State → ℕ → Ending → Type 0
Folds room state epoch ending =
    IsLastEpoch state epoch ending ⊎ (IsTooLong room state epoch ending ⊎ (BreaksOff Memory [] ending ⊎ (MayBeFolded room state epoch ending ⊎ IsFolded room state epoch ending)))

abbrev pub Compacts : ℕ → TwoFiles → Ending → Type 0
Compacts room files ending = Loads room files (λ state end epoch. Folds room state epoch) ending
