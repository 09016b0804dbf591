-- What a run does.
use Rattle.std.specs.Prelude.{◌≡◌, ◌≢◌, ◌⊎◌, ℕ, ◌≤◌, List, [], ◌∷◌, ◌++◌, take, Option, Some, None}
use Rattle.disk_model.specs.Faults.{Rose}
use Rattle.landing_core.specs.declared.landing.LandingFile.{LandingFile}
use Rattle.pipeline_sql.specs.Read.{IsRefused}
use Rattle.table_update.specs.Update.{Found}
use Rattle.table_update.specs.declared.end.UpdateEnd.{UpdateEnd}
use Rattle.table_update.specs.declared.end.UpdateEnd.TheVariants.{LoadFailed, CommitFailed, LandingFailed, Shrunk}
use Rattle.table_update.specs.declared.table.AppendTable.{AppendTable}
use Rattle.pipeline_run.specs.declared.command.Command.{Command}
use Rattle.pipeline_run.specs.declared.command.Command.TheVariants as command
use Rattle.pipeline_run.specs.declared.outcome.Outcome.{Outcome}
use Rattle.pipeline_run.specs.declared.outcome.Outcome.TheVariants.{Usage, TextFailed, Refused, Broken, Valid, Updated}
use Rattle.pipeline_run.specs.declared.outcome.Status.{Status}
use Rattle.pipeline_run.specs.declared.outcome.Status.TheVariants as status
use Rattle.pipeline_run.specs.Pipeline.{text_limit, HasPlan, IsBroken}
use Rattle.pipeline_run.specs.Report.{printed, printed_end, status_of}
use Rattle.pipeline_run.specs.Table.{name_of, plan_of}
use Rattle.pipeline_run.specs.Update.{Ended, EndsWith}

-- what stays as it is during a run: what the source of the text has left when it begins, how long the store's file may
-- get, and the landing files
pub record Around : Type 0 where
  pub text : List ℕ
  pub room : ℕ
  pub landing : List LandingFile

-- how often each device has failed that commands use
pub record Counts : Type 0 where
  pub text : ℕ
  pub disk : ℕ
  pub landing : ℕ
  pub sink : ℕ

-- no count falls
pub record NoneFalls (old new : Counts) : Type 0 where
  pub text : old.text ≤ new.text
  pub disk : old.disk ≤ new.disk
  pub landing : old.landing ≤ new.landing
  pub sink : old.sink ≤ new.sink

-- what a run has come to before and after each command: the bytes of the store's file, what was printed, and the failures so far
pub record RunState : Type 0 where
  pub file : List ℕ
  pub printed : List ℕ
  pub faults : Counts

-- ---- one line

-- the outcome was told: its line was printed whole, and the answer is its own
pub record IsTold (outcome : Outcome) (answer : Status) (old new : RunState) : Type 0 where
  pub status : answer ≡ status_of outcome
  pub line : new.printed ≡ old.printed ++ printed outcome

-- it couldn't be told: the sink failed at its line or memory ran out, and a front of the line was printed
pub record IsCut (outcome : Outcome) (answer : Status) (old new : RunState) : Type 0 where
  pub status : ((answer ≡ status.Sink) × Rose old.faults.sink new.faults.sink × (printed outcome ≢ [])) ⊎ (answer ≡ status.Memory)
  pub line : (n : ℕ) × (new.printed ≡ old.printed ++ take n (printed outcome))

abbrev pub Tells : Outcome → Status → RunState → RunState → Type 0
Tells outcome answer old new = IsTold outcome answer old new ⊎ IsCut outcome answer old new

-- memory ran out before there was an outcome
pub record RunsOut (answer : Status) (old new : RunState) : Type 0 where
  pub status : answer ≡ status.Memory
  pub file : new.file ≡ old.file
  pub printed : new.printed ≡ old.printed
  pub later : NoneFalls old.faults new.faults

-- ---- one command

abbrev pub found_by : Around → List ℕ → Found
found_by around file = record { bytes = file; room = around.room; landing = around.landing }

-- there was no update, and the bytes of the store's file are as they were
abbrev pub IsIdle : List Ended → List ℕ → List ℕ → Type 0
IsIdle updates before after = (updates ≡ []) × (after ≡ before)

-- there was one update of a pipeline of this table, or of none, which ended so
abbrev pub IsUpdate : Option AppendTable → Around → UpdateEnd → List Ended → List ℕ → List ℕ → Type 0
IsUpdate plan around end updates before after = (ended : Ended) × (updates ≡ ended ∷ []) × (ended.end ≡ end) × EndsWith plan (found_by around before) ended after

-- an update of what the text asks for
abbrev pub IsUpdateOf : Option (List ℕ) → Around → UpdateEnd → List Ended → List ℕ → List ℕ → Type 0
IsUpdateOf name around end updates before after =
    (plan : Option AppendTable) × HasPlan around.text (plan_of plan) × (name ≡ name_of plan) × IsUpdate plan around end updates before after

-- When a command comes to an outcome, which updates it had, and the bytes of the store's file before and after it. Each
-- command needs the text. One whose text couldn't be read, or is refused, or has a statement that breaks a check, leaves the
-- file as it was.
abbrev pub ComesTo : Command → Around → Outcome → List Ended → List ℕ → List ℕ → Type 0
ComesTo command around TextFailed updates before after = IsIdle updates before after
ComesTo command around (Refused refusal) updates before after = IsRefused (take text_limit around.text) refusal × IsIdle updates before after
ComesTo command around (Broken statement fault) updates before after = IsBroken around.text statement fault × IsIdle updates before after
ComesTo command.Validate around (Valid plan) updates before after = HasPlan around.text plan × IsIdle updates before after
ComesTo command.Validate around outcome updates before after = ⊥
ComesTo command.Update around (Updated name end) updates before after = IsUpdateOf name around end updates before after
ComesTo command.Update around outcome updates before after = ⊥

-- an end of an update that blames a device comes only where that device's count rose
abbrev pub BlamesOf : Counts → Counts → UpdateEnd → Type 0
BlamesOf before now LoadFailed = Rose before.disk now.disk
BlamesOf before now CommitFailed = Rose before.disk now.disk
BlamesOf before now LandingFailed = Rose before.landing now.landing
BlamesOf before now _ = Unit {0}

-- and so does an outcome
abbrev pub Blames : Counts → Counts → Outcome → Type 0
Blames before now TextFailed = Rose before.text now.text
Blames before now (Updated name end) = BlamesOf before now end
Blames before now _ = Unit {0}

-- a command came to this outcome
pub record Does (command : Command) (around : Around) (answer : Status) (updates : List Ended) (old new : RunState) (outcome : Outcome) : Type 0 where
  pub comes : ComesTo command around outcome updates old.file new.file
  pub blames : Blames old.faults new.faults outcome
  pub tells : Tells outcome answer old new
  pub later : NoneFalls old.faults new.faults

abbrev pub Executes : Command → Around → Status → List Ended → RunState → RunState → Type 0
Executes command around answer updates old new =
    ((outcome : Outcome) × Does command around answer updates old new outcome) ⊎ (RunsOut answer old new × (updates ≡ []))

-- ---- commands in order: the first answer other than Ok ends them

abbrev pub Runs : Around → List Command → Status → List Ended → RunState → RunState → Type 0
Runs around [] answer updates old new = (answer ≡ status.Ok) × (updates ≡ []) × (new ≡ old)
Runs around (first ∷ others) answer updates old new =
    (mid : RunState) × (given : Status) × (own more : List Ended) × (updates ≡ own ++ more) × Executes first around given own old mid
    × (((given ≡ status.Ok) × Runs around others answer more mid new) ⊎ ((given ≢ status.Ok) × (answer ≡ given) × (more ≡ []) × (new ≡ mid)))

-- ---- a whole run

-- no command was reached: the file stays
pub record Refuses (outcome : Outcome) (answer : Status) (old new : RunState) : Type 0 where
  pub file : new.file ≡ old.file
  pub tells : Tells outcome answer old new

-- The words come first, and then the commands in order.
abbrev pub Ran : Option (List Command) → Around → Status → List Ended → RunState → RunState → Type 0
Ran None around answer updates old new = (Refuses Usage answer old new ⊎ RunsOut answer old new) × (updates ≡ [])
Ran (Some commands) around answer updates old new = (RunsOut answer old new × (updates ≡ [])) ⊎ Runs around commands answer updates old new

-- ---- answers over any devices

-- the status of the outcome, or that it couldn't be told
abbrev pub IsTelling : Outcome → Status → Type 0
IsTelling outcome status.Sink = Unit {0}
IsTelling outcome status.Memory = Unit {0}
IsTelling outcome answer = answer ≡ status_of outcome

-- what a command doesn't come to
abbrev pub IsOfCommand : Outcome → Type 0
IsOfCommand Usage = ⊥
IsOfCommand outcome = Unit {0}

-- and neither where there are statements
abbrev pub IsOfStatements : Outcome → Type 0
IsOfStatements Usage = ⊥
IsOfStatements TextFailed = ⊥
IsOfStatements (Refused refusal) = ⊥
IsOfStatements outcome = Unit {0}

-- what commands answer
abbrev pub IsOfCommands : Status → Type 0
IsOfCommands status.Usage = ⊥
IsOfCommands _ = Unit {0}

-- more was printed, behind what was there
abbrev pub PrintsOn : List ℕ → List ℕ → Type 0
PrintsOn before now = (more : List ℕ) × (now ≡ before ++ more)

-- and last of all the line of a file that became shorter
pub record SaysShrunk (before now : List ℕ) : Type 0 where
  pub mid : List ℕ
  pub table : List ℕ
  pub file : List ℕ
  pub cursor : ℕ
  pub size : ℕ
  pub prints : PrintsOn before mid
  pub line : now ≡ mid ++ printed_end (Some table) (Shrunk file cursor size)

-- an answer is Usage exactly where the words are of no form, but for those that say that the line couldn't be printed
abbrev pub AnswersUsage : Option (List Command) → Status → Type 0
AnswersUsage None status.Usage = Unit {0}
AnswersUsage None status.Sink = Unit {0}
AnswersUsage None status.Memory = Unit {0}
AnswersUsage None _ = ⊥
AnswersUsage (Some commands) status.Usage = ⊥
AnswersUsage (Some commands) _ = Unit {0}
