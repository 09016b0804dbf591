-- How much of a text is read, what is known of it during a run, and why it has no plan.
use Rattle.std.specs.Prelude.{◌≡◌, ◌⊎◌, ℕ, List, take, Option, Some, None, Result, Ok, Err}
use Rattle.sql_tokens.specs.declared.error.SqlRefusal.{SqlRefusal}
use Rattle.sql_tokens.specs.declared.error.SqlRefusal.TheVariants as reading
use Rattle.sql_tree.specs.declared.statement.Statement.{Statement}
use Rattle.pipeline_sql.specs.Read.{IsRead, IsRefused}
use Rattle.plan_check.specs.declared.refusal.CheckRefusal.{CheckRefusal}
use Rattle.plan_check.specs.Checks.{Checks, Told}
use Rattle.message_text.specs.declared.refusal.Refusal.{Refusal}
use Rattle.message_text.specs.declared.refusal.Refusal.TheVariants.{TextFailed, Unread, Unchecked, Memory}
use Rattle.pipeline_text.specs.declared.checked.Pipeline.{Pipeline}
use Rattle.pipeline_text.specs.Built.{unbuilt_in}

-- how much of a text is read at most: one byte more than it may have
abbrev pub text_limit : ℕ
text_limit = 1048577

-- the statements of a text, as far as it is read
unfoldable pub HasStatements : List ℕ → List Statement → Type 0
HasStatements text statements = IsRead (take text_limit text) statements

-- ---- the plan of a text

-- The plan of a text whose statements break no check, and the first statement that an update can't run.
pub record IsPipeline (text : List ℕ) (pipeline : Pipeline) : Type 0 where
  pub statements : List Statement
  pub has : HasStatements text statements
  pub checked : Checks statements (Ok pipeline.plan)
  pub unbuilt_is : pipeline.unbuilt ≡ unbuilt_in statements pipeline.plan

-- ---- why a text has no plan

-- a text has no reading, for this cause, as far as it is read
unfoldable pub HasNoReading : List ℕ → SqlRefusal → Type 0
HasNoReading text refusal = IsRefused (take text_limit text) refusal

-- the statements of a text break this check, or have this cycle
pub record IsBroken (text : List ℕ) (refusal : CheckRefusal) : Type 0 where
  pub statements : List Statement
  pub has : HasStatements text statements
  pub checked : Told (Checks statements) (Err refusal)

-- why a text has no plan, where its source didn't fail and memory didn't run out
abbrev pub IsCauseOf : List ℕ → Refusal → Type 0
IsCauseOf text TextFailed = Unit {0}
IsCauseOf text (Unread refusal) = (refusal ≡ reading.Memory) ⊎ HasNoReading text refusal
IsCauseOf text (Unchecked refusal) = IsBroken text refusal
IsCauseOf text Memory = Unit {0}
IsCauseOf text other = ⊥

-- ---- what a text is read as

-- the plan of a text, or why it has none
abbrev pub ComesTo : List ℕ → Result Pipeline Refusal → Type 0
ComesTo text (Ok pipeline) = IsPipeline text pipeline
ComesTo text (Err why) = IsCauseOf text why

-- the statements of a text, or why it has none
abbrev pub HasRead : List ℕ → Result (List Statement) Refusal → Type 0
HasRead text (Ok statements) = HasStatements text statements
HasRead text (Err why) = IsCauseOf text why

-- What a source is read as: what some text comes to and, where the source tells, what this text does.
pub record ReadAs (tells : Type 0) (text : List ℕ) (result : Result Pipeline Refusal) : Type 0 where
  pub some : (read : List ℕ) × ComesTo read result
  pub told : tells → ComesTo text result

-- This is known of the text of a source, and this much of it is left: nothing, and all of it; or its plan.
abbrev pub Knows : Type 0 → List ℕ → Option Pipeline → List ℕ → Type 0
Knows tells text None left = tells → left ≡ text
Knows tells text (Some pipeline) left = ReadAs tells text (Ok pipeline)
