-- A store without datasets stands for those of the empty text.
use Rattle.std.proofs.Common.{inr, List, [], refl, arith}
use Rattle.std.specs.Prelude.{Ok}
use Rattle.std.proofs.lemmas.Str.{IsUtf8-nil}
use Rattle.landing_core.specs.declared.landing.LandingFile.{LandingFile}
use Rattle.sql_tokens.specs.Scanning.Scans.{ends}
use Rattle.plan_check.specs.Checks.{Checks}
use Rattle.plan_texts.specs.Readings.{AreRead}
use Rattle.state_steps.specs.Shapes.{AllHaveShape}
use Rattle.state_steps.specs.Stands.{Stands}
use Rattle.standing_store.specs.Standing.{AreOfText, IsStanding}

none_read : AreRead []
none_read = record { text = []; is_read = record { found = []; scanned = record { short = omega arith; utf8 = IsUtf8-nil; scans = ends }; derived = refl } }

none_checked : Checks [] (Ok [])
none_checked = inr (record { levels = []; are_levels = record { complete = refl; each = λ node below. absurd (omega (arith, below)) }; resolved = []; are_resolved = refl; answer_is = refl })

none_of_text : AreOfText []
none_of_text = record { statements = []; read = none_read; plan = []; checked = none_checked; each = tt }

pub none_standing : (ever : List LandingFile) → Stands [] ever [] → AllHaveShape [] [] → IsStanding ever []
none_standing ever stands shaped = ([], record { stands = stands; shaped = shaped; of_text = none_of_text })
