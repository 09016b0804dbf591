-- Datasets that were saved.
use Rattle.std.proofs.Common.{◌≡◌, ℕ, ◌+◌, ◌<◌, ◌≤◌, ◌^◌, true, List, [], ◌∷◌, ◌++◌, length, refl, sym, ap, subst, ◌∙◌, arith}
use Rattle.std.specs.List.{AllByRecursion}
use Rattle.commit_payloads.specs.declared.definition.Definition.{Definition}
use Rattle.commit_payloads.specs.declared.state.DatasetState.{DatasetState}
use Rattle.commit_payloads.specs.Forms.{IsKept}
use Rattle.state_model.specs.Dataset.{State, definitions_of}
use Rattle.state_model.specs.Follows.{AllFitStored}
use Rattle.state_model.specs.Saved as saved
use Rattle.store_tables.specs.declared.part.Part.{Part}
use Rattle.store_tables.specs.Members.{AreFrom, AreSavedTables}
use Rattle.store_tables.specs.Parts.{IsFrom, side_by_side}

pub from-more : (states : List DatasetState) (parts : List Part) (state : DatasetState) (part : Part) → AreFrom states parts → IsFrom state part → AreFrom (states ++ state ∷ []) (parts ++ part ∷ [])
from-more [] [] state part from is = (is, tt)
from-more [] (p ∷ parts) state part from is = absurd from
from-more (s ∷ states) [] state part from is = absurd from
from-more (s ∷ states) (p ∷ parts) state part from is = (from.0, from-more states parts state part from.1 is)

pub from-long : (states : List DatasetState) (parts : List Part) → AreFrom states parts → length parts ≡ length states
from-long [] [] from = refl
from-long [] (p ∷ parts) from = absurd from
from-long (s ∷ states) [] from = absurd from
from-long (s ∷ states) (p ∷ parts) from = let e = from-long states parts from.1 in omega (arith, e)

pub from-sides : (list : List Definition) (states : List DatasetState) (parts : List Part) → AreFrom states parts → side_by_side list parts ≡ saved.side_by_side list states
from-sides [] states parts from = refl
from-sides (d ∷ list) [] [] from = refl
from-sides (d ∷ list) [] (p ∷ parts) from = absurd from
from-sides (d ∷ list) (s ∷ states) [] from = absurd from
from-sides (d ∷ list) (s ∷ states) (p ∷ parts) from = let rest = from-sides list states parts from.1 in λ i. from.0 d i ∷ rest i

pub saved-definitions : (list : List Definition) (states : List DatasetState) → length states ≡ length list → definitions_of (saved.side_by_side list states) ≡ list
saved-definitions [] states e = refl
saved-definitions (d ∷ list) [] e = absurd (omega (arith, e))
saved-definitions (d ∷ list) (s ∷ states) e = ap (λ (rest : List Definition). d ∷ rest) (saved-definitions list states (omega (arith, e)))

pub saved-tables : (whole : State) (list : List Definition) (states : List DatasetState) → AllFitStored whole (saved.side_by_side list states) → length states ≡ length list → AllByRecursion IsKept states → AreSavedTables states
saved-tables whole list [] fit e kept = tt
saved-tables whole [] (s ∷ states) fit e kept = absurd (omega (arith, e))
saved-tables whole (d ∷ list) (s ∷ states) fit e kept =
    (record { order = kept.0.rows; follow = fit.0.follow; limit = λ some. fit.0.limit }, saved-tables whole list states fit.1 (omega (arith, e)) kept.1)
