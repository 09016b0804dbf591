-- An update is unfit only for another definition of its table's name and text.
use Rattle.std.proofs.Common.{◌≡◌, inl, inr, ℕ, ◌^◌, ◌≤◌, Bool, true, false, not, bytes_eq, List, [], ◌∷◌, length, Some, None, refl, sym, ap, ◌∙◌, subst, arith}
use Rattle.std.proofs.lemmas.Bool.{and_parts}
use Rattle.std.proofs.lemmas.Slice.Eq.{bytes_eq-Decides}
use Rattle.value_core.specs.NameFold.{same_name}
use Rattle.landing_core.specs.declared.landing.LandingFile.{LandingFile}
use Rattle.commit_records.specs.declared.definition.Definition.{Definition}
use Rattle.commit_records.specs.declared.payload.Payload.{Payload}
use Rattle.store_state.specs.State.{State, definitions_of}
use Rattle.store_core.specs.State.{HasState}
use Rattle.store_core.proofs.StateLemmas.{one_state}
use Rattle.table_update.specs.Fit.{IsOtherOfItsText}
use Rattle.table_update.specs.Stands.{HasStanding, Stands}
use Rattle.table_update.specs.Table.{definition_of}
use Rattle.table_update.specs.Update.{Found, IsUnfit, LoadedEnds, MayRun, Updates, first_other_in, is_kept}
use Rattle.table_update.specs.declared.end.UpdateEnd.TheVariants.{Unfit}
use Rattle.table_update.specs.declared.table.AppendTable.{AppendTable}

-- the only definition is none that isn't kept
by_test : (test : Bool) (table : AppendTable) (stored : Definition) → is_kept table stored ≡ test → first_other_in table (stored ∷ []) ≡ None → is_kept table stored ≡ true
by_test true table stored is none = is
by_test false table stored is none = absurd (found (ap not is) none)
  where
    found : not (is_kept table stored) ≡ true → first_other_in table (stored ∷ []) ≡ None → ⊥
    found holds none = cc

kept_alone : (table : AppendTable) (stored : Definition) (list : List Definition) → list ≡ stored ∷ [] → first_other_in table list ≡ None → is_kept table stored ≡ true
kept_alone table stored list is none = by_test (is_kept table stored) table stored refl (ap (first_other_in table) (sym is) ∙ none)

other_of : (table other : AppendTable) (state : State) (name : List ℕ) → IsUnfit table state name → MayRun other state → IsOtherOfItsText table other
other_of table other state name unfit (inl none) = absurd (unfit.unfit (inl none))
other_of table other state name unfit (inr is) =
    let kept = kept_alone table (definition_of other) (definitions_of state) is unfit.none in
    let both = and_parts (same_name other.name table.name) (bytes_eq other.text table.text) kept in
    record {
      name = both.0;
      text = (bytes_eq-Decides other.text table.text).0 both.1;
      parts = λ same. unfit.unfit (inr (is ∙ ap (λ (d : Definition). d ∷ []) same));
    }

-- what an unfit end says of the state that is loaded
unfit_there : (table : AppendTable) (files : List LandingFile) (room : ℕ) (state : State) (at : ℕ) (acked tried : List Payload) (name : List ℕ) → LoadedEnds (Some table) files room state at acked tried (Unfit name) → IsUnfit table state name
unfit_there table files room state at acked tried name (inl judged) = judged.0
unfit_there table files room state at acked tried name (inr (inl defined)) = absurd defined.1
unfit_there table files room state at acked tried name (inr (inr (inl first))) = absurd first.2.ends.0
unfit_there table files room state at acked tried name (inr (inr (inr there))) = absurd there.1.ends.0

pub unfit_for_other : (table other : AppendTable) (found : Found) (loaded : Bool) (acked tried : List Payload) (name : List ℕ) (state : State) → length found.bytes ≤ 2 ^ 40
    → Updates (Some table) found loaded acked tried (Unfit name) → HasState found.bytes state → MayRun other state → IsOtherOfItsText table other
unfit_for_other table other found false acked tried name state small ends has may = absurd ends.0
unfit_for_other table other found true acked tried name state small ends has may =
    let same : ends.0 ≡ state = one_state found.bytes ends.0 state (omega (arith, small)) ends.2.is has in
    other_of table other state name (subst (λ (s : State). IsUnfit table s name) same (unfit_there table found.landing found.room ends.0 ends.1 acked tried name ends.3)) may

standing_runs : (table : AppendTable) (ever : List LandingFile) (state : State) → Stands table ever state → MayRun table state
standing_runs table ever state (inl none) = inl none
standing_runs table ever state (inr stands) =
    inr (ap definitions_of stands.holds.only ∙ ap (λ (d : Definition). d ∷ []) stands.holds.definition)

pub unfit_for_standing : (table other : AppendTable) (found : Found) (loaded : Bool) (acked tried : List Payload) (name : List ℕ) (ever : List LandingFile) → length found.bytes ≤ 2 ^ 40
    → Updates (Some table) found loaded acked tried (Unfit name) → HasStanding other ever found.bytes → IsOtherOfItsText table other
unfit_for_standing table other found loaded acked tried name ever small ends (state, has, stands) =
    unfit_for_other table other found loaded acked tried name state small ends has (standing_runs other ever state stands)
