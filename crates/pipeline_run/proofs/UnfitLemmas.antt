-- A store that stands for the table of some text is never unfit.
use Rattle.std.proofs.Common.{◌≡◌, inl, inr, ℕ, ◌^◌, ◌≤◌, List, [], ◌∷◌, length, take, Bool, true, false, not, if◌then◌else◌, bytes_eq, Option, Some, None, Result, Ok, refl, sym, ap, subst, ◌∙◌}
use Rattle.std.proofs.lemmas.Bool.{and_parts}
use Rattle.std.proofs.lemmas.Slice.Eq.{bytes_eq-Decides}
use Rattle.value_core.specs.NameFold.{same_name}
use Rattle.landing_core.specs.declared.landing.LandingFile.{LandingFile}
use Rattle.sql_tree.specs.declared.statement.Statement.{Statement}
use Rattle.pipeline_sql.specs.Read.{IsRead, print_text}
use Rattle.plan_core.specs.declared.plan.Dataset.{Dataset}
use Rattle.type_check.specs.Rules.{Break, Checked}
use Rattle.commit_records.specs.declared.definition.Definition.{Definition}
use Rattle.commit_records.specs.declared.payload.Payload.{Payload}
use Rattle.store_state.specs.State.{State, definitions_of}
use Rattle.table_update.specs.declared.end.UpdateEnd.{UpdateEnd}
use Rattle.table_update.specs.declared.end.UpdateEnd.TheVariants.{LoadFailed, Unfit}
use Rattle.table_update.specs.declared.table.AppendTable.{AppendTable}
use Rattle.table_update.specs.Stands.{Stands, HasStanding}
use Rattle.table_update.specs.Table.{IsDefinedBy, definition_of}
use Rattle.table_update.specs.Update.{Found, MayRun, Updates, is_kept, first_other_in, first_other}
use Rattle.table_update.proofs.EndLemmas.{HasOneState, small_enough}
use Rattle.pipeline_run.specs.declared.command.Command.{Command}
use Rattle.pipeline_run.specs.declared.command.Command.TheVariants.{Validate, Update}
use Rattle.pipeline_run.specs.declared.outcome.Outcome.TheVariants.{Updated}
use Rattle.pipeline_run.specs.Pipeline.{text_limit, HasStatements, HasPlan}
use Rattle.pipeline_run.specs.Run.{Around, ComesTo, IsUpdate, found_by}
use Rattle.pipeline_run.specs.Table.{plan_of}
use Rattle.pipeline_run.specs.Update.{Ended}
use Rattle.pipeline_run.proofs.TableLemmas.{one_asked, checked_text}

-- ---- one text has one table, whichever texts ask for it

-- statements are told apart by their print, and the checks give one answer by statements
pub record HasOneTable : Type 0 where
  pub apart : (text other : List ℕ) (p q : List Statement) → IsRead text p → IsRead other q → print_text p ≡ print_text q → p ≡ q
  pub checks : (statements : List Statement) (one other : Result (List Dataset) Break) → Checked statements one → Checked statements other → one ≡ other

same_plan : (plan other : List Dataset) → ◌≡◌ {A = Result (List Dataset) Break} (Ok plan) (Ok other) → plan ≡ other
same_plan plan other same = cc

same_table : (table other : AppendTable) → Some table ≡ Some other → table ≡ other
same_table table other same = cc

pub tables_are_one : HasOneTable → (text other : List ℕ) (table also : AppendTable) → HasPlan text (plan_of (Some table)) → HasPlan other (plan_of (Some also)) → table.text ≡ also.text → table ≡ also
unfolding HasStatements
tables_are_one law text other table also p q same =
    let prints : print_text p.statements ≡ print_text q.statements = sym (checked_text p.statements table p.checked) ∙ same ∙ checked_text q.statements also q.checked in
    let one : p.statements ≡ q.statements = law.apart (take text_limit text) (take text_limit other) p.statements q.statements p.has q.has prints in
    let checked : Checked q.statements (Ok (plan_of (Some table))) = subst (λ (statements : List Statement). Checked statements (Ok (plan_of (Some table)))) one p.checked in
    let plans = law.checks q.statements (Ok (plan_of (Some table))) (Ok (plan_of (Some also))) checked q.checked in
    same_table table also (one_asked (Some table) (Some also) (same_plan (plan_of (Some table)) (plan_of (Some also)) plans))

-- a pipeline's table is this one where it has its text
abbrev IsOneOf : Option AppendTable → AppendTable → Type 0
IsOneOf None stood = Unit {0}
IsOneOf (Some table) stood = stood.text ≡ table.text → table ≡ stood

one_of : HasOneTable → (text other : List ℕ) (plan : Option AppendTable) (stood : AppendTable) → HasPlan text (plan_of plan) → HasPlan other (plan_of (Some stood)) → IsOneOf plan stood
one_of law text other None stood p q = tt
one_of law text other (Some table) stood p q = λ same. tables_are_one law text other table stood p q (sym same)

-- ---- a stored definition that is no other one is the table's

is_no_other : (kept : Bool) (stored : Definition) → (if not kept then Some stored else None) ≡ None → kept ≡ true
is_no_other true stored none = refl
is_no_other false stored none = absurd (cc none)

kept_text : (table stood : AppendTable) → first_other_in table (definition_of stood ∷ []) ≡ None → stood.text ≡ table.text
kept_text table stood none =
    let parts = and_parts (same_name stood.name table.name) (bytes_eq stood.text table.text) (is_no_other (is_kept table (definition_of stood)) (definition_of stood) none) in
    (bytes_eq-Decides stood.text table.text).0 parts.1

stands_run : (table stood : AppendTable) (ever : List LandingFile) (state : State) → (stood.text ≡ table.text → table ≡ stood) → Stands stood ever state → first_other table state ≡ None → MayRun table state
stands_run table stood ever state one (inl empty) none = inl empty
stands_run table stood ever state one (inr stands) none =
    let definitions : definitions_of state ≡ definition_of stood ∷ [] = ap definitions_of stands.holds.only ∙ ap (λ (d : Definition). d ∷ []) stands.holds.definition in
    let same : table ≡ stood = one (kept_text table stood (sym (ap (first_other_in table) definitions) ∙ none)) in
    inr (subst (λ (t : AppendTable). IsDefinedBy t state) (sym same) definitions)

-- ---- an update

never_unfit : HasOneState → (plan : Option AppendTable) (stood : AppendTable) (ever : List LandingFile) (found : Found) (loaded : Bool) (acked tried : List Payload) (name : List ℕ) → length found.bytes ≤ 2 ^ 40 → IsOneOf plan stood → HasStanding stood ever found.bytes
    → Updates plan found loaded acked tried (Unfit name) → ⊥
never_unfit law plan stood ever found false acked tried name small one standing updates = updates.0
never_unfit law None stood ever found true acked tried name small one standing (state, at, loaded, ends) = ends.0
never_unfit law (Some table) stood ever found true acked tried name small one (there, has, stands) (state, at, loaded, inl judged) =
    let same : there ≡ state = law.one found.bytes there state (small_enough (length found.bytes) small) has loaded.is in
    judged.0.unfit (stands_run table stood ever state one (subst (Stands stood ever) same stands) judged.0.none)
never_unfit law (Some table) stood ever found true acked tried name small one standing (state, at, loaded, inr (inl p)) = p.1
never_unfit law (Some table) stood ever found true acked tried name small one standing (state, at, loaded, inr (inr (inl p))) = p.2.ends.0
never_unfit law (Some table) stood ever found true acked tried name small one standing (state, at, loaded, inr (inr (inr p))) = p.1.ends.0

ended_unfit : HasOneState → (plan : Option AppendTable) (stood : AppendTable) (ever : List LandingFile) (around : Around) (name : List ℕ) (updates : List Ended) (before after : List ℕ) → IsOneOf plan stood → HasStanding stood ever before → IsUpdate plan around (Unfit name) updates before after → ⊥
ended_unfit law plan stood ever around name updates before after one standing (ended, only, same, with_it) =
    never_unfit law plan stood ever (found_by around before) ended.loaded ended.acked ended.tried name
    (with_it.small (λ failed. let no : LoadFailed ≡ Unfit name = sym failed ∙ same in cc))
    one standing (subst (λ (end : UpdateEnd). Updates plan (found_by around before) ended.loaded ended.acked ended.tried end) same with_it.updates)

pub standing_never_unfit : HasOneTable → HasOneState → (text : List ℕ) (stood : AppendTable) (ever : List LandingFile) (command : Command) (around : Around) (table : Option (List ℕ)) (name : List ℕ) (updates : List Ended) (before after : List ℕ) → HasPlan text (plan_of (Some stood)) → HasStanding stood ever before
    → ComesTo command around (Updated table (Unfit name)) updates before after → ⊥
standing_never_unfit tables law text stood ever Validate around table name updates before after has standing comes = comes
standing_never_unfit tables law text stood ever Update around table name updates before after has standing comes =
    ended_unfit law comes.0 stood ever around name updates before after (one_of tables around.text text comes.0 stood comes.1 has) standing comes.3
