-- The checks give one answer, and sound plans.
use Rattle.std.proofs.Common.{◌≡◌, ℕ, List, [], ◌∷◌, ◌++◌, Option, Some, None, Result, Ok, Err, refl, sym, ap, subst, ◌∙◌, arith}
use Rattle.std.proofs.lemmas.List.Elements.{All-cons, All-nil}
use Rattle.sql_tree.specs.declared.statement.Out.{Out}
use Rattle.sql_tree.specs.declared.statement.SqlOption.{SqlOption}
use Rattle.sql_tree.specs.declared.statement.Statement.{Statement}
use Rattle.plan_core.specs.declared.plan.Dataset.{Dataset}
use Rattle.plan_core.specs.Sound.{IsSoundFlow, IsSoundTable, IsSoundBody, IsSoundPlan}
use Rattle.file_options.specs.declared.files.FilesRead.{FilesRead}
use Rattle.file_options.specs.Rules.{By, FilesBy}
use Rattle.type_check.specs.declared.fault.CheckFault.{CheckFault}
use Rattle.type_check.specs.Form.{Form, form_of}
use Rattle.type_check.specs.Outputs.{outputs_seen, columns_of}
use Rattle.type_check.specs.Rules.{Break, Comes, Checked, Judged, JudgedBehind, IsOne, first_break, declared_checks, select_checks, column_checks, unless, over_outputs, table_by, dataset_over, flow_with, text_of, as_plan}
use Rattle.type_check.proofs.Places.{outputs_typed}

-- ---- one answer

abbrev pub OptionsOnce : Type 0
OptionsOnce = (path : List ℕ) (options : List SqlOption) (one other : By FilesRead) → FilesBy path options one → FilesBy path options other → one ≡ other

behind_once : OptionsOnce → (text : List ℕ) (form : Form) (fault : Option CheckFault) (one other : Result Dataset CheckFault) →
    JudgedBehind text form fault one → JudgedBehind text form fault other → one ≡ other
behind_once once text form (Some fault) one other f g = f ∙ sym g
behind_once once text form None one other f g = f.2 ∙ (ap (table_by text form) (once form.path form.options f.0 g.0 f.1 g.1) ∙ sym g.2)

judged_once : OptionsOnce → (text : List ℕ) (form : Option Form) (one other : Result Dataset CheckFault) → Judged text form one → Judged text form other → one ≡ other
judged_once once text None one other f g = f ∙ sym g
judged_once once text (Some form) one other f g = behind_once once text form (first_break (declared_checks form.declared)) one other f g

comes_once : OptionsOnce → (statements : List Statement) (one other : Result (List Dataset) Break) → Comes statements one → Comes statements other → one ≡ other
comes_once once [] one other f g = f ∙ sym g
comes_once once (first ∷ []) one other f g = f.2 ∙ (ap as_plan (judged_once once (text_of (first ∷ [])) (form_of first) f.0 g.0 f.1 g.1) ∙ sym g.2)
comes_once once (first ∷ next ∷ more) one other f g = f ∙ sym g

pub checked_once : OptionsOnce → (statements : List Statement) (one other : Result (List Dataset) Break) → Checked statements one → Checked statements other → one ≡ other
checked_once once statements one other f g = comes_once once statements one other f.comes g.comes

-- ---- a sound plan

flow_sound : (name text : List ℕ) (files : FilesRead) (outs : List Out) → let outputs = outputs_seen files.shape.columns outs in let dataset = dataset_over name text files outputs in
    IsSoundFlow (dataset ∷ []) dataset (flow_with name files outputs)
flow_sound name text files outs = record {
  source = files.shape.columns;
  reads = refl;
  gives = record { filter = refl; outputs = outputs_typed files.shape.columns outs };
}

table_sound : (name text : List ℕ) (files : FilesRead) (outs : List Out) → let outputs = outputs_seen files.shape.columns outs in let dataset = dataset_over name text files outputs in
    IsSoundTable (dataset ∷ []) dataset (flow_with name files outputs ∷ [])
table_sound name text files outs = let outputs = outputs_seen files.shape.columns outs in let dataset = dataset_over name text files outputs in record {
  each_flow = All-cons (IsSoundFlow (dataset ∷ []) dataset) (flow_with name files outputs) [] (flow_sound name text files outs) (All-nil (IsSoundFlow (dataset ∷ []) dataset));
  expectations = refl;
}

plan_sound : (name text : List ℕ) (files : FilesRead) (outs : List Out) → IsSoundPlan (dataset_over name text files (outputs_seen files.shape.columns outs) ∷ [])
plan_sound name text files outs = let dataset = dataset_over name text files (outputs_seen files.shape.columns outs) in
    let Sound = λ (each : Dataset). IsSoundBody (dataset ∷ []) each each.body in record {
      names_differ = λ i j d before within. absurd (omega arith);
      each_dataset = All-cons Sound dataset [] (table_sound name text files outs) (All-nil Sound);
    }

-- a plan of one dataset is sound where that is what is given
abbrev SoundAs : Result Dataset CheckFault → Type 0
SoundAs given = (dataset : Dataset) → given ≡ Ok dataset → IsSoundPlan (dataset ∷ [])

given_sound : (text : List ℕ) (form : Form) (files : FilesRead) (broken : Option CheckFault) → SoundAs (over_outputs text form files (unless broken (outputs_seen files.shape.columns form.outs)))
given_sound text form files (Some fault) dataset is = absurd (cc is)
given_sound text form files None dataset is =
    let same : dataset_over form.name text files (outputs_seen files.shape.columns form.outs) ≡ dataset = cc is in
    subst (λ each. IsSoundPlan (each ∷ [])) same (plan_sound form.name text files form.outs)

by_sound : (text : List ℕ) (form : Form) (files : By FilesRead) → SoundAs (table_by text form files)
by_sound text form (Err word) dataset is = absurd (cc is)
by_sound text form (Ok files) dataset is =
    given_sound text form files (first_break (select_checks form.stream form.groups form.outs files.shape.columns ++ column_checks form.declared (columns_of (outputs_seen files.shape.columns form.outs)))) dataset is

behind_sound : (text : List ℕ) (form : Form) (fault : Option CheckFault) (table : Result Dataset CheckFault) → JudgedBehind text form fault table → SoundAs table
behind_sound text form (Some fault) table f dataset is = absurd (cc (sym is ∙ f))
behind_sound text form None table f dataset is = by_sound text form f.0 dataset (sym f.2 ∙ is)

judged_sound : (text : List ℕ) (form : Option Form) (table : Result Dataset CheckFault) → Judged text form table → SoundAs table
judged_sound text None table f dataset is = absurd (cc (sym is ∙ f))
judged_sound text (Some form) table f dataset is = behind_sound text form (first_break (declared_checks form.declared)) table f dataset is

one_sound : (text : List ℕ) (form : Option Form) (table : Result Dataset CheckFault) (plan : List Dataset) → Judged text form table → Ok plan ≡ as_plan table → IsSoundPlan plan
one_sound text form (Err fault) plan f is = absurd (cc is)
one_sound text form (Ok dataset) plan f is = let same : dataset ∷ [] ≡ plan = cc is in subst IsSoundPlan same (judged_sound text form (Ok dataset) f dataset refl)

-- the plan of one statement
pub is_one_sound : (text : List ℕ) (form : Option Form) (plan : List Dataset) → IsOne text form (Ok plan) → IsSoundPlan plan
is_one_sound text form plan f = one_sound text form f.0 plan f.1 f.2

no_plan : IsSoundPlan []
no_plan = record { names_differ = λ i j d before within. absurd (omega arith); each_dataset = All-nil (λ each. IsSoundBody [] each each.body) }

comes_sound : (statements : List Statement) (plan : List Dataset) → Comes statements (Ok plan) → IsSoundPlan plan
comes_sound [] plan f = let same : [] ≡ plan = cc f in subst IsSoundPlan same no_plan
comes_sound (first ∷ []) plan f = one_sound (text_of (first ∷ [])) (form_of first) f.0 plan f.1 f.2
comes_sound (first ∷ next ∷ more) plan f = absurd (cc f)

pub checked_sound : (statements : List Statement) (plan : List Dataset) → Checked statements (Ok plan) → IsSoundPlan plan
checked_sound statements plan f = comes_sound statements plan f.comes
