-- A checked table keeps what is rescued.
use Rattle.std.proofs.Common.{◌≡◌, ℕ, List, [], ◌∷◌, ◌++◌, Option, Some, None, Result, Ok, Err, refl, sym, subst, ◌∙◌}
use Rattle.std.specs.Prelude.{IsTrue, All}
use Rattle.std.proofs.lemmas.List.Elements.{All-cons, All-nil}
use Rattle.sql_tree.specs.declared.statement.SqlOption.{SqlOption}
use Rattle.sql_tree.specs.declared.statement.Statement.{Statement}
use Rattle.plan_core.specs.declared.flow.AppendFlow.{AppendFlow}
use Rattle.plan_core.specs.declared.plan.Dataset.{Dataset}
use Rattle.file_options.specs.declared.files.FilesRead.{FilesRead}
use Rattle.file_options.specs.Rules.{By, EndsInText, FilesBy}
use Rattle.type_check.specs.declared.fault.CheckFault.{CheckFault}
use Rattle.type_check.specs.declared.outputs.Output.{Output}
use Rattle.type_check.specs.Form.{Form, form_of}
use Rattle.type_check.specs.Outputs.{outputs_seen, columns_of}
use Rattle.type_check.specs.Rules.{Comes, Checked, Judged, JudgedBehind, first_break, declared_checks, select_checks, column_checks, unless, over_outputs, table_by, dataset_over, flow_with, text_of, as_plan}
use Rattle.type_check.specs.Texts.{OriginKeepsText, KeepsText}

abbrev pub OptionsKeepText : Type 0
OptionsKeepText = (path : List ℕ) (options : List SqlOption) (files : FilesRead) → FilesBy path options (Ok files) → IsTrue files.shape.rescued → EndsInText files.shape.columns

-- a dataset keeps text where it is what is given
abbrev TextAs : Result Dataset CheckFault → Type 0
TextAs given = (dataset : Dataset) → given ≡ Ok dataset → KeepsText dataset

abbrev FilesKeepText : FilesRead → Type 0
FilesKeepText files = IsTrue files.shape.rescued → EndsInText files.shape.columns

over_text : (name text : List ℕ) (files : FilesRead) (outputs : List Output) → FilesKeepText files → KeepsText (dataset_over name text files outputs)
over_text name text files outputs keeps = let Keeps = λ (flow : AppendFlow). OriginKeepsText flow.origin in
    All-cons Keeps (flow_with name files outputs) [] keeps (All-nil Keeps)

given_text : (text : List ℕ) (form : Form) (files : FilesRead) (broken : Option CheckFault) → FilesKeepText files →
    TextAs (over_outputs text form files (unless broken (outputs_seen files.shape.columns form.outs)))
given_text text form files (Some fault) keeps dataset is = absurd (cc is)
given_text text form files None keeps dataset is =
    let same : dataset_over form.name text files (outputs_seen files.shape.columns form.outs) ≡ dataset = cc is in
    subst KeepsText same (over_text form.name text files (outputs_seen files.shape.columns form.outs) keeps)

by_text : OptionsKeepText → (text : List ℕ) (form : Form) (files : By FilesRead) → FilesBy form.path form.options files → TextAs (table_by text form files)
by_text options_keep text form (Err word) reads dataset is = absurd (cc is)
by_text options_keep text form (Ok files) reads dataset is =
    given_text text form files (first_break (select_checks form.stream form.groups form.outs files.shape.columns ++ column_checks form.declared (columns_of (outputs_seen files.shape.columns form.outs))))
    (options_keep form.path form.options files reads) dataset is

behind_text : OptionsKeepText → (text : List ℕ) (form : Form) (fault : Option CheckFault) (table : Result Dataset CheckFault) → JudgedBehind text form fault table → TextAs table
behind_text options_keep text form (Some fault) table f dataset is = absurd (cc (sym is ∙ f))
behind_text options_keep text form None table f dataset is = by_text options_keep text form f.0 f.1 dataset (sym f.2 ∙ is)

judged_text : OptionsKeepText → (text : List ℕ) (form : Option Form) (table : Result Dataset CheckFault) → Judged text form table → TextAs table
judged_text options_keep text None table f dataset is = absurd (cc (sym is ∙ f))
judged_text options_keep text (Some form) table f dataset is = behind_text options_keep text form (first_break (declared_checks form.declared)) table f dataset is

one_text : OptionsKeepText → (text : List ℕ) (form : Option Form) (table : Result Dataset CheckFault) (plan : List Dataset) → Judged text form table →
    Ok plan ≡ as_plan table → All KeepsText plan
one_text options_keep text form (Err fault) plan f is = absurd (cc is)
one_text options_keep text form (Ok dataset) plan f is = let same : dataset ∷ [] ≡ plan = cc is in
    subst (All KeepsText) same (All-cons KeepsText dataset [] (judged_text options_keep text form (Ok dataset) f dataset refl) (All-nil KeepsText))

comes_text : OptionsKeepText → (statements : List Statement) (plan : List Dataset) → Comes statements (Ok plan) → All KeepsText plan
comes_text options_keep [] plan f = let same : [] ≡ plan = cc f in subst (All KeepsText) same (All-nil KeepsText)
comes_text options_keep (first ∷ []) plan f = one_text options_keep (text_of (first ∷ [])) (form_of first) f.0 plan f.1 f.2
comes_text options_keep (first ∷ next ∷ more) plan f = absurd (cc f)

pub checked_texts : OptionsKeepText → (statements : List Statement) (plan : List Dataset) → Checked statements (Ok plan) → All KeepsText plan
checked_texts options_keep statements plan f = comes_text options_keep statements plan f.comes
