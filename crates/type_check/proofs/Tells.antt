-- What a call tells, by what the calls in it tell.
use Rattle.std.proofs.Common.{◌≡◌, ℕ, List, Some, None, Result, Ok, Err, refl, ap, subst, ◌∙◌}
use Rattle.value_core.specs.declared.schema.Column.{Column}
use Rattle.plan_core.specs.declared.plan.Dataset.{Dataset}
use Rattle.file_options.specs.declared.files.FilesRead.{FilesRead}
use Rattle.file_options.specs.Rules.{FilesBy}
use Rattle.type_check.specs.declared.fault.CheckFault.{CheckFault}
use Rattle.type_check.specs.declared.fault.CheckFault.TheVariants.{BadOption}
use Rattle.type_check.specs.declared.fault.TableEnd.{TableEnd}
use Rattle.type_check.specs.declared.fault.TableEnd.TheVariants as end
use Rattle.type_check.specs.declared.outputs.Output.{Output}
use Rattle.type_check.specs.Form.{Form}
use Rattle.type_check.specs.Rules.{Judged, JudgedBehind, Told, declared_checks, dataset_over, first_break, outputs_over, over_outputs, table_by}

-- ---- a table over what its options say

by_columns : (form : Form) (source columns : List Column) → source ≡ columns →
    outputs_over form.declared form.stream form.groups form.outs source ≡ outputs_over form.declared form.stream form.groups form.outs columns
by_columns form source columns is = ap (outputs_over form.declared form.stream form.groups form.outs) is

pub over_told : (text : List ℕ) (form : Form) (files : FilesRead) (source : List Column) (e : TableEnd) → source ≡ files.shape.columns →
    Told (λ answer. answer ≡ outputs_over form.declared form.stream form.groups form.outs source) (Err e) → Told (λ answer. answer ≡ table_by text form (Ok files)) (Err e)
over_told text form files source (end.Fault fault) is h = ap (over_outputs text form files) (h ∙ by_columns form source files.shape.columns is)
over_told text form files source end.Memory is h = tt

pub over_given : (text : List ℕ) (form : Form) (files : FilesRead) (source : List Column) (outputs : List Output) (dataset : Dataset) → source ≡ files.shape.columns →
    Ok outputs ≡ outputs_over form.declared form.stream form.groups form.outs source → dataset ≡ dataset_over form.name text files outputs → Ok dataset ≡ table_by text form (Ok files)
over_given text form files source outputs dataset is h made = ap Ok made ∙ ap (over_outputs text form files) (h ∙ by_columns form source files.shape.columns is)

-- ---- a table that reads files

behind_told : (text : List ℕ) (form : Form) (files : FilesRead) (r : Result Dataset TableEnd) → FilesBy form.path form.options (Ok files) →
    Told (λ answer. answer ≡ table_by text form (Ok files)) r → Told (JudgedBehind text form None) r
behind_told text form files (Ok dataset) reads h = (Ok files, reads, h)
behind_told text form files (Err (end.Fault fault)) reads h = (Ok files, reads, h)
behind_told text form files (Err end.Memory) reads h = tt

pub judged_told : (text : List ℕ) (form : Form) (files : FilesRead) (r : Result Dataset TableEnd) → None ≡ first_break (declared_checks form.declared) →
    FilesBy form.path form.options (Ok files) → Told (λ answer. answer ≡ table_by text form (Ok files)) r → Told (Judged text (Some form)) r
judged_told text form files r none reads h = subst (λ fault. Told (JudgedBehind text form fault) r) none (behind_told text form files r reads h)

pub judged_options : (text : List ℕ) (form : Form) (word : List ℕ) → None ≡ first_break (declared_checks form.declared) →
    FilesBy form.path form.options (Err word) → Judged text (Some form) (Err (BadOption word))
judged_options text form word none reads = subst (λ fault. JudgedBehind text form fault (Err (BadOption word))) none (Err word, reads, refl)

pub judged_declared : (text : List ℕ) (form : Form) (fault : CheckFault) → Some fault ≡ first_break (declared_checks form.declared) → Judged text (Some form) (Err fault)
judged_declared text form fault some = subst (λ found. JudgedBehind text form found (Err fault)) some refl
