-- A plan that the checks give keeps rescued text.
use Rattle.std.proofs.Common.{◌≡◌, ℕ, zero, suc, Bool, true, false, not, List, [], ◌∷◌, ◌++◌, Option, Some, None, Ok, Err, IfOk, refl, sym, ap, subst, ◌∙◌}
use Rattle.std.specs.Prelude.{IsTrue, ◌&&◌, ◌||◌, ◌==◌, length, slice_get}
use Rattle.std.specs.List.{AllByRecursion}
use Rattle.value_core.specs.declared.schema.Column.{Column}
use Rattle.value_core.specs.declared.shape.Shape.{Shape}
use Rattle.value_core.specs.declared.value.Kind.TheVariants as kind
use Rattle.line_rows.specs.Lines.{ends_in_text, is_text_kind, keeps_text}
use Rattle.sql_tree.specs.declared.statement.SqlOption.{SqlOption}
use Rattle.sql_tree.specs.declared.statement.SqlOrigin.{SqlOrigin}
use Rattle.sql_tree.specs.declared.statement.SqlOrigin.TheVariants as written
use Rattle.sql_tree.specs.declared.statement.Statement.{Statement}
use Rattle.file_options.specs.declared.files.FilesRead.{FilesRead}
use Rattle.file_options.specs.Rules.{By, EndsInText, FilesBy}
use Rattle.file_options.specs.Schemas.{column}
use Rattle.plan_core.specs.declared.flow.AppendFlow.{AppendFlow}
use Rattle.plan_core.specs.declared.plan.Body.{Body}
use Rattle.plan_core.specs.declared.plan.Body.TheVariants as body
use Rattle.plan_core.specs.declared.plan.Dataset.{Dataset}
use Rattle.origin_checks.specs.declared.resolved.Resolved.{Resolved}
use Rattle.origin_checks.specs.declared.resolved.Resolved.TheVariants.{Nothing, Bad, From}
use Rattle.origin_checks.specs.declared.resolved.Source.{Source}
use Rattle.origin_checks.specs.Origins.{origin_as}
use Rattle.origin_checks.specs.Resolving.{AreResolved, IsOriginResolved, IsResolvedAs, files_resolved, written_origin}
use Rattle.select_checks.specs.Parts.{flow_of_select}
use Rattle.dataset_checks.specs.declared.parts.DatasetParts.{DatasetParts}
use Rattle.dataset_checks.specs.declared.parts.TableFlow.{TableFlow}
use Rattle.dataset_checks.specs.Datasets.{dataset_judged}
use Rattle.dataset_checks.specs.Reading.{opened}
use Rattle.state_steps.specs.Parts.{AllKeepText, KeepsText, streams_of}
use Rattle.plan_check.specs.Checks.{Checks}
use Rattle.plan_laws.proofs.Apart.{among_all}
use Rattle.plan_laws.proofs.Judging.{HoldsByFlow, feed_holds, flow_holds, judged_holds, table_holds, view_holds}
use Rattle.plan_laws.proofs.PlanHolds.{plan_holds}

abbrev pub OptionsKeepText : Type 0
OptionsKeepText = (path : List ℕ) (options : List SqlOption) (files : FilesRead) → FilesBy path options (Ok files) → IsTrue files.shape.rescued → EndsInText files.shape.columns

-- ---- the shape of files

ends_last : (front : List Column) (last : Column) → is_text_kind last.kind ≡ true → ends_in_text (front ++ last ∷ []) ≡ true
ends_last [] last is = is
ends_last (first ∷ []) last is = is
ends_last (first ∷ next ∷ more) last is = ends_last (next ∷ more) last is

ends : (columns : List Column) → EndsInText columns → ends_in_text columns ≡ true
ends columns h = ap ends_in_text h.2 ∙ ends_last h.0 (column h.1 kind.Str) refl

kept_if : (rescued some ends : Bool) → (rescued ≡ true → ends ≡ true) → (not (rescued && some) || ends) ≡ true
kept_if true true ends h = h refl
kept_if true false ends h = refl
kept_if false some ends h = refl

shape_keeps : (shape : Shape) → (IsTrue shape.rescued → EndsInText shape.columns) → keeps_text shape ≡ true
shape_keeps shape h = kept_if shape.rescued (not (length shape.columns == 0)) (ends_in_text shape.columns) (λ rescued. ends shape.columns (h rescued))

-- ---- what is read

-- files that are read keep text
abbrev IsRead : Resolved → Type 0
IsRead Nothing = Unit {0}
IsRead (Bad word) = Unit {0}
IsRead (From reads) = KeepsText (origin_as reads)

abbrev IsReadThere : Option Resolved → Type 0
IsReadThere None = Unit {0}
IsReadThere (Some resolved) = IsRead resolved

opened_keeps : (name : List ℕ) (resolved : Option Resolved) (reads : Source) → opened name resolved ≡ Ok reads → IsReadThere resolved → KeepsText (origin_as reads)
opened_keeps name None reads is read = absurd (cc)
opened_keeps name (Some (From other)) reads is read = let same : other ≡ reads = cc in subst (λ (s : Source). KeepsText (origin_as s)) same read
opened_keeps name (Some (Bad word)) reads is read = absurd (cc)
opened_keeps name (Some Nothing) reads is read = absurd (cc)

files_keep : OptionsKeepText → (stream : Bool) (path : List ℕ) (options : List SqlOption) (files : By FilesRead) → FilesBy path options files → IsRead (files_resolved stream files)
files_keep law stream path options (Ok read) by = shape_keeps read.shape (law path options read by)
files_keep law stream path options (Err word) by = tt

origin_keeps : OptionsKeepText → (from : SqlOrigin) (resolved : Resolved) → IsOriginResolved from resolved → IsRead resolved
origin_keeps law (written.Table stream name) resolved is = subst (IsRead) (sym is) tt
origin_keeps law (written.Files stream path options) resolved is = subst (IsRead) (sym is.is) (files_keep law stream path options is.files is.by_rules)

as_keeps : OptionsKeepText → (from : Option SqlOrigin) (resolved : Resolved) → IsResolvedAs from resolved → IsRead resolved
as_keeps law None resolved is = subst (IsRead) (sym is) tt
as_keeps law (Some from) resolved is = origin_keeps law from resolved is

keeps_at : (one : Resolved) (others : List Resolved) → IsRead one → ((place : ℕ) → IsReadThere (slice_get others place)) → (place : ℕ) → IsReadThere (slice_get (one ∷ others) place)
keeps_at one others here rest zero = here
keeps_at one others here rest (suc place) = rest place

all_keep : OptionsKeepText → (statements : List Statement) (resolved : List Resolved) → AreResolved statements resolved → (place : ℕ) → IsReadThere (slice_get resolved place)
all_keep law [] resolved are place = subst (λ (list : List Resolved). IsReadThere (slice_get list place)) (sym are) tt
all_keep law (first ∷ more) resolved are place =
    subst (λ (list : List Resolved). IsReadThere (slice_get list place)) (sym are.2)
    (keeps_at are.0 are.1 (as_keeps law (written_origin first) are.0 are.3) (all_keep law more are.1 are.4) place)

-- ---- a dataset

abbrev Keeps : Body → Type 0
Keeps one = AllKeepText (streams_of one)

abbrev KeepsOver : ℕ → Dataset → Type 0
KeepsOver level dataset = (dataset.level ≡ level) × Keeps dataset.body

abbrev FlowsKeep : List ℕ → Option (List Column) → List AppendFlow → Type 0
FlowsKeep places table flows = Keeps (body.Append flows)

one_more : (flows : List AppendFlow) (flow : AppendFlow) → Keeps (body.Append flows) → KeepsText flow.origin → Keeps (body.Append (flows ++ flow ∷ []))
one_more [] flow all one = (one, tt)
one_more (first ∷ more) flow all one = (all.0, one_more more flow all.1 one)

module _ (sofar : List Dataset) (statements : List Statement) (resolved : List Resolved) (read : (place : ℕ) → IsReadThere (slice_get resolved place)) where
  by_flow : HoldsByFlow statements resolved sofar FlowsKeep (λ (made : DatasetParts). Keeps made.body)
  by_flow = record {
    flow = λ mixed places table flows place name select all at.
        flow_holds sofar (λ (made : TableFlow). Keeps (body.Append (flows ++ made.flow ∷ []))) mixed name select table (slice_get resolved place)
        (λ reads placed opens. one_more flows (flow_of_select name (origin_as reads) placed) all (opened_keeps name (slice_get resolved place) reads opens (read place)));
    feed = λ mixed place name feed.
        feed_holds sofar Keeps mixed name feed (slice_get resolved place) (λ reads given opens. (opened_keeps name (slice_get resolved place) reads opens (read place), tt));
  }

  judged_keeps : (place level : ℕ) (text : List ℕ) → IfOk (dataset_judged statements resolved sofar place level text) (KeepsOver level)
  judged_keeps place level text =
      judged_holds statements resolved sofar level (λ (made : DatasetParts). Keeps made.body) (KeepsOver level) (λ name own items parts given keeps tested. (refl, keeps)) place
      (λ name items select at. table_holds statements resolved sofar FlowsKeep (λ (made : DatasetParts). Keeps made.body) by_flow place name items select tt (λ table flows all. all))
      (λ name select. view_holds sofar Keeps name select (slice_get resolved place) (λ query. tt)) text

-- ---- a plan

pub plan_keeps : OptionsKeepText → (statements : List Statement) (plan : List Dataset) → Checks statements (Ok plan) → AllByRecursion (λ (dataset : Dataset). AllKeepText (streams_of dataset.body)) plan
plan_keeps law statements plan checked =
    among_all (λ (dataset : Dataset). AllKeepText (streams_of dataset.body)) plan (λ dataset m.
    (plan_holds (λ sofar level one. KeepsOver level one) statements plan checked (λ none resolved are level sofar below place text. judged_keeps sofar statements resolved (all_keep law statements resolved are) place level text) (λ sofar level one h. h.0) dataset m).holds.1)
