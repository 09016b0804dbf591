-- The rows that a flow reads fit the columns of its source.
use Rattle.std.proofs.Common.{◌≡◌, ℕ, List, [], ◌∷◌, map, Bool, true, false, ◌&&◌, cond, if◌then◌else◌, Option, Some, None, refl, sym, ap, ◌∙◌, subst, arith, All}
use Rattle.std.specs.Prelude.{nat_lt, option_and_then, IsSomeAnd}
use Rattle.std.specs.Option.{option_map_or}
use Rattle.std.proofs.lemmas.List.Elements.{All-head, All-tail}
use Rattle.value_core.specs.declared.cursor.Cursor.{Cursor}
use Rattle.value_core.specs.declared.cursor.Cursor.TheVariants.{Files, At, Never}
use Rattle.value_core.specs.declared.cursor.FilePlace.{FilePlace}
use Rattle.value_core.specs.declared.schema.Column.{Column}
use Rattle.value_core.specs.declared.shape.Shape.{Shape}
use Rattle.value_core.specs.Bags.{in_row_order}
use Rattle.value_core.specs.Fits.{row_fits}
use Rattle.value_core.specs.NameFold.{same_name}
use Rattle.value_core.specs.Order.{Row}
use Rattle.landing_core.specs.declared.landing.LandingFile.{LandingFile}
use Rattle.landing_history.specs.Taken.{LandedLine, taken}
use Rattle.line_rows.specs.Lines.{keeps_text}
use Rattle.line_rows.proofs.FitLemmas.{row_fits_columns}
use Rattle.net_changes.specs.Chains.{all_added}
use Rattle.plan_core.specs.declared.flow.AppendFlow.{AppendFlow}
use Rattle.plan_core.specs.declared.flow.Origin.{Origin}
use Rattle.plan_core.specs.declared.flow.Origin.TheVariants as origin
use Rattle.plan_core.specs.declared.plan.Dataset.{Dataset as Part}
use Rattle.plan_core.specs.Sound.{IsSoundFlow, dataset_named, flow_columns, is_append, kinds_of, query_columns}
use Rattle.flow_kinds.specs.EventKinds.{all_fit}
use Rattle.flow_kinds.proofs.FitTools.{all_in_order, both_of, some_is}
use Rattle.state_model.specs.Dataset.{Dataset, State, changes_after, content, content_at, dataset_of, definitions_of, version_of}
use Rattle.state_steps.specs.Consumed.{consumed, head_given, row_of_line, rows_of_files}
use Rattle.state_steps.specs.Parts.{AllKeepText, AreTyped, IsTyped, KeepsText}
use Rattle.state_steps.specs.Shapes.{AllHaveShape}
use Rattle.state_steps.specs.Stands.{AllStand, Stands}
use Rattle.state_steps.specs.Steps.{AreBetween, flow_named}
use Rattle.state_steps.proofs.Lookups.{paired}
use Rattle.state_steps.proofs.RowShapes.{all_among, content_fits, found_shaped, since_fits, version_fits}
use Rattle.state_steps.proofs.VersionLemmas.{count-append}

-- ---- what is found by name

flow_by : (plan : List Part) (part : Part) (b : Bool) (o : Option AppendFlow) (f flow : AppendFlow) → IsSoundFlow plan part f × KeepsText f.origin → (o ≡ Some flow → IsSoundFlow plan part flow × KeepsText flow.origin)
    → cond b (Some f) o ≡ Some flow → IsSoundFlow plan part flow × KeepsText flow.origin
flow_by plan part true o f flow h behind e = subst (λ w. IsSoundFlow plan part w × KeepsText w.origin) (some_is f flow e) h
flow_by plan part false o f flow h behind e = behind e

pub found_flow : (plan : List Part) (part : Part) (name : List ℕ) (flows : List AppendFlow) (flow : AppendFlow) → All (IsSoundFlow plan part) flows → AllKeepText (map (λ f. f.origin) flows) → flow_named flows name ≡ Some flow
    → IsSoundFlow plan part flow × KeepsText flow.origin
found_flow plan part name [] flow all texts e = cc
found_flow plan part name (f ∷ flows) flow all texts e =
    flow_by plan part (same_name f.name name) (flow_named flows name) f flow (All-head (IsSoundFlow plan part) f flows all, texts.0)
    (found_flow plan part name flows flow (All-tail (IsSoundFlow plan part) f flows all) texts.1) e

typed_by : (plan : List Part) (b : Bool) (o : Option Part) (q : Option Dataset) (p part : Part) (x d : Dataset) → IsTyped plan p x.definition → (o ≡ Some part → q ≡ Some d → IsTyped plan part d.definition)
    → cond b (Some p) o ≡ Some part → cond b (Some x) q ≡ Some d → IsTyped plan part d.definition
typed_by plan true o q p part x d h behind e g = subst (λ w. IsTyped plan part w.definition) (some_is x d g) (subst (λ w. IsTyped plan w x.definition) (some_is p part e) h)
typed_by plan false o q p part x d h behind e g = behind e g

pub found_typed : (ever : List LandingFile) (whole : State) (plan : List Part) (name : List ℕ) (parts : List Part) (state : State) (part : Part) (d : Dataset) → AllStand ever whole parts state → AreTyped plan parts (definitions_of state)
    → dataset_named parts name ≡ Some part → dataset_of state name ≡ Some d → IsTyped plan part d.definition
found_typed ever whole plan name [] [] part d all typed e g = cc
found_typed ever whole plan name [] (x ∷ state) part d all typed e g = absurd all
found_typed ever whole plan name (p ∷ parts) [] part d all typed e g = absurd all
found_typed ever whole plan name (p ∷ parts) (x ∷ state) part d all typed e g =
    typed_by plan (same_name p.name name) (dataset_named parts name) (dataset_of state name) p part x d typed.0 (found_typed ever whole plan name parts state part d all.1 typed.1) e
    (ap (λ (k : List ℕ). cond (same_name k name) (Some x) (dataset_of state name)) (sym all.0.is_of.name) ∙ g)

-- ---- the columns of a source

columns_by : (b : Bool) (source : Part) (columns : List Column) → (if b then Some source.columns else None) ≡ Some columns → source.columns ≡ columns
columns_by true source columns e = some_is source.columns columns e
columns_by false source columns e = cc

-- the dataset of the plan with these columns that has the name
abbrev pub IsSource : List Part → List ℕ → List Column → Type 0
IsSource plan name columns = (source : Part) × (dataset_named plan name ≡ Some source) × (source.columns ≡ columns)

stream_by : (plan : List Part) (level : ℕ) (name : List ℕ) (columns : List Column) (o : Option Part) → dataset_named plan name ≡ o
    → option_and_then (λ source. if nat_lt source.level level && is_append source.body then Some source.columns else None) o ≡ Some columns → IsSource plan name columns
stream_by plan level name columns None is e = cc
stream_by plan level name columns (Some source) is e = (source, is, columns_by (nat_lt source.level level && is_append source.body) source columns e)

pub query_source : (plan : List Part) (level : ℕ) (name : List ℕ) (columns : List Column) → query_columns plan level name ≡ Some columns → IsSource plan name columns
query_source plan level name columns e = by (dataset_named plan name) refl e
  where
    by : (o : Option Part) → dataset_named plan name ≡ o → option_and_then (λ source. if nat_lt source.level level then Some source.columns else None) o ≡ Some columns → IsSource plan name columns
    by None is h = cc
    by (Some source) is h = (source, is, columns_by (nat_lt source.level level) source columns h)

-- ---- rows of files

line_fits : (shape : Shape) → keeps_text shape ≡ true → (line : LandedLine) → row_fits (kinds_of shape.columns) (row_of_line shape line) ≡ true
line_fits shape keeps line = row_fits_columns shape (head_given shape line.head) line.text keeps

lines_fit : (shape : Shape) → keeps_text shape ≡ true → (lines : List LandedLine) → all_fit (kinds_of shape.columns) (map (row_of_line shape) lines) ≡ true
lines_fit shape keeps [] = refl
lines_fit shape keeps (line ∷ lines) = both_of (row_fits (kinds_of shape.columns)) (row_of_line shape line) (map (row_of_line shape) lines) (line_fits shape keeps line) (lines_fit shape keeps lines)

files_fit : (dir : List ℕ) (shape : Shape) (ever : List LandingFile) (places : List FilePlace) (columns : List Column) → keeps_text shape ≡ true → Some shape.columns ≡ Some columns
    → all_fit (kinds_of columns) (rows_of_files shape dir ever places) ≡ true
files_fit dir shape ever places columns keeps e =
    subst (λ cs. all_fit (kinds_of cs) (rows_of_files shape dir ever places) ≡ true) (some_is shape.columns columns e) (lines_fit shape keeps (taken shape.format shape.header dir ever places))

-- ---- rows of datasets

module _ (parts : List Part) (ever : List LandingFile) (state : State) (stands : Stands parts ever state) (shape : AllHaveShape parts state) where
  -- the columns of a dataset that is found are those of its part
  pub found_columns : (name : List ℕ) (columns : List Column) → IsSource parts name columns → (d : Dataset) → dataset_of state name ≡ Some d → d.definition.columns ≡ columns
  found_columns name columns is d e =
      let pair = paired ever state parts state name stands.each d e in
      pair.2.is_of.columns ∙ ap (λ (p : Part). p.columns) (some_is pair.0 is.0 (sym pair.1 ∙ is.1)) ∙ is.2

  pub now_fits : (name : List ℕ) (columns : List Column) → IsSource parts name columns → (d : Dataset) → dataset_of state name ≡ Some d → all_fit (kinds_of columns) (content d) ≡ true
  now_fits name columns is d e = subst (λ cs. all_fit (kinds_of cs) (content d) ≡ true) (found_columns name columns is d e) (content_fits d (found_shaped name state d shape.rows e))

  never_by : (name : List ℕ) (columns : List Column) (v : ℕ) (rows : List Row) → IsSource parts name columns → (o : Option Dataset) → dataset_of state name ≡ o
      → IsSomeAnd o (λ source. (v ≡ version_of source) × (rows ≡ in_row_order (content source))) → all_fit (kinds_of columns) rows ≡ true
  never_by name columns v rows is None e h = absurd h
  never_by name columns v rows is (Some d) e h =
      subst (λ r. all_fit (kinds_of columns) r ≡ true) (sym h.1) (all_in_order (row_fits (kinds_of columns)) (content d) (now_fits name columns is d e))

  since_by : (name : List ℕ) (columns : List Column) (old v : ℕ) (rows : List Row) → IsSource parts name columns → (o : Option Dataset) → dataset_of state name ≡ o
      → IsSomeAnd o (λ source. (v ≡ version_of source) × (rows ≡ all_added (changes_after source old))) → all_fit (kinds_of columns) rows ≡ true
  since_by name columns old v rows is None e h = absurd h
  since_by name columns old v rows is (Some d) e h =
      subst (λ r. all_fit (kinds_of columns) r ≡ true) (sym h.1)
      (subst (λ cs. all_fit (kinds_of cs) (all_added (changes_after d old)) ≡ true) (found_columns name columns is d e) (since_fits d (found_shaped name state d shape.rows e) old))

  at_by : (name : List ℕ) (columns : List Column) (v : ℕ) → IsSource parts name columns → (o : Option Dataset) → dataset_of state name ≡ o → all_fit (kinds_of columns) (option_map_or (λ d. content_at d v) o []) ≡ true
  at_by name columns v is None e = refl
  at_by name columns v is (Some d) e =
      subst (λ cs. all_fit (kinds_of cs) (content_at d v) ≡ true) (found_columns name columns is d e) (version_fits d (found_shaped name state d shape.rows e) v)

  source_of : (level : ℕ) (name : List ℕ) (columns : List Column) → flow_columns parts level (origin.Table name) ≡ Some columns → IsSource parts name columns
  source_of level name columns e = stream_by parts level name columns (dataset_named parts name) refl e

  -- the rows by which a flow goes on
  pub between_fit : (level : ℕ) (from : Origin) (old new : Cursor) (rows : List Row) (columns : List Column) → flow_columns parts level from ≡ Some columns → KeepsText from → AreBetween ever state from old new rows
      → all_fit (kinds_of columns) rows ≡ true
  between_fit level (origin.Files dir lines) (Files old) (Files new) rows columns e keeps between =
      all_among (row_fits (kinds_of columns)) rows (rows_of_files lines dir ever new)
      (λ row. omega (arith, between row, count-append row (rows_of_files lines dir ever old) rows)) (files_fit dir lines ever new columns keeps e)
  between_fit level (origin.Table name) Never (At v) rows columns e keeps between = never_by name columns v rows (source_of level name columns e) (dataset_of state name) refl between
  between_fit level (origin.Table name) (At old) (At v) rows columns e keeps between = since_by name columns old v rows (source_of level name columns e) (dataset_of state name) refl between
  between_fit level from old new rows columns e keeps between = absurd between

  -- the rows that a flow consumed
  pub consumed_fit : (level : ℕ) (from : Origin) (cursor : Cursor) (columns : List Column) → flow_columns parts level from ≡ Some columns → KeepsText from → all_fit (kinds_of columns) (consumed ever state from cursor) ≡ true
  consumed_fit level (origin.Files dir lines) (Files places) columns e keeps = files_fit dir lines ever places columns keeps e
  consumed_fit level (origin.Files dir lines) (At v) columns e keeps = refl
  consumed_fit level (origin.Files dir lines) Never columns e keeps = refl
  consumed_fit level (origin.Table name) (Files places) columns e keeps = refl
  consumed_fit level (origin.Table name) Never columns e keeps = refl
  consumed_fit level (origin.Table name) (At v) columns e keeps = at_by name columns v (source_of level name columns e) (dataset_of state name) refl
