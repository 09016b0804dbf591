-- The rows between two cursors are what a flow consumes by going on.
use Rattle.std.proofs.Common.{◌≡◌, ℕ, ◌+◌, ◌-◌, List, [], ◌∷◌, ◌++◌, length, take, drop, Option, Some, None, refl, sym, ap, ◌∙◌, subst, arith}
use Rattle.std.specs.Prelude.{IsSomeAnd}
use Rattle.std.specs.Option.{option_map_or}
use Rattle.std.proofs.lemmas.List.{take-append-drop}
use Rattle.value_core.specs.declared.change.Change.{Change}
use Rattle.value_core.specs.declared.cursor.Cursor.{Cursor}
use Rattle.value_core.specs.declared.cursor.Cursor.TheVariants.{Files, At, Never}
use Rattle.value_core.specs.Bags.{SameBag, count_of, in_row_order}
use Rattle.value_core.specs.Order.{Row}
use Rattle.value_core.proofs.BagLemmas.{count-in_row_order}
use Rattle.landing_core.specs.declared.landing.LandingFile.{LandingFile}
use Rattle.plan_core.specs.declared.flow.Origin.{Origin}
use Rattle.plan_core.specs.declared.flow.Origin.TheVariants as origin
use Rattle.net_changes.specs.Chains.{all_added, content_after}
use Rattle.state_model.specs.Dataset.{Dataset, State, changes_after, content, content_at, dataset_of, version_of}
use Rattle.state_steps.specs.Consumed.{consumed, IsStreamed, RemoveNone, StreamStands}
use Rattle.state_steps.specs.Steps.{AreBetween, EndsNow}
use Rattle.state_steps.proofs.VersionLemmas.{content_after-append, rows_grow, take-all}

over : (base n : ℕ) → (base + n) - base ≡ n
over base n = omega arith

-- the rows at the version now are the rows now
pub at_now : (source : Dataset) (v : ℕ) → v ≡ version_of source → content_at source v ≡ content source
at_now source v e = ap (λ (n : ℕ). content_after source.table.rows (take n source.table.changes)) (ap (λ (w : ℕ). w - source.table.base) e ∙ over source.table.base (length source.table.changes)) ∙ ap (content_after source.table.rows) (take-all source.table.changes)

drop-all : (changes : List Change) → drop (length changes) changes ≡ []
drop-all [] = refl
drop-all (change ∷ changes) = drop-all changes

pub since_now : (source : Dataset) (v : ℕ) → v ≡ version_of source → changes_after source v ≡ []
since_now source v e = ap (λ (n : ℕ). drop n source.table.changes) (ap (λ (w : ℕ). w - source.table.base) e ∙ over source.table.base (length source.table.changes)) ∙ drop-all source.table.changes

-- the rows that were added after a version make of the rows at it the rows now
since_adds : (source : Dataset) (v : ℕ) → RemoveNone (changes_after source v) → SameBag (content_at source v ++ all_added (changes_after source v)) (content source)
since_adds source v none a =
    sym (rows_grow (content_at source v) (changes_after source v) none a)
    ∙ ap (count_of a) (sym (content_after-append source.table.rows (take (v - source.table.base) source.table.changes) (changes_after source v)) ∙ ap (content_after source.table.rows) (take-append-drop (v - source.table.base) source.table.changes))

never_adds : (o : Option Dataset) (v : ℕ) (rows : List Row) → IsSomeAnd o (λ source. (v ≡ version_of source) × (rows ≡ in_row_order (content source))) → SameBag rows (option_map_or (λ d. content_at d v) o [])
never_adds None v rows h a = absurd h
never_adds (Some source) v rows h a = ap (count_of a) h.1 ∙ count-in_row_order a (content source) ∙ ap (count_of a) (sym (at_now source v h.0))

at_adds : (o : Option Dataset) (old v : ℕ) (rows : List Row) → IsSomeAnd o (IsStreamed old) → IsSomeAnd o (λ source. (v ≡ version_of source) × (rows ≡ all_added (changes_after source old)))
    → SameBag (option_map_or (λ d. content_at d old) o [] ++ rows) (option_map_or (λ d. content_at d v) o [])
at_adds None old v rows s h a = absurd h
at_adds (Some source) old v rows s h a =
    ap (λ (r : List Row). count_of a (content_at source old ++ r)) h.1 ∙ since_adds source old s.1 a ∙ ap (count_of a) (sym (at_now source v h.0))

pub between_adds : (ever : List LandingFile) (state : State) (from : Origin) (old new : Cursor) (rows : List Row) → StreamStands ever state from old → AreBetween ever state from old new rows
    → SameBag (consumed ever state from old ++ rows) (consumed ever state from new)
between_adds ever state (origin.Files dir shape) (Files old) (Files new) rows stands between = between
between_adds ever state (origin.Table name) Never (At v) rows stands between = never_adds (dataset_of state name) v rows between
between_adds ever state (origin.Table name) (At old) (At v) rows stands between = at_adds (dataset_of state name) old v rows stands between
between_adds ever state from old new rows stands between = absurd between

ends_by : (o : Option Dataset) (v : ℕ) → IsSomeAnd o (λ source. v ≡ version_of source) → IsSomeAnd o (IsStreamed v)
ends_by None v h = absurd h
ends_by (Some source) v h = ((omega (arith, h), omega (arith, h)), subst RemoveNone (sym (since_now source v h)) tt)

pub ends_stream : (ever : List LandingFile) (state : State) (from : Origin) (cursor : Cursor) → EndsNow ever state from cursor → StreamStands ever state from cursor
ends_stream ever state (origin.Files dir shape) (Files places) ends = ends
ends_stream ever state (origin.Table name) (At v) ends = ends_by (dataset_of state name) v ends
ends_stream ever state from cursor ends = absurd ends
