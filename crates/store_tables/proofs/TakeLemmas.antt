-- A payload that is taken, and taken back.
use Rattle.std.proofs.Common.{◌≡◌, ◌-◌, List, [], ◌∷◌, ◌++◌, length, take, Option, Some, None, refl, ap, arith}
use Rattle.std.specs.Prelude.{IsSome}
use Rattle.std.proofs.lemmas.List.{take_at, length_push}
use Rattle.value_core.specs.declared.change.Change.{Change}
use Rattle.value_core.specs.declared.cursor.Cursor.{Cursor}
use Rattle.table_versions.specs.Versions.{Versions, content_now, grown, shrunk, versions_of}
use Rattle.commit_payloads.specs.declared.definition.Definition.{Definition}
use Rattle.commit_payloads.specs.declared.definition.StoredFlow.{StoredFlow}
use Rattle.commit_payloads.specs.declared.take.Refresh.{Refresh}
use Rattle.commit_payloads.specs.declared.take.Take.{Take}
use Rattle.state_model.specs.After.{emptied, emptying, refreshed, taken, updated}
use Rattle.state_model.specs.Dataset.{Dataset, State, cursor_of, dataset_of}
use Rattle.state_model.specs.Follows.{FlowMoves}
use Rattle.store_tables.specs.declared.part.Part.{Part}
use Rattle.store_tables.specs.declared.part.Rest.{Rest}
use Rattle.store_tables.specs.declared.undo.Undo.{Undo}
use Rattle.store_tables.specs.declared.undo.Undo.TheVariants.{Began, Added, Took, Refreshed, Emptied}
use Rattle.store_tables.specs.Parts.{joined}
use Rattle.store_tables.specs.Undo.{GivesBack, GivesViewBack, IsRestOf, restored, undone, unrefreshed, untaken}
use Rattle.store_tables.proofs.CursorLemmas.{moved-back}
use Rattle.store_tables.proofs.PartLemmas.{updated-back}

-- a flow that moves on has a cursor
pub has-cursor : (state : State) (flow : Option StoredFlow) (old : Option Cursor) (new : Cursor) → FlowMoves state flow old new → IsSome old
has-cursor state None old new moves = absurd moves
has-cursor state (Some flow) None new moves = absurd moves
has-cursor state (Some flow) (Some old) new moves = refl

without-last : (table : Versions) (change : Change) → shrunk (grown table change) ≡ table
without-last table change =
    ap (versions_of table.base table.rows) (take_at table.changes (change ∷ []) (length (table.changes ++ change ∷ []) - 1) (omega (arith, length_push table.changes change)))

pub taken-back : (batch : Take) (d : Dataset) (old : Cursor) → cursor_of d batch.flow ≡ Some old → untaken batch.flow old d.counts d.events (taken batch d) ≡ d
taken-back batch d old found =
    let cursors = moved-back batch.flow d.definition.flows d.cursors old batch.cursor found in
    λ i. record d { table = without-last d.table batch.change i; cursors = cursors i }

-- what a batch gives back takes it back
pub gives-back : (state : State) (batch : Take) (d : Dataset) (undo : Undo) → dataset_of state batch.table ≡ Some d → GivesBack batch d undo → undone (updated batch.table (taken batch) state) undo ≡ state
gives-back state batch d (Began old) found gives = absurd gives
gives-back state batch d (Added before) found gives = absurd gives
gives-back state batch d (Refreshed view cursors counts) found gives = absurd gives
gives-back state batch d (Emptied rests) found gives = absurd gives
gives-back state batch d (Took table flow cursor counts events) found gives =
    rw (gives.0, gives.1, gives.3, gives.4)
    (updated-back batch.table (taken batch) (untaken batch.flow cursor d.counts d.events) state d (λ x. refl) found (taken-back batch d cursor gives.2))

view-back : (refresh : Refresh) (d : Dataset) → unrefreshed d.cursors d.counts (refreshed refresh d) ≡ d
view-back refresh d = λ i. record d { table = without-last d.table refresh.change i }

-- what a refresh gives back takes it back
pub gives-view-back : (state : State) (refresh : Refresh) (definition : Definition) (part : Part) (undo : Undo) → dataset_of state refresh.view ≡ Some (joined definition part) → GivesViewBack refresh part undo
    → undone (updated refresh.view (refreshed refresh) state) undo ≡ state
gives-view-back state refresh definition part (Began old) found gives = absurd gives
gives-view-back state refresh definition part (Added before) found gives = absurd gives
gives-view-back state refresh definition part (Took table flow cursor counts events) found gives = absurd gives
gives-view-back state refresh definition part (Emptied rests) found gives = absurd gives
gives-view-back state refresh definition part (Refreshed view cursors counts) found gives =
    rw (gives.0, gives.1, gives.2)
    (updated-back refresh.view (refreshed refresh) (unrefreshed part.cursors.items part.counts) state (joined definition part) (λ x. refl) found (view-back refresh (joined definition part)))

-- a dataset that was emptied is filled again by what was kept of it
pub filled-again : (definition : Definition) (part : Part) (rest : Rest) → IsRestOf part rest → restored rest (emptied (joined definition part)) ≡ joined definition part
filled-again definition part rest is =
    λ i. record (joined definition part) {
      table = without-last part.table (emptying (content_now part.table)) i;
      cursors = is.cursors i;
      counts = is.counts i;
      events = is.events i;
    }
