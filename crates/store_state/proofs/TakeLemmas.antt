-- A batch that is taken, and taken back.
use Rattle.std.proofs.Common.{◌≡◌, ◌-◌, List, [], ◌∷◌, ◌++◌, length, take, Option, Some, None, refl, arith}
use Rattle.std.specs.Prelude.{IsSome}
use Rattle.std.proofs.lemmas.List.{take_at, length_push}
use Rattle.value_core.specs.declared.change.Change.{Change}
use Rattle.value_core.specs.declared.cursor.Cursor.{Cursor}
use Rattle.commit_records.specs.declared.definition.StoredFlow.{StoredFlow}
use Rattle.commit_records.specs.declared.take.Take.{Take}
use Rattle.store_state.specs.declared.undo.Undo.{Undo}
use Rattle.store_state.specs.declared.undo.Undo.TheVariants.{Began, Added, Took}
use Rattle.store_state.specs.Dataset.{Dataset, State, cursor_of, dataset_of, taken, updated}
use Rattle.store_state.specs.Follows.{FlowMoves}
use Rattle.store_state.specs.Undo.{GivesBack, undone, untaken}
use Rattle.store_state.proofs.CursorLemmas.{moved-back}
use Rattle.store_state.proofs.PartLemmas.{updated-back}

-- a flow that moves on has a cursor
pub has-cursor : (state : State) (flow : Option StoredFlow) (old : Option Cursor) (new : Cursor) → FlowMoves state flow old new → IsSome old
has-cursor state None old new moves = absurd moves
has-cursor state (Some flow) None new moves = absurd moves
has-cursor state (Some flow) (Some old) new moves = refl

without-last : (changes : List Change) (change : Change) → take (length (changes ++ change ∷ []) - 1) (changes ++ change ∷ []) ≡ changes
without-last changes change = take_at changes (change ∷ []) (length (changes ++ change ∷ []) - 1) (omega (arith, length_push changes change))

pub taken-back : (batch : Take) (d : Dataset) (old : Cursor) → cursor_of d batch.flow ≡ Some old → untaken batch.flow old d.counts (taken batch d) ≡ d
taken-back batch d old found = rw (without-last d.changes batch.change, moved-back batch.flow d.definition.flows d.cursors old batch.cursor found) refl

-- what a batch gives back takes it back
pub gives-back : (state : State) (batch : Take) (d : Dataset) (undo : Undo) → dataset_of state batch.table ≡ Some d → GivesBack batch d undo → undone (updated batch.table (taken batch) state) undo ≡ state
gives-back state batch d (Began old) found gives = absurd gives
gives-back state batch d (Added before) found gives = absurd gives
gives-back state batch d (Took table flow cursor counts) found gives =
    rw (gives.0, gives.1, gives.3)
    (updated-back batch.table (taken batch) (untaken batch.flow cursor d.counts) state d (λ x. refl) found (taken-back batch d cursor gives.2))
