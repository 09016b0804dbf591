use Rattle.std.proofs.Common.{◌≡◌, true}
use Rattle.std.specs.List.{list_all}
use Rattle.state_model.specs.Dataset.{cursor_of, dataset_of, flow_of}
use Rattle.state_model.specs.Follows.{FitsTake, FlowMoves, are_new, counts_fit, event_fits}
use Rattle.payload_rules.specs.Batches.{FitsDefinition}
use Rattle.payload_rules.proofs.FoundLemmas.{refused, table_of_batch, take_fits}
use Rattle.payload_rules.proofs.batch.fits_take.Goals as goal

pub returns-then-not-is_for_table : goal.returns-then-not-is_for_table
returns-then-not-is_for_table g c =
    refused (dataset_of c.args.contents.now c.args.batch.now.table) (FitsTake c.args.contents.now c.args.batch.now) (λ dataset. FitsDefinition c.args.batch.now dataset.definition) c.is_for_table.result c.is_for_table.ensures c.if-not-is_for_table.true
    (table_of_batch c.args.contents.now c.args.batch.now)

pub returns-then-not-counts_are_within : goal.returns-then-not-counts_are_within
returns-then-not-counts_are_within g c =
    refused (dataset_of c.args.contents.now c.args.batch.now.table) (FitsTake c.args.contents.now c.args.batch.now) (λ dataset. counts_fit dataset.counts c.args.batch.now.counts ≡ true) c.counts_are_within.result c.counts_are_within.ensures c.if-not-counts_are_within.true
    (λ dataset all. all.table.within)

pub returns-then-not-flow_moves : goal.returns-then-not-flow_moves
returns-then-not-flow_moves g c =
    refused (dataset_of c.args.contents.now c.args.batch.now.table) (FitsTake c.args.contents.now c.args.batch.now) (λ dataset. FlowMoves c.args.contents.now (flow_of dataset c.args.batch.now.flow) (cursor_of dataset c.args.batch.now.flow) c.args.batch.now.cursor)
    c.flow_moves.result c.flow_moves.ensures c.if-not-flow_moves.true (λ dataset all. all.moves)

pub returns-then-not-parts : goal.returns-then-not-parts
returns-then-not-parts g c =
    refused (dataset_of c.args.contents.now c.args.batch.now.table) (FitsTake c.args.contents.now c.args.batch.now) (λ dataset. list_all (event_fits dataset.definition) c.args.batch.now.events ≡ true) c.in_ok-parts.parts c.in_ok-parts.ensures c.if-not-parts.true
    (λ dataset all. all.table.events_fit)

pub returns-then-not-new : goal.returns-then-not-new
returns-then-not-new g c =
    refused (dataset_of c.args.contents.now c.args.batch.now.table) (FitsTake c.args.contents.now c.args.batch.now) (λ dataset. are_new dataset.events c.args.batch.now.events ≡ true) c.in_ok-new.new c.in_ok-new.ensures c.if-not-new.true
    (λ dataset all. all.table.events_new)

pub returns : goal.returns
returns g c =
    take_fits c.args.contents.now c.args.batch.now (dataset_of c.args.contents.now c.args.batch.now.table) c.in_ok-has.has (c.is_for_table.ensures.0 c.if-not-is_for_table.false) (c.counts_are_within.ensures.0 c.if-not-counts_are_within.false)
    (c.flow_moves.ensures.0 c.if-not-flow_moves.false) (c.in_ok-parts.ensures.0 c.if-not-parts.false) (c.in_ok-new.ensures.0 c.if-not-new.false) c.in_ok-has.ensures
