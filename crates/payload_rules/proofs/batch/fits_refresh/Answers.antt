use Rattle.state_model.specs.Dataset.{cursor_of, dataset_of, flow_of}
use Rattle.state_model.specs.Follows.{FitsRefresh, FlowMoves}
use Rattle.payload_rules.specs.Batches.{FitsView}
use Rattle.payload_rules.proofs.FoundLemmas.{refresh_fits, refused, view_of_refresh}
use Rattle.payload_rules.proofs.batch.fits_refresh.Goals as goal

pub returns-then-not-is_for_view : goal.returns-then-not-is_for_view
returns-then-not-is_for_view g c =
    refused (dataset_of c.args.contents.now c.args.refresh.now.view) (FitsRefresh c.args.contents.now c.args.refresh.now) (λ dataset. FitsView c.args.refresh.now dataset.definition) c.is_for_view.result c.is_for_view.ensures c.if-not-is_for_view.true
    (view_of_refresh c.args.contents.now c.args.refresh.now)

pub returns-then-not-own_flow_moves : goal.returns-then-not-own_flow_moves
returns-then-not-own_flow_moves g c =
    refused (dataset_of c.args.contents.now c.args.refresh.now.view) (FitsRefresh c.args.contents.now c.args.refresh.now)
    (λ dataset. FlowMoves c.args.contents.now (flow_of dataset dataset.definition.name) (cursor_of dataset dataset.definition.name) c.args.refresh.now.cursor) c.own_flow_moves.result c.own_flow_moves.ensures c.if-not-own_flow_moves.true
    (λ dataset all. all.moves)

pub returns : goal.returns
returns g c =
    refresh_fits c.args.contents.now c.args.refresh.now (dataset_of c.args.contents.now c.args.refresh.now.view) c.in_ok-has.has (c.is_for_view.ensures.0 c.if-not-is_for_view.false) (c.own_flow_moves.ensures.0 c.if-not-own_flow_moves.false) c.in_ok-has.ensures
