use Rattle.std.proofs.Common.{ℕ, List, ◌++◌, flat_map, ◌∙◌, ap}
use Rattle.pair_store.specs.Store.{store_state}
use Rattle.report_text.specs.Metrics.{metrics_head}
use Rattle.store_commands.specs.Counted.{lines_in}
use Rattle.store_commands.proofs.CountLemmas.{are_metrics}
use Rattle.store_commands.proofs.measuring.text_of.Goals as goal

pub returns : goal.returns
returns c =
    let state = store_state c.args.store.now in
    let lines = lines_in state in
    let definitions = c.as_slice.result.now in
    c.in_ok-put_all.ensures
    ∙ ap (λ (head : List ℕ). head ++ flat_map lines definitions) c.in_ok-text.ensures
    ∙ ap (λ list. metrics_head ++ flat_map lines list) (c.as_slice.ensures ∙ c.definitions.ensures)
    ∙ are_metrics state (c.a_state_comes_of_payloads.ensures.stored state c.requires).store.distinct
