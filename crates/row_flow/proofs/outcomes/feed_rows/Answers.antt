use Rattle.std.proofs.Common.{◌+◌, IfOk, subst}
use Rattle.flow_model.specs.Feed.{reading}
use Rattle.par_rows.proofs.RowLemmas.{answered_as}
use Rattle.row_flow.specs.Results.{IsResult, feed_result}
use Rattle.row_flow.proofs.ResultLemmas.{come_of}
use Rattle.row_flow.proofs.outcomes.feed_rows.Goals as goal

pub returns : goal.returns
returns g c =
    let xs = c.args.expectations.now in
    let answered = answered_as _ (λ i x answer. IfOk answer (IsResult xs (feed_result (i + 1) (reading c.args.flow.now c.args.expectations.now x)))) (λ i x answer given. subst (λ x. IfOk answer (IsResult xs (feed_result (i + 1) (reading c.args.flow.now c.args.expectations.now x)))) given.lent_is given.call) 0 c.args.rows.now c.in_ok-outcomes.outcomes.items c.in_ok-outcomes.ensures in
    come_of xs (λ i x. feed_result (i + 1) (reading c.args.flow.now c.args.expectations.now x)) 0 c.args.rows.now c.in_ok-outcomes.outcomes.items answered
