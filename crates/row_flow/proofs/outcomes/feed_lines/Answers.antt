use Rattle.std.proofs.Common.{◌+◌, List, IfOk, subst}
use Rattle.flow_model.specs.Feed.{reading}
use Rattle.par_rows.proofs.RowLemmas.{answered_as}
use Rattle.row_flow.specs.declared.result.Judged.{Judged}
use Rattle.row_flow.specs.Results.{Come, IsResult, feed_result}
use Rattle.row_flow.specs.Rows.{line_row}
use Rattle.row_flow.proofs.ResultLemmas.{come_of, numbered_map}
use Rattle.row_flow.proofs.outcomes.feed_lines.Goals as goal

pub returns : goal.returns
returns g c =
    let xs = c.args.expectations.now in
    let answered = answered_as _ (λ i x answer. IfOk answer (IsResult xs (feed_result (i + 1) (reading c.args.flow.now c.args.expectations.now (line_row c.args.shape.now c.args.heads.now x))))) (λ i x answer given. subst (λ x. IfOk answer (IsResult xs (feed_result (i + 1) (reading c.args.flow.now c.args.expectations.now (line_row c.args.shape.now c.args.heads.now x))))) given.lent_is given.call) 0 c.args.lines.now c.in_ok-outcomes.outcomes.items c.in_ok-outcomes.ensures in
    subst (λ (wanted : List Judged). Come xs wanted c.in_ok-outcomes.outcomes.items) (numbered_map (λ i x. feed_result (i + 1) (reading c.args.flow.now c.args.expectations.now x)) (line_row c.args.shape.now c.args.heads.now) 0 c.args.lines.now)
    (come_of xs (λ i x. feed_result (i + 1) (reading c.args.flow.now c.args.expectations.now (line_row c.args.shape.now c.args.heads.now x))) 0 c.args.lines.now c.in_ok-outcomes.outcomes.items answered)
