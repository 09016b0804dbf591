use Rattle.std.proofs.Common.{IfOk, subst}
use Rattle.par_rows.proofs.RowLemmas.{answered_as}
use Rattle.cdc_histories.specs.Building.{IsFolded}
use Rattle.cdc_histories.proofs.BuildLemmas.{come_of, part_at}
use Rattle.cdc_histories.proofs.building.fold_parts.Goals as goal

pub map_rows-requires-clause-takes : goal.map_rows-requires-clause-takes
map_rows-requires-clause-takes g c κs within k part low behind is = part_at c.args.parts.now k part.now c.requires.parts low is

pub returns : goal.returns
returns g c =
    let ignore_null = c.args.flow.now.ignore_null in
    let tracked = c.args.flow.now.tracked in
    come_of ignore_null tracked 0 c.args.parts.now c.in_ok-answers.answers.items
    (answered_as _ (λ i part answer. IfOk answer (IsFolded ignore_null tracked part)) (λ i part answer given. subst (λ x. IfOk answer (IsFolded ignore_null tracked x)) given.lent_is given.call) 0 c.args.parts.now c.in_ok-answers.answers.items
    c.in_ok-answers.ensures)
