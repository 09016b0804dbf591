use Rattle.std.proofs.Common.{◌≡◌, ◌+◌, refl, sym, take, length, arith}
use Rattle.std.proofs.lemmas.List.{take_more, length-take-le}
use Rattle.par_rows.specs.Rows.{GivesRow}
use Rattle.par_rows.proofs.RowLemmas.{answered_more}
use Rattle.par_rows.proofs.map.map_from.Goals as goal

pub loop-k-preserved : goal.loop-k-preserved
loop-k-preserved g c =
    let at : length (take c.loop-k.k c.args.rows.now) ≡ c.loop-k.k = length-take-le c.loop-k.k c.args.rows.now (omega arith) in
    let given : GivesRow g.F.Fn c.args.f.now (c.args.first + c.loop-k.k) c.index-rows-k.result c.f.result = record { lent = _; lent_is = refl; call = c.f.ensures } in
    let more = take_more c.args.rows.now c.loop-k.k c.index-rows-k.result (omega arith) in
    rw (more, sym c.index-rows-k.is, (c.in_ok-push.ensures).items) (answered_more (GivesRow g.F.Fn c.args.f.now) c.args.first (take c.loop-k.k c.args.rows.now) c.loop-k.answers.items c.index-rows-k.result c.f.result c.loop-k.invariant (rw at given))
