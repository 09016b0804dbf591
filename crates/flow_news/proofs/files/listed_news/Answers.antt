use Rattle.flow_news.proofs.ReadLemmas.{are_read, lines_come}
use Rattle.plan_core.specs.declared.flow.Origin.TheVariants as origin
use Rattle.flow_news.proofs.files.listed_news.Goals as goal

pub returns-in-Ok-clause-news : goal.returns-in-Ok-clause-news
returns-in-Ok-clause-news g c =
    let a = c.args in
    let read = c.in-Ok.ensures in
    let tells = g.L.Landing.tells in
    let files = g.L.Landing.present a.landing.now in
    let form = (c.places_have_one_form.ensures c.in-Ok.fresh.cursor).1 (read.ascending, read.above_zero) in
    let heads = rw c.as_str.ensures at read.heads in
    let lines = rw c.as_str.ensures at read.lines in
    let cursor = rw c.as_str.ensures at read.cursor in
    lines_come tells files a.shape.now a.dir.now a.listing.now a.places.now c.in-Ok.fresh (g.L.Landing.faults a.landing.now) (g.L.Landing.faults c.fresh_lines.new.landing) c.lines_news.result read.unshrunk
    (are_read tells files a.shape.now a.dir.now a.listing.now a.places.now c.in-Ok.fresh heads lines cursor form read.later) (c.lines_news.ensures (origin.Files a.dir.now a.shape.now))
