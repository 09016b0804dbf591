use Rattle.std.proofs.Common.{rules}
use Rattle.landing_history.proofs.WholeReadings.{one_form}
use Rattle.table_update.proofs.NewsLemmas.{reading_moves}
use Rattle.table_update.proofs.news.read_on.Goals as goal

pub fresh_lines-requires-clause-ascending : goal.fresh_lines-requires-clause-ascending
fresh_lines-requires-clause-ascending g c = ((one_form c.args.places.now).0 c.requires).0

pub fresh_lines-requires-clause-above_zero : goal.fresh_lines-requires-clause-above_zero
fresh_lines-requires-clause-above_zero g c = ((one_form c.args.places.now).0 c.requires).1

pub returns-clause-moves : goal.returns-clause-moves
returns-clause-moves g c =
    let read = c.fresh_lines.ensures in
    let moved = reading_moves c.args.places.now c.fresh_lines.result c.requires read.ascending read.above_zero read.later in search rules
