use Rattle.row_flow.specs.Results.{append_results}
use Rattle.row_flow.specs.Rows.{rows_of}
use Rattle.row_flow.proofs.BatchLemmas.{append_answers}
use Rattle.row_flow.proofs.batch.append_batch.Goals as goal

pub returns-clause-goes_on : goal.returns-clause-goes_on
returns-clause-goes_on g c = (append_answers c.args.flow.now c.args.expectations.now (rows_of c.args.flow.now.origin c.args.input.now) c.in-Ok-gather.gathered.read c.in-Ok-gather.gathered.rows.items c.in-Ok-gather.gathered.events c.in-Ok-gather.gathered.tallies.items c.in-Ok-gather.gathered.halt (c.in-Ok-gather.ensures (append_results c.args.flow.now c.args.expectations.now (rows_of c.args.flow.now.origin c.args.input.now)) c.in-Ok.ensures) c.batch_of.result c.batch_of.ensures.goes_on c.batch_of.ensures.read c.batch_of.ensures.rows c.batch_of.ensures.tallies c.batch_of.ensures.stops).0

pub returns-clause-read : goal.returns-clause-read
returns-clause-read g c = (append_answers c.args.flow.now c.args.expectations.now (rows_of c.args.flow.now.origin c.args.input.now) c.in-Ok-gather.gathered.read c.in-Ok-gather.gathered.rows.items c.in-Ok-gather.gathered.events c.in-Ok-gather.gathered.tallies.items c.in-Ok-gather.gathered.halt (c.in-Ok-gather.ensures (append_results c.args.flow.now c.args.expectations.now (rows_of c.args.flow.now.origin c.args.input.now)) c.in-Ok.ensures) c.batch_of.result c.batch_of.ensures.goes_on c.batch_of.ensures.read c.batch_of.ensures.rows c.batch_of.ensures.tallies c.batch_of.ensures.stops).1

pub returns-clause-rows : goal.returns-clause-rows
returns-clause-rows g c = (append_answers c.args.flow.now c.args.expectations.now (rows_of c.args.flow.now.origin c.args.input.now) c.in-Ok-gather.gathered.read c.in-Ok-gather.gathered.rows.items c.in-Ok-gather.gathered.events c.in-Ok-gather.gathered.tallies.items c.in-Ok-gather.gathered.halt (c.in-Ok-gather.ensures (append_results c.args.flow.now c.args.expectations.now (rows_of c.args.flow.now.origin c.args.input.now)) c.in-Ok.ensures) c.batch_of.result c.batch_of.ensures.goes_on c.batch_of.ensures.read c.batch_of.ensures.rows c.batch_of.ensures.tallies c.batch_of.ensures.stops).2

pub returns-clause-tallies : goal.returns-clause-tallies
returns-clause-tallies g c = (append_answers c.args.flow.now c.args.expectations.now (rows_of c.args.flow.now.origin c.args.input.now) c.in-Ok-gather.gathered.read c.in-Ok-gather.gathered.rows.items c.in-Ok-gather.gathered.events c.in-Ok-gather.gathered.tallies.items c.in-Ok-gather.gathered.halt (c.in-Ok-gather.ensures (append_results c.args.flow.now c.args.expectations.now (rows_of c.args.flow.now.origin c.args.input.now)) c.in-Ok.ensures) c.batch_of.result c.batch_of.ensures.goes_on c.batch_of.ensures.read c.batch_of.ensures.rows c.batch_of.ensures.tallies c.batch_of.ensures.stops).3

pub returns-clause-stops : goal.returns-clause-stops
returns-clause-stops g c = (append_answers c.args.flow.now c.args.expectations.now (rows_of c.args.flow.now.origin c.args.input.now) c.in-Ok-gather.gathered.read c.in-Ok-gather.gathered.rows.items c.in-Ok-gather.gathered.events c.in-Ok-gather.gathered.tallies.items c.in-Ok-gather.gathered.halt (c.in-Ok-gather.ensures (append_results c.args.flow.now c.args.expectations.now (rows_of c.args.flow.now.origin c.args.input.now)) c.in-Ok.ensures) c.batch_of.result c.batch_of.ensures.goes_on c.batch_of.ensures.read c.batch_of.ensures.rows c.batch_of.ensures.tallies c.batch_of.ensures.stops).4
