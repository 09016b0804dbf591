use Rattle.std.proofs.Common.{◌∙◌}
use Rattle.row_flow.specs.Results.{feed_results}
use Rattle.row_flow.specs.Rows.{rows_of}
use Rattle.row_flow.proofs.BatchLemmas.{feed_counts_are, feed_events_are, feed_halt_is, feed_read_is}
use Rattle.row_flow.proofs.batch.event_batch.Goals as goal

pub returns-clause-halt : goal.returns-clause-halt
returns-clause-halt g c = c.events_of.ensures.halt ∙ feed_halt_is c.args.flow.now c.args.expectations.now (rows_of c.args.flow.now.origin c.args.input.now) c.in_ok-gathered.gathered.read c.in_ok-gathered.gathered.rows.items c.in_ok-gathered.gathered.events c.in_ok-gathered.gathered.tallies.items c.in_ok-gathered.gathered.halt (c.in_ok-gathered.ensures (feed_results c.args.flow.now c.args.expectations.now (rows_of c.args.flow.now.origin c.args.input.now)) c.in_ok-outcomes.ensures)

pub returns-clause-read : goal.returns-clause-read
returns-clause-read g c = c.events_of.ensures.read ∙ feed_read_is c.args.flow.now c.args.expectations.now (rows_of c.args.flow.now.origin c.args.input.now) c.in_ok-gathered.gathered.read c.in_ok-gathered.gathered.rows.items c.in_ok-gathered.gathered.events c.in_ok-gathered.gathered.tallies.items c.in_ok-gathered.gathered.halt (c.in_ok-gathered.ensures (feed_results c.args.flow.now c.args.expectations.now (rows_of c.args.flow.now.origin c.args.input.now)) c.in_ok-outcomes.ensures)

pub returns-clause-events : goal.returns-clause-events
returns-clause-events g c = c.events_of.ensures.events ∙ feed_events_are c.args.flow.now c.args.expectations.now (rows_of c.args.flow.now.origin c.args.input.now) c.in_ok-gathered.gathered.read c.in_ok-gathered.gathered.rows.items c.in_ok-gathered.gathered.events c.in_ok-gathered.gathered.tallies.items c.in_ok-gathered.gathered.halt (c.in_ok-gathered.ensures (feed_results c.args.flow.now c.args.expectations.now (rows_of c.args.flow.now.origin c.args.input.now)) c.in_ok-outcomes.ensures)

pub returns-clause-tallies : goal.returns-clause-tallies
returns-clause-tallies g c = c.events_of.ensures.tallies ∙ feed_counts_are c.args.flow.now c.args.expectations.now (rows_of c.args.flow.now.origin c.args.input.now) c.in_ok-gathered.gathered.read c.in_ok-gathered.gathered.rows.items c.in_ok-gathered.gathered.events c.in_ok-gathered.gathered.tallies.items c.in_ok-gathered.gathered.halt (c.in_ok-gathered.ensures (feed_results c.args.flow.now c.args.expectations.now (rows_of c.args.flow.now.origin c.args.input.now)) c.in_ok-outcomes.ensures)
