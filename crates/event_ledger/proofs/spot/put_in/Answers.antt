use Rattle.std.proofs.Common.{◌∙◌, []}
use Rattle.event_ledger.proofs.Places.{placed_between}
use Rattle.event_ledger.proofs.spot.put_in.Goals as goal

pub returns-in-Free-clause-after : goal.returns-in-Free-clause-after
returns-in-Free-clause-after g c =
    let room = rw c.in-Free.is at c.in_ok-spot.ensures.room in
    let put = rw c.new-effective.ensures at c.in_ok-put.ensures.ok in
    put ∙ placed_between (record { event = c.args.event; effective = [] }) c.args.history.now c.in-Free.i room.1 room.2
