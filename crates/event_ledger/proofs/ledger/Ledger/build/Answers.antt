use Rattle.std.proofs.Common.{◌<◌, arith}
use Rattle.event_ledger.specs.Keyed.{standing_in}
use Rattle.event_ledger.proofs.Builds.{one_more}
use Rattle.event_ledger.proofs.ledger.Ledger.build.Goals as goal

pub loop-i-preserved-in_ok-insert : goal.loop-i-preserved-in_ok-insert
loop-i-preserved-in_ok-insert g c =
    let some : 0 < c.loop-i.i = omega arith in
    let is = rw c.as_slice.ensures at c.index-as_slice-i.is in (
      omega arith,
      one_more c.args.events.now c.loop-i.i c.index-as_slice-i.result _ c.in_ok-event.event c.loop-i.ledger c.insert.new.self (standing_in c.in_ok-insert.field-0) c.requires c.loop-i.invariant.0 some is
          c.in_ok-event.ensures c.loop-i.invariant.1 c.in_ok-insert.ensures.standing c.in_ok-insert.ensures.kept,
    )

pub loop-i-preserved : goal.loop-i-preserved
loop-i-preserved g c =
    let some : 0 < c.loop-i.i = omega arith in
    let is = rw c.as_slice.ensures at c.index-as_slice-i.is in (
      omega arith,
      one_more c.args.events.now c.loop-i.i c.index-as_slice-i.result _ c.in_ok-event.event c.loop-i.ledger c.insert.new.self (standing_in c.in_ok-insert.field-0) c.requires c.loop-i.invariant.0 some is
          c.in_ok-event.ensures c.loop-i.invariant.1 c.in_ok-insert.ensures.standing c.in_ok-insert.ensures.kept,
    )
