use Rattle.std.proofs.Common.{◌≡◌, ◌<◌, true, sym, is_lt, arith}
use Rattle.value_core.specs.FilePlaces.{file_order}
use Rattle.value_core.proofs.PlaceLemmas.{places_from}
use Rattle.value_core.proofs.cursor.FilePlaces.is_ascending.Goals as goal

pub loop-first-preserved-else-not-is_lt : goal.loop-first-preserved-else-not-is_lt
loop-first-preserved-else-not-is_lt c =
    let some : 0 < c.in-Some.first.now.place = omega arith in
    let less : is_lt (file_order c.in-Some.first.now.file c.in-Some-first.next.now.file) ≡ true = rw (← c.as_str.ensures, ← c.as_str-in-Some-first.ensures, ← c.cmp.ensures) (sym c.if-not-is_lt.ensures) in
    places_from c.loop-first.rest.now c.in-Some.first.now c.in-Some-first.next.now c.in-Some.more.now c.in-Some.ensures.cases.0 c.in-Some-first.ensures.value some less c.loop-first.invariant
