use Rattle.std.proofs.Common.{◌<◌, ◌≤◌, length, arith}
use Rattle.store_tables.proofs.CursorLemmas.{moved-none, cursor-none, moved-past, cursor-past, moved-at, cursor-at}
use Rattle.store_tables.proofs.part.replace_cursor.Goals as goal

pub returns-in_default-clause-moved : goal.returns-in_default-clause-moved
returns-in_default-clause-moved c = moved-none c.args.name.now c.args.flows.now c.args.cursors.now.items c.args.cursor c.in_default.ensures.first

pub returns-in_default-clause-old : goal.returns-in_default-clause-old
returns-in_default-clause-old c = cursor-none c.args.name.now c.args.flows.now c.args.cursors.now.items c.in_default.ensures.first

pub returns-then-place-len-clause-moved : goal.returns-then-place-len-clause-moved
returns-then-place-len-clause-moved c =
    let past : length c.args.cursors.now.items ≤ c.in-Some.place = omega (arith, c.args.cursors.now.ok.0) in
    moved-past c.args.name.now c.args.flows.now c.args.cursors.now.items c.in-Some.place c.args.cursor c.in-Some.ensures.first past

pub returns-then-place-len-clause-old : goal.returns-then-place-len-clause-old
returns-then-place-len-clause-old c =
    let past : length c.args.cursors.now.items ≤ c.in-Some.place = omega (arith, c.args.cursors.now.ok.0) in
    cursor-past c.args.name.now c.args.flows.now c.args.cursors.now.items c.in-Some.place c.in-Some.ensures.first past

pub returns-clause-moved : goal.returns-clause-moved
returns-clause-moved c =
    let within : c.in-Some.place < length c.args.cursors.now.items = omega (arith, c.args.cursors.now.ok.0) in
    rw c.replace.ensures.after (moved-at c.args.name.now c.args.flows.now c.args.cursors.now.items c.in-Some.place c.args.cursor c.in-Some.ensures.first within)

pub returns-clause-old : goal.returns-clause-old
returns-clause-old c =
    let within : c.in-Some.place < length c.args.cursors.now.items = omega (arith, c.args.cursors.now.ok.0) in
    rw c.replace.ensures.value (cursor-at c.args.name.now c.args.flows.now c.args.cursors.now.items c.in-Some.place c.index_mut.result.now c.in-Some.ensures.first within c.index_mut.ensures.value)
