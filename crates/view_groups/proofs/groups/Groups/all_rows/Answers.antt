use Rattle.std.proofs.Common.{sym}
use Rattle.std.proofs.lemmas.Map.Iter.{rest_more}
use Rattle.std.specs.Map.Iter.{deref_pair}
use Rattle.view_groups.proofs.WalkLemmas.{ok_from, walk_more, walk_stops}
use Rattle.view_groups.proofs.groups.Groups.all_rows.Goals as goal

pub loop-key-preserved : goal.loop-key-preserved
loop-key-preserved c = walk_more c.args.self.now.map.entries c.loop-key.key-iterator c.next.new.self c.loop-key.rows c.push.new.self c.in-Some.key.now c.in-Some.group.now c.in-Ok.row
    (rest_more deref_pair c.loop-key.key-iterator c.next.new.self c.next.result (c.in-Some.key, c.in-Some.group) c.in-Some.is c.next.ensures.steps)
    (ok_from c.push.result c.push.ensures.ok (sym c.if-is_err.ensures.value)) c.in-Ok.ensures c.loop-key.invariant

pub returns-in-Err-clause-answers : goal.returns-in-Err-clause-answers
returns-in-Err-clause-answers c = walk_stops c.args.self.now.map.entries c.loop-key.key-iterator c.next.new.self c.loop-key.rows c.in-Some.key.now c.in-Some.group.now c.in-Err.end c.stop_of.result
    (rest_more deref_pair c.loop-key.key-iterator c.next.new.self c.next.result (c.in-Some.key, c.in-Some.group) c.in-Some.is c.next.ensures.steps) c.in-Err.ensures c.stop_of.ensures c.loop-key.invariant
