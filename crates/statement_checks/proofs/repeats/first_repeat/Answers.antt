use Rattle.std.proofs.Common.{◌≡◌, Some, ap, ◌∙◌}
use Rattle.statement_checks.proofs.Seen.{IsAlone, one_more, repeat_here}
use Rattle.statement_checks.proofs.repeats.first_repeat.Goals as goal

pub returns-then-not-branch : goal.returns-then-not-branch
returns-then-not-branch c =
    let found = repeat_here c.loop-name.seen.keys c.args.names.now c.loop-name.name-index c.name-item.result (record { text = c.as_str.result }) c.in_ok-insert.field-0 c.loop-name-test.true (c.as_str.ensures ∙ c.name-item.is) c.in_ok-insert.ensures.added c.if-not-branch.true
    (record { seen = c.loop-name.invariant.seen; left = c.loop-name.invariant.left }) in
    ap Some c.name-item.is ∙ found

pub loop-name-preserved : goal.loop-name-preserved
loop-name-preserved c =
    let more = one_more c.loop-name.seen.keys c.insert.new.self.keys c.args.names.now c.loop-name.name-index c.name-item.result (record { text = c.as_str.result }) c.in_ok-insert.field-0 c.loop-name-test.true (c.as_str.ensures ∙ c.name-item.is) c.in_ok-insert.ensures.added c.if-not-branch.false c.in_ok-insert.ensures.keys
    (record { seen = c.loop-name.invariant.seen; left = c.loop-name.invariant.left }) in
    record { seen = more.seen; left = more.left }
