use Rattle.std.proofs.Common.{sym, ◌∙◌}
use Rattle.segment_rows.specs.EventParts.{has_its_parts}
use Rattle.segment_rows.proofs.WholeLemmas.{refused_tested, stands_tested}
use Rattle.segment_rows.proofs.fields.take_event.Goals as goal

pub returns-in_default : goal.returns-in_default
returns-in_default c =
    let none = rw c.in_default.is at c.in_ok-event.ensures in
    λ value rest is e. none value rest is.0 e

pub returns-then-not-has_its_parts : goal.returns-then-not-has_its_parts
returns-then-not-has_its_parts c =
    refused_tested has_its_parts c.args.bytes.now c.args.at c.in-Some.event c.in-Some.end (rw c.in-Some.is at c.in_ok-event.ensures) (sym c.has_its_parts.ensures ∙ c.if-not-has_its_parts.true)

pub returns : goal.returns
returns c =
    stands_tested has_its_parts c.args.bytes.now c.args.at c.in-Some.event c.in-Some.end (rw c.in-Some.is at c.in_ok-event.ensures) (sym c.has_its_parts.ensures ∙ c.if-not-has_its_parts.false)
