use Rattle.std.proofs.Common.{sym, ◌∙◌}
use Rattle.event_ledger.proofs.Keys.{looks_found, own_found, stands_alone, stands_found}
use Rattle.event_ledger.proofs.ledger.Ledger.test.Goals as goal

pub returns-in_default-clause-standing : goal.returns-in_default-clause-standing
returns-in_default-clause-standing g c =
    rw (← c.self.view_is) (sym (stands_alone c.self.inside.histories.entries c.args.event.now c.self.invariant (sym c.in_default.ensures.value)))

pub spot_of-requires : goal.spot_of-requires
spot_of-requires g c = own_found c.args.event.now.key c.self.inside.histories.entries c.in-Some.history.now c.self.invariant (sym c.in-Some.ensures.value)

pub returns-in_err-spot-clause-looks : goal.returns-in_err-spot-clause-looks
returns-in_err-spot-clause-looks g c h small =
    c.spot_of.ensures.looks h (looks_found c.args.event.now.key c.self.inside.histories.entries c.in-Some.history.now c.args.self.now h c.self.invariant c.len-count.ensures.ordered (sym c.in-Some.ensures.value) c.self.view_is small)

pub returns-clause-standing : goal.returns-clause-standing
returns-clause-standing g c =
    rw (← c.self.view_is)
    (c.answer_at.ensures ∙ c.in_ok-spot.ensures.standing
    ∙ sym (stands_found c.self.inside.histories.entries c.args.event.now c.in-Some.history.now c.self.invariant c.len-count.ensures.ordered (sym c.in-Some.ensures.value)))

pub returns-clause-looks : goal.returns-clause-looks
returns-clause-looks g c h small =
    c.spot_of.ensures.looks h (looks_found c.args.event.now.key c.self.inside.histories.entries c.in-Some.history.now c.args.self.now h c.self.invariant c.len-count.ensures.ordered (sym c.in-Some.ensures.value) c.self.view_is small)
