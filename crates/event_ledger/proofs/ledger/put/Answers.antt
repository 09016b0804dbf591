use Rattle.std.proofs.Common.{◌≡◌, refl, sym, ap, ◌∙◌}
use Rattle.std.specs.Map.{set_value}
use Rattle.std.specs.BTreeMap.{is_at}
use Rattle.std.specs.Option.{option_copied_mut}
use Rattle.value_core.specs.EventOrder.{standing}
use Rattle.value_core.specs.Order.{row_order}
use Rattle.event_history.specs.Histories.{events_of}
use Rattle.event_ledger.specs.Keyed.{all_events, standing_in}
use Rattle.event_ledger.specs.Spots.{entries_after}
use Rattle.event_ledger.proofs.Keys.{events_put, events_same, keyed_set, looks_found, own_found, stands_found}
use Rattle.event_ledger.proofs.Places.{carries, carries_err, own_either_way}
use Rattle.event_ledger.proofs.ledger.put.Goals as goal

pub put_in-requires : goal.put_in-requires
put_in-requires g c =
    own_found c.args.event.key c.args.histories.now.entries c.unwrap-history.result.now c.requires.by_key (sym c.get_mut.ensures.value ∙ ap option_copied_mut c.unwrap-history.ensures)

pub returns-clause-by_key : goal.returns-clause-by_key
returns-clause-by_key g c =
    let own = own_found c.args.event.key c.args.histories.now.entries c.unwrap-history.result.now c.requires.by_key (sym c.get_mut.ensures.value ∙ ap option_copied_mut c.unwrap-history.ensures) in
    rw (c.get_mut.follows.holds c.put_in.new.history).0
    (keyed_set c.args.event.key c.args.histories.now.entries c.put_in.new.history c.requires.by_key
    (own_either_way c.put_in.result c.args.event c.unwrap-history.result.now c.put_in.new.history own c.put_in.ensures.after c.put_in.ensures.err))

pub returns-clause-standing : goal.returns-clause-standing
returns-clause-standing g c =
    carries c.put_in.result (λ answer. standing_in answer ≡ standing (events_of c.unwrap-history.result.now) c.args.event) _
    (λ answer is. is ∙ sym (stands_found c.args.histories.now.entries c.args.event c.unwrap-history.result.now c.requires.by_key c.get_mut.ensures.ordered
    (sym c.get_mut.ensures.value ∙ ap option_copied_mut c.unwrap-history.ensures))) c.put_in.ensures.standing

pub returns-clause-after : goal.returns-clause-after
returns-clause-after g c =
    carries c.put_in.result (λ answer. c.put_in.new.history ≡ entries_after (standing_in answer) c.args.event c.unwrap-history.result.now) _
    (λ answer is. ap all_events (c.get_mut.follows.holds c.put_in.new.history).0
    ∙ ap (λ w. all_events (set_value (is_at (row_order c.args.event.key)) c.args.histories.now.entries w)) is
    ∙ events_put (standing_in answer) c.args.event c.args.histories.now.entries c.unwrap-history.result.now c.requires.by_key c.get_mut.ensures.ordered
    (sym c.get_mut.ensures.value ∙ ap option_copied_mut c.unwrap-history.ensures)) c.put_in.ensures.after

pub returns-clause-err : goal.returns-clause-err
returns-clause-err g c =
    carries_err c.put_in.result (c.put_in.new.history ≡ c.unwrap-history.result.now) _
    (λ is. ap all_events (c.get_mut.follows.holds c.put_in.new.history).0
    ∙ ap (λ w. all_events (set_value (is_at (row_order c.args.event.key)) c.args.histories.now.entries w)) is
    ∙ events_same c.args.event.key c.args.histories.now.entries c.unwrap-history.result.now
    (sym c.get_mut.ensures.value ∙ ap option_copied_mut c.unwrap-history.ensures)) c.put_in.ensures.err

pub returns-clause-looks : goal.returns-clause-looks
returns-clause-looks g c h small =
    c.put_in.ensures.looks h
    (looks_found c.args.event.key c.args.histories.now.entries c.unwrap-history.result.now (all_events c.args.histories.now.entries) h c.requires.by_key c.get_mut.ensures.ordered
    (sym c.get_mut.ensures.value ∙ ap option_copied_mut c.unwrap-history.ensures) refl small)
