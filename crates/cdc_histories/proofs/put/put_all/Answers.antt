use Rattle.std.proofs.Common.{◌++◌, ap, ◌∙◌, subst}
use Rattle.value_core.specs.declared.change.Change.{Change}
use Rattle.event_ledger.specs.Keyed.{all_events, AreApart}
use Rattle.flow_model.specs.History.{scd2}
use Rattle.cdc_histories.specs.Keeping.{HaveFirst}
use Rattle.cdc_histories.proofs.ApplyLemmas.{Applying, applies_more, balance_net, free_first, have_more}
use Rattle.cdc_histories.proofs.TurnLemmas.{on_err}
use Rattle.cdc_histories.proofs.put.put_all.Goals as goal

pub put_copy-requires-clause-fresh : goal.put_copy-requires-clause-fresh
put_copy-requires-clause-fresh g c =
    free_first c.in-Some.event.now c.in-Some.more.now (all_events c.loop-event.histories.entries)
    (subst (λ ys. AreApart (ys ++ all_events c.loop-event.histories.entries)) c.in-Some.ensures.cases.0 c.loop-event.invariant.apart)

pub returns-in_err-append-clause-err : goal.returns-in_err-append-clause-err
returns-in_err-append-clause-err g c =
    on_err c.from_residual-in_err-append.result _ (
      c.in-Some.more.now,
      (have_more (all_events c.args.histories.now.entries) c.args.events.now c.in-Some.more.now (all_events c.loop-event.histories.entries) (all_events c.put_copy.new.histories.entries) c.in-Some.event.now
          (subst (λ ys. HaveFirst (all_events c.args.histories.now.entries) c.args.events.now ys (all_events c.loop-event.histories.entries)) c.in-Some.ensures.cases.0 c.loop-event.invariant.first) c.in_ok-change.ensures.kept),
    )

pub returns-in_err-append-2-clause-err : goal.returns-in_err-append-2-clause-err
returns-in_err-append-2-clause-err g c =
    on_err c.from_residual-in_err-append-2.result _ (
      c.in-Some.more.now,
      (have_more (all_events c.args.histories.now.entries) c.args.events.now c.in-Some.more.now (all_events c.loop-event.histories.entries) (all_events c.put_copy.new.histories.entries) c.in-Some.event.now
          (subst (λ ys. HaveFirst (all_events c.args.histories.now.entries) c.args.events.now ys (all_events c.loop-event.histories.entries)) c.in-Some.ensures.cases.0 c.loop-event.invariant.first) c.in_ok-change.ensures.kept),
    )

pub loop-event-preserved : goal.loop-event-preserved
loop-event-preserved g c =
    applies_more c.args.flow.now.ignore_null c.args.flow.now.tracked (all_events c.args.histories.now.entries) c.args.events.now c.in-Some.more.now c.in-Some.event.now c.loop-event.histories.entries c.put_copy.new.histories.entries
    c.loop-event.removed.items c.append.new.self.items c.loop-event.added.items c.append-in-Some.new.self.items c.args.steps.now c.loop-event.steps c.put_copy.new.steps
    (subst (λ ys. Applying c.args.flow.now.ignore_null c.args.flow.now.tracked (all_events c.args.histories.now.entries) c.args.events.now ys c.loop-event.histories.entries c.loop-event.removed.items c.loop-event.added.items c.args.steps.now c.loop-event.steps)
    c.in-Some.ensures.cases.0 c.loop-event.invariant)
    c.in_ok-change.ensures.in_parts
    c.in_ok-change.ensures.kept
    (c.in_ok-append.ensures.items ∙ ap (λ ys. c.loop-event.removed.items ++ ys) (c.into_vec.ensures ∙ ap (λ (change : Change). change.removed) c.in_ok-change.ensures.change))
    (c.in_ok-append-2.ensures.items ∙ ap (λ ys. c.loop-event.added.items ++ ys) (c.into_vec-in-Some.ensures ∙ ap (λ (change : Change). change.added) c.in_ok-change.ensures.change))
    c.in_ok-change.ensures.looks

pub returns-clause-net : goal.returns-clause-net
returns-clause-net g c =
    balance_net (scd2 c.args.flow.now.ignore_null c.args.flow.now.tracked (all_events c.args.histories.now.entries)) (scd2 c.args.flow.now.ignore_null c.args.flow.now.tracked (all_events c.loop-event.histories.entries)) c.loop-event.removed.items c.loop-event.added.items
    c.loop-event.invariant.balance
