use Rattle.std.proofs.Common.{refl, subst}
use Rattle.value_core.specs.declared.event.EventKind.TheVariants.{Delete, Upsert}
use Rattle.cdc_current.specs.Keeping.{SetsKey}
use Rattle.cdc_current.proofs.TurnLemmas.{takes_key}
use Rattle.cdc_current.proofs.turns.turn.Goals as goal

pub returns-in_ok-change-in-Delete-clause-takes : goal.returns-in_ok-change-in-Delete-clause-takes
returns-in_ok-change-in-Delete-clause-takes c =
    takes_key c.args.event.now c.args.ignore_null c.args.truncated.now c.args.keys.now.entries c.put.new.keys.entries Delete c.in-Delete.is refl
    (subst (λ state. SetsKey c.args.event.now.key state c.args.keys.now.entries c.put.new.keys.entries) (c.in_ok-state-in-Delete.ensures c.args.ignore_null) c.in_ok-change-in-Delete.ensures.sets)

pub returns-in_ok-change-in-Upsert-clause-takes : goal.returns-in_ok-change-in-Upsert-clause-takes
returns-in_ok-change-in-Upsert-clause-takes c =
    takes_key c.args.event.now c.args.ignore_null c.args.truncated.now c.args.keys.now.entries c.put-in-Upsert.new.keys.entries Upsert c.in-Upsert.is refl
    (subst (λ state. SetsKey c.args.event.now.key state c.args.keys.now.entries c.put-in-Upsert.new.keys.entries) c.in_ok-state-in-Upsert.ensures c.in_ok-change-in-Upsert.ensures.sets)
