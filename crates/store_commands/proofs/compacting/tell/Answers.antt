use Rattle.std.proofs.Common.{ℕ, List, subst, ◌∙◌}
use Rattle.command_ends.specs.Ends.{Printed, status_by, succeeded}
use Rattle.store_commands.proofs.compacting.tell.Goals as goal

pub returns-in-Ok-clause-printed : goal.returns-in-Ok-clause-printed
returns-in-Ok-clause-printed g c = λ tells.
    let s = g.S.Sink in
    subst (λ (text : List ℕ). Printed (status_by (succeeded c.print.result)) text (s.written c.args.out.now) (s.written c.print.new.out)) (c.as_slice.ensures.value ∙ c.in-Ok.ensures) (c.print.ensures.printed tells)
