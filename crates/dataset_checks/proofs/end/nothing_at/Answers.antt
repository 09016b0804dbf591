use Rattle.std.proofs.Common.{Err}
use Rattle.statement_checks.specs.declared.fault.CheckFault.TheVariants.{NoFlow}
use Rattle.dataset_checks.proofs.end.nothing_at.Goals as goal

pub returns : goal.returns
returns g c = c.numbered.ensures (Err (NoFlow c.args.name.now)) c.no_flow.ensures
