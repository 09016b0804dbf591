use Rattle.std.proofs.Common.{◌++◌, sym, ap, ◌∙◌, arith}
use Rattle.std.proofs.lemmas.List.{append-nil, drop_all}
use Rattle.flow_model.specs.Current.{overlaid}
use Rattle.cdc_runs.proofs.CodeLemmas.{overlaid_none}
use Rattle.cdc_runs.proofs.columns.overlay.Goals as goal

pub returns : goal.returns
returns c = sym (append-nil c.loop-value.row) ∙ ap (λ more. c.loop-value.row ++ more) (sym (overlaid_none c.loop-value.old.now) ∙ ap (overlaid c.loop-value.old.now) (sym (drop_all c.loop-value.value-index c.args.columns.now (omega arith)))) ∙ c.loop-value.invariant
