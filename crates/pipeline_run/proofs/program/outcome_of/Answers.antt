use Rattle.std.proofs.Common.{rules, List, Option, subst, sym}
use Rattle.sql_tree.specs.declared.statement.Statement.{Statement}
use Rattle.pipeline_run.specs.Pipeline.{HasStatements, Knows}
use Rattle.pipeline_run.proofs.RunLemmas.{kept_if_ok, outcome_refused}
use Rattle.pipeline_run.proofs.program.outcome_of.Goals as goal

pub returns-clause-knows : goal.returns-clause-knows
returns-clause-knows g c tells whole knows =
    let left = g.T.Source.left c.args.text.now in
    kept_if_ok c.outcome_by-outcome.result (HasStatements whole c.in-Ok.statements)
    (c.in-Ok.ensures.statements tells whole (subst (λ (known : Option (List Statement)). Knows whole known left) (sym c.take.ensures.value) knows))

pub returns-clause-stands : goal.returns-clause-stands
returns-clause-stands g c text disk landing whole knows asked asks =
    let left = g.T.Source.left c.args.text.now in
    let has = c.in-Ok.ensures.statements text whole (subst (λ (known : Option (List Statement)). Knows whole known left) (sym c.take.ensures.value) knows) in
    c.outcome_by-outcome.ensures.stands disk landing asked (λ other checked. asks other (record { statements = c.in-Ok.statements; has = has; checked = checked }))

-- The clauses one by one: with the whole grammar in sight the search gives up on all of them at once.
pub returns-in-Err-Refused : goal.returns-in-Err-Refused
returns-in-Err-Refused g c = record {
  comes = λ text disk landing whole knows. outcome_refused g.D.Disk.tells_moments c.args.command _ _ (g.D.Disk.state c.args.disk.now) (search rules);
  knows = search rules;
  amount = search rules;
  err = search rules;
  store = search rules;
  ours = search rules;
  stands = search rules;
  honest = search rules;
  kept = search rules;
  room = search rules;
  text_later = search rules;
  disk_later = search rules;
  landing_later = search rules;
  present = search rules;
  ever = search rules;
  own = search rules;
  text_fault = search rules;
  load_fault = search rules;
  commit_fault = search rules;
  landing_fault = search rules;
  shrunk_of = search rules;
}
