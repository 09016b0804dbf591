use Rattle.pipeline_run.proofs.RunLemmas.{only_says}
use Rattle.pipeline_run.proofs.in_memory.run_in_memory.Goals as goal

pub returns-clause-no_landing_fault : goal.returns-clause-no_landing_fault
returns-clause-no_landing_fault c is = only_says c.args.out.now.bytes.items c.run.new.out.bytes.items (c.run.ensures.landing_fault tt is)
