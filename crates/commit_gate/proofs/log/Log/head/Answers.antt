use Rattle.std.proofs.Common.{Result, Ok, Err, IfOk}
use Rattle.disk_model.specs.Disk.{file}
use Rattle.commit_gate.proofs.HeadLemmas.{same_head}
use Rattle.commit_gate.proofs.log.Log.head.Goals as goal

more : {T E : Type 0} (P Q : T → Type 0) (result : Result T E) → ((x : T) → P x → Q x) → IfOk result P → IfOk result Q
more P Q (Ok x) so holds = so x holds
more P Q (Err e) so holds = tt

pub returns-clause-first : goal.returns-clause-first
returns-clause-first g c = λ told.
    let bytes = file c.args.side (g.D.Disk.state c.args.disk.now).now in
    more _ _ c.look.result (λ head holds others long same. same_head bytes others head holds long same) (c.look.ensures.head told)
