use Rattle.table_update.proofs.AlikeLemmas.{settled_alike, settled_alike_too}
use Rattle.table_update.proofs.end_laws.settled_files_are_alike.Goals as goal

pub returns : goal.returns
returns c =
    let lives = c.a_log_has_one_list_of_bodies.ensures.live in
    record { same = settled_alike lives; alike = settled_alike_too lives }
