use Rattle.std.proofs.Common.{rules, ◌≡◌, Some, Ok, string_bytes, ◌∙◌}
use Rattle.indexmap.proofs.CallerLemmas.{insert_entry-new}
use Rattle.value_core.specs.NameFold.{same_name}
use Rattle.plan_core.proofs.plan.put_last.Goals as goal

pub returns-clause-put : goal.returns-clause-put
returns-clause-put g c =
    let given : c.args.key ≡ Ok (Some c.in-Some.key) = search rules in
    rw given
    (c.in_ok-insert.ensures.entries ∙
    insert_entry-new (λ a b. same_name (string_bytes a.text) (string_bytes b.text)) c.args.table.now c.in-Some.key c.args.value (rw given at c.requires))
