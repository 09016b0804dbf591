use Rattle.std.proofs.Common.{◌∙◌, rules, tests}
use Rattle.std.proofs.lemmas.Iterator.Consumers.{YieldsList-from_rest}
use Rattle.std.proofs.lemmas.Iterator.Search.{any_from_yields_List}
use Rattle.line_rows.proofs.JsonLemmas.{is_stray_entry, any_stray}
use Rattle.line_rows.proofs.json_line.any_stray.Goals as goal

pub returns : goal.returns
returns c =
    any_from_yields_List (is_stray_entry c.args.columns.now) _ _ _ c.any.ensures.ran (YieldsList-from_rest c.args.members.now.entries c.iter.ensures.rest) (λ x b q k. search (rules, tests))
    ∙ any_stray c.args.columns.now c.args.members.now.entries
