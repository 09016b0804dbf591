use Rattle.std.proofs.Common.{◌≡◌, ℕ, List, map, not, ap, ◌∙◌}
use Rattle.std.specs.List.{list_any}
use Rattle.value_core.specs.NameFold.{same_name}
use Rattle.select_names.proofs.Seen.{text, any_text}
use Rattle.select_names.proofs.repeats.SeenNames.add.Goals as goal

pub returns-clause-is_new : goal.returns-clause-is_new
returns-clause-is_new c =
    let keys = c.self.inside.names.keys in
    c.in_ok-added.ensures.added
    ∙ ap not (any_text keys c.as_str.result.now ∙ ap (λ (name : List ℕ). list_any (same_name name) (map text keys)) c.as_str.ensures
    ∙ ap (λ (seen : List (List ℕ)). list_any (same_name c.args.name.now) seen) c.self.view_is)
