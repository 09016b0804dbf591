use Rattle.std.proofs.Common.{◌≡◌, ℕ, List, [], ◌∷◌, ◌++◌, ap, ◌∙◌}
use Rattle.dataset_checks.specs.Filling.{fillers_from}
use Rattle.dataset_checks.proofs.Within.{places_within}
use Rattle.dataset_checks.proofs.filling.dataset_places.Goals as goal

pub returns-clause-within : goal.returns-clause-within
returns-clause-within c =
    let others = fillers_from c.args.name.now 0 c.args.statements.now in
    let first : c.push.new.self.items ≡ c.args.place ∷ [] = c.in_ok-push.ensures.items ∙ ap (λ (xs : List ℕ). xs ++ c.args.place ∷ []) c.new-places.ensures.items in
    places_within c.args.name.now c.args.statements.now c.args.place c.add_fillers.new.places.items c.requires (c.in_ok-add_fillers.ensures ∙ ap (λ (xs : List ℕ). xs ++ others) first)
