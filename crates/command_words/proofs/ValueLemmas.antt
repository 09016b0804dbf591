-- Values found one after another.
use Rattle.std.proofs.Common.{◌≡◌, ℕ, List, [], ◌∷◌, Option, Some, None, refl, ap, ◌∙◌}
use Rattle.command_words.specs.Values.{at_most_one}

-- an item that was found before these
abbrev pub onto : {A : Type 0} → Option A → List A → List A
onto None items = items
onto (Some item) items = item ∷ items
