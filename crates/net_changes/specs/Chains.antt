-- A table through several changes, one after another.
use Rattle.std.specs.Prelude.{⊤, List, [], ◌∷◌, flat_map}
use Rattle.value_core.specs.declared.change.Change.{Change}
use Rattle.value_core.specs.Bags.{changed}
use Rattle.value_core.specs.Changes.{IsChange, Holds}
use Rattle.value_core.specs.Order.{Row}

-- the rows after changes, one after another
abbrev pub content_after : List Row → List Change → List Row
content_after rows [] = rows
content_after rows (change ∷ changes) = content_after (changed rows change) changes

-- each change has the form of one, and the rows that it removes are there when it comes
abbrev pub Follow : List Row → List Change → Type 0
Follow rows [] = ⊤
Follow rows (change ∷ changes) = IsChange change × Holds rows change.removed × Follow (changed rows change) changes

-- all rows that changes remove, and all that they add
abbrev pub all_removed : List Change → List Row
all_removed changes = flat_map (λ change. change.removed) changes

abbrev pub all_added : List Change → List Row
all_added changes = flat_map (λ change. change.added) changes
