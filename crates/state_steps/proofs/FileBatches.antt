-- The rows that a reading of a landing folder finds are those between where it began and where it came.
use Rattle.std.proofs.Common.{◌≡◌, ℕ, ◌+◌, List, [], ◌∷◌, ◌++◌, map, cond, refl, sym, ap, ◌∙◌, sum_by, IsPermutation}
use Rattle.std.proofs.lemmas.List.{map-append}
use Rattle.std.proofs.lemmas.List.Sorted.{sum_by-IsPermutation}
use Rattle.std.proofs.lemmas.List.Sums.{sum_by-cons}
use Rattle.value_core.specs.declared.cursor.Cursor.TheVariants.{Files}
use Rattle.value_core.specs.declared.cursor.FilePlace.{FilePlace}
use Rattle.value_core.specs.declared.shape.Shape.{Shape}
use Rattle.value_core.specs.Bags.{SameBag, count_of}
use Rattle.value_core.specs.Order.{Row, same_row}
use Rattle.landing_core.specs.declared.landing.LandingFile.{LandingFile}
use Rattle.landing_core.specs.declared.landing.Listed.{Listed}
use Rattle.landing_core.specs.Fresh.{heads_of, new_lines, reach}
use Rattle.landing_core.specs.Names.{AreAscending}
use Rattle.landing_core.specs.Places.{placed_names}
use Rattle.landing_history.specs.Taken.{AreEnds, CanReadOn, LandedLine, taken, with_heads}
use Rattle.landing_history.proofs.ReadingLemmas.{reading_adds}
use Rattle.plan_core.specs.declared.flow.Origin.TheVariants as origin
use Rattle.state_model.specs.Dataset.{State}
use Rattle.state_steps.specs.Consumed.{row_of_line}
use Rattle.state_steps.specs.Steps.{AreBetween}

sum_of_map : {A B : Type 0} (g : B → ℕ) (f : A → B) (xs : List A) → sum_by g (map f xs) ≡ sum_by (λ x. g (f x)) xs
sum_of_map g f [] = refl
sum_of_map g f (x ∷ xs) = sum_by-cons g (f x) (map f xs) ∙ ap (λ n. g (f x) + n) (sum_of_map g f xs) ∙ sym (sum_by-cons (λ y. g (f y)) x xs)

pub map_moves : {A : Type 0} (f : A → Row) (xs ys : List A) → IsPermutation xs ys → SameBag (map f xs) (map f ys)
map_moves f xs ys moves a =
    let test : Row → ℕ = λ x. cond (same_row a x) 1 0 in sum_of_map test f xs ∙ sym (sum_by-IsPermutation (λ x. test (f x)) xs ys moves) ∙ sym (sum_of_map test f ys)

-- the rows of the lines that a reading finds
abbrev pub rows_found : Shape → List ℕ → List LandingFile → List FilePlace → List Listed → List Row
rows_found shape dir present places listing = map (row_of_line shape) (with_heads (heads_of shape.format shape.header dir present listing) (new_lines shape.format shape.header dir present places 0 listing))

pub reading_between : (state : State) (shape : Shape) (dir : List ℕ) (present ever : List LandingFile) (places : List FilePlace) (listing : List Listed) → CanReadOn dir present ever places listing
    → AreAscending (placed_names places) → AreEnds dir ever places
    → AreBetween ever state (origin.Files dir shape) (Files places) (Files (reach dir present places listing)) (rows_found shape dir present places listing)
reading_between state shape dir present ever places listing can named ends a =
    let was : List LandedLine = taken shape.format shape.header dir ever places in
    let found : List LandedLine = with_heads (heads_of shape.format shape.header dir present listing) (new_lines shape.format shape.header dir present places 0 listing) in
    let now : List LandedLine = taken shape.format shape.header dir ever (reach dir present places listing) in
    ap (count_of a) (sym (map-append (row_of_line shape) was found))
    ∙ map_moves (row_of_line shape) (was ++ found) now (reading_adds shape.format shape.header dir present ever places listing can named ends) a
