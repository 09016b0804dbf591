-- The places of the statements of a dataset are those of statements.
use Rattle.std.proofs.Common.{◌≡◌, ℕ, ◌+◌, ◌<◌, ◌≤◌, Bool, true, false, List, [], ◌∷◌, length, arith}
use Rattle.std.specs.Prelude.{if◌then◌else◌}
use Rattle.std.specs.List.{All}
use Rattle.std.proofs.lemmas.List.Elements.{All-nil, All-cons, All-same}
use Rattle.sql_tree.specs.declared.statement.Statement.{Statement}
use Rattle.dataset_checks.specs.Filling.{fills, fillers_from}

if_there : (limit place : ℕ) (there : Bool) (rest : List ℕ) → place < limit → All (λ at. at < limit) rest → All (λ at. at < limit) (if there then place ∷ rest else rest)
if_there limit place true rest below within = All-cons (λ at. at < limit) place rest below within
if_there limit place false rest below within = within

below_here : (limit place : ℕ) (first : Statement) (more : List Statement) → place + length (first ∷ more) ≤ limit → place < limit
below_here limit place first more h = omega (arith, h)

below_more : (limit place : ℕ) (first : Statement) (more : List Statement) → place + length (first ∷ more) ≤ limit → (place + 1) + length more ≤ limit
below_more limit place first more h = omega (arith, h)

fillers_within : (table : List ℕ) (limit place : ℕ) (statements : List Statement) → place + length statements ≤ limit → All (λ at. at < limit) (fillers_from table place statements)
fillers_within table limit place [] h = All-nil (λ at. at < limit)
fillers_within table limit place (first ∷ more) h =
    if_there limit place (fills table first) (fillers_from table (place + 1) more) (below_here limit place first more h) (fillers_within table limit (place + 1) more (below_more limit place first more h))

from_first : (limit : ℕ) → 0 + limit ≤ limit
from_first limit = omega arith

pub places_within : (table : List ℕ) (statements : List Statement) (place : ℕ) (places : List ℕ) → place < length statements → places ≡ place ∷ fillers_from table 0 statements → All (λ at. at < length statements) places
places_within table statements place places below is =
    All-same (λ at. at < length statements) places (place ∷ fillers_from table 0 statements) is (All-cons (λ at. at < length statements) place (fillers_from table 0 statements) below (fillers_within table (length statements) 0 statements (from_first (length statements))))
