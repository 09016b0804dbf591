-- A dataset whose older versions are folded away.
use Rattle.std.proofs.Common.{◌≡◌, ℕ, ◌≤◌, min, List, [], ◌∷◌, arith}
use Rattle.std.proofs.Math.Nat.{le-max_left, max-le, min-le_left}
use Rattle.table_versions.specs.Laws.{KeepsLater}
use Rattle.table_versions.specs.Versions.{IsKept}
use Rattle.table_versions.proofs.VersionLemmas.{keeps_later}
use Rattle.state_model.specs.Dataset.{Dataset, State, version_of}
use Rattle.state_model.specs.Saved.{base_for, folded_for, least_of, readers_of}

pub least_below : (last : ℕ) (xs : List ℕ) → least_of last xs ≤ last
least_below last [] = omega arith
least_below last (x ∷ xs) = omega (arith, least_below (min last x) xs, min-le_left last x)

-- the new base is a version that is kept
pub kept_base : (whole : State) (d : Dataset) → IsKept d.table (base_for whole d)
kept_base whole d =
    let last : d.table.base ≤ version_of d = omega arith in
    (le-max_left d.table.base (least_of (version_of d) (readers_of whole d.definition.name)), max-le last (least_below (version_of d) (readers_of whole d.definition.name)))

-- from it on everything is as before
pub later : (whole : State) (d : Dataset) → KeepsLater d.table (base_for whole d)
later whole d = keeps_later d.table (base_for whole d) (kept_base whole d)

pub same_version : (whole : State) (d : Dataset) → version_of (folded_for whole d) ≡ version_of d
same_version whole d = (later whole d).now
