-- Lines by the names of definitions are those of the datasets, since no two have one name.
use Rattle.std.proofs.Common.{◌≡◌, ℕ, List, [], ◌∷◌, ◌++◌, Bool, true, false, Some, None, cond, find, flat_map, option_map, refl, ◌∙◌, ap}
use Rattle.std.specs.Prelude.{⊤}
use Rattle.std.proofs.lemmas.Cmp.{nat_list_eq_equiv}
use Rattle.std.proofs.lemmas.Slice.Eq.{bytes_eq-Decides}
use Rattle.value_core.specs.NameFold.{folded}
use Rattle.state_model.specs.Dataset.{Dataset, State, dataset_of, definitions_of, is_defined, is_named}
use Rattle.state_model.specs.Follows.{are_distinct}
use Rattle.store_tables.specs.Parts.{counts_of}
use Rattle.store_tables.proofs.FirstLemmas.{none-split}
use Rattle.store_tables.proofs.NameLemmas.{distinct-split}
use Rattle.report_text.specs.Metrics.{dataset_metrics, metrics_head, print_metrics}
use Rattle.store_commands.specs.Counted.{lines_in, lines_with}

-- each of these datasets is the one of its name in the store
abbrev AreFound : State → State → Type 0
AreFound whole [] = ⊤
AreFound whole (dataset ∷ rest) = (dataset_of whole dataset.definition.name ≡ Some dataset) × AreFound whole rest

-- and it still is behind one that has none of their names
found_behind : (first : Dataset) (whole rest : State) → find (is_defined first.definition.name) (definitions_of rest) ≡ None → AreFound whole rest → AreFound (first ∷ whole) rest
found_behind first whole [] none found = tt
found_behind first whole (dataset ∷ rest) none found =
    let split = none-split (is_defined first.definition.name) dataset.definition (definitions_of rest) none in
    let other : is_named dataset.definition.name first ≡ false = nat_list_eq_equiv.symm (folded first.definition.name) (folded dataset.definition.name) ∙ split.0 in (
      ap (λ (here : Bool). cond here (Some first) (dataset_of whole dataset.definition.name)) other ∙ found.0,
      found_behind first whole rest split.1 found.1,
    )

found_first : (name : List ℕ) (first : Dataset) (rest : State) → is_named name first ≡ true → dataset_of (first ∷ rest) name ≡ Some first
found_first name first rest own = rw own refl

are_found : (state : State) → are_distinct (definitions_of state) ≡ true → AreFound state state
are_found [] distinct = tt
are_found (dataset ∷ state) distinct =
    let split = distinct-split dataset.definition (definitions_of state) distinct in
    let own : is_named dataset.definition.name dataset ≡ true = (bytes_eq-Decides (folded dataset.definition.name) (folded dataset.definition.name)).1 refl in
    (found_first dataset.definition.name dataset state own, found_behind dataset state state split.0 (are_found state split.1))

lines_of : (whole rest : State) → AreFound whole rest → flat_map (lines_in whole) (definitions_of rest) ≡ flat_map dataset_metrics rest
lines_of whole [] found = refl
lines_of whole (dataset ∷ rest) found =
    ap (λ o. lines_with dataset.definition (option_map counts_of o) ++ flat_map (lines_in whole) (definitions_of rest)) found.0 ∙ ap (λ (l : List ℕ). dataset_metrics dataset ++ l) (lines_of whole rest found.1)

-- the lines of a store by the names of its definitions are those that are printed
pub are_metrics : (state : State) → are_distinct (definitions_of state) ≡ true → metrics_head ++ flat_map (lines_in state) (definitions_of state) ≡ print_metrics state
are_metrics state distinct = ap (λ (l : List ℕ). metrics_head ++ l) (lines_of state state (are_found state distinct))
