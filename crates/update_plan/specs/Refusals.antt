-- Why an update is refused before it commits anything.
use Rattle.std.specs.Prelude.{◌≡◌, ⊤, ℕ, List, [], ◌∷◌, Option, Some, None, is_none, if◌then◌else◌, bytes_eq}
use Rattle.std.specs.Option.{option_map_or, option_or}
use Rattle.commit_payloads.specs.declared.definition.Definition.{Definition}
use Rattle.plan_core.specs.declared.plan.Dataset.{Dataset as Part}
use Rattle.plan_core.specs.Sound.{dataset_named}
use Rattle.update_plan.specs.declared.ends.PlanEnd.{PlanEnd}
use Rattle.update_plan.specs.declared.ends.PlanEnd.TheVariants as why
use Rattle.update_plan.specs.declared.ends.Refresh.{Refresh}
use Rattle.update_plan.specs.declared.ends.Refresh.TheVariants as refresh

-- no dataset of the plan has this name, whatever the case of its ASCII letters
abbrev pub if_unknown : List Part → List ℕ → Option PlanEnd
if_unknown plan name = if is_none (dataset_named plan name) then Some (why.UnknownTable name) else None

-- the first of these names that is so
abbrev pub first_unknown : List Part → List (List ℕ) → Option PlanEnd
first_unknown plan [] = None
first_unknown plan (name ∷ names) = option_or (if_unknown plan name) (first_unknown plan names)

-- a stored definition has another text than the dataset of its name
abbrev pub if_changed : Definition → Part → Option PlanEnd
if_changed definition part = if bytes_eq definition.text part.text then None else Some (why.Changed definition.name definition.text part.text)

-- a stored definition whose name no dataset of the plan has
abbrev pub removed : Definition → Option PlanEnd
removed definition = Some (why.Removed definition.name)

-- a stored definition that the plan lacks, or has with another text
abbrev pub if_unlike : List Part → Definition → Option PlanEnd
if_unlike plan definition = option_map_or (if_changed definition) (dataset_named plan definition.name) (removed definition)

-- the first of the stored definitions that is so
abbrev pub first_unlike : List Part → List Definition → Option PlanEnd
first_unlike plan [] = None
first_unlike plan (definition ∷ list) = option_or (if_unlike plan definition) (first_unlike plan list)

-- a listed name is judged before a stored definition
abbrev pub first_of_both : List Part → List Definition → List (List ℕ) → Option PlanEnd
first_of_both plan stored names = option_or (first_unknown plan names) (first_unlike plan stored)

-- why the update is refused, and never where everything begins anew
abbrev pub refusal : List Part → List Definition → Refresh → Option PlanEnd
refusal plan stored refresh.Nothing = first_unlike plan stored
refusal plan stored refresh.All = None
refusal plan stored (refresh.Only names) = first_of_both plan stored names

-- the answer is this refusal, or want of memory
abbrev pub IsRefusedBy : Option PlanEnd → PlanEnd → Type 0
IsRefusedBy refused why.Memory = ⊤
IsRefusedBy refused end = refused ≡ Some end
