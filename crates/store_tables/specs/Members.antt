-- The datasets of some names, and their versions.
use Rattle.std.specs.Prelude.{◌≡◌, ⊤, ℕ, ◌+◌, ◌<◌, ◌≤◌, ◌^◌, List, [], ◌∷◌, Option, Some, None, length, true}
use Rattle.std.specs.List.{list_any}
use Rattle.value_core.specs.Bags.{IsInOrder}
use Rattle.net_changes.specs.Chains.{Follow}
use Rattle.commit_payloads.specs.declared.definition.Definition.{Definition}
use Rattle.commit_payloads.specs.declared.state.DatasetState.{DatasetState}
use Rattle.state_model.specs.After.{is_member}
use Rattle.state_model.specs.Dataset.{State, is_defined, version_of}
use Rattle.store_tables.specs.declared.part.Part.{Part}
use Rattle.store_tables.specs.declared.part.Rest.{Rest}
use Rattle.store_tables.specs.Parts.{IsFrom, side_by_side}
use Rattle.store_tables.specs.Undo.{all_restored}

-- each dataset of one of these names has a version left below the limit, 2^62
abbrev pub MembersHaveVersions : List (List ℕ) → State → Type 0
MembersHaveVersions names [] = ⊤
MembersHaveVersions names (dataset ∷ state) = (is_member names dataset ≡ true → version_of dataset < 2 ^ 62) × MembersHaveVersions names state

-- one of these names is the definition's
abbrev pub IsNamedIn : List (List ℕ) → Definition → Type 0
IsNamedIn names definition = list_any (λ name. is_defined name definition) names ≡ true

-- nothing is given for any of these parts
abbrev pub AreNone : List (Option Rest) → List Part → Type 0
AreNone [] [] = ⊤
AreNone (None ∷ rests) (part ∷ parts) = AreNone rests parts
AreNone rests parts = ⊥

-- parts are filled again by what is given for them, whatever their definitions
abbrev pub FillsAgain : List (Option Rest) → List Part → List Part → Type 0
FillsAgain rests old new = (list : List Definition) → side_by_side list new ≡ all_restored rests (side_by_side list old)

-- the rows and changes of a saved dataset make a table
pub record IsSavedTable (saved : DatasetState) : Type 0 where
  pub order : IsInOrder saved.rows
  pub follow : Follow saved.rows saved.changes
  pub limit : 0 < length saved.changes → saved.base + length saved.changes ≤ 2 ^ 62

-- those of each do
abbrev pub AreSavedTables : List DatasetState → Type 0
AreSavedTables [] = ⊤
AreSavedTables (saved ∷ states) = IsSavedTable saved × AreSavedTables states

-- parts are what was saved, one a dataset
abbrev pub AreFrom : List DatasetState → List Part → Type 0
AreFrom [] [] = ⊤
AreFrom (state ∷ states) (part ∷ parts) = IsFrom state part × AreFrom states parts
AreFrom states parts = ⊥
