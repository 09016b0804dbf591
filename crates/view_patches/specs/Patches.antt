-- What a change of the source does to each group.
use Rattle.std.specs.Prelude.{◌≡◌, ◌≤◌, ⊤, ◌++◌, length, Bool, false, if◌then◌else◌, List, [], None, cond, map, Option, Some, Result, Ok, Err}
use Rattle.std.specs.BTreeMap.{is_at}
use Rattle.std.specs.Map.{keys_of, lookup}
use Rattle.value_core.specs.Order.{Row, row_order}
use Rattle.plan_core.specs.Sound.{is_empty}
use Rattle.plan_core.specs.declared.query.Query.{Query}
use Rattle.plan_core.specs.declared.stop.StopOr.{StopOr}
use Rattle.plan_core.specs.declared.stop.StopOr.TheVariants as either
use Rattle.flow_model.specs.Current.{distinct}
use Rattle.flow_model.specs.Views.{Share, members_of, shares_of}
use Rattle.view_laws.specs.Touched.{Touches}
use Rattle.view_groups.specs.AllGroups.{first_fault}
use Rattle.view_groups.specs.Shares.{seen}
use Rattle.view_patches.specs.declared.patch.Patch.{Patch}
use Rattle.view_patches.specs.declared.patch.Patches.{Patches}

abbrev pub patch_at : Row → List (Row × Patch) → Option Patch
patch_at key entries = lookup (is_at (row_order key)) entries

-- the shares of a group that leave and that join; a group without a patch has none, and one with a patch has one
abbrev pub IsPatch : Option Patch → List Share → List Share → Type 0
IsPatch None out more = (out ≡ []) × (more ≡ [])
IsPatch (Some patch) out more = (map seen patch.out.items ≡ out) × (map seen patch.more.items ≡ more) × (is_empty (out ++ more) ≡ false)

-- the patches of all groups, of the shares that leave and of those that join
pub record PatchesFor (entries : List (Row × Patch)) (outs mores : List Share) : Type 0 where
  pub at : (key : Row) → IsPatch (patch_at key entries) (members_of key outs) (members_of key mores)

abbrev pub ArePatches : Patches → List Share → List Share → Type 0
ArePatches patches outs mores = PatchesFor patches.map.entries outs mores

-- the groups that have a patch
abbrev pub patched_groups : Patches → List Row
patched_groups patches = keys_of patches.map.entries

-- the groups that a row of a change is in, each once
abbrev pub groups_with : List Share → List Row
groups_with shares = distinct (map (λ s. s.group) shares)

-- the patches of a change, and its touched groups: each once and in row order, and no more than its rows are in
pub record PatchesOf (made : Patches) (outs mores : List Share) : Type 0 where
  pub patches : ArePatches made outs mores
  pub touches : Touches (patched_groups made) outs mores
  pub few : length (patched_groups made) ≤ length (groups_with (outs ++ mores))

-- what is answered for a change: the patches by what its rows give, or the first fault of those that come
abbrev pub PatchesAnswer : Query → List Row → List Row → Result Patches StopOr → Type 0
PatchesAnswer query removed added (Ok patches) = (first_fault query added ≡ None) × PatchesOf patches (shares_of query removed) (shares_of query added)
PatchesAnswer query removed added (Err (either.Stop stop)) = first_fault query added ≡ Some stop
PatchesAnswer query removed added (Err either.Memory) = ⊤

-- one map is the other without this key
pub record WithoutPatch (key : Row) (old new : List (Row × Patch)) : Type 0 where
  pub at : (other : Row) → patch_at other new ≡ cond (is_at (row_order key) other) None (patch_at other old)

abbrev pub PatchOrNone : Option Patch → Patch → Type 0
PatchOrNone None patch = (patch.out.items ≡ []) × (patch.more.items ≡ [])
PatchOrNone (Some old) patch = patch ≡ old

-- the patch that the map had, or an empty one
abbrev pub PatchFrom : Row → List (Row × Patch) → Patch → Type 0
PatchFrom key entries patch = PatchOrNone (patch_at key entries) patch

-- the shares that leave by a patch and that join by it, or the other way round
abbrev pub goers : Bool → Patch → List Share
goers back patch = map seen (if back then patch.more.items else patch.out.items)

abbrev pub comers : Bool → Patch → List Share
comers back patch = map seen (if back then patch.out.items else patch.more.items)
