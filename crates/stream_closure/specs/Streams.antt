-- The graph of tables that stream from one another, and the names at its nodes.
use Rattle.std.specs.Prelude.{◌≡◌, ◌↔◌, ℕ, ◌+◌, List, [], ◌∷◌, ◌++◌, Bool, true, false, if◌then◌else◌, filter_map, slice_get, Option, Some, None, option_map}
use Rattle.std.specs.List.{Contains, list_all, list_any}
use Rattle.value_core.specs.NameFold.{same_name}
use Rattle.graph_check.specs.Graphs.{IsInClosure, Reads}
use Rattle.plan_core.specs.declared.flow.Origin.{Origin}
use Rattle.plan_core.specs.declared.flow.Origin.TheVariants as origin
use Rattle.plan_core.specs.declared.plan.Body.{Body}
use Rattle.plan_core.specs.declared.plan.Dataset.{Dataset as Part}
use Rattle.state_steps.specs.Parts.{streams_of}
use Rattle.state_steps.specs.Steps.{is_named_in}

-- ---- who streams from whom

-- a flow reads the dataset of this name
abbrev pub reads_name : List ℕ → Origin → Bool
reads_name name (origin.Files dir shape) = false
reads_name name (origin.Table source) = same_name source name

-- a flow of a streaming table does; a view streams from none
abbrev pub streams_from : List ℕ → Body → Bool
streams_from name body = list_any (reads_name name) (streams_of body)

-- the dataset at the first of these places of a plan streams from the one at the second
pub record StreamsFrom (plan : List Part) (reader source : ℕ) : Type 0 where
  pub table : Part
  pub table_is : slice_get plan reader ≡ Some table
  pub from : Part
  pub from_is : slice_get plan source ≡ Some from
  pub streams : streams_from from.name table.body ≡ true

-- the edges of a plan: the place of a table, and that of a dataset from which it streams
abbrev pub AreStreams : List Part → List (ℕ × ℕ) → Type 0
AreStreams plan edges = (reader source : ℕ) → Reads edges reader source ↔ StreamsFrom plan reader source

-- ---- the edges of a plan as a list

-- the place of the first of these datasets that has this name, where the first of all has a place
abbrev pub place_from : ℕ → List Part → List ℕ → Option ℕ
place_from at [] name = None
place_from at (part ∷ parts) name = if same_name part.name name then Some at else place_from (at + 1) parts name

-- the edge of a flow of the table at a place, where its source is a dataset of the plan
abbrev pub edge_of : List Part → ℕ → Origin → Option (ℕ × ℕ)
edge_of plan reader (origin.Files dir shape) = None
edge_of plan reader (origin.Table name) = option_map (λ source. (reader, source)) (place_from 0 plan name)

-- those of these tables, of which the first has a place
abbrev pub edges_from : List Part → ℕ → List Part → List (ℕ × ℕ)
edges_from plan at [] = []
edges_from plan at (part ∷ parts) = filter_map (edge_of plan at) (streams_of part.body) ++ edges_from plan (at + 1) parts

-- table by table, and flow by flow
abbrev pub edges_of : List Part → List (ℕ × ℕ)
edges_of plan = edges_from plan 0 plan

-- ---- names

-- the name of the dataset at a place
abbrev pub name_at : List Part → ℕ → Option (List ℕ)
name_at plan place = option_map (λ part. part.name) (slice_get plan place)

-- the names of the datasets at these places
abbrev pub names_at : List Part → List ℕ → List (List ℕ)
names_at plan places = filter_map (name_at plan) places

-- each of the second names is, whatever its case, one of the first
abbrev pub holds_names : List (List ℕ) → List (List ℕ) → Bool
holds_names names others = list_all (is_named_in names) others

-- these places are those of the set, and of all that reads from them, directly or not
abbrev pub IsClosureOf : List (ℕ × ℕ) → List ℕ → List ℕ → Type 0
IsClosureOf edges set places = (node : ℕ) → Contains places node ↔ IsInClosure edges set node
