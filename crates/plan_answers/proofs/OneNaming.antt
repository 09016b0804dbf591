-- The datasets that read one another, and what statements read, are named in one way.
use Rattle.std.proofs.Common.{◌≡◌, ℕ, ◌<◌, List, [], ◌∷◌, Option, Some, None, length, refl, sym, ◌∙◌, ap}
use Rattle.std.specs.Prelude.{map, option_and_then, option_map, option_to_list}
use Rattle.std.specs.List.{All}
use Rattle.std.proofs.lemmas.List.Elements.{All-append, All-cons, All-nil}
use Rattle.std.proofs.lemmas.List.Quantifiers.{position-Some}
use Rattle.sql_tree.specs.declared.statement.SqlOption.{SqlOption}
use Rattle.sql_tree.specs.declared.statement.SqlOrigin.{SqlOrigin}
use Rattle.sql_tree.specs.declared.statement.SqlOrigin.TheVariants as origin
use Rattle.sql_tree.specs.declared.statement.Statement.{Statement}
use Rattle.value_core.specs.NameFold.{same_name}
use Rattle.file_options.specs.declared.files.FilesRead.{FilesRead}
use Rattle.file_options.specs.Rules.{By, FilesBy}
use Rattle.graph_check.specs.Graphs.{AreWithin}
use Rattle.name_checks.specs.Edges.{IsNamedPath, dataset_name_at, dataset_names, dataset_place, edges_among, reading_edge, reading_edges}
use Rattle.name_checks.specs.Sources.{reader_name, source_name}
use Rattle.origin_checks.specs.declared.resolved.Resolved.{Resolved}
use Rattle.origin_checks.specs.Resolving.{AreResolved, IsResolvedAs, files_resolved, written_origin}
use Rattle.plan_answers.proofs.OnePath.{one_path}

-- ---- the names of a path

pub one_naming : (statements : List Statement) (first second : List (List ℕ)) → IsNamedPath statements first → IsNamedPath statements second → first ≡ second
one_naming statements first second f g = f.2 ∙ (ap (map (dataset_name_at (dataset_names statements))) (one_path (reading_edges statements) f.0 g.0 f.1 g.1) ∙ sym g.2)

-- ---- the graph of datasets

abbrev IsEdgeWithin : ℕ → ℕ × ℕ → Type 0
IsEdgeWithin count edge = (edge.0 < count) × (edge.1 < count)

placed_within : (names : List (List ℕ)) (name : List ℕ) (place : ℕ) → dataset_place names name ≡ Some place → place < length names
placed_within names name place e = (position-Some (same_name name) names place [] e).0

-- the place of a name that is there
found_within : (names : List (List ℕ)) (name : Option (List ℕ)) (place : ℕ) → option_and_then (dataset_place names) name ≡ Some place → place < length names
found_within names None place e = absurd (cc)
found_within names (Some name) place e = placed_within names name place e

edge_within : (names : List (List ℕ)) (reader source : Option ℕ) → ((place : ℕ) → reader ≡ Some place → place < length names) → ((place : ℕ) → source ≡ Some place → place < length names) →
    All (IsEdgeWithin (length names)) (option_to_list (option_and_then (λ (r : ℕ). option_map (λ (s : ℕ). (r, s)) source) reader))
edge_within names None source f g = All-nil (IsEdgeWithin (length names))
edge_within names (Some r) None f g = All-nil (IsEdgeWithin (length names))
edge_within names (Some r) (Some s) f g = All-cons (IsEdgeWithin (length names)) (r, s) [] (f r refl, g s refl) (All-nil (IsEdgeWithin (length names)))

among_within : (names : List (List ℕ)) (statements : List Statement) → All (IsEdgeWithin (length names)) (edges_among names statements)
among_within names [] = All-nil (IsEdgeWithin (length names))
among_within names (first ∷ more) =
    All-append (IsEdgeWithin (length names)) (option_to_list (reading_edge names first)) (edges_among names more)
    (edge_within names (option_and_then (dataset_place names) (reader_name first)) (option_and_then (dataset_place names) (source_name first)) (found_within names (reader_name first)) (found_within names (source_name first)))
    (among_within names more)

-- what reads what is told by places of datasets
pub edges_within : (statements : List Statement) → AreWithin (length (dataset_names statements)) (reading_edges statements)
edges_within statements = among_within (dataset_names statements) statements

-- ---- what statements read

-- the rules of the options give one answer
abbrev pub AreOneByRules : Type 0
AreOneByRules = (path : List ℕ) (options : List SqlOption) (one other : By FilesRead) → FilesBy path options one → FilesBy path options other → one ≡ other

origin_once : AreOneByRules → (written : Option SqlOrigin) (one other : Resolved) → IsResolvedAs written one → IsResolvedAs written other → one ≡ other
origin_once rules None one other f g = f ∙ sym g
origin_once rules (Some (origin.Table stream name)) one other f g = f ∙ sym g
origin_once rules (Some (origin.Files stream path options)) one other f g = f.is ∙ (ap (files_resolved stream) (rules path options f.files g.files f.by_rules g.by_rules) ∙ sym g.is)

pub resolved_once : AreOneByRules → (statements : List Statement) (first second : List Resolved) → AreResolved statements first → AreResolved statements second → first ≡ second
resolved_once rules [] first second f g = f ∙ sym g
resolved_once rules (statement ∷ more) first second f g =
    f.2 ∙ (ap (λ (x : Resolved). x ∷ f.1) (origin_once rules (written_origin statement) f.0 g.0 f.3 g.3) ∙
    (ap (λ (xs : List Resolved). g.0 ∷ xs) (resolved_once rules more f.1 g.1 f.4 g.4) ∙ sym g.2))
