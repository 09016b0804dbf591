use Rattle.std.proofs.Common.{◌≡◌, ℕ, List, ◌∙◌, ap, subst}
use Rattle.sql_tree.specs.declared.statement.Statement.{Statement}
use Rattle.graph_check.specs.Graphs.{IsCyclic}
use Rattle.name_checks.specs.Edges.{dataset_names, edges_among, reading_edges}
use Rattle.name_checks.proofs.edges.levels_of.Goals as goal

edges_are : (found made : List (ℕ × ℕ)) (names given : List (List ℕ)) (first second all : List Statement) → found ≡ made → made ≡ edges_among names second → names ≡ given → given ≡ dataset_names first →
    first ≡ all → second ≡ all → found ≡ reading_edges all
edges_are found made names given first second all is is_made is_names is_given is_first is_second =
    is ∙ is_made ∙ ap (λ (x : List (List ℕ)). edges_among x second) (is_names ∙ is_given ∙ ap dataset_names is_first) ∙ ap (λ (x : List Statement). edges_among (dataset_names all) x) is_second

pub returns-in-Ok-clause-no_cycle : goal.returns-in-Ok-clause-no_cycle
returns-in-Ok-clause-no_cycle c =
    let e : c.as_slice-4.result.now ≡ reading_edges c.args.statements.now = edges_are _ _ _ _ _ _ _ c.as_slice-4.ensures.value c.in_ok-edges.ensures.edges c.as_slice-2.ensures c.in_ok-names.ensures.names c.as_slice.ensures c.as_slice-3.ensures in
    subst (λ (edges : List (ℕ × ℕ)). IsCyclic edges → ⊥) e c.in-Ok.ensures.no_cycle

pub returns-in-Err-Cycle-clause-cycle : goal.returns-in-Err-Cycle-clause-cycle
returns-in-Err-Cycle-clause-cycle c =
    let e : c.as_slice-4.result.now ≡ reading_edges c.args.statements.now = edges_are _ _ _ _ _ _ _ c.as_slice-4.ensures.value c.in_ok-edges.ensures.edges c.as_slice-2.ensures c.in_ok-names.ensures.names c.as_slice.ensures c.as_slice-3.ensures in
    subst (λ (edges : List (ℕ × ℕ)). IsCyclic edges) e (rw c.in-Err-Cycle.field-0-is at c.in-Err-Cycle.ensures.cycle)
