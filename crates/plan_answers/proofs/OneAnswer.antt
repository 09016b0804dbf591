-- The checks of statements give at most one answer.
use Rattle.std.proofs.Common.{◌≡◌, ◌≢◌, ℕ, List, Option, Some, None, Result, Ok, Err, length, refl, sym, ◌∙◌, ap, inl, inr}
use Rattle.sql_tree.specs.declared.statement.Statement.{Statement}
use Rattle.graph_check.specs.Graphs.{AreWithin, IsCyclic}
use Rattle.graph_check.specs.Levels.{AreLevels}
use Rattle.plan_core.specs.declared.plan.Dataset.{Dataset}
use Rattle.statement_checks.specs.declared.fault.Break.{Break}
use Rattle.statement_checks.specs.Breaks.{first_break}
use Rattle.name_checks.specs.Edges.{dataset_names, reading_edges}
use Rattle.name_checks.specs.Names.{first_name_break}
use Rattle.origin_checks.specs.declared.resolved.Resolved.{Resolved}
use Rattle.plan_check.specs.declared.refusal.CheckRefusal.TheVariants as refusal
use Rattle.plan_check.specs.declared.visits.Visit.{Visit}
use Rattle.plan_check.specs.Checks.{Answer, BehindDeclared, BehindNames, Checks, IsCycleTold, IsWalked, Told, planned, refused, walk_answer}
use Rattle.plan_check.specs.Visits.{declared_places, visits_of}
use Rattle.plan_check.specs.Walks.{walk}
use Rattle.plan_answers.proofs.OneNaming.{AreOneByRules, edges_within, one_naming, resolved_once}

-- a graph has one list of levels
abbrev pub AreOneLevels : Type 0
AreOneLevels = (count : ℕ) (edges : List (ℕ × ℕ)) (first second : List ℕ) → AreWithin count edges → AreLevels count edges first → AreLevels count edges second → first ≡ second

-- a graph that has levels has no cycle
abbrev pub HaveNoCycle : Type 0
HaveNoCycle = (count : ℕ) (edges : List (ℕ × ℕ)) (levels : List ℕ) → AreWithin count edges → AreLevels count edges levels → IsCyclic edges → ⊥

-- ---- the phases, from the last on

walked_once : AreOneLevels → AreOneByRules → (statements : List Statement) (first second : Answer) → IsWalked statements first → IsWalked statements second → first ≡ second
walked_once levels rules statements first second f g =
    let one : f.levels ≡ g.levels = levels (length (dataset_names statements)) (reading_edges statements) f.levels g.levels (edges_within statements) f.are_levels g.are_levels in
    let read : f.resolved ≡ g.resolved = resolved_once rules statements f.resolved g.resolved f.are_resolved g.are_resolved in
    f.answer_is ∙ (ap (λ (x : List ℕ). walk_answer statements f.resolved (visits_of statements x)) one ∙
    (ap (λ (x : List Resolved). walk_answer statements x (visits_of statements g.levels)) read ∙ sym g.answer_is))

cycle_once : (statements : List Statement) (first second : Answer) → IsCycleTold statements first → IsCycleTold statements second → first ≡ second
cycle_once statements first second f g =
    let one : f.path ≡ g.path = one_naming statements f.path g.path f.is_named g.is_named in
    f.answer_is ∙ (ap (λ (x : List (List ℕ)). Err (refusal.Cycle x)) one ∙ sym g.answer_is)

-- datasets in a cycle have no levels
apart : HaveNoCycle → (statements : List Statement) (first second : Answer) → IsCycleTold statements first → IsWalked statements second → ⊥
apart none statements first second f g = none (length (dataset_names statements)) (reading_edges statements) g.levels (edges_within statements) g.are_levels f.cyclic

behind_names_once : AreOneLevels → HaveNoCycle → AreOneByRules → (statements : List Statement) (found : Option Break) (first second : Answer) → BehindNames statements found first → BehindNames statements found second → first ≡ second
behind_names_once levels none rules statements (Some found) first second f g = f ∙ sym g
behind_names_once levels none rules statements None first second (inl f) (inl g) = cycle_once statements first second f g
behind_names_once levels none rules statements None first second (inl f) (inr g) = absurd (apart none statements first second f g)
behind_names_once levels none rules statements None first second (inr f) (inl g) = absurd (apart none statements second first g f)
behind_names_once levels none rules statements None first second (inr f) (inr g) = walked_once levels rules statements first second f g

behind_declared_once : AreOneLevels → HaveNoCycle → AreOneByRules → (statements : List Statement) (found : Option Break) (first second : Answer) → BehindDeclared statements found first → BehindDeclared statements found second → first ≡ second
behind_declared_once levels none rules statements (Some found) first second f g = f ∙ sym g
behind_declared_once levels none rules statements None first second f g = behind_names_once levels none rules statements (first_name_break statements) first second f g

pub checked_once : AreOneLevels → HaveNoCycle → AreOneByRules → (statements : List Statement) (first second : Answer) → Checks statements first → Checks statements second → first ≡ second
checked_once levels none rules statements first second f g = behind_declared_once levels none rules statements (first_break statements) first second f g

-- ---- want of memory

not_refused : (found : Break) → ◌≡◌ {A = Answer} (Err refusal.Memory) (refused found) → ⊥
not_refused found e = cc

not_cycle : (path : List (List ℕ)) → ◌≡◌ {A = Answer} (Err refusal.Memory) (Err (refusal.Cycle path)) → ⊥
not_cycle path e = cc

not_planned : (visits : List Visit) (places : List ℕ) (walked : Result (List Dataset) Break) → ◌≡◌ {A = Answer} (Err refusal.Memory) (planned visits places walked) → ⊥
not_planned visits places (Ok datasets) e = cc
not_planned visits places (Err found) e = not_refused found e

not_walked : (statements : List Statement) → IsWalked statements (Err refusal.Memory) → ⊥
not_walked statements w = not_planned (visits_of statements w.levels) (declared_places statements) (walk statements w.resolved (visits_of statements w.levels)) w.answer_is

not_behind_names : (statements : List Statement) (found : Option Break) → BehindNames statements found (Err refusal.Memory) → ⊥
not_behind_names statements (Some found) e = not_refused found e
not_behind_names statements None (inl told) = not_cycle told.path told.answer_is
not_behind_names statements None (inr walked) = not_walked statements walked

not_behind_declared : (statements : List Statement) (found : Option Break) → BehindDeclared statements found (Err refusal.Memory) → ⊥
not_behind_declared statements (Some found) e = not_refused found e
not_behind_declared statements None h = not_behind_names statements (first_name_break statements) h

pub no_memory : (statements : List Statement) → Checks statements (Err refusal.Memory) → ⊥
no_memory statements h = not_behind_declared statements (first_break statements) h

-- ---- what is told

told_is : (P : Answer → Type 0) (answer : Answer) → Told P answer → answer ≢ Err refusal.Memory → P answer
told_is P (Ok plan) told some = told
told_is P (Err (refusal.Refused found)) told some = told
told_is P (Err (refusal.Cycle path)) told some = told
told_is P (Err refusal.Memory) told some = absurd (some refl)

-- statements have one answer
abbrev pub AreOneAnswer : Type 0
AreOneAnswer = (statements : List Statement) (first second : Answer) → Checks statements first → Checks statements second → first ≡ second

pub told_once : AreOneAnswer → (statements : List Statement) (first second : Answer) → Told (Checks statements) first → Told (Checks statements) second → first ≢ Err refusal.Memory → second ≢ Err refusal.Memory → first ≡ second
told_once one statements first second f g some other = one statements first second (told_is (Checks statements) first f some) (told_is (Checks statements) second g other)
