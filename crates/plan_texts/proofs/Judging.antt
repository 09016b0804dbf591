-- The datasets of a plan that the checks give are judged.
use Rattle.std.proofs.Common.{◌≡◌, inl, inr, ℕ, zero, suc, ◌<◌, List, [], ◌∷◌, Some, None, Option, Result, Ok, Err, map, refl, sym, ap, ◌∙◌}
use Rattle.std.specs.Prelude.{slice_get}
use Rattle.std.specs.List.{AllByRecursion}
use Rattle.sql_tree.specs.declared.statement.Statement.{Statement}
use Rattle.plan_core.specs.declared.plan.Dataset.{Dataset}
use Rattle.graph_check.specs.Graphs.{Reads}
use Rattle.statement_checks.specs.declared.fault.Break.{Break}
use Rattle.statement_checks.specs.Breaks.{first_break}
use Rattle.name_checks.specs.Edges.{dataset_names, reading_edges}
use Rattle.name_checks.specs.Names.{first_name_break}
use Rattle.dataset_checks.specs.Datasets.{dataset_judged}
use Rattle.plan_check.specs.declared.visits.Visit.{Visit}
use Rattle.plan_check.specs.Checks.{Answer, BehindDeclared, BehindNames, Checks, IsWalked, planned}
use Rattle.plan_check.specs.Visits.{declared_places, visits_of}
use Rattle.plan_check.specs.Walks.{in_order, walk}
use Rattle.plan_texts.specs.Judged.{AreJudged, IsJudged}
use Rattle.plan_texts.proofs.Levelled.{level_of}
use Rattle.plan_texts.proofs.Lists.{among_at}
use Rattle.plan_texts.proofs.Names.{HaveDifferentNames}
use Rattle.plan_texts.proofs.Planned.{IsPlacedAt, IsPlanned, Visited, finds, marks, placed_at, plan_visited}
use Rattle.plan_texts.proofs.Results.{in_ok, no_ok}

-- ---- behind the first phases

behind_names : (statements : List Statement) (found : Option Break) (plan : List Dataset) → BehindNames statements found (Ok plan) → (found ≡ None) × IsWalked statements (Ok plan)
behind_names statements (Some found) plan e = absurd (no_ok (sym e))
behind_names statements None plan (inl told) = absurd (no_ok (sym told.answer_is))
behind_names statements None plan (inr walked) = (refl, walked)

behind_declared : (statements : List Statement) (found : Option Break) (plan : List Dataset) → BehindDeclared statements found (Ok plan) → (first_name_break statements ≡ None) × IsWalked statements (Ok plan)
behind_declared statements (Some found) plan e = absurd (no_ok (sym e))
behind_declared statements None plan h = behind_names statements (first_name_break statements) plan h

-- the names that statements use break no check, and the plan is that of a walk
pub checked : (statements : List Statement) (plan : List Dataset) → Checks statements (Ok plan) → (first_name_break statements ≡ None) × IsWalked statements (Ok plan)
checked statements plan h = behind_declared statements (first_break statements) plan h

walk_of : (plan : List Dataset) (visits : List Visit) (places : List ℕ) (walked : Result (List Dataset) Break) → ◌≡◌ {A = Answer} (Ok plan) (planned visits places walked) → (datasets : List Dataset) × (walked ≡ Ok datasets) × (plan ≡ in_order visits places datasets)
walk_of plan visits places (Ok datasets) e = (datasets, refl, in_ok e)
walk_of plan visits places (Err found) e = absurd (no_ok (sym e))

-- ---- what is known of plans that the checks give

pub record AreChecked : Type 0 where
  pub names : (statements : List Statement) (plan : List Dataset) → Checks statements (Ok plan) → map (λ (dataset : Dataset). dataset.name) plan ≡ dataset_names statements
  pub differ : (statements : List Statement) (plan : List Dataset) → Checks statements (Ok plan) → HaveDifferentNames plan
  pub lesser : (statements : List Statement) (plan : List Dataset) → Checks statements (Ok plan) → (reader source : ℕ) (reading read : Dataset) → Reads (reading_edges statements) reader source → slice_get plan reader ≡ Some reading → slice_get plan source ≡ Some read → read.level < reading.level

planned_by : AreChecked → (statements : List Statement) (plan : List Dataset) → Checks statements (Ok plan) → (w : IsWalked statements (Ok plan)) → IsPlanned statements w.resolved w.levels plan
planned_by law statements plan h w =
    let of = walk_of plan (visits_of statements w.levels) (declared_places statements) (walk statements w.resolved (visits_of statements w.levels)) w.answer_is in
    record { names_are = law.names statements plan h; differ = law.differ statements plan h; datasets = of.0; walk_is = of.1; plan_is = of.2 }

module _ (law : AreChecked) (statements : List Statement) (plan : List Dataset) (checks : Checks statements (Ok plan)) (w : IsWalked statements (Ok plan)) where
  abbrev Made : IsPlanned statements w.resolved w.levels plan
  Made = planned_by law statements plan checks w

  visit_of : (index : ℕ) (dataset : Dataset) → slice_get plan index ≡ Some dataset → Visited statements w.resolved w.levels plan Made dataset
  visit_of index dataset is = plan_visited statements w.resolved w.levels plan Made dataset (among_at plan index dataset is)

  place_of : (index : ℕ) (dataset : Dataset) → (is : slice_get plan index ≡ Some dataset) → IsPlacedAt statements w.resolved w.levels plan Made index dataset (visit_of index dataset is).visit.place
  place_of index dataset is = placed_at statements w.resolved w.levels plan Made index dataset is (visit_of index dataset is)

  judged_at : (index : ℕ) (dataset : Dataset) → slice_get plan index ≡ Some dataset → IsJudged statements w.resolved plan dataset
  judged_at index dataset is =
      let v = visit_of index dataset is in
      let mark = marks statements w.resolved w.levels plan Made dataset v in
      record {
        place = v.visit.place;
        named = mark.name_is;
        text_is = mark.text_is;
        sofar = v.lesser;
        of_plan = finds statements w.resolved w.levels plan Made dataset v;
        judged = ap (λ (level : ℕ). dataset_judged statements w.resolved v.lesser v.visit.place level dataset.text) mark.level_is ∙ ap (dataset_judged statements w.resolved v.lesser v.visit.place v.visit.level) mark.text_is ∙ v.gives;
        level_is = level_of statements w.resolved w.levels plan Made index dataset is v.visit.place (place_of index dataset is) w.are_levels
            (λ source read reads there. law.lesser statements plan checks index source dataset read reads is there)
            (λ source read there. (place_of source read there).level_is);
      }

all_by_index : (P : Dataset → Type 0) (datasets : List Dataset) → ((index : ℕ) (dataset : Dataset) → slice_get datasets index ≡ Some dataset → P dataset) → AllByRecursion P datasets
all_by_index P [] each = tt
all_by_index P (first ∷ more) each = (each zero first refl, all_by_index P more (λ index. each (suc index)))

pub are_judged : AreChecked → (statements : List Statement) (plan : List Dataset) → Checks statements (Ok plan) → AreJudged statements plan
are_judged law statements plan checks =
    let w = (checked statements plan checks).1 in
    record { resolved = w.resolved; are_resolved = w.are_resolved; each = all_by_index (IsJudged statements w.resolved plan) plan (judged_at law statements plan checks w) }
