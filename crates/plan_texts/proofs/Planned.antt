-- Each dataset of a plan is what its visit gives over datasets of the plan.
use Rattle.std.proofs.Common.{◌≡◌, ℕ, true, List, Option, Some, None, Ok, map, refl, sym, ap, subst, ◌∙◌}
use Rattle.std.specs.Prelude.{option_map, slice_get}
use Rattle.std.proofs.lemmas.Option.{slice_get-map}
use Rattle.value_core.specs.NameFold.{same_name}
use Rattle.sql_tree.specs.declared.statement.Statement.{Statement}
use Rattle.plan_core.specs.declared.plan.Dataset.{Dataset}
use Rattle.plan_core.specs.Sound.{dataset_named}
use Rattle.name_checks.specs.Edges.{dataset_names}
use Rattle.origin_checks.specs.declared.resolved.Resolved.{Resolved}
use Rattle.plan_check.specs.declared.visits.Visit.{Visit}
use Rattle.plan_check.specs.Visits.{declared_places, visit_to, visits_of}
use Rattle.plan_check.specs.Walks.{in_order, name_at, text_at, walk}
use Rattle.plan_texts.proofs.Declared.{declared, visit_at}
use Rattle.plan_texts.proofs.Lists.{Among, among_at, in_some, no_some, placed_among}
use Rattle.plan_texts.proofs.Marks.{IsMarked, marked}
use Rattle.plan_texts.proofs.Names.{HaveDifferentNames, found, name_itself, name_of, named_at, one_place}
use Rattle.plan_texts.proofs.Walked.{IsVisited, lesser_visited, one_visited, walk_visited}

one_visit : (a b : Visit) → a.place ≡ b.place → a.level ≡ b.level → a ≡ b
one_visit a b e f = ap (λ (place : ℕ). visit_to place a.level) e ∙ ap (visit_to b.place) f

pub mapped_name : (o : Option Dataset) (name : List ℕ) → option_map name_of o ≡ Some name → (dataset : Dataset) × (o ≡ Some dataset) × (dataset.name ≡ name)
mapped_name None name e = absurd (no_some e)
mapped_name (Some dataset) name e = (dataset, refl, in_some e)

-- what the walk of a plan is known by
pub record IsPlanned (statements : List Statement) (resolved : List Resolved) (levels : List ℕ) (plan : List Dataset) : Type 0 where
  pub names_are : map name_of plan ≡ dataset_names statements
  pub differ : HaveDifferentNames plan
  pub datasets : List Dataset
  pub walk_is : walk statements resolved (visits_of statements levels) ≡ Ok datasets
  pub plan_is : plan ≡ in_order (visits_of statements levels) (declared_places statements) datasets

module _ (statements : List Statement) (resolved : List Resolved) (levels : List ℕ) (plan : List Dataset) (planned : IsPlanned statements resolved levels plan) where
  abbrev pub Visited : Dataset → Type 0
  Visited = IsVisited statements resolved (visits_of statements levels)

  -- a visit is to the place of the dataset at an index of the plan
  pub record IsAt (visit : Visit) : Type 0 where
    pub index : ℕ
    pub place_is : slice_get (declared_places statements) index ≡ Some visit.place
    pub level_is : slice_get levels index ≡ Some visit.level
    pub dataset : Dataset
    pub is_there : slice_get plan index ≡ Some dataset
    pub named : name_at statements visit.place ≡ Some dataset.name

  pub at_index : (visit : Visit) → Among visit (visits_of statements levels) → IsAt visit
  at_index visit m =
      let at = visit_at (declared_places statements) levels visit m in
      let of = declared statements at.index visit.place at.place_is in
      let one = mapped_name (slice_get plan at.index) of.name (sym (slice_get-map name_of plan at.index) ∙ ap (λ (names : List (List ℕ)). slice_get names at.index) planned.names_are ∙ of.name_is) in
      record { index = at.index; place_is = at.place_is; level_is = at.level_is; dataset = one.0; is_there = one.1; named = of.declares ∙ ap Some (sym one.2) }

  pub marks : (dataset : Dataset) (v : Visited dataset) → IsMarked (name_at statements v.visit.place) v.visit.level (text_at statements v.visit.place) dataset
  marks dataset v = marked statements resolved v.lesser v.visit.place v.visit.level (text_at statements v.visit.place) dataset v.gives

  -- the visit to a dataset of the plan is at its index
  pub index_is : (dataset : Dataset) (v : Visited dataset) (index : ℕ) → slice_get plan index ≡ Some dataset → (at : IsAt v.visit) → at.index ≡ index
  index_is dataset v index is at =
      let one : at.dataset.name ≡ dataset.name = in_some (sym at.named ∙ (marks dataset v).name_is) in
      one_place plan at.index index at.dataset dataset planned.differ at.is_there is (subst (λ (name : List ℕ). same_name at.dataset.name name ≡ true) one (name_itself at.dataset.name))

  pub plan_visited : (dataset : Dataset) → Among dataset plan → Visited dataset
  plan_visited dataset m =
      walk_visited statements resolved (visits_of statements levels) planned.datasets planned.walk_is dataset
      (placed_among planned.datasets _ dataset (subst (Among dataset) planned.plan_is m))

  -- what is visited is at an index of the plan
  pub in_plan : (dataset : Dataset) → Visited dataset → (index : ℕ) × (slice_get plan index ≡ Some dataset)
  in_plan dataset v =
      let at = at_index v.visit v.is_visit in
      let w = plan_visited at.dataset (among_at plan at.index at.dataset at.is_there) in
      let there = at_index w.visit w.is_visit in
      let same : there.index ≡ at.index = index_is at.dataset w at.index at.is_there there in
      let place : w.visit.place ≡ v.visit.place = in_some (sym there.place_is ∙ ap (slice_get (declared_places statements)) same ∙ at.place_is) in
      let level : w.visit.level ≡ v.visit.level = in_some (sym there.level_is ∙ ap (slice_get levels) same ∙ at.level_is) in
      let one : at.dataset ≡ dataset = one_visited statements resolved (visits_of statements levels) at.dataset dataset w v (one_visit w.visit v.visit place level) in
      (at.index, at.is_there ∙ ap Some one)

  -- what is found among the datasets of lesser levels is found in the plan
  pub finds : (dataset : Dataset) (v : Visited dataset) (name : List ℕ) (source : Dataset) → dataset_named v.lesser name ≡ Some source → dataset_named plan name ≡ Some source
  finds dataset v name source e =
      let f = found v.lesser name source e in
      let there = in_plan source (lesser_visited statements resolved (visits_of statements levels) v.visit.level v.lesser v.lesser_is source (among_at v.lesser f.index source f.is_there)) in
      named_at plan name there.0 source planned.differ there.1 f.same

  -- ---- the place and the level of the dataset at an index

  pub record IsPlacedAt (index : ℕ) (dataset : Dataset) (place : ℕ) : Type 0 where
    pub place_is : slice_get (declared_places statements) index ≡ Some place
    pub level_is : slice_get levels index ≡ Some dataset.level
    pub named : name_at statements place ≡ Some dataset.name

  pub placed_at : (index : ℕ) (dataset : Dataset) → slice_get plan index ≡ Some dataset → (v : Visited dataset) → IsPlacedAt index dataset v.visit.place
  placed_at index dataset is v =
      let at = at_index v.visit v.is_visit in
      let same : at.index ≡ index = index_is dataset v index is at in
      let mark = marks dataset v in
      record {
        place_is = ap (slice_get (declared_places statements)) (sym same) ∙ at.place_is;
        level_is = ap (slice_get levels) (sym same) ∙ at.level_is ∙ ap Some (sym mark.level_is);
        named = mark.name_is;
      }
