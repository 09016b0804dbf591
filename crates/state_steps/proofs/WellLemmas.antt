-- What follows keeps each dataset as it is kept.
use Rattle.std.proofs.Common.{◌≡◌, ℕ, ◌+◌, ◌-◌, List, [], ◌∷◌, ◌++◌, map, take, Bool, true, false, cond, if◌then◌else◌, Option, Some, None, refl, ap, subst}
use Rattle.std.specs.Prelude.{IsSomeAnd, unwrap_or}
use Rattle.std.specs.List.{AllByRecursion}
use Rattle.value_core.specs.Changes.{IsChange}
use Rattle.table_versions.proofs.ContentLemmas.{content_order, follow_drop, follow_more}
use Rattle.commit_payloads.specs.declared.definition.Definition.{Definition}
use Rattle.commit_payloads.specs.declared.take.Refresh.{Refresh}
use Rattle.commit_payloads.specs.declared.take.Take.{Take}
use Rattle.state_model.specs.After.{begun, emptied, emptying, events_with, is_member, refreshed, reset, taken, updated}
use Rattle.state_model.specs.Dataset.{Dataset, State, content, dataset_of, is_named}
use Rattle.state_model.specs.Follows.{FitsRefresh, FitsTable}
use Rattle.state_model.specs.Saved.{base_for, folded_for}
use Rattle.state_keeps.proofs.DatasetLemmas.{added_within, append_of, emptying_form, emptying_there, zero_within}
use Rattle.state_steps.specs.Shapes.{IsKeptWell}

-- ---- one dataset

pub begun_well : (definition : Definition) → IsKeptWell (begun definition)
begun_well definition = record { order = tt; follow = tt; within = zero_within definition.expectations; no_events = λ e. refl }

pub taken_well : (batch : Take) (d : Dataset) → IsKeptWell d → FitsTable batch d → IsChange batch.change → IsKeptWell (taken batch d)
taken_well batch d well fits form = record {
  order = well.order;
  follow = follow_more d.table.rows d.table.changes batch.change well.follow form fits.are_there;
  within = added_within d.definition.expectations d.counts batch.counts well.within fits.within;
  no_events = λ e. let none : batch.events ≡ [] = fits.no_events (append_of d.definition.body e fits.takes) in λ i. events_with (well.no_events e i) (none i);
}

pub refreshed_well : (refresh : Refresh) (state : State) (d : Dataset) → IsKeptWell d → FitsRefresh state refresh d → IsChange refresh.change → IsKeptWell (refreshed refresh d)
refreshed_well refresh state d well fits form = record {
  order = well.order;
  follow = follow_more d.table.rows d.table.changes refresh.change well.follow form fits.are_there;
  within = fits.within;
  no_events = well.no_events;
}

emptied_well : (d : Dataset) → IsKeptWell d → IsKeptWell (emptied d)
emptied_well d well = record {
  order = well.order;
  follow = follow_more d.table.rows d.table.changes (emptying (content d)) well.follow (emptying_form (content d)) (emptying_there (content d));
  within = zero_within d.definition.expectations;
  no_events = λ e. refl;
}

folded_well : (whole : State) (d : Dataset) → IsKeptWell d → IsKeptWell (folded_for whole d)
folded_well whole d well = record {
  order = content_order d.table.rows (take (base_for whole d - d.table.base) d.table.changes) well.order;
  follow = follow_drop (base_for whole d - d.table.base) d.table.rows d.table.changes well.follow;
  within = well.within;
  no_events = well.no_events;
}

-- ---- all datasets

pub begun_all : (list : List Definition) → AllByRecursion IsKeptWell (map begun list)
begun_all [] = tt
begun_all (definition ∷ list) = (begun_well definition, begun_all list)

pub behind_all : (state : State) (list : List Definition) → AllByRecursion IsKeptWell state → AllByRecursion IsKeptWell (state ++ map begun list)
behind_all [] list all = begun_all list
behind_all (d ∷ state) list all = (all.0, behind_all state list all.1)

module _ (f : Dataset → Dataset) where
  updated_by : (b : Bool) (o : Option Dataset) (x : Dataset) (state behind : State) → ((d : Dataset) → cond b (Some x) o ≡ Some d → IsKeptWell d → IsKeptWell (f d)) → IsKeptWell x → AllByRecursion IsKeptWell state
      → (((d : Dataset) → o ≡ Some d → IsKeptWell d → IsKeptWell (f d)) → AllByRecursion IsKeptWell behind) → AllByRecursion IsKeptWell (if b then f x ∷ state else x ∷ behind)
  updated_by true o x state behind keeps h all go = (keeps x refl h, all)
  updated_by false o x state behind keeps h all go = (h, go keeps)

  pub updated_all : (name : List ℕ) (state : State) → ((d : Dataset) → dataset_of state name ≡ Some d → IsKeptWell d → IsKeptWell (f d)) → AllByRecursion IsKeptWell state → AllByRecursion IsKeptWell (updated name f state)
  updated_all name [] keeps all = tt
  updated_all name (x ∷ state) keeps all =
      updated_by (is_named name x) (dataset_of state name) x state (updated name f state) keeps all.0 all.1 (λ g. updated_all name state g all.1)

emptied_by : (d : Dataset) (b : Bool) → IsKeptWell d → IsKeptWell (if b then emptied d else d)
emptied_by d true well = emptied_well d well
emptied_by d false well = well

pub reset_all : (names : List (List ℕ)) (state : State) → AllByRecursion IsKeptWell state → AllByRecursion IsKeptWell (reset names state)
reset_all names [] all = tt
reset_all names (d ∷ state) all = (emptied_by d (is_member names d) all.0, reset_all names state all.1)

pub folded_all : (whole state : State) → AllByRecursion IsKeptWell state → AllByRecursion IsKeptWell (map (folded_for whole) state)
folded_all whole [] all = tt
folded_all whole (d ∷ state) all = (folded_well whole d all.0, folded_all whole state all.1)

-- what holds of the dataset of a name
pub some_there : (P : Dataset → Type 0) (o : Option Dataset) (d : Dataset) → IsSomeAnd o P → o ≡ Some d → P d
some_there P None d h e = absurd h
some_there P (Some x) d h e = subst P (ap (λ (o : Option Dataset). unwrap_or o x) e) h
