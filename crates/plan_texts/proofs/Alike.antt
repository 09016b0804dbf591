-- Statements that are the same, read the same and find the same make the same dataset.
use Rattle.std.proofs.Common.{◌≡◌, ℕ, suc, Bool, List, [], ◌∷◌, ◌++◌, length, Option, Some, None, Result, Ok, refl, sym, ap, subst, ◌∙◌}
use Rattle.std.specs.Prelude.{◌&&◌, ◌||◌, nat_lt, option_and_then, slice_get}
use Rattle.value_core.specs.declared.schema.Column.{Column}
use Rattle.sql_tree.specs.declared.statement.CdcTree.{CdcTree}
use Rattle.sql_tree.specs.declared.statement.Select.{Select}
use Rattle.sql_tree.specs.declared.statement.SqlItem.{SqlItem}
use Rattle.sql_tree.specs.declared.statement.Statement.{Statement}
use Rattle.sql_tree.specs.declared.statement.Statement.TheVariants as statement
use Rattle.plan_core.specs.declared.flow.AppendFlow.{AppendFlow}
use Rattle.plan_core.specs.declared.plan.Dataset.{Dataset}
use Rattle.statement_checks.specs.declared.fault.Break.{Break}
use Rattle.statement_checks.specs.declared.fault.CheckFault.{CheckFault}
use Rattle.statement_checks.specs.Declares.{dataset_name}
use Rattle.origin_checks.specs.declared.resolved.Resolved.{Resolved}
use Rattle.origin_checks.specs.declared.resolved.Resolved.TheVariants.{Nothing, Bad, From}
use Rattle.origin_checks.specs.declared.resolved.Source.{Source}
use Rattle.dataset_checks.specs.declared.parts.DatasetParts.{DatasetParts}
use Rattle.dataset_checks.specs.declared.parts.FlowParts.{FlowParts}
use Rattle.dataset_checks.specs.declared.parts.FlowParts.TheVariants as parts
use Rattle.dataset_checks.specs.Appending.{flow_by, flow_over}
use Rattle.dataset_checks.specs.Datasets.{dataset_filled, dataset_judged, dataset_with, judged_if_there}
use Rattle.dataset_checks.specs.Ends.{and_then, at_statement}
use Rattle.dataset_checks.specs.Feeding.{feed_by, feed_over}
use Rattle.dataset_checks.specs.Filling.{are_mixed, fillers_from, has_feed, is_feed_there}
use Rattle.dataset_checks.specs.Reading.{found_in}
use Rattle.dataset_checks.specs.Tables.{appends, behind_flow, flows_at, flows_joined, keeps, parts_at, parts_if_there, table_before, table_parts}
use Rattle.dataset_checks.specs.Viewing.{dataset_read, view_by, view_named}
use Rattle.plan_check.specs.Walks.{name_at}
use Rattle.plan_texts.proofs.Lists.{in_some}
use Rattle.plan_texts.proofs.Pairs.{Each}
use Rattle.plan_texts.proofs.Sourced.{flows_there}
use Rattle.plan_texts.proofs.Results.{at_ok, behind_ok, no_ok}

-- what is given elsewhere is given here
at_here : {A : Type 0} (place : ℕ) (given : Result A CheckFault) (a : A) → given ≡ Ok a → at_statement place given ≡ Ok a
at_here place given a e = ap (at_statement place) e

behind_alike : (flows : List AppendFlow) (f g : Option (List Column) → List AppendFlow → Result DatasetParts Break) (made : DatasetParts) (given : FlowParts) →
    ((table : Option (List Column)) (all : List AppendFlow) → f table all ≡ Ok made → g table all ≡ Ok made) → behind_flow flows f given ≡ Ok made → behind_flow flows g given ≡ Ok made
behind_alike flows f g made (parts.Keeps table) rest e = e
behind_alike flows f g made (parts.Appends given) rest e = rest (Some given.columns) (flows ++ given.flow ∷ []) e

module _ (sofar others : List Dataset) where
  -- what is read is found alike
  abbrev pub FindsAlike : Option Resolved → Type 0
  FindsAlike resolved = (reads : Source) → resolved ≡ Some (From reads) → found_in sofar reads ≡ found_in others reads

  flow_alike : (mixed : Bool) (name : List ℕ) (select : Select) (table : Option (List Column)) (resolved : Option Resolved) → FindsAlike resolved → flow_by mixed name select table sofar resolved ≡ flow_by mixed name select table others resolved
  flow_alike mixed name select table None finds = refl
  flow_alike mixed name select table (Some Nothing) finds = refl
  flow_alike mixed name select table (Some (Bad word)) finds = refl
  flow_alike mixed name select table (Some (From reads)) finds = ap (flow_over mixed name select table reads) (finds reads refl)

  feed_alike : (mixed : Bool) (name : List ℕ) (feed : CdcTree) (resolved : Option Resolved) → FindsAlike resolved → feed_by mixed name feed sofar resolved ≡ feed_by mixed name feed others resolved
  feed_alike mixed name feed None finds = refl
  feed_alike mixed name feed (Some Nothing) finds = refl
  feed_alike mixed name feed (Some (Bad word)) finds = refl
  feed_alike mixed name feed (Some (From reads)) finds = ap (feed_over mixed name feed reads) (finds reads refl)

  view_alike : (name : List ℕ) (select : Select) (resolved : Option Resolved) → FindsAlike resolved → view_by name select sofar resolved ≡ view_by name select others resolved
  view_alike name select None finds = refl
  view_alike name select (Some Nothing) finds = refl
  view_alike name select (Some (Bad word)) finds = refl
  view_alike name select (Some (From reads)) finds = ap (λ (found : Option Dataset). view_named select reads found (dataset_read reads)) (finds reads refl)

  part_alike : (mixed : Bool) (table : Option (List Column)) (resolved : Option Resolved) (o : Option Statement) → FindsAlike resolved → parts_if_there mixed table sofar resolved o ≡ parts_if_there mixed table others resolved o
  part_alike mixed table resolved None finds = refl
  part_alike mixed table resolved (Some (statement.Table name items None)) finds = refl
  part_alike mixed table resolved (Some (statement.Table name items (Some select))) finds = ap appends (flow_alike mixed name select table resolved finds)
  part_alike mixed table resolved (Some (statement.View name items select)) finds = refl
  part_alike mixed table resolved (Some (statement.Insert flow target select)) finds = ap appends (flow_alike mixed flow select table resolved finds)
  part_alike mixed table resolved (Some (statement.Cdc flow feed)) finds = ap keeps (feed_alike mixed flow feed resolved finds)

module _ (first second : List Statement) (one two : List Resolved) (sofar others : List Dataset) where
  -- the statements at two places are the same, read the same and find the same
  pub record AreAlike (place other : ℕ) : Type 0 where
    pub statements : slice_get first place ≡ slice_get second other
    pub resolved : slice_get one place ≡ slice_get two other
    pub finds : FindsAlike sofar others (slice_get one place)

  -- so it is of those at the places of two lists
  abbrev pub AllAlike : List ℕ → List ℕ → Type 0
  AllAlike = Each AreAlike

  parts_alike : (mixed : Bool) (table : Option (List Column)) (place other : ℕ) (given : FlowParts) → AreAlike place other → parts_at first one sofar mixed table place ≡ Ok given → parts_at second two others mixed table other ≡ Ok given
  parts_alike mixed table place other given alike e =
      let there : parts_if_there mixed table sofar (slice_get one place) (slice_get first place) ≡ Ok given = at_ok place (parts_if_there mixed table sofar (slice_get one place) (slice_get first place)) given e in
      let same : parts_if_there mixed table others (slice_get two other) (slice_get second other) ≡ parts_if_there mixed table sofar (slice_get one place) (slice_get first place) =
      ap (parts_if_there mixed table others (slice_get two other)) (sym alike.statements) ∙ ap (λ (r : Option Resolved). parts_if_there mixed table others r (slice_get first place)) (sym alike.resolved)
      ∙ sym (part_alike sofar others mixed table (slice_get one place) (slice_get first place) alike.finds) in
      at_here other (parts_if_there mixed table others (slice_get two other) (slice_get second other)) given (same ∙ there)

  joined_alike : (mixed : Bool) (places more : List ℕ) (table : Option (List Column)) (flows : List AppendFlow) (made : DatasetParts) → AllAlike places more → flows_joined first one sofar mixed places table flows ≡ Ok made →
      flows_joined second two others mixed more table flows ≡ Ok made
  joined_alike mixed [] [] table flows made alike e = e
  joined_alike mixed [] (other ∷ more) table flows made alike e = absurd alike
  joined_alike mixed (place ∷ places) [] table flows made alike e = absurd alike
  joined_alike mixed (place ∷ places) (other ∷ more) table flows made alike e =
      let step = behind_ok (parts_at first one sofar mixed table place) (behind_flow flows (flows_joined first one sofar mixed places)) made e in
      ap (λ (given : Result FlowParts Break). and_then given (behind_flow flows (flows_joined second two others mixed more))) (parts_alike mixed table place other step.0 alike.0 step.1)
      ∙ behind_alike flows (flows_joined first one sofar mixed places) (flows_joined second two others mixed more) made step.0 (λ next all. joined_alike mixed places more next all made alike.1) step.2

  feeds_alike : (places more : List ℕ) → AllAlike places more → has_feed first places ≡ has_feed second more
  feeds_alike [] [] alike = refl
  feeds_alike [] (other ∷ more) alike = absurd alike
  feeds_alike (place ∷ places) [] alike = absurd alike
  feeds_alike (place ∷ places) (other ∷ more) alike =
      ap (λ (o : Option Statement). is_feed_there o || has_feed first places) alike.0.statements ∙ ap (λ (b : Bool). is_feed_there (slice_get second other) || b) (feeds_alike places more alike.1)

  as_many : (places more : List ℕ) → AllAlike places more → length places ≡ length more
  as_many [] [] alike = refl
  as_many [] (other ∷ more) alike = absurd alike
  as_many (place ∷ places) [] alike = absurd alike
  as_many (place ∷ places) (other ∷ more) alike = ap suc (as_many places more alike.1)

  mixed_alike : (places more : List ℕ) → AllAlike places more → are_mixed first places ≡ are_mixed second more
  mixed_alike places more alike =
      ap (λ (n : ℕ). nat_lt 1 n && has_feed first places) (as_many places more alike) ∙ ap (λ (b : Bool). nat_lt 1 (length more) && b) (feeds_alike places more alike)

  at_alike : (home there : ℕ) (name : List ℕ) (table : Option (List Column)) (places more : List ℕ) (made : DatasetParts) → AllAlike places more → flows_at first one sofar home name table places ≡ Ok made → flows_at second two others there name table more ≡ Ok made
  at_alike home there name table [] [] made alike e = absurd (no_ok e)
  at_alike home there name table [] (other ∷ more) made alike e = absurd alike
  at_alike home there name table (place ∷ places) [] made alike e = absurd alike
  at_alike home there name table (place ∷ places) (other ∷ more) made alike e =
      flows_there second two others there name table other more
      ∙ ap (λ (mixed : Bool). flows_joined second two others mixed (other ∷ more) table []) (sym (mixed_alike (place ∷ places) (other ∷ more) alike))
      ∙ joined_alike (are_mixed first (place ∷ places)) (place ∷ places) (other ∷ more) table [] made alike (sym (flows_there first one sofar home name table place places) ∙ e)

  table_alike : (home there : ℕ) (name : List ℕ) (items : List SqlItem) (select : Option Select) (made : DatasetParts) → AreAlike home there → AllAlike (fillers_from name 0 first) (fillers_from name 0 second) →
      table_parts first one sofar home name items select ≡ Ok made → table_parts second two others there name items select ≡ Ok made
  table_alike home there name items None made own flows e = at_alike home there name (table_before items None) (fillers_from name 0 first) (fillers_from name 0 second) made flows e
  table_alike home there name items (Some select) made own flows e = at_alike home there name None (home ∷ fillers_from name 0 first) (there ∷ fillers_from name 0 second) made (own, flows) e

  filled_alike : (home there : ℕ) (name : List ℕ) (items : List SqlItem) (level : ℕ) (text : List ℕ) (filled given : Result DatasetParts Break) (dataset : Dataset) → ((made : DatasetParts) → filled ≡ Ok made → given ≡ Ok made) →
      dataset_filled home name items level text filled ≡ Ok dataset → dataset_filled there name items level text given ≡ Ok dataset
  filled_alike home there name items level text filled given dataset same e =
      let step = behind_ok filled (λ made. at_statement home (dataset_with name items level text made)) dataset e in
      ap (λ (g : Result DatasetParts Break). and_then g (λ made. at_statement there (dataset_with name items level text made))) (same step.0 step.1)
      ∙ at_here there (dataset_with name items level text step.0) dataset (at_ok home (dataset_with name items level text step.0) dataset step.2)

  view_given : (home there : ℕ) (name : List ℕ) (select : Select) (made : DatasetParts) → AreAlike home there → at_statement home (view_by name select sofar (slice_get one home)) ≡ Ok made → at_statement there (view_by name select others (slice_get two there)) ≡ Ok made
  view_given home there name select made own e =
      at_here there (view_by name select others (slice_get two there)) made
      (ap (view_by name select others) (sym own.resolved) ∙ sym (view_alike sofar others name select (slice_get one home) own.finds) ∙ at_ok home (view_by name select sofar (slice_get one home)) made e)

  made_alike : (home there level : ℕ) (text : List ℕ) (dataset : Dataset) (o : Option Statement) → option_and_then dataset_name o ≡ Some dataset.name → AreAlike home there → AllAlike (fillers_from dataset.name 0 first) (fillers_from dataset.name 0 second) →
      judged_if_there first one sofar home level text o ≡ Ok dataset → judged_if_there second two others there level text o ≡ Ok dataset
  made_alike home there level text dataset None named own flows e = absurd (no_ok e)
  made_alike home there level text dataset (Some (statement.Table name items select)) named own flows e =
      let all : AllAlike (fillers_from name 0 first) (fillers_from name 0 second) = subst (λ (n : List ℕ). AllAlike (fillers_from n 0 first) (fillers_from n 0 second)) (sym (in_some named)) flows in
      filled_alike home there name items level text (table_parts first one sofar home name items select) (table_parts second two others there name items select) dataset (λ made given. table_alike home there name items select made own all given) e
  made_alike home there level text dataset (Some (statement.View name items select)) named own flows e =
      filled_alike home there name items level text (at_statement home (view_by name select sofar (slice_get one home))) (at_statement there (view_by name select others (slice_get two there))) dataset (λ made given. view_given home there name select made own given) e
  made_alike home there level text dataset (Some (statement.Insert flow target select)) named own flows e = absurd (no_ok e)
  made_alike home there level text dataset (Some (statement.Cdc flow feed)) named own flows e = absurd (no_ok e)

  -- they make the same dataset
  pub judged_alike : (home there level : ℕ) (text : List ℕ) (dataset : Dataset) → name_at first home ≡ Some dataset.name → AreAlike home there → AllAlike (fillers_from dataset.name 0 first) (fillers_from dataset.name 0 second) →
      dataset_judged first one sofar home level text ≡ Ok dataset → dataset_judged second two others there level text ≡ Ok dataset
  judged_alike home there level text dataset named own flows e =
      ap (judged_if_there second two others there level text) (sym own.statements) ∙ made_alike home there level text dataset (slice_get first home) named own flows e
