-- What a look-up by a name tells of the dataset of that name.
use Rattle.std.proofs.Common.{◌≡◌, ◌↔◌, Bool, true, false, Option, Some, None, sym, ◌∙◌, subst}
use Rattle.std.specs.Prelude.{IsTrue, IsSomeAnd}
use Rattle.std.specs.Option.{option_map}
use Rattle.commit_payloads.specs.declared.take.Refresh.{Refresh}
use Rattle.commit_payloads.specs.declared.take.Take.{Take}
use Rattle.value_core.specs.Changes.{Holds}
use Rattle.std.specs.List.{list_all}
use Rattle.state_model.specs.Dataset.{Dataset, State, content, cursor_of, flow_of}
use Rattle.state_model.specs.Follows.{FitsRefresh, FitsTake, FlowMoves, are_new, counts_fit, event_fits}
use Rattle.payload_rules.specs.Batches.{FitsDefinition, FitsView}

never : {P : Type 0} → (P → ⊥) → IsTrue false ↔ P
never not = (λ is. absurd (let wrong : false ≡ true = is in cc), λ p. absurd (not p))

pub some_of : {X : Type 0} (f : Dataset → X) (o : Option Dataset) (x : X) (P : X → Type 0) (test : Bool) → Some x ≡ option_map f o → (IsTrue test ↔ P x) → IsTrue test ↔ IsSomeAnd o (λ dataset. P (f dataset))
some_of f None x P test e told = absurd cc
some_of f (Some dataset) x P test e told = let same : x ≡ f dataset = cc in subst (λ y. IsTrue test ↔ P y) same told

-- ---- all parts together

pub refused : (o : Option Dataset) (P Q : Dataset → Type 0) (test : Bool) → (IsTrue test ↔ IsSomeAnd o Q) → test ≡ false → ((dataset : Dataset) → P dataset → Q dataset) → IsTrue false ↔ IsSomeAnd o P
refused None P Q test told fails part = never (λ p. p)
refused (Some dataset) P Q test told fails part = never (λ p. let wrong : false ≡ true = sym fails ∙ told.1 (part dataset p) in cc)

pub take_fits : (state : State) (batch : Take) (o : Option Dataset) (has : Bool) → IsSomeAnd o (λ dataset. FitsDefinition batch dataset.definition) → IsSomeAnd o (λ dataset. counts_fit dataset.counts batch.counts ≡ true)
    → IsSomeAnd o (λ dataset. FlowMoves state (flow_of dataset batch.flow) (cursor_of dataset batch.flow) batch.cursor)
    → IsSomeAnd o (λ dataset. list_all (event_fits dataset.definition) batch.events ≡ true) → IsSomeAnd o (λ dataset. are_new dataset.events batch.events ≡ true)
    → (IsTrue has ↔ IsSomeAnd o (λ dataset. Holds (content dataset) batch.change.removed)) → IsTrue has ↔ IsSomeAnd o (FitsTake state batch)
take_fits state batch None has fits counts moves parts new told = absurd fits
take_fits state batch (Some dataset) has fits counts moves parts new told = (
  λ is. record {
    table = record {
      takes = fits.takes;
      removes_none = fits.removes_none;
      no_events = fits.no_events;
      are_there = told.0 is;
      rows_fit = fits.rows_fit;
      events_fit = parts;
      events_new = new;
      one_each = fits.one_each;
      within = counts;
    };
    moves = moves;
  },
  λ all. told.1 all.table.are_there,
)

pub refresh_fits : (state : State) (refresh : Refresh) (o : Option Dataset) (has : Bool) → IsSomeAnd o (λ dataset. FitsView refresh dataset.definition)
    → IsSomeAnd o (λ dataset. FlowMoves state (flow_of dataset dataset.definition.name) (cursor_of dataset dataset.definition.name) refresh.cursor)
    → (IsTrue has ↔ IsSomeAnd o (λ dataset. Holds (content dataset) refresh.change.removed)) → IsTrue has ↔ IsSomeAnd o (FitsRefresh state refresh)
refresh_fits state refresh None has fits moves told = absurd fits
refresh_fits state refresh (Some dataset) has fits moves told = (
  λ is. record { view = fits.view; are_there = told.0 is; rows_fit = fits.rows_fit; one_each = fits.one_each; within = fits.within; moves = moves },
  λ all. told.1 all.are_there,
)

-- ---- a part of all

pub table_of_batch : (state : State) (batch : Take) (dataset : Dataset) → FitsTake state batch dataset → FitsDefinition batch dataset.definition
table_of_batch state batch dataset all =
    record { takes = all.table.takes; removes_none = all.table.removes_none; no_events = all.table.no_events; rows_fit = all.table.rows_fit; one_each = all.table.one_each }

pub view_of_refresh : (state : State) (refresh : Refresh) (dataset : Dataset) → FitsRefresh state refresh dataset → FitsView refresh dataset.definition
view_of_refresh state refresh dataset all = record { view = all.view; rows_fit = all.rows_fit; one_each = all.one_each; within = all.within }
