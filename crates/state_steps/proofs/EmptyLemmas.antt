-- A dataset that has read nothing stands empty.
use Rattle.std.proofs.Common.{◌≡◌, List, [], ◌∷◌, ◌++◌, map, Bool, true, false, if◌then◌else◌, ℕ, refl, sym, ap, ◌∙◌, subst, flat_map}
use Rattle.value_core.specs.declared.change.Tally.{Tally}
use Rattle.value_core.specs.declared.cursor.Cursor.{Cursor}
use Rattle.value_core.specs.declared.cursor.Cursor.TheVariants.{Never}
use Rattle.value_core.specs.Bags.{SameBag}
use Rattle.landing_core.specs.declared.landing.LandingFile.{LandingFile}
use Rattle.plan_core.specs.declared.expectation.Expectation.{Expectation}
use Rattle.plan_core.specs.declared.flow.AppendFlow.{AppendFlow}
use Rattle.plan_core.specs.declared.flow.Origin.{Origin}
use Rattle.plan_core.specs.declared.flow.Origin.TheVariants as origin
use Rattle.plan_core.specs.declared.plan.Body.{Body}
use Rattle.plan_core.specs.declared.plan.Body.TheVariants as body
use Rattle.plan_core.specs.declared.plan.Dataset.{Dataset as Part}
use Rattle.flow_model.specs.Admission.{counts}
use Rattle.flow_model.specs.Current.{scd1}
use Rattle.flow_model.specs.History.{scd2}
use Rattle.commit_payloads.specs.declared.definition.Definition.{Definition}
use Rattle.state_model.specs.After.{begun, begun_cursor, first_cursor, no_tally}
use Rattle.state_model.specs.Dataset.{Dataset, State, content}
use Rattle.state_steps.specs.Consumed.{consumed, StreamStands, StreamsStand}
use Rattle.state_steps.specs.Parts.{IsOf, stored_expectation, stored_flow, stored_flows, stored_origin}
use Rattle.state_steps.specs.Stands.{AllRunThrough, AllStand, BodyStands, DatasetStands, origins_of, out_of, seen_of, takings}
use Rattle.state_steps.specs.Steps.{AreOf}

-- ---- the beginning of each flow

no_rows : (ever : List LandingFile) (state : State) (from : Origin) → consumed ever state from (begun_cursor (stored_origin from)) ≡ []
no_rows ever state (origin.Files dir shape) = refl
no_rows ever state (origin.Table name) = refl

begins : (ever : List LandingFile) (state : State) (from : Origin) → StreamStands ever state from (begun_cursor (stored_origin from))
begins ever state (origin.Files dir shape) = (tt, tt)
begins ever state (origin.Table name) = tt

abbrev firsts : List AppendFlow → List Cursor
firsts flows = map first_cursor (map stored_flow flows)

all_begin : (ever : List LandingFile) (state : State) (flows : List AppendFlow) → StreamsStand ever state (origins_of flows) (firsts flows)
all_begin ever state [] = tt
all_begin ever state (flow ∷ flows) = (begins ever state flow.origin, all_begin ever state flows)

module _ (ever : List LandingFile) (state : State) (xs : List Expectation) where
  none_run : (flows : List AppendFlow) → AllRunThrough xs (takings ever state flows (firsts flows))
  none_run [] = tt
  none_run (flow ∷ flows) = (rw (no_rows ever state flow.origin) refl, none_run flows)

  none_out : (flows : List AppendFlow) → flat_map (out_of xs) (takings ever state flows (firsts flows)) ≡ []
  none_out [] = refl
  none_out (flow ∷ flows) = rw (no_rows ever state flow.origin) (none_out flows)

  none_seen : (flows : List AppendFlow) → flat_map (seen_of xs) (takings ever state flows (firsts flows)) ≡ []
  none_seen [] = refl
  none_seen (flow ∷ flows) = rw (no_rows ever state flow.origin) (none_seen flows)

no_target : (ignore : Bool) (tracked : List ℕ) (b : Bool) → (if b then scd2 ignore tracked [] else scd1 ignore []) ≡ []
no_target ignore tracked true = refl
no_target ignore tracked false = refl

-- ---- a dataset without rows, counts, events and positions

pub record IsBare (part : Part) (dataset : Dataset) : Type 0 where
  pub cursors : dataset.cursors ≡ map first_cursor (stored_flows part part.body)
  pub none : SameBag (content dataset) []
  pub zero : dataset.counts ≡ counts part.expectations []
  pub no_events : dataset.events ≡ []

bare_fills : (ever : List LandingFile) (state : State) (part : Part) (xs : List Expectation) (b : Body) (dataset : Dataset) → dataset.cursors ≡ map first_cursor (stored_flows part b) → SameBag (content dataset) []
    → dataset.counts ≡ counts xs [] → dataset.events ≡ [] → BodyStands ever state xs b dataset
bare_fills ever state part xs (body.Append flows) dataset cursors none zero no_events = record {
  reads = rw cursors (all_begin ever state flows);
  runs = rw cursors (none_run ever state xs flows);
  content_is = rw (cursors, none_out ever state xs flows) none;
  counts_are = rw (cursors, none_seen ever state xs flows) zero;
}
bare_fills ever state part xs (body.Cdc cdc) dataset cursors none zero no_events = record {
  cursor = begun_cursor (stored_origin cdc.origin);
  one_flow = cursors;
  reads = begins ever state cdc.origin;
  runs = rw (no_rows ever state cdc.origin) refl;
  kept = rw (no_events, no_rows ever state cdc.origin) refl;
  content_is = rw (no_rows ever state cdc.origin) (subst (SameBag (content dataset)) (sym (no_target cdc.ignore_null cdc.tracked cdc.scd2)) none);
  counts_are = rw (no_rows ever state cdc.origin) zero;
}
bare_fills ever state part xs (body.View query) dataset cursors none zero no_events = record { cursor = Never; one_flow = cursors; reads = tt; shows = (none, zero) }

pub bare_stands : (ever : List LandingFile) (state : State) (part : Part) (dataset : Dataset) → IsOf part dataset.definition → IsBare part dataset → DatasetStands ever state part dataset
bare_stands ever state part dataset is_of bare = record { is_of = is_of; fills = bare_fills ever state part part.expectations part.body dataset bare.cursors bare.none bare.zero bare.no_events }

-- ---- definitions that begin

pub zero_counts : (xs : List Expectation) → map no_tally (map stored_expectation xs) ≡ counts xs []
zero_counts [] = refl
zero_counts (x ∷ xs) = ap (λ (more : List Tally). record { passed = 0; failed = 0 } ∷ more) (zero_counts xs)

begun_stands : (ever : List LandingFile) (state : State) (part : Part) (definition : Definition) → IsOf part definition → DatasetStands ever state part (begun definition)
begun_stands ever state part definition is_of =
    bare_stands ever state part (begun definition) is_of
    (record { cursors = ap (map first_cursor) is_of.flows; none = λ row. refl; zero = ap (map no_tally) is_of.expectations ∙ zero_counts part.expectations; no_events = refl })

pub begun_stand : (ever : List LandingFile) (state : State) (parts : List Part) (list : List Definition) → AreOf parts list → AllStand ever state parts (map begun list)
begun_stand ever state [] [] are = tt
begun_stand ever state [] (definition ∷ list) are = absurd are
begun_stand ever state (part ∷ parts) [] are = absurd are
begun_stand ever state (part ∷ parts) (definition ∷ list) are = (begun_stands ever state part definition are.0, begun_stand ever state parts list are.1)

pub all_more : (ever : List LandingFile) (state : State) (parts more : List Part) (datasets behind : State) → AllStand ever state parts datasets → AllStand ever state more behind → AllStand ever state (parts ++ more) (datasets ++ behind)
all_more ever state [] more [] behind all rest = rest
all_more ever state [] more (d ∷ ds) behind all rest = absurd all
all_more ever state (p ∷ ps) more [] behind all rest = absurd all
all_more ever state (p ∷ ps) more (d ∷ ds) behind all rest = (all.0, all_more ever state ps more ds behind all.1 rest)
