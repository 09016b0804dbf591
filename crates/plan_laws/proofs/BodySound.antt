-- What fills a view and the target of a change feed is sound, where its checks are passed.
use Rattle.std.proofs.Common.{◌≡◌, ℕ, Bool, List, Option, Ok, IfOk, sym}
use Rattle.std.specs.Prelude.{IsTrue}
use Rattle.value_core.specs.declared.schema.Column.{Column}
use Rattle.sql_tree.specs.declared.statement.CdcTree.{CdcTree}
use Rattle.sql_tree.specs.declared.statement.Select.{Select}
use Rattle.plan_core.specs.declared.expectation.Expectation.{Expectation}
use Rattle.plan_core.specs.declared.flow.Origin.{Origin}
use Rattle.plan_core.specs.declared.plan.Dataset.{Dataset}
use Rattle.plan_core.specs.Sound.{IsSoundBody, IsSoundFeed, IsSoundQuery, are_sound_expectations, dataset_named, is_condition_over, kinds_of, target_kinds}
use Rattle.statement_checks.specs.Repeats.{first_of}
use Rattle.origin_checks.specs.declared.resolved.Resolved.{Resolved}
use Rattle.origin_checks.specs.declared.resolved.Source.{Source}
use Rattle.origin_checks.specs.declared.resolved.Source.TheVariants as source
use Rattle.origin_checks.specs.Origins.{columns_found, columns_read, origin_as, origin_batch_checks, origin_stream_checks}
use Rattle.select_checks.specs.declared.view.ViewSelect.{ViewSelect}
use Rattle.select_checks.specs.Parts.{query_of_select}
use Rattle.select_checks.specs.Views.{view_select}
use Rattle.feed_checks.specs.declared.parts.FeedParts.{FeedParts}
use Rattle.feed_checks.specs.Feeds.{feed_flow, feed_parts, sequence_kinds, track_fault}
use Rattle.dataset_checks.specs.declared.parts.DatasetParts.{DatasetParts}
use Rattle.dataset_checks.specs.Reading.{feed_reading_fault, found_in, opened, reading_fault, unmixed}
use Rattle.dataset_checks.specs.Feeding.{fed, feed_by, feed_dataset, feed_over}
use Rattle.dataset_checks.specs.Viewing.{dataset_read, view_by, view_dataset, view_named, view_over, viewed}
use Rattle.dataset_checks.specs.Datasets.{dataset_of}
use Rattle.plan_laws.proofs.Binding.{behind, behind_check, neither}
use Rattle.plan_laws.proofs.ReadLemmas.{AreBelow, flow_reads, view_reads}
use Rattle.plan_laws.proofs.Typed.{feed_typed}

-- what fills a dataset of this level is sound over others, whatever its name and text are, with sound expectations
abbrev pub IsSoundParts : List Dataset → ℕ → DatasetParts → Type 0
IsSoundParts sofar level parts =
    (name text : List ℕ) (expectations : List Expectation) → IsTrue (are_sound_expectations (kinds_of parts.seen) expectations) → IsSoundBody sofar (dataset_of name text level parts expectations) parts.body

-- ---- what the laws of the checks below say

abbrev pub ViewLaw : Type 0
ViewLaw = (select : Select) (read : List Column) (given : ViewSelect) (origin : List ℕ) → view_select select read ≡ Ok given → IsSoundQuery (kinds_of read) (kinds_of given.columns) (query_of_select origin given)

abbrev pub FeedLaw : Type 0
FeedLaw = (feed : CdcTree) (read : List Column) (parts : FeedParts) → feed_parts feed read ≡ Ok parts → IsTrue (is_condition_over (kinds_of read) parts.delete_when) → IsTrue (is_condition_over (kinds_of read) parts.truncate_when) →
    (name : List ℕ) (origin : Origin) → IsSoundFeed (kinds_of read) (sequence_kinds read parts) (kinds_of parts.given) (feed_flow name origin parts)

abbrev pub TargetLaw : Type 0
TargetLaw = (feed : CdcTree) (read : List Column) (parts : FeedParts) → feed_parts feed read ≡ Ok parts → kinds_of parts.columns ≡ target_kinds parts.scd2 (sequence_kinds read parts) (kinds_of parts.given)

module _ (level : ℕ) (sofar : List Dataset) (below : AreBelow level sofar) where
  abbrev Sound : DatasetParts → Type 0
  Sound parts = IsSoundParts sofar level parts

  -- ---- views

  view_over_sound : ViewLaw → (select : Select) (stream : Bool) (name : List ℕ) → IfOk (view_over select (source.Dataset stream name) (dataset_named sofar name) name) Sound
  view_over_sound law select stream name =
      let found = dataset_named sofar name in
      behind_check Sound (first_of (origin_batch_checks (source.Dataset stream name) found)) (λ u. viewed select name (columns_found found)) (λ pass.
      behind Sound (view_select select (columns_found found)) (λ (given : ViewSelect). Ok (view_dataset name given)) (λ given is own text expectations tested. record {
        source = columns_found found;
        reads = view_reads level sofar stream name below pass;
        gives = law select (columns_found found) given name is;
        expectations = tested;
      }))

  view_named_sound : ViewLaw → (select : Select) (reads : Source) → IfOk (view_named select reads (found_in sofar reads) (dataset_read reads)) Sound
  view_named_sound law select (source.Dataset stream name) = view_over_sound law select stream name
  view_named_sound law select (source.Files stream read) = tt

  pub view_by_sound : ViewLaw → (name : List ℕ) (select : Select) (resolved : Option Resolved) → IfOk (view_by name select sofar resolved) Sound
  view_by_sound law name select resolved =
      behind Sound (opened name resolved) (λ (reads : Source). view_named select reads (found_in sofar reads) (dataset_read reads)) (λ reads is. view_named_sound law select reads)

  -- ---- change feeds

  feed_over_sound : FeedLaw → TargetLaw → (mixed : Bool) (name : List ℕ) (feed : CdcTree) (reads : Source) → IfOk (feed_over mixed name feed reads (found_in sofar reads)) Sound
  feed_over_sound law target mixed name feed reads =
      let found = found_in sofar reads in
      let read = columns_read reads found in
      behind_check Sound (feed_reading_fault mixed feed reads found) (λ u. fed name feed reads read) (λ pass.
      let opens = (neither (first_of (origin_stream_checks reads found)) (unmixed mixed) (neither (track_fault feed) (reading_fault mixed reads found) pass).1).0 in
      behind Sound (feed_parts feed read) (λ (given : FeedParts). Ok (feed_dataset name (origin_as reads) given)) (λ given is own text expectations tested.
      let typed = feed_typed feed read given is in
      record {
        source = read;
        sequences = sequence_kinds read given;
        columns = kinds_of given.given;
        reads = flow_reads level sofar reads below opens;
        feed = law feed read given is typed.delete typed.truncate name (origin_as reads);
        gives = sym (target feed read given is);
        expectations = tested;
      }))

  pub feed_by_sound : FeedLaw → TargetLaw → (mixed : Bool) (name : List ℕ) (feed : CdcTree) (resolved : Option Resolved) → IfOk (feed_by mixed name feed sofar resolved) Sound
  feed_by_sound law target mixed name feed resolved =
      behind Sound (opened name resolved) (λ (reads : Source). feed_over mixed name feed reads (found_in sofar reads)) (λ reads is. feed_over_sound law target mixed name feed reads)
