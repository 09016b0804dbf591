-- In a sound plan streams read append tables alone.
use Rattle.std.proofs.Common.{◌≡◌, ℕ, List, [], ◌∷◌, map, Bool, true, false, ◌&&◌, if◌then◌else◌, Option, Some, None, refl, sym, ap, ◌∙◌, All}
use Rattle.std.specs.Prelude.{⊤, nat_lt, option_and_then}
use Rattle.std.proofs.lemmas.List.Elements.{All-head, All-tail}
use Rattle.value_core.specs.declared.schema.Column.{Column}
use Rattle.landing_core.specs.declared.landing.LandingFile.{LandingFile}
use Rattle.plan_core.specs.declared.flow.AppendFlow.{AppendFlow}
use Rattle.plan_core.specs.declared.flow.Origin.{Origin}
use Rattle.plan_core.specs.declared.flow.Origin.TheVariants as origin
use Rattle.plan_core.specs.declared.plan.Body.{Body}
use Rattle.plan_core.specs.declared.plan.Body.TheVariants as body
use Rattle.plan_core.specs.declared.plan.Dataset.{Dataset as Part}
use Rattle.plan_core.specs.Sound.{IsSoundBody, IsSoundFlow, IsSoundPlan, dataset_named, flow_columns, is_append}
use Rattle.commit_payloads.specs.declared.definition.StoredBody.TheVariants.{Append}
use Rattle.state_model.specs.Dataset.{Dataset, State, dataset_of}
use Rattle.state_steps.specs.Parts.{stored_body}
use Rattle.state_steps.specs.Stands.{AllStand}
use Rattle.state_steps.specs.Parts.{streams_of}
use Rattle.state_steps.proofs.AllLemmas.{AllKeep}
use Rattle.state_steps.proofs.KeepLemmas.{AllGo, origins_keep}
use Rattle.state_steps.proofs.Lookups.{Goes, paired, some_same}
use Rattle.state_steps.proofs.VersionLemmas.{IsStreamedOn}

module _ (plan : List Part) where
  -- an append table of the plan has this name
  abbrev pub IsAppendName : List ℕ → Type 0
  IsAppendName name = (source : Part) × (dataset_named plan name ≡ Some source) × (is_append source.body ≡ true)

  abbrev pub ReadsAppends : List Origin → Type 0
  ReadsAppends [] = ⊤
  ReadsAppends (origin.Files dir shape ∷ origins) = ReadsAppends origins
  ReadsAppends (origin.Table name ∷ origins) = IsAppendName name × ReadsAppends origins

  columns_by : (level : ℕ) (source : Part) (lesser append : Bool) (columns : List Column) → is_append source.body ≡ append → (if lesser && append then Some source.columns else None) ≡ Some columns → is_append source.body ≡ true
  columns_by level source true true columns is e = is
  columns_by level source true false columns is e = cc
  columns_by level source false append columns is e = cc

  source_by : (level : ℕ) (name : List ℕ) (o : Option Part) (columns : List Column) → dataset_named plan name ≡ o
      → option_and_then (λ source. if nat_lt source.level level && is_append source.body then Some source.columns else None) o ≡ Some columns → IsAppendName name
  source_by level name None columns is e = cc
  source_by level name (Some source) columns is e = (source, is, columns_by level source (nat_lt source.level level) (is_append source.body) columns refl e)

  reads_by : (level : ℕ) (from : Origin) (origins : List Origin) (columns : List Column) → flow_columns plan level from ≡ Some columns → ReadsAppends origins → ReadsAppends (from ∷ origins)
  reads_by level (origin.Files dir shape) origins columns e rest = rest
  reads_by level (origin.Table name) origins columns e rest = (source_by level name (dataset_named plan name) columns refl e, rest)

  flows_read : (part : Part) (flows : List AppendFlow) → All (IsSoundFlow plan part) flows → ReadsAppends (map (λ flow. flow.origin) flows)
  flows_read part [] sound = tt
  flows_read part (flow ∷ flows) sound =
      let first = All-head (IsSoundFlow plan part) flow flows sound in
      reads_by part.level flow.origin (map (λ f. f.origin) flows) first.source first.reads (flows_read part flows (All-tail (IsSoundFlow plan part) flow flows sound))

  body_reads : (part : Part) (b : Body) → IsSoundBody plan part b → ReadsAppends (streams_of b)
  body_reads part (body.Append flows) sound = flows_read part flows sound.each_flow
  body_reads part (body.Cdc cdc) sound = reads_by part.level cdc.origin [] sound.source sound.reads tt
  body_reads part (body.View query) sound = tt

  abbrev pub AllReadAppends : List Part → Type 0
  AllReadAppends [] = ⊤
  AllReadAppends (part ∷ parts) = ReadsAppends (streams_of part.body) × AllReadAppends parts

  pub all_read : (parts : List Part) → All (λ part. IsSoundBody plan part part.body) parts → AllReadAppends parts
  all_read [] sound = tt
  all_read (part ∷ parts) sound =
      (body_reads part part.body (All-head (λ p. IsSoundBody plan p p.body) part parts sound), all_read parts (All-tail (λ p. IsSoundBody plan p p.body) part parts sound))

append_body : (b : Body) → is_append b ≡ true → stored_body b ≡ Append
append_body (body.Append flows) e = refl
append_body (body.Cdc cdc) e = cc
append_body (body.View query) e = cc

-- ---- so they keep what they consumed where each append table goes on

module _ (plan : List Part) (ever : List LandingFile) (was now : State) (all : AllStand ever was plan was)
    (go : (name : List ℕ) (old : Dataset) → dataset_of was name ≡ Some old → old.definition.body ≡ Append → (new : Dataset) × (dataset_of now name ≡ Some new) × IsStreamedOn old new) where
  name_goes : (name : List ℕ) → IsAppendName plan name → Goes IsStreamedOn was now name
  name_goes name is old e =
      let pair = paired ever was plan was name all old e in
      let part_is : pair.0 ≡ is.0 = some_same pair.0 is.0 (sym pair.1 ∙ is.1) in
      go name old e (pair.2.is_of.body ∙ ap (λ (p : Part). stored_body p.body) part_is ∙ append_body is.0.body is.2)

  origins_go : (origins : List Origin) → ReadsAppends plan origins → AllGo was now origins
  origins_go [] reads = tt
  origins_go (origin.Files dir shape ∷ origins) reads = origins_go origins reads
  origins_go (origin.Table name ∷ origins) reads = (name_goes name reads.0, origins_go origins reads.1)

  all_keep_appends : (parts : List Part) → AllReadAppends plan parts → AllKeep ever ever was now parts
  all_keep_appends [] reads = tt
  all_keep_appends (part ∷ parts) reads = (origins_keep ever was now (streams_of part.body) (origins_go (streams_of part.body) reads.0), all_keep_appends parts reads.1)

  pub sound_keeps : IsSoundPlan plan → AllKeep ever ever was now plan
  sound_keeps sound = all_keep_appends plan (all_read plan plan sound.each_dataset)

  pub streams_keep : (part : Part) → ReadsAppends plan (streams_of part.body) → AllGo was now (streams_of part.body)
  streams_keep part reads = origins_go (streams_of part.body) reads
