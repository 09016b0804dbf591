-- A batch and a refresh keep a store standing.
use Rattle.std.proofs.Common.{◌≡◌, inl, inr, ℕ, List, [], ◌∷◌, Bool, true, false, cond, if◌then◌else◌, Some, refl, sym, ap, ◌∙◌, subst}
use Rattle.value_core.specs.declared.change.Change.{Change}
use Rattle.value_core.specs.NameFold.{same_name}
use Rattle.landing_core.specs.declared.landing.LandingFile.{LandingFile}
use Rattle.plan_core.specs.declared.expectation.Expectation.{Expectation}
use Rattle.plan_core.specs.declared.plan.Body.{Body}
use Rattle.plan_core.specs.declared.plan.Body.TheVariants as body
use Rattle.plan_core.specs.declared.plan.Dataset.{Dataset as Part}
use Rattle.plan_core.specs.Sound.{dataset_named}
use Rattle.commit_payloads.specs.declared.definition.StoredBody.TheVariants.{Append, Scd1, Scd2}
use Rattle.commit_payloads.specs.declared.take.Refresh.{Refresh}
use Rattle.commit_payloads.specs.declared.take.Take.{Take}
use Rattle.state_model.specs.After.{refreshed, taken, updated}
use Rattle.state_model.specs.Dataset.{Dataset, State, dataset_of}
use Rattle.state_steps.specs.Parts.{stored_body, stored_flows}
use Rattle.state_steps.specs.Stands.{BodyStands, DatasetStands, Stands}
use Rattle.state_steps.specs.Steps.{BodyRefreshes, BodyTakes, IsFound, Refreshes, Takes}
use Rattle.state_steps.specs.Parts.{streams_of}
use Rattle.state_steps.proofs.AllLemmas.{AllKeep, all_updated, same_more, same_streamed}
use Rattle.state_steps.proofs.FeedTakes.{feed_takes, view_refreshes}
use Rattle.state_steps.proofs.KeepLemmas.{KeepsAll, dataset_stays}
use Rattle.state_steps.proofs.Lookups.{Goes, found_after, paired, some_same}
use Rattle.state_steps.proofs.SoundLemmas.{sound_keeps}
use Rattle.state_steps.proofs.TakeLemmas.{append_takes}
use Rattle.state_steps.proofs.VersionLemmas.{IsMore, IsStreamedOn}

-- ---- one version more

pub taken_more : (batch : Take) (dataset : Dataset) → IsMore dataset (taken batch dataset)
taken_more batch dataset = record { definition = refl; base = refl; rows = refl; more = batch.change ∷ []; changes = refl }

pub refreshed_more : (refresh : Refresh) (dataset : Dataset) → IsMore dataset (refreshed refresh dataset)
refreshed_more refresh dataset = record { definition = refl; base = refl; rows = refl; more = refresh.change ∷ []; changes = refl }

taken_streamed : (batch : Take) (dataset : Dataset) → batch.change.removed ≡ [] → IsStreamedOn dataset (taken batch dataset)
taken_streamed batch dataset none = record { is_more = record { definition = refl; base = refl; rows = refl; more = batch.change ∷ []; changes = refl }; none = (none, tt) }

-- a dataset that is updated goes on, and so do all others
updated_goes : (f : Dataset → Dataset) (more : (d : Dataset) → IsMore d (f d)) (name : List ℕ) (state : State) (other : List ℕ) → Goes IsMore state (updated name f state) other
updated_goes f more name state other old e =
    elim (found_after f (λ d. (more d).definition) name other state old e) [ inl h ↦ (old, h, same_more old) | inr h ↦ (f old, h.0, more old) ]

-- ---- a batch

body_takes : (ever : List LandingFile) (state : State) (part : Part) (xs : List Expectation) (b : Body) (dataset : Dataset) (batch : Take) → dataset.definition.flows ≡ stored_flows part b
    → BodyStands ever state xs b dataset → BodyTakes ever state xs b dataset batch → BodyStands ever state xs b (taken batch dataset)
body_takes ever state part xs (body.Append flows) dataset batch flows_are stood takes = append_takes ever state xs flows dataset batch flows_are stood takes
body_takes ever state part xs (body.Cdc cdc) dataset batch flows_are stood takes = feed_takes ever state xs cdc dataset batch flows_are stood takes
body_takes ever state part xs (body.View query) dataset batch flows_are stood takes = absurd takes

-- what a batch does to a table that streams may read: it removes nothing
removes_none : (ever : List LandingFile) (state : State) (xs : List Expectation) (b : Body) (dataset : Dataset) (batch : Take) → BodyTakes ever state xs b dataset batch → stored_body b ≡ Append → batch.change.removed ≡ []
removes_none ever state xs (body.Append flows) dataset batch takes is = ap (λ (c : Change). c.removed) takes.change
removes_none ever state xs (body.Cdc cdc) dataset batch takes is = absurd (by cdc.scd2 is)
  where
    by : (b : Bool) → (if b then Scd2 else Scd1) ≡ Append → ⊥
    by true e = cc
    by false e = cc
removes_none ever state xs (body.View query) dataset batch takes is = absurd takes

-- ---- one dataset of a store is changed

module _ (ever : List LandingFile) (was now : State) where
  keep_by : (name : List ℕ) (p : Part) (ps : List Part) (here : Bool) → KeepsAll ever ever was now (streams_of p.body)
      → ((part : Part) → dataset_named ps name ≡ Some part → KeepsAll ever ever was now (streams_of part.body))
      → (part : Part) → cond here (Some p) (dataset_named ps name) ≡ Some part → KeepsAll ever ever was now (streams_of part.body)
  keep_by name p ps true keep behind part e = subst (λ w. KeepsAll ever ever was now (streams_of w.body)) (some_same p part e) keep
  keep_by name p ps false keep behind part e = behind part e

  keep_at : (name : List ℕ) (parts : List Part) → AllKeep ever ever was now parts → (part : Part) → dataset_named parts name ≡ Some part → KeepsAll ever ever was now (streams_of part.body)
  keep_at name [] keeps part e = cc
  keep_at name (p ∷ ps) keeps part e = keep_by name p ps (same_name p.name name) keeps.0 (keep_at name ps keeps.1) part e

-- a dataset that stands still where it is, after a version more that removes no row if streams may read it
module _ (parts : List Part) (ever : List LandingFile) (state : State) (stands : Stands parts ever state) (f : Dataset → Dataset) (more : (d : Dataset) → IsMore d (f d)) (name : List ℕ) (part : Part) (target : Dataset)
    (found : IsFound parts state name part target) (streams : stored_body part.body ≡ Append → IsStreamedOn target (f target)) (in_place : DatasetStands ever state part target → DatasetStands ever state part (f target)) where
  abbrev now : State
  now = updated name f state

  versions : (other : List ℕ) → Goes IsMore state now other
  versions other = updated_goes f more name state other

  append_goes : (other : List ℕ) (old : Dataset) → dataset_of state other ≡ Some old → old.definition.body ≡ Append → (new : Dataset) × (dataset_of now other ≡ Some new) × IsStreamedOn old new
  append_goes other old e append =
      elim (found_after f (λ d. (more d).definition) name other state old e) [
        | inl h ↦ (old, h, same_streamed old)
        | inr h ↦
            let old_is : target ≡ old = some_same target old (sym found.dataset_is ∙ h.1) in
            let pair = paired ever state parts state name stands.each target found.dataset_is in
            let part_is : pair.0 ≡ part = some_same pair.0 part (sym pair.1 ∙ found.part_is) in
            let body_is : stored_body part.body ≡ Append = ap (λ (p : Part). stored_body p.body) (sym part_is) ∙ sym pair.2.is_of.body ∙ ap (λ (d : Dataset). d.definition.body) old_is ∙ append in
            (f old, h.0, subst (λ d. IsStreamedOn d (f d)) old_is (streams body_is))
      ]

  keeps : AllKeep ever ever state now parts
  keeps = sound_keeps parts ever state now stands.each append_goes stands.sound

  pub update_stands : Stands parts ever now
  update_stands = record {
    sound = stands.sound;
    each =
        all_updated ever ever state now versions f name part target
        (λ stood. dataset_stays ever ever state now part (f target) (keep_at ever state now name parts keeps part found.part_is) versions (in_place stood)) parts state keeps stands.each found.part_is found.dataset_is;
  }

pub take_stands : (parts : List Part) (ever : List LandingFile) (state : State) (batch : Take) → Stands parts ever state → Takes parts ever state batch → Stands parts ever (updated batch.table (taken batch) state)
take_stands parts ever state batch stands takes =
    update_stands parts ever state stands (taken batch) (taken_more batch) batch.table takes.part takes.dataset takes.found
    (λ is. taken_streamed batch takes.dataset (removes_none ever state takes.part.expectations takes.part.body takes.dataset batch takes.takes is))
    (λ stood. record {
      is_of = stood.is_of;
      fills = body_takes ever state takes.part takes.part.expectations takes.part.body takes.dataset batch stood.is_of.flows stood.fills takes.takes;
    })

-- ---- a refresh

body_refreshes : (ever : List LandingFile) (state : State) (xs : List Expectation) (b : Body) (dataset : Dataset) (refresh : Refresh) → BodyRefreshes state xs b dataset refresh → BodyStands ever state xs b (refreshed refresh dataset)
body_refreshes ever state xs (body.Append flows) dataset refresh refreshes = absurd refreshes
body_refreshes ever state xs (body.Cdc cdc) dataset refresh refreshes = absurd refreshes
body_refreshes ever state xs (body.View query) dataset refresh refreshes = view_refreshes ever state xs query dataset refresh refreshes

no_stream : (state : State) (xs : List Expectation) (b : Body) (dataset : Dataset) (refresh : Refresh) → BodyRefreshes state xs b dataset refresh → stored_body b ≡ Append → ⊥
no_stream state xs (body.Append flows) dataset refresh refreshes is = refreshes
no_stream state xs (body.Cdc cdc) dataset refresh refreshes is = refreshes
no_stream state xs (body.View query) dataset refresh refreshes is = cc

pub refresh_stands : (parts : List Part) (ever : List LandingFile) (state : State) (refresh : Refresh) → Stands parts ever state → Refreshes parts state refresh → Stands parts ever (updated refresh.view (refreshed refresh) state)
refresh_stands parts ever state refresh stands r =
    update_stands parts ever state stands (refreshed refresh) (refreshed_more refresh) refresh.view r.part r.dataset r.found
    (λ is. absurd (no_stream state r.part.expectations r.part.body r.dataset refresh r.refreshes is))
    (λ stood. record { is_of = stood.is_of; fills = body_refreshes ever state r.part.expectations r.part.body r.dataset refresh r.refreshes })
