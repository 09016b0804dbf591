-- All datasets of a store, after a step of one of them or of none.
use Rattle.std.proofs.Common.{◌≡◌, List, [], ◌∷◌, Bool, true, false, cond, if◌then◌else◌, ℕ, refl, sym, ap, ◌∙◌, subst, append-nil, Some}
use Rattle.std.specs.Prelude.{⊤}
use Rattle.value_core.specs.NameFold.{same_name}
use Rattle.landing_core.specs.declared.landing.LandingFile.{LandingFile}
use Rattle.landing_history.specs.Taken.{HaveGrown}
use Rattle.plan_core.specs.declared.flow.Origin.{Origin}
use Rattle.plan_core.specs.declared.flow.Origin.TheVariants as origin
use Rattle.plan_core.specs.declared.plan.Dataset.{Dataset as Part}
use Rattle.plan_core.specs.Sound.{dataset_named}
use Rattle.state_model.specs.After.{updated}
use Rattle.state_model.specs.Dataset.{Dataset, State, dataset_of, is_named}
use Rattle.state_steps.specs.Stands.{AllStand, DatasetStands}
use Rattle.state_steps.specs.Parts.{streams_of}
use Rattle.state_steps.proofs.KeepLemmas.{AllGo, KeepsAll, dataset_stays, origins_grow, origins_keep}
use Rattle.state_steps.proofs.Lookups.{Goes, some_same}
use Rattle.state_steps.proofs.VersionLemmas.{IsMore, IsStreamedOn}

-- ---- nothing happens to a dataset

abbrev pub same_more : (dataset : Dataset) → IsMore dataset dataset
same_more dataset = record { definition = refl; base = refl; rows = refl; more = []; changes = sym (append-nil dataset.table.changes) }

pub same_streamed : (dataset : Dataset) → IsStreamedOn dataset dataset
same_streamed dataset = record { is_more = same_more dataset; none = tt }

pub goes_same : (state : State) (name : List ℕ) → Goes IsStreamedOn state state name
goes_same state name old e = (old, e, same_streamed old)

pub streamed_more : (was now : State) (name : List ℕ) → Goes IsStreamedOn was now name → Goes IsMore was now name
streamed_more was now name go old e = let g = go old e in (g.0, g.1, g.2.is_more)

pub all_go : (was now : State) → ((name : List ℕ) → Goes IsStreamedOn was now name) → (origins : List Origin) → AllGo was now origins
all_go was now go [] = tt
all_go was now go (origin.Files dir shape ∷ origins) = all_go was now go origins
all_go was now go (origin.Table name ∷ origins) = (go name, all_go was now go origins)

-- ---- all datasets

-- the streams of each part keep what they consumed
abbrev pub AllKeep : List LandingFile → List LandingFile → State → State → List Part → Type 0
AllKeep was_ever now_ever was now [] = ⊤
AllKeep was_ever now_ever was now (part ∷ parts) = KeepsAll was_ever now_ever was now (streams_of part.body) × AllKeep was_ever now_ever was now parts

pub all_keep : (ever : List LandingFile) (was now : State) → ((name : List ℕ) → Goes IsStreamedOn was now name) → (parts : List Part) → AllKeep ever ever was now parts
all_keep ever was now go [] = tt
all_keep ever was now go (part ∷ parts) = (origins_keep ever was now (streams_of part.body) (all_go was now go (streams_of part.body)), all_keep ever was now go parts)

pub all_grow : (ever more : List LandingFile) (state : State) → HaveGrown ever more → (parts : List Part) → AllKeep ever more state state parts
all_grow ever more state grown [] = tt
all_grow ever more state grown (part ∷ parts) =
    (origins_grow ever more state state grown (streams_of part.body) (all_go state state (goes_same state) (streams_of part.body)), all_grow ever more state grown parts)

module _ (was_ever now_ever : List LandingFile) (was now : State) (versions : (name : List ℕ) → Goes IsMore was now name) where
  pub all_stay : (parts : List Part) (datasets : State) → AllKeep was_ever now_ever was now parts → AllStand was_ever was parts datasets → AllStand now_ever now parts datasets
  all_stay [] [] keeps all = tt
  all_stay [] (d ∷ ds) keeps all = absurd all
  all_stay (p ∷ ps) [] keeps all = absurd all
  all_stay (p ∷ ps) (d ∷ ds) keeps all = (dataset_stays was_ever now_ever was now p d keeps.0 versions all.0, all_stay ps ds keeps.1 all.1)

  module _ (f : Dataset → Dataset) (name : List ℕ) (part : Part) (target : Dataset) (stands : DatasetStands was_ever was part target → DatasetStands now_ever now part (f target)) where
    updated_by : (p : Part) (ps : List Part) (d : Dataset) (ds : State) (here : Bool) → is_named name d ≡ here → KeepsAll was_ever now_ever was now (streams_of p.body) → AllKeep was_ever now_ever was now ps
        → DatasetStands was_ever was p d → AllStand was_ever was ps ds
        → (dataset_named ps name ≡ Some part → dataset_of ds name ≡ Some target → AllStand now_ever now ps (updated name f ds))
        → cond here (Some p) (dataset_named ps name) ≡ Some part → cond here (Some d) (dataset_of ds name) ≡ Some target
        → AllStand now_ever now (p ∷ ps) (if here then f d ∷ ds else d ∷ updated name f ds)
    updated_by p ps d ds true is keep keeps one all behind e h =
        let part_is : p ≡ part = some_same p part e in
        let target_is : d ≡ target = some_same d target h in
        let moved : DatasetStands was_ever was part target = subst (λ w. DatasetStands was_ever was w target) part_is (subst (λ w. DatasetStands was_ever was p w) target_is one) in
        let back : DatasetStands now_ever now p (f target) = subst (λ w. DatasetStands now_ever now w (f target)) (sym part_is) (stands moved) in
        (subst (λ w. DatasetStands now_ever now p (f w)) (sym target_is) back, all_stay ps ds keeps all)
    updated_by p ps d ds false is keep keeps one all behind e h = (dataset_stays was_ever now_ever was now p d keep versions one, behind e h)

    -- the dataset of a name is changed and stands, and the others stay
    pub all_updated : (parts : List Part) (datasets : State) → AllKeep was_ever now_ever was now parts → AllStand was_ever was parts datasets
        → dataset_named parts name ≡ Some part → dataset_of datasets name ≡ Some target → AllStand now_ever now parts (updated name f datasets)
    all_updated [] [] keeps all e h = cc
    all_updated [] (d ∷ ds) keeps all e h = absurd all
    all_updated (p ∷ ps) [] keeps all e h = absurd all
    all_updated (p ∷ ps) (d ∷ ds) keeps all e h =
        updated_by p ps d ds (is_named name d) refl keeps.0 keeps.1 all.0 all.1 (λ e' h'. all_updated ps ds keeps.1 all.1 e' h')
        (ap (λ (k : List ℕ). cond (same_name k name) (Some p) (dataset_named ps name)) all.0.is_of.name ∙ e) h
