-- Flows that run level by level bring a store to its end.
use Rattle.std.proofs.Common.{◌≡◌, inl, inr, ℕ, suc, ◌<◌, ◌≤◌, List, [], ◌∷◌, length, Bool, true, false, cond, Option, Some, None, refl, sym, ap, ◌∙◌, subst, arith}
use Rattle.std.specs.Prelude.{⊤, AllPairs, IsSomeAnd, slice_index_or}
use Rattle.std.proofs.lemmas.Slice.Eq.{bytes_eq-Decides}
use Rattle.value_core.specs.declared.cursor.Cursor.{Cursor}
use Rattle.value_core.specs.NameFold.{folded, same_name}
use Rattle.landing_core.specs.declared.landing.LandingFile.{LandingFile}
use Rattle.plan_core.specs.declared.flow.Origin.{Origin}
use Rattle.plan_core.specs.declared.flow.Origin.TheVariants as origin
use Rattle.plan_core.specs.declared.plan.Dataset.{Dataset as Part}
use Rattle.plan_core.specs.Sound.{IsSoundBody, dataset_named}
use Rattle.commit_payloads.specs.declared.payload.Payload.{Payload}
use Rattle.commit_payloads.specs.declared.payload.Payload.TheVariants as payload
use Rattle.state_model.specs.After.{after_payload, refreshed, taken, updated}
use Rattle.state_model.specs.Dataset.{Dataset, State, dataset_of, is_named}
use Rattle.state_steps.specs.Fresh.{AllAtEnd, AreAtEnd, Landed, reads_of}
use Rattle.state_steps.specs.Runs.{AreAllOf, AreInLevels, ComesBefore, Ends, Goes, Idle, IsAtItsEnd, IsInto, IsOneOf, RunsAll, RunsOne, Then}
use Rattle.state_steps.specs.Stands.{AllStand, Stands}
use Rattle.state_steps.specs.Steps.{Commits, IsFound}
use Rattle.state_steps.proofs.CompositionLemmas.{commit_stands}
use Rattle.state_steps.proofs.EndLemmas.{end_stays, folded_is, has_name, one_part}
use Rattle.state_steps.proofs.FitsLemmas.{Differ, not_same, pairs_head, pairs_tail}
use Rattle.state_steps.proofs.Lookups.{found_after, some_same}
use Rattle.state_steps.proofs.UniqueLemmas.{AllBelow, body_below, found_sound}

-- ---- one commit

module _ (landed : Landed) (parts : List Part) (ever : List LandingFile) (state : State) (stands : Stands parts ever state) (f : Dataset → Dataset) (same : (d : Dataset) → (f d).definition ≡ d.definition) (name : List ℕ) (q : Part)
    (target : Dataset) (found : IsFound parts state name q target) where
  origins_stay : (level : ℕ) (origins : List Origin) (cursors : List Cursor) → level ≤ q.level → AllBelow parts level origins → AreAtEnd landed state origins cursors → AreAtEnd landed (updated name f state) origins cursors
  origins_stay level [] [] less below ends = tt
  origins_stay level [] (cursor ∷ cursors) less below ends = absurd ends
  origins_stay level (from ∷ origins) [] less below ends = absurd ends
  origins_stay level (origin.Files dir lines ∷ origins) (cursor ∷ cursors) less below ends =
      (end_stays landed parts ever state stands f same name q target found level less (origin.Files dir lines) cursor tt ends.0, origins_stay level origins cursors less below ends.1)
  origins_stay level (origin.Table other ∷ origins) (cursor ∷ cursors) less below ends =
      (end_stays landed parts ever state stands f same name q target found level less (origin.Table other) cursor below.0 ends.0, origins_stay level origins cursors less below.1 ends.1)

  clash : (b : Bool) → b ≡ true → b ≡ false → ⊥
  clash true e g = cc
  clash false e g = cc

  -- a dataset of another name stays at its end
  other_by : (p : Part) (o : Option Dataset) → dataset_of state p.name ≡ o → p.level ≤ q.level → folded q.name ≡ folded name → same_name p.name q.name ≡ false → AllBelow parts p.level (reads_of p.body)
      → IsSomeAnd o (λ d. AreAtEnd landed state (reads_of p.body) d.cursors) → IsSomeAnd (dataset_of (updated name f state) p.name) (λ d. AreAtEnd landed (updated name f state) (reads_of p.body) d.cursors)
  other_by p None e less q_is apart below ends = absurd ends
  other_by p (Some d) e less q_is apart below ends =
      elim (found_after f same name p.name state d e) [
        | inl h ↦ subst (λ o. IsSomeAnd o (λ w. AreAtEnd landed (updated name f state) (reads_of p.body) w.cursors)) (sym h) (origins_stay p.level (reads_of p.body) d.cursors less below ends)
        | inr h ↦
            let p_is : folded d.definition.name ≡ folded p.name = folded_is d.definition.name p.name (has_name p.name state d e) in
            let name_is : folded d.definition.name ≡ folded name = folded_is d.definition.name name (has_name name state d h.1) in
            let one : folded p.name ≡ folded q.name = sym p_is ∙ name_is ∙ sym q_is in
            absurd (clash (same_name p.name q.name) ((bytes_eq-Decides (folded p.name) (folded q.name)).1 one) apart)
      ]

-- the part under a name is the one whose name it is
into_part : (parts : List Part) (name : List ℕ) (part q : Part) → dataset_named parts name ≡ Some part → dataset_named parts q.name ≡ Some q → same_name name q.name ≡ true → part ≡ q
into_part parts name part q e g is = some_same part q (sym e ∙ one_part parts name q.name (folded_is name q.name is) ∙ g)

module _ (landed : Landed) (parts : List Part) (q : Part) (q_is : dataset_named parts q.name ≡ Some q) (p : Part) (less : p.level ≤ q.level) (apart : same_name p.name q.name ≡ false) (below : AllBelow parts p.level (reads_of p.body)) where
  commit_stays : (ever : List LandingFile) (state : State) (commit : Payload) → Stands parts ever state → IsInto q.name commit → Commits parts ever state commit parts → IsAtItsEnd landed state p → IsAtItsEnd landed (after_payload state commit) p
  commit_stays ever state (payload.Define is_fresh list) stands into commits ends = absurd into
  commit_stays ever state (payload.Take batch) stands into commits ends =
      let takes = commits.1 in
      let is : takes.part ≡ q = into_part parts batch.table takes.part q takes.found.part_is q_is into in
      other_by landed parts ever state stands (taken batch) (λ d. refl) batch.table q takes.dataset (subst (λ w. IsFound parts state batch.table w takes.dataset) is takes.found) p (dataset_of state p.name) refl less
      (sym (folded_is batch.table q.name into)) apart below ends
  commit_stays ever state (payload.Refresh refresh) stands into commits ends =
      let r = commits.1 in
      let is : r.part ≡ q = into_part parts refresh.view r.part q r.found.part_is q_is into in
      other_by landed parts ever state stands (refreshed refresh) (λ d. refl) refresh.view q r.dataset (subst (λ w. IsFound parts state refresh.view w r.dataset) is r.found) p (dataset_of state p.name) refl less
      (sym (folded_is refresh.view q.name into)) apart below ends
  commit_stays ever state (payload.Reset names) stands into commits ends = absurd into
  commit_stays ever state (payload.Base base) stands into commits ends = absurd into

-- ---- runs

one_stands : (parts : List Part) (ever : List LandingFile) (name : List ℕ) (state last : State) → RunsOne parts ever name state last → Stands parts ever state → Stands parts ever last
one_stands parts ever name state last (Idle ps es n s) stands = stands
one_stands parts ever name state last (Goes ps es n s l commit into commits behind) stands = one_stands ps es n (after_payload s commit) l behind (commit_stands ps ps es s commit stands commits)

module _ (landed : Landed) (q p : Part) (less : p.level ≤ q.level) (apart : same_name p.name q.name ≡ false) where
  one_keeps : (parts : List Part) (ever : List LandingFile) (name : List ℕ) (state last : State) → RunsOne parts ever name state last → name ≡ q.name → dataset_named parts q.name ≡ Some q → AllBelow parts p.level (reads_of p.body)
      → Stands parts ever state → IsAtItsEnd landed state p → IsAtItsEnd landed last p
  one_keeps parts ever name state last (Idle ps es n s) named q_is below stands ends = ends
  one_keeps parts ever name state last (Goes ps es n s l commit into commits behind) named q_is below stands ends =
      one_keeps ps es n (after_payload s commit) l behind named q_is below (commit_stands ps ps es s commit stands commits)
      (commit_stays landed ps q q_is p less apart below es s commit stands (subst (λ (m : List ℕ). IsInto m commit) named into) commits ends)

all_stand : (landed : Landed) (parts order : List Part) (state last : State) → RunsAll landed parts order state last → Stands parts landed.ever state → Stands parts landed.ever last
all_stand landed parts order state last (Ends ld ps s) stands = stands
all_stand landed parts order state last (Then ld ps part rest s next l one ends behind) stands = all_stand ld ps rest next l behind (one_stands ps ld.ever part.name s next one stands)

-- a dataset at its end stays there while those behind it run
all_keep : (landed : Landed) (parts order : List Part) (state last : State) → RunsAll landed parts order state last → (p : Part) → AreInLevels parts order → ComesBefore p order → AllBelow parts p.level (reads_of p.body)
    → Stands parts landed.ever state → IsAtItsEnd landed state p → IsAtItsEnd landed last p
all_keep landed parts order state last (Ends ld ps s) p levels before below stands ends = ends
all_keep landed parts order state last (Then ld ps part rest s next l one end behind) p levels before below stands ends =
    all_keep ld ps rest next l behind p levels.2 before.1 below (one_stands ps ld.ever part.name s next one stands)
    (one_keeps ld part p before.0.0 before.0.1 ps ld.ever part.name s next one refl levels.0 below stands ends)

abbrev EachAtItsEnd : Landed → State → List Part → Type 0
EachAtItsEnd landed state [] = ⊤
EachAtItsEnd landed state (part ∷ rest) = IsAtItsEnd landed state part × EachAtItsEnd landed state rest

all_end : (landed : Landed) (parts order : List Part) (state last : State) → RunsAll landed parts order state last → AreInLevels parts order → Stands parts landed.ever state → EachAtItsEnd landed last order
all_end landed parts order state last (Ends ld ps s) levels stands = tt
all_end landed parts order state last (Then ld ps part rest s next l one end behind) levels stands =
    let stands_next = one_stands ps ld.ever part.name s next one stands in
    let sound : IsSoundBody ps part part.body = found_sound ps (λ w. IsSoundBody ps w w.body) part.name ps stands.sound.each_dataset part levels.0 in
    (all_keep ld ps rest next l behind part levels.2 levels.1 (body_below ps part part.body sound) stands_next end, all_end ld ps rest next l behind levels.2 stands_next)

-- ---- by name and by place

-- each dataset is found under the name of its part
abbrev Finds : State → List Part → State → Type 0
Finds whole [] [] = ⊤
Finds whole [] (d ∷ ds) = ⊥
Finds whole (p ∷ ps) [] = ⊥
Finds whole (p ∷ ps) (d ∷ ds) = (dataset_of whole p.name ≡ Some d) × Finds whole ps ds

name_itself : (name : List ℕ) → same_name name name ≡ true
name_itself name = (bytes_eq-Decides (folded name) (folded name)).1 refl

finds_behind : (d : Dataset) (whole : State) (ps : List Part) (ds : State) → ((n : ℕ) (q : Part) → n < length ps → is_named (slice_index_or ps n q).name d ≡ false) → Finds whole ps ds → Finds (d ∷ whole) ps ds
finds_behind d whole [] [] apart finds = tt
finds_behind d whole [] (e ∷ ds) apart finds = absurd finds
finds_behind d whole (p ∷ ps) [] apart finds = absurd finds
finds_behind d whole (p ∷ ps) (e ∷ ds) apart finds = (
  ap (λ (b : Bool). cond b (Some d) (dataset_of whole p.name)) (apart 0 p (omega arith)) ∙ finds.0,
  finds_behind d whole ps ds (λ n q h. apart (suc n) q (omega arith)) finds.1,
)

finds_all : (ever : List LandingFile) (whole : State) (ps : List Part) (ds : State) → AllPairs Differ ps → AllStand ever whole ps ds → Finds ds ps ds
finds_all ever whole [] [] differ all = tt
finds_all ever whole [] (d ∷ ds) differ all = absurd all
finds_all ever whole (p ∷ ps) [] differ all = absurd all
finds_all ever whole (p ∷ ps) (d ∷ ds) differ all =
    let own : is_named p.name d ≡ true = ap (λ (k : List ℕ). same_name k p.name) all.0.is_of.name ∙ name_itself p.name in (
      ap (λ (b : Bool). cond b (Some d) (dataset_of ds p.name)) own,
      finds_behind d ds ps ds
          (λ n q h. ap (λ (k : List ℕ). same_name k (slice_index_or ps n q).name) all.0.is_of.name ∙ not_same (same_name p.name (slice_index_or ps n q).name) (pairs_head p ps differ n q h))
          (finds_all ever whole ps ds (pairs_tail p ps differ) all.1),
    )

one_of : (landed : Landed) (state : State) (part : Part) (order : List Part) → IsOneOf part order → EachAtItsEnd landed state order → IsAtItsEnd landed state part
one_of landed state part [] is ends = absurd is
one_of landed state part (next ∷ rest) (inl e) ends = subst (IsAtItsEnd landed state) (sym e) ends.0
one_of landed state part (next ∷ rest) (inr is) ends = one_of landed state part rest is ends.1

by_place : (landed : Landed) (state : State) (order ps : List Part) (ds : State) → Finds state ps ds → AreAllOf ps order → EachAtItsEnd landed state order → AllAtEnd landed state ps ds
by_place landed state order [] [] finds all ends = tt
by_place landed state order [] (d ∷ ds) finds all ends = absurd finds
by_place landed state order (p ∷ ps) [] finds all ends = absurd finds
by_place landed state order (p ∷ ps) (d ∷ ds) finds all ends = (
  subst (λ o. IsSomeAnd o (λ w. AreAtEnd landed state (reads_of p.body) w.cursors)) finds.0 (one_of landed state p order all.0 ends),
  by_place landed state order ps ds finds.1 all.1 ends,
)

pub runs_end : (landed : Landed) (parts order : List Part) (state last : State) → Stands parts landed.ever state → AreInLevels parts order → AreAllOf parts order → RunsAll landed parts order state last
    → Stands parts landed.ever last × AllAtEnd landed last parts last
runs_end landed parts order state last stands levels all runs =
    let stands_last = all_stand landed parts order state last runs stands in (
      stands_last,
      by_place landed last order parts last (finds_all landed.ever last parts last stands_last.sound.names_differ stands_last.each) all (all_end landed parts order state last runs levels stands),
    )
