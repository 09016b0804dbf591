-- The payloads of an update may be committed one after the other.
use Rattle.std.proofs.Common.{◌≡◌, ℕ, List, [], ◌∷◌, ◌++◌, filter, take, drop, length, Bool, true, false, cond, ◌||◌, ◌&&◌, Some, refl, sym, ap, ◌∙◌, subst}
use Rattle.std.specs.Prelude.{is_some}
use Rattle.std.specs.List.{AllByRecursion, list_all, list_any}
use Rattle.std.specs.List.Sorted.{IsStrictlyIncreasing}
use Rattle.std.specs.Option.{option_or}
use Rattle.std.proofs.Math.Seq.{drop-append_seam, take-append_seam}
use Rattle.std.proofs.lemmas.List.{append-nil, length-map}
use Rattle.std.proofs.lemmas.List.Folds.{find-append}
use Rattle.value_core.specs.NameFold.{same_name}
use Rattle.landing_core.specs.declared.landing.LandingFile.{LandingFile}
use Rattle.plan_core.specs.declared.plan.Dataset.{Dataset as Part}
use Rattle.plan_core.specs.Sound.{IsSoundBody, IsSoundPlan, dataset_named}
use Rattle.plan_definitions.specs.Stored.{definitions_by}
use Rattle.commit_payloads.specs.declared.definition.Definition.{Definition}
use Rattle.commit_payloads.specs.declared.payload.Payload.{Payload}
use Rattle.commit_payloads.specs.declared.payload.Payload.TheVariants as payload
use Rattle.state_model.specs.After.{after_payload}
use Rattle.state_model.specs.Dataset.{State, dataset_of, definitions_of}
use Rattle.state_model.specs.Dataset as stored
use Rattle.state_steps.specs.Parts.{AllKeepText, AreTyped, streams_of}
use Rattle.state_steps.specs.Stands.{Stands}
use Rattle.state_steps.specs.Steps.{AreClosed, AreOf, Commits, TakesAllAlong}
use Rattle.stream_closure.specs.Streams.{AreStreams, IsClosureOf, edges_of, names_at}
use Rattle.update_plan.specs.declared.ends.Refresh.{Refresh}
use Rattle.update_plan.specs.declared.ends.Refresh.TheVariants as refresh
use Rattle.update_plan.specs.Commits.{AllCommit, AreOfPlan, IsOfPlan, PartsKeepText, parts_after}
use Rattle.update_plan.specs.Payloads.{AreAdditionsAndReset, ArePlanned, IsResetOf, additions, is_new, new_definitions}
use Rattle.update_plan.proofs.LookupLemmas.{agree, dataset_is, found_all, stored_is}
use Rattle.update_plan.proofs.PartLemmas.{all_stored, append_all, filter_all, from_all, map_all, parts_of, sound_together, typed_append, typed_new, typed_old}

-- ---- the laws that this stands on

abbrev pub KeepsStanding : Type 0
KeepsStanding = (parts new : List Part) (ever : List LandingFile) (state : State) (body : Payload) → Stands parts ever state → Commits parts ever state body new → Stands new ever (after_payload state body)

abbrev pub NothingStands : Type 0
NothingStands = (ever : List LandingFile) → Stands [] ever []

abbrev pub HasEdges : Type 0
HasEdges = (plan : List Part) → IsSoundPlan plan → AreStreams plan (edges_of plan)

abbrev pub ResetsClosures : Type 0
ResetsClosures = (parts : List Part) (ever : List LandingFile) (state : State) (edges : List (ℕ × ℕ)) (set places : List ℕ) → Stands parts ever state → AreStreams parts edges → IsClosureOf edges set places → IsStrictlyIncreasing places
    → Commits parts ever state (payload.Reset (names_at parts places)) parts

-- ---- lists

none_by : {A : Type 0} (p : A → Bool) (x : A) (xs : List A) (test : Bool) → (test || list_any p xs) ≡ false → (list_any p xs ≡ false → filter p xs ≡ []) → cond test (x ∷ filter p xs) (filter p xs) ≡ []
none_by p x xs true e rest = cc
none_by p x xs false e rest = rest e

none_kept : {A : Type 0} (p : A → Bool) (xs : List A) → list_any p xs ≡ false → filter p xs ≡ []
none_kept p [] e = refl
none_kept p (x ∷ xs) e = none_by p x xs (p x) e (none_kept p xs)

all_alike : (p q : List ℕ → Bool) → ((name : List ℕ) → p name ≡ q name) → (names : List (List ℕ)) → list_all p names ≡ list_all q names
all_alike p q each [] = refl
all_alike p q each (name ∷ names) = ap (λ b. b && list_all p names) (each name) ∙ ap (λ b. q name && b) (all_alike p q each names)

-- a table takes along what streams from one of these names
abbrev Along : List (List ℕ) → Part → Type 0
Along names part = TakesAllAlong names part (streams_of part.body)

closed_to : (names : List (List ℕ)) (parts : List Part) → AreClosed names parts → AllByRecursion (Along names) parts
closed_to names [] closed = tt
closed_to names (part ∷ parts) closed = (closed.0, closed_to names parts closed.1)

closed_from : (names : List (List ℕ)) (parts : List Part) → AllByRecursion (Along names) parts → AreClosed names parts
closed_from names [] all = tt
closed_from names (part ∷ parts) all = (all.0, closed_from names parts all.1)

-- ---- all anew

pub define_all : (plan parts : List Part) (ever : List LandingFile) (state : State) → IsSoundPlan plan → PartsKeepText plan → Commits parts ever state (payload.Define true (definitions_by plan)) plan
define_all plan parts ever state sound texts = record { sound = sound; begins = parts_of plan plan; typed = typed_new plan plan (λ name. refl) plan texts }

module _ (keeps : KeepsStanding) (nothing : NothingStands) (edges : HasEdges) (resets : ResetsClosures)
    (plan parts : List Part) (ever : List LandingFile) (state : State) (sound : IsSoundPlan plan) (texts : PartsKeepText plan)
    (stands : Stands parts ever state) (typed : AreTyped parts parts (definitions_of state)) (are : AreOfPlan plan parts) where
  abbrev kept_test : Part → Bool
  kept_test = is_new (definitions_of state)

  abbrev behind : List Part
  behind = filter (is_new (definitions_of state)) plan

  abbrev together : List Part
  together = parts ++ filter (is_new (definitions_of state)) plan

  same : (name : List ℕ) → dataset_named (parts ++ filter (is_new (definitions_of state)) plan) name ≡ dataset_named plan name
  same name = agree plan parts (definitions_of state) name are (stored_is ever state parts state name stands.each)

  -- ---- what is new

  goes_on : (name : List ℕ) (part : Part) → dataset_named parts name ≡ Some part → dataset_named together name ≡ Some part
  goes_on name part e = find-append (λ (p : Part). same_name p.name name) parts behind ∙ ap (λ o. option_or o (dataset_named behind name)) e

  length_is : length state ≡ length (definitions_of state)
  length_is = sym (length-map state stored.definition_of)

  first_are : take (length state) (definitions_of state ++ new_definitions plan (definitions_of state)) ≡ definitions_of state
  first_are = ap (λ n. take n (definitions_of state ++ new_definitions plan (definitions_of state))) length_is ∙ take-append_seam (definitions_of state) (new_definitions plan (definitions_of state))

  last_are : drop (length state) (definitions_of state ++ new_definitions plan (definitions_of state)) ≡ new_definitions plan (definitions_of state)
  last_are = ap (λ n. drop n (definitions_of state ++ new_definitions plan (definitions_of state))) length_is ∙ drop-append_seam (definitions_of state) (new_definitions plan (definitions_of state))

  define_new : Commits parts ever state (payload.Define false (definitions_of state ++ new_definitions plan (definitions_of state))) together
  define_new = record {
    sound = sound_together plan parts (definitions_of state) sound stands.sound are (all_stored ever state parts state stands.each) same;
    begins = (first_are, (behind, refl, subst (λ (list : List Definition). AreOf behind list) (sym last_are) (parts_of plan behind)));
    typed = typed_append together parts behind (definitions_of state) (new_definitions plan (definitions_of state))
        (typed_old parts together goes_on parts (definitions_of state) (from_all (λ (part : Part). IsSoundBody parts part part.body) parts stands.sound.each_dataset) typed)
        (typed_new together plan same behind (filter_all (λ (part : Part). AllKeepText (streams_of part.body)) kept_test plan texts));
  }

  added_by : (test : Bool) → list_any (is_new (definitions_of state)) plan ≡ test → (rest : List Payload) (final : List Part) → ((after : State) → Stands together ever after → AllCommit together ever after rest final)
      → AllCommit parts ever state (cond test (payload.Define false (definitions_of state ++ new_definitions plan (definitions_of state)) ∷ []) [] ++ rest) final
  added_by true is rest final go = (
    together,
    define_new,
    go (after_payload state (payload.Define false (definitions_of state ++ new_definitions plan (definitions_of state))))
        (keeps parts together ever state (payload.Define false (definitions_of state ++ new_definitions plan (definitions_of state))) stands define_new),
  )
  added_by false is rest final go =
      let back : together ≡ parts = ap (λ (more : List Part). parts ++ more) (none_kept (is_new (definitions_of state)) plan is) ∙ append-nil parts in
      subst (λ (p : List Part). AllCommit p ever state rest final) back (go state (subst (λ (p : List Part). Stands p ever state) (sym back) stands))

  added : (rest : List Payload) (final : List Part) → ((after : State) → Stands together ever after → AllCommit together ever after rest final) → AllCommit parts ever state (additions plan (definitions_of state) ++ rest) final
  added = added_by (list_any (is_new (definitions_of state)) plan) refl

  -- ---- a reset

  anew_stands : Stands plan ever (after_payload [] (payload.Define true (definitions_by plan)))
  anew_stands = keeps [] plan ever [] (payload.Define true (definitions_by plan)) (nothing ever) (define_all plan [] ever [] sound texts)

  found_alike : (after : State) → Stands together ever after → (name : List ℕ) → is_some (dataset_of after name) ≡ is_some (dataset_of (after_payload [] (payload.Define true (definitions_by plan))) name)
  found_alike after now name =
      dataset_is ever after together after name now.each ∙ ap is_some (same name)
      ∙ sym (dataset_is ever (after_payload [] (payload.Define true (definitions_by plan))) plan (after_payload [] (payload.Define true (definitions_by plan))) name anew_stands.each)

  closed_along : (names : List (List ℕ)) → AreClosed names plan → AreClosed names together
  closed_along names closed =
      let all : AllByRecursion (Along names) plan = closed_to names plan closed in
      closed_from names together (append_all (Along names) parts behind
      (map_all (λ (part : Part). dataset_named plan part.name ≡ Some part) (Along names) parts (λ part is. (found_all (Along names) plan part.name part all is).1) are)
      (filter_all (Along names) kept_test plan all))

  reset_at : (after : State) → Stands together ever after → (set places : List ℕ) → IsClosureOf (edges_of plan) set places → IsStrictlyIncreasing places → Commits together ever after (payload.Reset (names_at plan places)) together
  reset_at after now set places closure up =
      let one = resets plan ever (after_payload [] (payload.Define true (definitions_by plan))) (edges_of plan) set places anew_stands (edges plan sound) closure up in (
        refl,
        record {
          closed = closed_along (names_at plan places) one.1.closed;
          are_set = record {
            defined = all_alike (λ name. is_some (dataset_of after name)) (λ name. is_some (dataset_of (after_payload [] (payload.Define true (definitions_by plan))) name)) (found_alike after now) (names_at plan places) ∙ one.1.are_set.defined;
            differ = one.1.are_set.differ;
          };
        },
      )

  reset_commits : (after : State) → Stands together ever after → (names reset : List (List ℕ)) → IsResetOf plan names reset → Commits together ever after (payload.Reset reset) together
  reset_commits after now names reset is =
      subst (λ (r : List (List ℕ)). Commits together ever after (payload.Reset r) together) (sym is.names_are) (reset_at after now _ is.places is.closure is.declared_order)

  -- ---- both

  added_commit : AllCommit parts ever state (additions plan (definitions_of state)) together
  added_commit = subst (λ (list : List Payload). AllCommit parts ever state list together) (append-nil (additions plan (definitions_of state))) (added [] together (λ after now. refl))

  reset_behind : (names : List (List ℕ)) (payloads : List Payload) → AreAdditionsAndReset plan (definitions_of state) names payloads → AllCommit parts ever state payloads together
  reset_behind names payloads is = subst (λ (list : List Payload). AllCommit parts ever state list together) (sym is.2)
      (added (payload.Reset is.0 ∷ []) together (λ after now. (together, reset_commits after now names is.0 is.1, refl)))

-- ---- all payloads

module _ (keeps : KeepsStanding) (nothing : NothingStands) (edges : HasEdges) (resets : ResetsClosures)
    (plan parts : List Part) (ever : List LandingFile) (state : State) (sound : IsSoundPlan plan) (texts : PartsKeepText plan)
    (stands : Stands parts ever state) (typed : AreTyped parts parts (definitions_of state)) where
  pub planned_commit : (what : Refresh) (payloads : List Payload) → IsOfPlan plan parts what → ArePlanned plan (definitions_of state) what payloads → AllCommit parts ever state payloads (parts_after plan parts state what)
  planned_commit refresh.Nothing payloads are is =
      subst (λ (list : List Payload). AllCommit parts ever state list (parts ++ filter (is_new (definitions_of state)) plan)) (sym is) (added_commit keeps nothing edges resets plan parts ever state sound texts stands typed are)
  planned_commit refresh.All payloads are is =
      subst (λ (list : List Payload). AllCommit parts ever state list plan) (sym is) (plan, define_all plan parts ever state sound texts, refl)
  planned_commit (refresh.Only names) payloads are is = reset_behind keeps nothing edges resets plan parts ever state sound texts stands typed are names payloads is
