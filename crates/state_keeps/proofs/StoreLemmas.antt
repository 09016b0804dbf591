-- What follows a store leads to a store.
use Rattle.std.proofs.Common.{◌≡◌, ℕ, ◌<◌, ◌≤◌, ◌^◌, List, [], ◌∷◌, ◌++◌, map, drop, length, Bool, true, false, ◌||◌, cond, if◌then◌else◌, Option, Some, None, refl, sym, ap, ◌∙◌, subst, arith}
use Rattle.std.specs.Prelude.{IfSome, IsSomeAnd}
use Rattle.std.specs.List.{AllByRecursion}
use Rattle.std.proofs.lemmas.Bool.{and_parts}
use Rattle.std.proofs.lemmas.List.{length-map}
use Rattle.commit_payloads.specs.declared.definition.Definition.{Definition}
use Rattle.commit_payloads.specs.declared.payload.Payload.{Payload}
use Rattle.commit_payloads.specs.declared.payload.Payload.TheVariants as payload
use Rattle.commit_payloads.specs.declared.state.DatasetState.{DatasetState}
use Rattle.commit_payloads.specs.declared.state.State.{State as Saved}
use Rattle.commit_payloads.specs.declared.take.Refresh.{Refresh}
use Rattle.commit_payloads.specs.declared.take.Take.{Take}
use Rattle.commit_payloads.specs.Forms as forms
use Rattle.commit_payloads.specs.Forms.{AreDefinitions, IsBase, IsKept, fits_its_body}
use Rattle.state_model.specs.After.{after_payload, begun, emptied, emptied_if, emptying, is_member, refreshed, reset, taken, updated}
use Rattle.state_model.specs.Dataset.{Dataset, State, content, dataset_of, definition_of, definitions_of, is_named, version_of}
use Rattle.state_model.specs.Follows.{AllFitStored, AllHaveVersions, Fits, FitsRefresh, FitsTake, MayFollow, HasVersions, IsStore, are_distinct}
use Rattle.state_model.specs.Saved.{compacted, folded_for, kept_of, read_back, saved, side_by_side}
use Rattle.state_model.proofs.StateLemmas.{definitions-defined, definitions-reset, definitions-updated, saved-read_back}
use Rattle.state_keeps.specs.Stored.{IsStored}
use Rattle.state_keeps.proofs.DatasetLemmas.{IsGood, begun_good, emptied_good, folded_good, refreshed_good, taken_good}
use Rattle.state_keeps.proofs.FoldLemmas.{same_version}
use Rattle.state_keeps.proofs.NameLemmas.{AreFound, Rises, all_found, appended_rises, cursors_rise, grown_rises, mapped_rises, some_is, updated_rises}

abbrev AllGood : State → State → Type 0
AllGood whole ds = AllByRecursion (IsGood whole) ds

-- ---- a store is its datasets

goods_of : (whole ds : State) → AllFitStored whole ds → AllByRecursion IsKept (map kept_of ds) → AllGood whole ds
goods_of whole [] fit kept = tt
goods_of whole (d ∷ ds) fit kept = (record { fits = fit.0; form = kept.0 }, goods_of whole ds fit.1 kept.1)

fit_of : (whole ds : State) → AllGood whole ds → AllFitStored whole ds
fit_of whole [] all = tt
fit_of whole (d ∷ ds) all = (all.0.fits, fit_of whole ds all.1)

kept_in : (whole ds : State) → AllGood whole ds → AllByRecursion IsKept (map kept_of ds)
kept_in whole [] all = tt
kept_in whole (d ∷ ds) all = (all.0.form, kept_in whole ds all.1)

stored_of : (state : State) → are_distinct (definitions_of state) ≡ true → AreDefinitions (definitions_of state) → AllGood state state → IsStored state
stored_of state distinct are all = record {
  store = record { distinct = distinct; each = fit_of state state all };
  form = record { definitions = are; one_each = length-map state kept_of ∙ sym (length-map state definition_of); kept = kept_in state state all };
}

good_rises : (was now : State) → Rises was now → (d : Dataset) → IsGood was d → IsGood now d
good_rises was now rises d good = record {
  fits =
      record {
        follow = good.fits.follow;
        limit = good.fits.limit;
        rows_fit = good.fits.rows_fit;
        changes_fit = good.fits.changes_fit;
        cursors = cursors_rise was now rises d.definition.flows d.cursors good.fits.cursors;
        one_each = good.fits.one_each;
        within = good.fits.within;
        no_events = good.fits.no_events;
        events_fit = good.fits.events_fit;
      };
  form = good.form;
}

goods_rise : (was now : State) → Rises was now → (ds : State) → AllGood was ds → AllGood now ds
goods_rise was now rises [] all = tt
goods_rise was now rises (d ∷ ds) all = (good_rises was now rises d all.0, goods_rise was now rises ds all.1)

-- ---- definitions

begun_all : (whole : State) (list : List Definition) → AllGood whole (map begun list)
begun_all whole [] = tt
begun_all whole (definition ∷ list) = (begun_good whole definition, begun_all whole list)

goods_append : (whole xs ys : State) → AllGood whole xs → AllGood whole ys → AllGood whole (xs ++ ys)
goods_append whole [] ys h k = k
goods_append whole (x ∷ xs) ys h k = (h.0, goods_append whole xs ys h.1 k)

-- ---- one dataset is changed

module _ (whole : State) (f : Dataset → Dataset) where
  changed_by : (b : Bool) (o : Option Dataset) (x : Dataset) (ds behind : State) → ((d : Dataset) → cond b (Some x) o ≡ Some d → IsGood whole d → IsGood whole (f d)) → IsGood whole x → AllGood whole ds
      → (((d : Dataset) → o ≡ Some d → IsGood whole d → IsGood whole (f d)) → AllGood whole behind) → AllGood whole (if b then f x ∷ ds else x ∷ behind)
  changed_by true o x ds behind keeps h all go = (keeps x refl h, all)
  changed_by false o x ds behind keeps h all go = (h, go keeps)

  changed_all : (name : List ℕ) (ds : State) → ((d : Dataset) → dataset_of ds name ≡ Some d → IsGood whole d → IsGood whole (f d)) → AllGood whole ds → AllGood whole (updated name f ds)
  changed_all name [] keeps all = tt
  changed_all name (x ∷ ds) keeps all = changed_by (is_named name x) (dataset_of ds name) x ds (updated name f ds) keeps all.0 all.1 (λ g. changed_all name ds g all.1)

some_there : (P : Dataset → Type 0) (o : Option Dataset) (d : Dataset) → IsSomeAnd o P → o ≡ Some d → P d
some_there P None d h e = absurd h
some_there P (Some x) d h e = subst P (some_is x d e) h

if_there : (P : Dataset → Type 0) (o : Option Dataset) (d : Dataset) → IfSome o P → o ≡ Some d → P d
if_there P None d h e = cc
if_there P (Some x) d h e = subst P (some_is x d e) h

form_by : (b : Bool) (o : Option Dataset) (x d : Dataset) → fits_its_body x.definition ≡ true → (o ≡ Some d → fits_its_body d.definition ≡ true) → cond b (Some x) o ≡ Some d → fits_its_body d.definition ≡ true
form_by true o x d h behind e = subst (λ w. fits_its_body w.definition ≡ true) (some_is x d e) h
form_by false o x d h behind e = behind e

found_form : (name : List ℕ) (ds : State) (d : Dataset) → forms.all_fit (definitions_of ds) ≡ true → dataset_of ds name ≡ Some d → fits_its_body d.definition ≡ true
found_form name [] d all e = cc
found_form name (x ∷ ds) d all e =
    let parts = and_parts (fits_its_body x.definition) (forms.all_fit (definitions_of ds)) all in form_by (is_named name x) (dataset_of ds name) x d parts.0 (found_form name ds d parts.1) e

-- ---- a reset

module _ (whole : State) (names : List (List ℕ)) (versions : AllHaveVersions whole names) where
  member_by : (d : Dataset) (name : List ℕ) (b rest : Bool) → is_named name d ≡ b → ((other : List ℕ) → is_named other d ≡ true → dataset_of whole other ≡ Some d) → HasVersions whole name → (rest ≡ true → version_of d < 2 ^ 62)
      → (b || rest) ≡ true → version_of d < 2 ^ 62
  member_by d name true rest is found has behind e = if_there (λ w. version_of w < 2 ^ 62) (dataset_of whole name) d has (found name is)
  member_by d name false rest is found has behind e = behind e

  member_less : (d : Dataset) → ((other : List ℕ) → is_named other d ≡ true → dataset_of whole other ≡ Some d) → (some : List (List ℕ)) → AllHaveVersions whole some → is_member some d ≡ true → version_of d < 2 ^ 62
  member_less d found [] has e = cc
  member_less d found (name ∷ some) has e = member_by d name (is_named name d) (is_member some d) refl found has.0 (member_less d found some has.1) e

  emptied_by : (d : Dataset) (b : Bool) → is_member names d ≡ b → ((other : List ℕ) → is_named other d ≡ true → dataset_of whole other ≡ Some d) → IsGood whole d → IsGood whole (if b then emptied d else d)
  emptied_by d true is found good = emptied_good whole d good (member_less d found names versions is)
  emptied_by d false is found good = good

  emptied_all : (ds : State) → AreFound whole ds → AllGood whole ds → AllGood whole (reset names ds)
  emptied_all [] found all = tt
  emptied_all (d ∷ ds) found all = (emptied_by d (is_member names d) refl found.0 all.0, emptied_all ds found.1 all.1)

  same_by : (d : Dataset) (b : Bool) → (if b then emptied d else d).definition ≡ d.definition
  same_by d true = refl
  same_by d false = refl

  more_by : (d : Dataset) (b : Bool) → version_of d ≤ version_of (if b then emptied d else d)
  more_by d true = grown_rises d.table (emptying (content d))
  more_by d false = omega arith

-- ---- a base

definitions_back : (list : List Definition) (states : List DatasetState) → length states ≡ length list → definitions_of (side_by_side list states) ≡ list
definitions_back [] states e = refl
definitions_back (definition ∷ list) [] e = absurd (omega (arith, e))
definitions_back (definition ∷ list) (state ∷ states) e = let less : length states ≡ length list = omega (arith, e) in ap (λ (rest : List Definition). definition ∷ rest) (definitions_back list states less)

states_back : (list : List Definition) (states : List DatasetState) → length states ≡ length list → map kept_of (side_by_side list states) ≡ states
states_back [] [] e = refl
states_back [] (state ∷ states) e = absurd (omega (arith, e))
states_back (definition ∷ list) [] e = absurd (omega (arith, e))
states_back (definition ∷ list) (state ∷ states) e = let less : length states ≡ length list = omega (arith, e) in ap (λ (rest : List DatasetState). state ∷ rest) (states_back list states less)

saved_back : (base : Saved) → length base.states ≡ length base.list → saved (read_back base) ≡ base
saved_back base e = λ i. record { list = definitions_back base.list base.states e i; states = states_back base.list base.states e i }

-- ---- payloads

pub none_stored : IsStored []
none_stored = stored_of [] refl refl tt

module _ (state : State) (stored : IsStored state) where
  goods : AllGood state state
  goods = goods_of state state stored.store.each stored.form.kept

  define_keeps : (is_fresh : Bool) (list : List Definition) → MayFollow state (payload.Define is_fresh list) → AllGood (after_payload state (payload.Define is_fresh list)) (after_payload state (payload.Define is_fresh list))
      → IsStored (after_payload state (payload.Define is_fresh list))
  define_keeps is_fresh list follows all =
      let now : State = after_payload state (payload.Define is_fresh list) in
      let same : definitions_of now ≡ list = definitions-defined is_fresh list state follows.fits.kept in
      stored_of now (ap are_distinct same ∙ follows.fits.distinct) (ap forms.all_fit same ∙ follows.spelled.1) all

  same_keeps : (now : State) → definitions_of now ≡ definitions_of state → AllGood now now → IsStored now
  same_keeps now same all = stored_of now (ap are_distinct same ∙ stored.store.distinct) (ap forms.all_fit same ∙ stored.form.definitions) all

  take_keeps : (batch : Take) → MayFollow state (payload.Take batch) → IsStored (after_payload state (payload.Take batch))
  take_keeps batch follows =
      let now : State = after_payload state (payload.Take batch) in
      let rises : Rises state now = updated_rises (taken batch) (λ d. refl) (λ d. grown_rises d.table batch.change) batch.table state in
      let all : AllGood state now =
      changed_all state (taken batch) batch.table state
      (λ d e good. taken_good state batch d good (some_there (FitsTake state batch) (dataset_of state batch.table) d follows.fits e) follows.spelled.1 (if_there (λ w. version_of w < 2 ^ 62) (dataset_of state batch.table) d follows.versions e)) goods in
      same_keeps now (definitions-updated batch.table (taken batch) state (λ x. refl)) (goods_rise state now rises now all)

  refresh_keeps : (refresh : Refresh) → MayFollow state (payload.Refresh refresh) → IsStored (after_payload state (payload.Refresh refresh))
  refresh_keeps refresh follows =
      let now : State = after_payload state (payload.Refresh refresh) in
      let rises : Rises state now = updated_rises (refreshed refresh) (λ d. refl) (λ d. grown_rises d.table refresh.change) refresh.view state in
      let all : AllGood state now =
      changed_all state (refreshed refresh) refresh.view state
      (λ d e good. refreshed_good state refresh d good (some_there (FitsRefresh state refresh) (dataset_of state refresh.view) d follows.fits e) follows.spelled.1 (found_form refresh.view state d stored.form.definitions e)
      (if_there (λ w. version_of w < 2 ^ 62) (dataset_of state refresh.view) d follows.versions e)) goods in
      same_keeps now (definitions-updated refresh.view (refreshed refresh) state (λ x. refl)) (goods_rise state now rises now all)

  reset_keeps : (names : List (List ℕ)) → MayFollow state (payload.Reset names) → IsStored (after_payload state (payload.Reset names))
  reset_keeps names follows =
      let now : State = after_payload state (payload.Reset names) in
      let rises : Rises state now = mapped_rises (emptied_if names) (λ d. same_by state names follows.versions d (is_member names d)) (λ d. more_by state names follows.versions d (is_member names d)) state in
      let all : AllGood state now = emptied_all state names follows.versions state (all_found state stored.store.distinct) goods in
      same_keeps now (definitions-reset names state) (goods_rise state now rises now all)

  base_keeps : (base : Saved) → MayFollow state (payload.Base base) → IsStored (read_back base)
  base_keeps base follows = record { store = follows.fits.store; form = subst IsBase (sym (saved_back base follows.spelled.1.one_each)) follows.spelled.1 }

pub follows_keep : (state : State) (commit : Payload) → IsStored state → MayFollow state commit → IsStored (after_payload state commit)
follows_keep state (payload.Define true list) stored follows = define_keeps state stored true list follows (begun_all (map begun list) list)
follows_keep state (payload.Define false list) stored follows =
    let behind : State = map begun (drop (length state) list) in
    define_keeps state stored false list follows
    (goods_append (state ++ behind) state behind (goods_rise state (state ++ behind) (appended_rises state behind) state (goods state stored)) (begun_all (state ++ behind) (drop (length state) list)))
follows_keep state (payload.Take batch) stored follows = take_keeps state stored batch follows
follows_keep state (payload.Refresh refresh) stored follows = refresh_keeps state stored refresh follows
follows_keep state (payload.Reset names) stored follows = reset_keeps state stored names follows
follows_keep state (payload.Base base) stored follows = base_keeps state stored base follows

-- ---- a store that is folded, and one that is written

folded_definitions : (whole ds : State) → definitions_of (map (folded_for whole) ds) ≡ definitions_of ds
folded_definitions whole [] = refl
folded_definitions whole (d ∷ ds) = ap (λ (rest : List Definition). d.definition ∷ rest) (folded_definitions whole ds)

folded_all : (state whole ds : State) → AllGood state ds → AllGood state (map (folded_for whole) ds)
folded_all state whole [] all = tt
folded_all state whole (d ∷ ds) all = (folded_good state whole d all.0 (same_version whole d), folded_all state whole ds all.1)

pub folds_keep : (state : State) → IsStored state → IsStored (compacted state)
folds_keep state stored =
    let rises : Rises state (compacted state) = mapped_rises (folded_for state) (λ d. refl) (λ d. omega (arith, same_version state d)) state in
    same_keeps state stored (compacted state) (folded_definitions state state) (goods_rise state (compacted state) rises (compacted state) (folded_all state state state (goods state stored)))

pub may_begin : (state : State) → IsStored state → Fits [] (payload.Base (saved state))
may_begin state stored = record { first = refl; store = subst IsStore (sym (saved-read_back state)) stored.store }
