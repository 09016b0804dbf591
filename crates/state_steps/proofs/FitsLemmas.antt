-- A commit that is allowed, with rows and events of the right shape, follows the state of a store that stands.
use Rattle.std.proofs.Common.{◌≡◌, ℕ, suc, ◌<◌, ◌≤◌, List, [], ◌∷◌, ◌++◌, map, length, drop, Bool, true, false, not, ◌&&◌, ◌||◌, cond, if◌then◌else◌, Option, Some, None, refl, sym, ap, ◌∙◌, subst, arith, append_assoc}
use Rattle.std.specs.Prelude.{⊤, IsTrue, IsSomeAnd, AllPairs, find, is_none, slice_index_or}
use Rattle.std.specs.List.{list_all, list_any}
use Rattle.std.proofs.lemmas.List.{length-map, take-append-drop}
use Rattle.std.proofs.lemmas.Slice.Eq.{bytes_eq-Decides}
use Rattle.value_core.specs.declared.change.Change.{Change}
use Rattle.value_core.specs.declared.change.Tally.{Tally}
use Rattle.value_core.specs.declared.cursor.Cursor.{Cursor}
use Rattle.value_core.specs.declared.cursor.Cursor.TheVariants.{Files, At, Never}
use Rattle.value_core.specs.declared.event.Event.{Event}
use Rattle.value_core.specs.Bags.{count_of, net_change, surplus}
use Rattle.value_core.specs.Changes.{Holds}
use Rattle.value_core.specs.EventOrder.{same_event, same_moment}
use Rattle.value_core.specs.NameFold.{folded, same_name}
use Rattle.value_core.specs.Order.{Row}
use Rattle.value_core.proofs.BagLemmas.{count-in_row_order}
use Rattle.value_core.proofs.ChangeLemmas.{count-surplus}
use Rattle.landing_core.specs.declared.landing.LandingFile.{LandingFile}
use Rattle.plan_core.specs.declared.flow.AppendFlow.{AppendFlow}
use Rattle.plan_core.specs.declared.flow.Cdc.{Cdc}
use Rattle.plan_core.specs.declared.flow.Origin.TheVariants as origin
use Rattle.plan_core.specs.declared.plan.Body.{Body}
use Rattle.plan_core.specs.declared.plan.Body.TheVariants as body
use Rattle.plan_core.specs.declared.plan.Dataset.{Dataset as Part}
use Rattle.plan_core.specs.declared.query.Query.{Query}
use Rattle.flow_model.specs.Admission.{counts}
use Rattle.flow_model.specs.Append.{append_seen}
use Rattle.flow_model.specs.Events.{IsAmong, IsClashFree, fresh}
use Rattle.flow_model.specs.Feed.{feed_seen, given}
use Rattle.flow_model.proofs.EventTools.{clash_is, event_itself}
use Rattle.flow_model.proofs.EventSorting.{same_free}
use Rattle.flow_model.proofs.FeedLemmas.{feed_passes, given_free}
use Rattle.flow_model.proofs.FreshEvents.{among_more, kept_same}
use Rattle.flow_model.proofs.Truths.{and_right, both_true}
use Rattle.commit_payloads.specs.declared.definition.Definition.{Definition}
use Rattle.commit_payloads.specs.declared.definition.StoredBody.TheVariants.{Append, Scd1, Scd2, View}
use Rattle.commit_payloads.specs.declared.definition.StoredFlow.{StoredFlow}
use Rattle.commit_payloads.specs.declared.definition.StoredOrigin.TheVariants.{Table}
use Rattle.commit_payloads.specs.declared.payload.Payload.{Payload}
use Rattle.commit_payloads.specs.declared.payload.Payload.TheVariants as payload
use Rattle.commit_payloads.specs.declared.take.Refresh.{Refresh}
use Rattle.commit_payloads.specs.declared.take.Take.{Take}
use Rattle.state_model.specs.After.{no_tally}
use Rattle.state_model.specs.Dataset.{Dataset, State, content, cursor_in, cursor_of, dataset_of, definitions_of, flow_of, is_defined, is_flow, version_of}
use Rattle.state_model.specs.Follows.{IsStore, Fits, FitsDefine, FitsRefresh, FitsTake, FlowMoves, IsReached, Keeps, MovesOn, VersionMoves, all_fit, are_distinct, are_new, counts_fit, event_fits, is_append, is_append_body, is_view, tally_fits}
use Rattle.state_steps.specs.Consumed.{CursorStands, IsKept, consumed}
use Rattle.state_steps.proofs.FeedTakes.{kept_sorts}
use Rattle.state_steps.specs.Parts.{IsOf, stored_body, stored_expectation, stored_flow, stored_flows, stored_origin}
use Rattle.state_steps.specs.Shapes.{written_on}
use Rattle.state_model.specs.Saved.{read_back}
use Rattle.state_steps.specs.Stands.{AllStand, BodyStands, DatasetStands, FeedStands, Stands, ViewStands}
use Rattle.state_steps.specs.Steps.{AppendTakes, AreOf, BodyRefreshes, BodyTakes, Commits, Defines, FeedTakes, IsFound, Refreshes, Takes, ViewRefreshes, flow_named}
use Rattle.state_steps.proofs.EmptyLemmas.{zero_counts}
use Rattle.state_steps.proofs.Lookups.{paired, some_same}

-- ---- what a payload's rows and events are beside the rules of steps

-- rows fit the columns, and events the keys, the sequence and the columns; a base is of the shape of a store
abbrev pub HasShape : State → Payload → Type 0
HasShape state (payload.Define is_fresh list) = ⊤
HasShape state (payload.Take batch) = IsSomeAnd (dataset_of state batch.table) (λ dataset.
    (all_fit dataset.definition.columns batch.change.added ≡ true) × (list_all (event_fits dataset.definition) batch.events ≡ true))
HasShape state (payload.Refresh refresh) = IsSomeAnd (dataset_of state refresh.view) (λ dataset. all_fit dataset.definition.columns refresh.change.added ≡ true)
HasShape state (payload.Reset names) = ⊤
HasShape state (payload.Base base) = IsStore (read_back base)

-- ---- new events are of new moments

moment_by : (g k : Event) (b : Bool) → same_moment g k ≡ b → (same_moment g k ≡ true → same_event g k ≡ true) → same_event g k ≡ false → b ≡ false
moment_by g k true is go other = sym (go is) ∙ other
moment_by g k false is go other = refl

behind_by : (p q : Bool) → q ≡ true → (p || q) ≡ true
behind_by true q e = refl
behind_by false q e = e

none_by : (p q : Bool) → (p || q) ≡ false → (p ≡ false) × (q ≡ false)
none_by true q e = cc
none_by false q e = (refl, e)

or_false : (p q : Bool) → p ≡ false → q ≡ false → (p || q) ≡ false
or_false true q e f = e
or_false false q e f = f

-- an event that is none of these, and clashes with none, is of no moment of theirs
no_moment : (g : Event) (kept : List Event) → ((k : Event) → IsAmong k kept → same_moment g k ≡ true → g ≡ k) → list_any (same_event g) kept ≡ false → list_any (same_moment g) kept ≡ false
no_moment g [] clear none = refl
no_moment g (k ∷ ks) clear none =
    let both = none_by (same_event g k) (list_any (same_event g) ks) none in
    let here : IsAmong k (k ∷ ks) = ap (λ (b : Bool). b || list_any (same_event k) ks) (event_itself k) in
    or_false (same_moment g k) (list_any (same_moment g) ks)
    (moment_by g k (same_moment g k) refl (λ m. subst (λ w. same_event g w ≡ true) (clear k here m) (event_itself g)) both.0)
    (no_moment g ks (λ a h. clear a (behind_by (same_event a k) (list_any (same_event a) ks) h)) both.1)

new_by : (g : Event) (kept gs : List Event) (b : Bool) → list_any (same_event g) kept ≡ b → IsClashFree (kept ++ g ∷ gs) → are_new kept (fresh kept gs) ≡ true → are_new (kept ++ g ∷ []) (fresh (kept ++ g ∷ []) gs) ≡ true
    → are_new kept (if b then fresh kept gs else g ∷ fresh (kept ++ g ∷ []) gs) ≡ true
new_by g kept gs true is free f1 f2 = f1
new_by g kept gs false is free f1 f2 =
    let in_all : IsAmong g (kept ++ g ∷ gs) = among_after g kept (g ∷ gs) (ap (λ (b : Bool). b || list_any (same_event g) gs) (event_itself g)) in
    let none : list_any (same_moment g) kept ≡ false = no_moment g kept (λ k h m. clash_is g k m (free g k in_all (among_more k kept (g ∷ gs) h))) is in
    both (not (list_any (same_moment g) kept)) (are_new (kept ++ g ∷ []) (fresh (kept ++ g ∷ []) gs)) (ap not none) f2
  where
    both : (p q : Bool) → p ≡ true → q ≡ true → (p && q) ≡ true
    both true q e f = f
    both false q e f = e

    among_after : (e : Event) (xs ys : List Event) → IsAmong e ys → IsAmong e (xs ++ ys)
    among_after e [] ys h = h
    among_after e (x ∷ xs) ys h = behind_by (same_event e x) (list_any (same_event e) (xs ++ ys)) (among_after e xs ys h)

less_free : (kept gs : List Event) (g : Event) → IsClashFree (kept ++ g ∷ gs) → IsClashFree (kept ++ gs)
less_free kept gs g free a b ha hb = free a b (keeps a kept ha) (keeps b kept hb)
  where
    keeps : (e : Event) (xs : List Event) → IsAmong e (xs ++ gs) → IsAmong e (xs ++ g ∷ gs)
    keeps e [] h = behind_by (same_event e g) (list_any (same_event e) gs) h
    keeps e (x ∷ xs) h = by (same_event e x) (list_any (same_event e) (xs ++ gs)) (list_any (same_event e) (xs ++ g ∷ gs)) (keeps e xs) h
      where
        by : (p q r : Bool) → (q ≡ true → r ≡ true) → (p || q) ≡ true → (p || r) ≡ true
        by true q r f k = refl
        by false q r f k = f k

pub fresh_new : (kept gs : List Event) → IsClashFree (kept ++ gs) → are_new kept (fresh kept gs) ≡ true
fresh_new kept [] free = refl
fresh_new kept (g ∷ gs) free =
    new_by g kept gs (list_any (same_event g) kept) refl free (fresh_new kept gs (less_free kept gs g free))
    (fresh_new (kept ++ g ∷ []) gs (subst IsClashFree (sym (append_assoc kept (g ∷ []) gs)) free))

-- ---- removed rows are there

net_holds : (old new : List Row) (change : Change) → change ≡ net_change old new → Holds old change.removed
net_holds old new change e a = omega (arith, ap (λ (c : Change). count_of a c.removed) e, count-in_row_order a (surplus old new), count-surplus a old new)

none_holds : (rows removed : List Row) → removed ≡ [] → Holds rows removed
none_holds rows removed e a = omega (arith, ap (count_of a) e)

-- ---- one count an expectation

one_each_of : (part : Part) (definition : Definition) (rows : List Row) → IsOf part definition → length (counts part.expectations rows) ≡ length definition.expectations
one_each_of part definition rows is_of = simp length-map (sym (ap length is_of.expectations ∙ length-map part.expectations stored_expectation))

-- ---- the flow of a batch

flow_by : (name : List ℕ) (f : AppendFlow) (fs : List AppendFlow) (here : Bool) → ((flow : AppendFlow) → flow_named fs name ≡ Some flow → find (is_flow name) (map stored_flow fs) ≡ Some (stored_flow flow))
    → (flow : AppendFlow) → cond here (Some f) (flow_named fs name) ≡ Some flow → cond here (Some (stored_flow f)) (find (is_flow name) (map stored_flow fs)) ≡ Some (stored_flow flow)
flow_by name f fs true behind flow e = ap (λ w. Some (stored_flow w)) (some_same f flow e)
flow_by name f fs false behind flow e = behind flow e

stored_flow_is : (name : List ℕ) (flows : List AppendFlow) (flow : AppendFlow) → flow_named flows name ≡ Some flow → find (is_flow name) (map stored_flow flows) ≡ Some (stored_flow flow)
stored_flow_is name [] flow e = cc
stored_flow_is name (f ∷ fs) flow e = flow_by name f fs (same_name f.name name) (stored_flow_is name fs) flow e

moves_by : (state : State) (f : Option StoredFlow) (c : Option Cursor) (flow : StoredFlow) (old new : Cursor) → f ≡ Some flow → c ≡ Some old → MovesOn state flow.origin old new → FlowMoves state f c new
moves_by state f c flow old new e g moves = subst (λ w. FlowMoves state w c new) (sym e) (subst (λ w. FlowMoves state (Some flow) w new) (sym g) moves)

-- ---- a batch

append_is : (dataset : Dataset) (part : Part) (flows : List AppendFlow) → dataset.definition.body ≡ Append → is_view dataset.definition.body ≡ false
append_is dataset part flows e = ap is_view e

feed_view : (b : Bool) → is_view (if b then Scd2 else Scd1) ≡ false
feed_view true = refl
feed_view false = refl

feed_append : (b : Bool) → is_append_body (if b then Scd2 else Scd1) ≡ false
feed_append true = refl
feed_append false = refl

both_ways : (b : Bool) → b ≡ false → b ≡ true → ⊥
both_ways true e f = cc
both_ways false e f = cc

abbrev RightShape : Dataset → Take → Type 0
RightShape dataset batch = (all_fit dataset.definition.columns batch.change.added ≡ true) × (list_all (event_fits dataset.definition) batch.events ≡ true)

module _ (ever : List LandingFile) (state : State) (part : Part) (dataset : Dataset) (batch : Take) (is_of : IsOf part dataset.definition) (shape : RightShape dataset batch) where
  append_fits : (flows : List AppendFlow) → dataset.definition.body ≡ Append → dataset.definition.flows ≡ map stored_flow flows → AppendTakes ever state part.expectations flows dataset batch → FitsTake state batch dataset
  append_fits flows body_is flows_are takes = record {
    table = record {
      takes = ap is_view body_is;
      removes_none = λ e. ap (λ (c : Change). c.removed) takes.change;
      no_events = λ e. takes.no_events;
      are_there = none_holds (content dataset) batch.change.removed (ap (λ (c : Change). c.removed) takes.change);
      rows_fit = shape.0;
      events_fit = shape.1;
      events_new = ap (are_new dataset.events) takes.no_events;
      one_each = ap length takes.counts_are ∙ one_each_of part dataset.definition (append_seen takes.flow part.expectations takes.rows) is_of;
      within = takes.within;
    };
    moves =
        moves_by state (flow_of dataset batch.flow) (cursor_of dataset batch.flow) (stored_flow takes.flow) takes.old batch.cursor
        (ap (find (is_flow batch.flow)) flows_are ∙ stored_flow_is batch.flow flows takes.flow takes.is_flow) takes.from takes.goes_on.not_below;
  }

  feed_fits : (cdc : Cdc) → dataset.definition.body ≡ (if cdc.scd2 then Scd2 else Scd1) → dataset.definition.flows ≡ record { name = cdc.name; origin = stored_origin cdc.origin } ∷ [] → FeedStands ever state part.expectations cdc dataset
      → FeedTakes ever state part.expectations cdc dataset batch → FitsTake state batch dataset
  feed_fits cdc body_is flows_are stood takes =
      let not_append : is_append dataset.definition ≡ false = ap is_append_body body_is ∙ feed_append cdc.scd2 in
      let was : List Row = consumed ever state cdc.origin stood.cursor in
      let in_order = kept_sorts cdc part.expectations was dataset.events stood.runs stood.kept in
      let kept_free : IsClashFree dataset.events = same_free (given cdc part.expectations was) dataset.events (λ e. sym (kept_same dataset.events (given cdc part.expectations was) in_order e)) (given_free cdc part.expectations was stood.runs) in
      let all_free : IsClashFree (dataset.events ++ given cdc part.expectations takes.rows) = (feed_passes cdc part.expectations 1 takes.rows dataset.events kept_free takes.runs).1 in
      record {
        table = record {
          takes = ap is_view body_is ∙ feed_view cdc.scd2;
          removes_none = λ e. absurd (both_ways (is_append dataset.definition) not_append e);
          no_events = λ e. absurd (both_ways (is_append dataset.definition) not_append e);
          are_there = net_holds (content dataset) _ batch.change takes.change;
          rows_fit = shape.0;
          events_fit = shape.1;
          events_new = ap (are_new dataset.events) takes.events_are ∙ fresh_new dataset.events (given cdc part.expectations takes.rows) all_free;
          one_each = ap length takes.counts_are ∙ one_each_of part dataset.definition (feed_seen cdc part.expectations takes.rows) is_of;
          within = takes.within;
        };
        moves =
            moves_by state (flow_of dataset batch.flow) (cursor_of dataset batch.flow) (record { name = cdc.name; origin = stored_origin cdc.origin }) takes.old batch.cursor
            (ap (find (is_flow batch.flow)) flows_are
            ∙ ap (λ (b : Bool). cond b (Some (let f : StoredFlow = record { name = cdc.name; origin = stored_origin cdc.origin } in f)) None) takes.is_flow) takes.from takes.goes_on.not_below;
      }

  body_fits : (b : Body) → dataset.definition.body ≡ stored_body b → dataset.definition.flows ≡ stored_flows part b → BodyStands ever state part.expectations b dataset → BodyTakes ever state part.expectations b dataset batch
      → FitsTake state batch dataset
  body_fits (body.Append flows) body_is flows_are stood takes = append_fits flows body_is flows_are takes
  body_fits (body.Cdc cdc) body_is flows_are stood takes = feed_fits cdc body_is flows_are stood takes
  body_fits (body.View query) body_is flows_are stood takes = absurd takes

-- the parts that are found with a dataset are those with which it stands
pub found_stands : (parts : List Part) (ever : List LandingFile) (state : State) (name : List ℕ) (part : Part) (dataset : Dataset) → Stands parts ever state → IsFound parts state name part dataset → DatasetStands ever state part dataset
found_stands parts ever state name part dataset stands found =
    let pair = paired ever state parts state name stands.each dataset found.dataset_is in
    subst (λ p. DatasetStands ever state p dataset) (some_same pair.0 part (sym pair.1 ∙ found.part_is)) pair.2

pub some_fits : (P : Dataset → Type 0) (o : Option Dataset) (dataset : Dataset) → o ≡ Some dataset → P dataset → IsSomeAnd o P
some_fits P o dataset e p = subst (λ w. IsSomeAnd w P) (sym e) p

some_has : (P : Dataset → Type 0) (o : Option Dataset) (dataset : Dataset) → o ≡ Some dataset → IsSomeAnd o P → P dataset
some_has P o dataset e p = subst (λ w. IsSomeAnd w P) e p

pub take_fits : (parts : List Part) (ever : List LandingFile) (state : State) (batch : Take) → Stands parts ever state → Takes parts ever state batch → HasShape state (payload.Take batch) → Fits state (payload.Take batch)
take_fits parts ever state batch stands takes shape =
    let stood = found_stands parts ever state batch.table takes.part takes.dataset stands takes.found in
    some_fits (FitsTake state batch) (dataset_of state batch.table) takes.dataset takes.found.dataset_is
    (body_fits ever state takes.part takes.dataset batch stood.is_of (some_has (λ d. RightShape d batch) (dataset_of state batch.table) takes.dataset takes.found.dataset_is shape) takes.part.body stood.is_of.body stood.is_of.flows stood.fills
    takes.takes)

-- ---- a refresh

name_itself : (name : List ℕ) → same_name name name ≡ true
name_itself name = (bytes_eq-Decides (folded name) (folded name)).1 refl

one_by : (b : Bool) (cursor : Cursor) → b ≡ true → (if b then Some cursor else None) ≡ Some cursor
one_by true cursor e = refl
one_by false cursor e = cc

-- as many counts as fit beside others
pub counted : (kept more : List Tally) → counts_fit kept more ≡ true → length more ≡ length kept
counted [] [] e = refl
counted [] (m ∷ ms) e = cc
counted (k ∷ ks) [] e = cc
counted (k ∷ ks) (m ∷ ms) e = ap suc (counted ks ms (and_right (tally_fits k m) (counts_fit ks ms) e))

-- a view's version doesn't fall
version_on : (state : State) (name : List ℕ) (source : Dataset) (cursor : Cursor) → dataset_of state name ≡ Some source → (o : Option Dataset) → o ≡ Some source
    → IsReached state name (version_of source) → (ever : List LandingFile) → CursorStands ever state (origin.Table name) cursor → VersionMoves state name cursor (At (version_of source))
version_on state name source (Files places) e o h reached ever stands = absurd stands
version_on state name source Never e o h reached ever stands = reached
version_on state name source (At old) e o h reached ever stands = ((some_has (IsKept old) (dataset_of state name) source e stands).1, reached)

module _ (ever : List LandingFile) (state : State) (part : Part) (query : Query) (dataset : Dataset) (refresh : Refresh) (is_of : IsOf part dataset.definition) (body_is : dataset.definition.body ≡ View)
    (flows_are : dataset.definition.flows ≡ record { name = part.name; origin = Table query.origin } ∷ []) (shape : all_fit dataset.definition.columns refresh.change.added ≡ true)
    (stood : ViewStands ever state part.expectations query dataset) (r : ViewRefreshes state part.expectations query dataset refresh) where
  own : same_name part.name dataset.definition.name ≡ true
  own = ap (same_name part.name) is_of.name ∙ name_itself part.name

  abbrev flow : StoredFlow
  flow = record { name = part.name; origin = Table query.origin }

  reached : IsReached state query.origin (version_of r.source)
  reached = some_fits (λ d. version_of r.source ≤ version_of d) (dataset_of state query.origin) r.source r.source_is (omega arith)

  moves_on : MovesOn state (Table query.origin) stood.cursor refresh.cursor
  moves_on =
      subst (MovesOn state (Table query.origin) stood.cursor) (sym r.cursor_is) (version_on state query.origin r.source stood.cursor r.source_is (dataset_of state query.origin) r.source_is reached ever stood.reads)

  view_fits : FitsRefresh state refresh dataset
  view_fits = record {
    view = ap is_view body_is;
    are_there = net_holds (content dataset) r.result.rows refresh.change r.change;
    rows_fit = shape;
    one_each = counted (counts part.expectations []) refresh.counts r.within ∙ one_each_of part dataset.definition [] is_of;
    within = ap (λ c. counts_fit c refresh.counts) (ap (map no_tally) is_of.expectations ∙ zero_counts part.expectations) ∙ r.within;
    moves =
        moves_by state (flow_of dataset dataset.definition.name) (cursor_of dataset dataset.definition.name) flow stood.cursor refresh.cursor
        (ap (find (is_flow dataset.definition.name)) flows_are ∙ ap (λ (b : Bool). cond b (Some flow) None) own)
        ((λ i. cursor_in (flows_are i) (stood.one_flow i) dataset.definition.name) ∙ one_by (same_name part.name dataset.definition.name) stood.cursor own) moves_on;
  }

refresh_body : (ever : List LandingFile) (state : State) (part : Part) (b : Body) (dataset : Dataset) (refresh : Refresh) → IsOf part dataset.definition → dataset.definition.body ≡ stored_body b
    → dataset.definition.flows ≡ stored_flows part b → all_fit dataset.definition.columns refresh.change.added ≡ true → BodyStands ever state part.expectations b dataset → BodyRefreshes state part.expectations b dataset refresh
    → FitsRefresh state refresh dataset
refresh_body ever state part (body.Append flows) dataset refresh is_of body_is flows_are shape stood r = absurd r
refresh_body ever state part (body.Cdc cdc) dataset refresh is_of body_is flows_are shape stood r = absurd r
refresh_body ever state part (body.View query) dataset refresh is_of body_is flows_are shape stood r = view_fits ever state part query dataset refresh is_of body_is flows_are shape stood r

pub refresh_fits : (parts : List Part) (ever : List LandingFile) (state : State) (refresh : Refresh) → Stands parts ever state → Refreshes parts state refresh → HasShape state (payload.Refresh refresh) → Fits state (payload.Refresh refresh)
refresh_fits parts ever state refresh stands r shape =
    let stood = found_stands parts ever state refresh.view r.part r.dataset stands r.found in
    some_fits (FitsRefresh state refresh) (dataset_of state refresh.view) r.dataset r.found.dataset_is
    (refresh_body ever state r.part r.part.body r.dataset refresh stood.is_of stood.is_of.body stood.is_of.flows
    (some_has (λ d. all_fit d.definition.columns refresh.change.added ≡ true) (dataset_of state refresh.view) r.dataset r.found.dataset_is shape) stood.fills r.refreshes)

-- ---- definitions

abbrev pub Differ : Part → Part → Type 0
Differ a b = IsTrue (not (same_name a.name b.name))

-- the pairs of a list are those of its first one with the others, and those of the others
pub pairs_head : (p : Part) (ps : List Part) → AllPairs Differ (p ∷ ps) → (n : ℕ) (d : Part) → n < length ps → Differ p (slice_index_or ps n d)
pairs_head p ps all n d h = all 0 (suc n) d (omega arith) (omega arith)

pub pairs_tail : (p : Part) (ps : List Part) → AllPairs Differ (p ∷ ps) → AllPairs Differ ps
pairs_tail p ps all i j d h k = all (suc i) (suc j) d (omega arith) (omega arith)

pub not_same : (b : Bool) → IsTrue (not b) → b ≡ false
not_same true e = cc
not_same false e = refl

name_back : (a b : List ℕ) → same_name b a ≡ true → same_name a b ≡ true
name_back a b e = (bytes_eq-Decides (folded a) (folded b)).1 (sym ((bytes_eq-Decides (folded b) (folded a)).0 e))

turned : (p q : Bool) → (p ≡ true → q ≡ true) → q ≡ false → p ≡ false
turned true q f e = sym (f refl) ∙ e
turned false q f e = refl

-- no later definition has the name of the first
none_named : (name : List ℕ) (ps : List Part) (list : List Definition) → AreOf ps list → ((n : ℕ) (d : Part) → n < length ps → same_name name (slice_index_or ps n d).name ≡ false) → find (is_defined name) list ≡ None
none_named name [] [] are clear = refl
none_named name [] (d ∷ ds) are clear = absurd are
none_named name (p ∷ ps) [] are clear = absurd are
none_named name (p ∷ ps) (d ∷ ds) are clear =
    let here : same_name d.name name ≡ false = turned (same_name d.name name) (same_name name p.name) (λ e. name_back name p.name (ap (λ (k : List ℕ). same_name k name) (sym are.0.name) ∙ e)) (clear 0 p (omega arith)) in
    ap (λ (b : Bool). cond b (Some d) (find (is_defined name) ds)) here ∙ none_named name ps ds are.1 (λ n q h. clear (suc n) q (omega arith))

pub distinct_list : (ps : List Part) (list : List Definition) → AllPairs Differ ps → AreOf ps list → are_distinct list ≡ true
distinct_list [] [] all are = refl
distinct_list [] (d ∷ ds) all are = absurd are
distinct_list (p ∷ ps) [] all are = absurd are
distinct_list (p ∷ ps) (d ∷ ds) all are =
    let none : find (is_defined d.name) ds ≡ None = none_named d.name ps ds are.1 (λ n q h. ap (λ (k : List ℕ). same_name k (slice_index_or ps n q).name) are.0.name ∙ not_same (same_name p.name (slice_index_or ps n q).name) (pairs_head p ps all n q h)) in
    both_true (is_none (find (is_defined d.name) ds)) (are_distinct ds) (ap is_none none) (distinct_list ps ds (pairs_tail p ps all) are.1)

pub stored_are : (ever : List LandingFile) (whole : State) (ps : List Part) (ds : State) → AllStand ever whole ps ds → AreOf ps (definitions_of ds)
stored_are ever whole [] [] all = tt
stored_are ever whole [] (d ∷ ds) all = absurd all
stored_are ever whole (p ∷ ps) [] all = absurd all
stored_are ever whole (p ∷ ps) (d ∷ ds) all = (all.0.is_of, stored_are ever whole ps ds all.1)

are_more : (ps qs : List Part) (list more : List Definition) → AreOf ps list → AreOf qs more → AreOf (ps ++ qs) (list ++ more)
are_more [] qs [] more a b = b
are_more [] qs (d ∷ ds) more a b = absurd a
are_more (p ∷ ps) qs [] more a b = absurd a
are_more (p ∷ ps) qs (d ∷ ds) more a b = (a.0, are_more ps qs ds more a.1 b)

-- the definitions are those of the parts
pub defined_are : (parts new : List Part) (ever : List LandingFile) (state : State) (is_fresh : Bool) (list : List Definition) → Stands parts ever state → Defines parts new state is_fresh list → AreOf new list
defined_are parts new ever state true list stands defines = defines.begins
defined_are parts new ever state false list stands defines =
    let begins = defines.begins in
    let behind : List Definition = drop (length state) list in
    let whole : definitions_of state ++ behind ≡ list = ap (λ (l : List Definition). l ++ behind) (sym begins.0) ∙ take-append-drop (length state) list in
    let are : AreOf (parts ++ begins.1.0) (definitions_of state ++ behind) = are_more parts begins.1.0 (definitions_of state) behind (stored_are ever state parts state stands.each) begins.1.2 in
    subst (λ p. AreOf p list) (sym begins.1.1) (subst (AreOf (parts ++ begins.1.0)) whole are)

define_keeps : (parts new : List Part) (state : State) (is_fresh : Bool) (list : List Definition) → Defines parts new state is_fresh list → Keeps state is_fresh list
define_keeps parts new state true list defines = tt
define_keeps parts new state false list defines = defines.begins.0

pub define_fits : (parts new : List Part) (ever : List LandingFile) (state : State) (is_fresh : Bool) (list : List Definition) → Stands parts ever state → Defines parts new state is_fresh list → FitsDefine state is_fresh list
define_fits parts new ever state is_fresh list stands defines = record {
  distinct = distinct_list new list defines.sound.names_differ (defined_are parts new ever state is_fresh list stands defines);
  kept = define_keeps parts new state is_fresh list defines;
}

-- ---- all

pub commit_fits : (parts new : List Part) (ever : List LandingFile) (state : State) (body : Payload) → Stands parts ever state → Commits parts ever state body new → HasShape state body → Fits (written_on state body) body
commit_fits parts new ever state (payload.Define is_fresh list) stands commits shape = define_fits parts new ever state is_fresh list stands commits
commit_fits parts new ever state (payload.Take batch) stands commits shape = take_fits parts ever state batch stands commits.1 shape
commit_fits parts new ever state (payload.Refresh refresh) stands commits shape = refresh_fits parts ever state refresh stands commits.1 shape
commit_fits parts new ever state (payload.Reset names) stands commits shape = commits.1.are_set
commit_fits parts new ever state (payload.Base base) stands commits shape = record { first = refl; store = shape }
