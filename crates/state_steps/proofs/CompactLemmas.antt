-- Folding away the versions at which nothing stands keeps a store standing.
use Rattle.std.proofs.Common.{◌≡◌, ◌⊎◌, inl, inr, ℕ, ◌≤◌, min, List, [], ◌∷◌, ◌++◌, map, Bool, true, false, cond, if◌then◌else◌, Option, Some, None, refl, sym, ap, ◌∙◌, subst, arith, flat_map, option_to_list}
use Rattle.std.specs.Prelude.{IsSomeAnd}
use Rattle.std.specs.Option.{option_map_or}
use Rattle.std.proofs.Math.Nat.{max-le, min-le_right}
use Rattle.std.proofs.lemmas.Slice.Eq.{bytes_eq-Decides}
use Rattle.value_core.specs.declared.cursor.Cursor.{Cursor}
use Rattle.value_core.specs.declared.cursor.Cursor.TheVariants.{Files, At, Never}
use Rattle.value_core.specs.Bags.{SameBag, count_of}
use Rattle.value_core.specs.NameFold.{folded as lowered, same_name}
use Rattle.value_core.specs.Order.{Row}
use Rattle.landing_core.specs.declared.landing.LandingFile.{LandingFile}
use Rattle.table_versions.specs.Versions as versions
use Rattle.table_versions.specs.Versions.{folded}
use Rattle.table_versions.proofs.VersionLemmas.{last_content}
use Rattle.plan_core.specs.declared.expectation.Expectation.{Expectation}
use Rattle.plan_core.specs.declared.flow.AppendFlow.{AppendFlow}
use Rattle.plan_core.specs.declared.flow.Cdc.{Cdc}
use Rattle.plan_core.specs.declared.flow.Origin.{Origin}
use Rattle.plan_core.specs.declared.flow.Origin.TheVariants as origin
use Rattle.plan_core.specs.declared.plan.Body.{Body}
use Rattle.plan_core.specs.declared.plan.Body.TheVariants as body
use Rattle.plan_core.specs.declared.plan.Dataset.{Dataset as Part}
use Rattle.plan_core.specs.declared.query.Query.{Query}
use Rattle.flow_model.specs.Admission.{counts}
use Rattle.flow_model.specs.Feed.{events}
use Rattle.flow_model.specs.Target.{target_rows}
use Rattle.commit_payloads.specs.declared.definition.StoredFlow.{StoredFlow}
use Rattle.commit_payloads.specs.declared.definition.StoredOrigin.TheVariants.{Table}
use Rattle.state_model.specs.Dataset.{Dataset, State, content, content_at, dataset_of, is_named, version_of}
use Rattle.state_model.specs.Saved.{base_for, compacted, folded_for, least_of, read_version, readers_of, versions_read}
use Rattle.state_keeps.proofs.FoldLemmas.{kept_base, later, least_below}
use Rattle.state_steps.specs.Consumed.{consumed, rows_of_table, CursorStands, IsKept, IsStreamed, RemoveNone, StreamStands, StreamsStand}
use Rattle.state_steps.specs.Parts.{stored_flow, stored_flows, stored_origin}
use Rattle.state_steps.specs.Stands.{AllRunThrough, AllStand, AppendStands, BodyStands, DatasetStands, FeedStands, Shows, ShowsAt, Stands, ViewStands, origins_of, out_of, seen_of, takings}
use Rattle.state_steps.proofs.EndLemmas.{has_name}
use Rattle.state_steps.proofs.Lookups.{some_same}

-- ---- numbers in a list

abbrev IsIn : ℕ → List ℕ → Type 0
IsIn v [] = ⊥
IsIn v (x ∷ xs) = (v ≡ x) ⊎ IsIn v xs

in_left : (v : ℕ) (xs ys : List ℕ) → IsIn v xs → IsIn v (xs ++ ys)
in_left v [] ys h = absurd h
in_left v (x ∷ xs) ys (inl e) = inl e
in_left v (x ∷ xs) ys (inr h) = inr (in_left v xs ys h)

in_right : (v : ℕ) (xs ys : List ℕ) → IsIn v ys → IsIn v (xs ++ ys)
in_right v [] ys h = h
in_right v (x ∷ xs) ys h = inr (in_right v xs ys h)

least_in : (v last : ℕ) (xs : List ℕ) → IsIn v xs → least_of last xs ≤ v
least_in v last [] h = absurd h
least_in v last (x ∷ xs) (inl e) = omega (arith, e, least_below (min last x) xs, min-le_right last x)
least_in v last (x ∷ xs) (inr h) = least_in v (min last x) xs h

-- ---- a dataset that is folded

module _ (was : State) where
  -- its rows now are as before
  folded_content : (d : Dataset) → content (folded_for was d) ≡ content d
  folded_content d =
      sym (last_content (folded d.table (base_for was d)))
      ∙ ap (λ (n : ℕ). versions.content_at (folded d.table (base_for was d)) n) (later was d).now
      ∙ (later was d).content (version_of d) (kept_base was d).1
      ∙ last_content d.table

  -- and so is a version that is read
  folded_kept : (d : Dataset) (v : ℕ) → base_for was d ≤ v → IsKept v d → IsKept v (folded_for was d)
  folded_kept d v at kept = (at, omega (arith, (later was d).now, kept.1))

  folded_streamed : (d : Dataset) (v : ℕ) → base_for was d ≤ v → IsStreamed v d → IsStreamed v (folded_for was d)
  folded_streamed d v at is = (folded_kept d v at is.0, subst RemoveNone (sym ((later was d).since v at)) is.1)

  base_below : (d : Dataset) (v : ℕ) → d.table.base ≤ v → IsIn v (readers_of was d.definition.name) → base_for was d ≤ v
  base_below d v above among = max-le above (least_in v (version_of d) (readers_of was d.definition.name) among)

  -- ---- by name

  found_by : (name : List ℕ) (d : Dataset) (ds : State) (old : Dataset) (here : Bool) → (dataset_of ds name ≡ Some old → dataset_of (map (folded_for was) ds) name ≡ Some (folded_for was old))
      → cond here (Some d) (dataset_of ds name) ≡ Some old → cond here (Some (folded_for was d)) (dataset_of (map (folded_for was) ds) name) ≡ Some (folded_for was old)
  found_by name d ds old true behind e = ap (λ w. Some (folded_for was w)) (some_same d old e)
  found_by name d ds old false behind e = behind e

  found_folded : (name : List ℕ) (ds : State) (old : Dataset) → dataset_of ds name ≡ Some old → dataset_of (map (folded_for was) ds) name ≡ Some (folded_for was old)
  found_folded name [] old e = cc
  found_folded name (d ∷ ds) old e = found_by name d ds old (is_named name d) (found_folded name ds old) e

  -- ---- what a flow reads

  name_back : (a b : List ℕ) → same_name b a ≡ true → same_name a b ≡ true
  name_back a b e = (bytes_eq-Decides (lowered a) (lowered b)).1 (sym ((bytes_eq-Decides (lowered b) (lowered a)).0 e))

  in_one : (v : ℕ) (b : Bool) → b ≡ true → IsIn v (option_to_list (if b then Some v else None))
  in_one v true e = inl refl
  in_one v false e = cc

  -- each version at which a flow over this origin stands is among those that are read
  abbrev IsRead : Origin → Cursor → Type 0
  IsRead from cursor = (name : List ℕ) (v : ℕ) → IsIn v (option_to_list (read_version name (stored_origin from) cursor)) → IsIn v (readers_of was name)

  -- the version is at or above the base to which the dataset of the name is folded
  at_base : (name : List ℕ) (v : ℕ) (d : Dataset) → dataset_of was name ≡ Some d → IsRead (origin.Table name) (At v) → d.table.base ≤ v → base_for was d ≤ v
  at_base name v d e read above = base_below d v above (read d.definition.name v (in_one v (same_name name d.definition.name) (name_back name d.definition.name (has_name name was d e))))

  module _ (ever : List LandingFile) where
    rows_by : (name : List ℕ) (v : ℕ) → IsRead (origin.Table name) (At v) → (o : Option Dataset) → dataset_of was name ≡ o → IsSomeAnd o (IsKept v) → rows_of_table (compacted was) name v ≡ rows_of_table was name v
    rows_by name v read None e h = absurd h
    rows_by name v read (Some d) e h =
        ap (λ p. option_map_or (λ s. content_at s v) p []) (found_folded name was d e) ∙ (later was d).content v (at_base name v d e read h.0) ∙ ap (λ p. option_map_or (λ s. content_at s v) p []) (sym e)

    kept_by : (name : List ℕ) (v : ℕ) → IsRead (origin.Table name) (At v) → (o : Option Dataset) → dataset_of was name ≡ o → IsSomeAnd o (IsKept v) → IsSomeAnd (dataset_of (compacted was) name) (IsKept v)
    kept_by name v read None e h = absurd h
    kept_by name v read (Some d) e h = subst (λ p. IsSomeAnd p (IsKept v)) (sym (found_folded name was d e)) (folded_kept d v (at_base name v d e read h.0) h)

    streamed_by : (name : List ℕ) (v : ℕ) → IsRead (origin.Table name) (At v) → (o : Option Dataset) → dataset_of was name ≡ o → IsSomeAnd o (IsStreamed v) → IsSomeAnd (dataset_of (compacted was) name) (IsStreamed v)
    streamed_by name v read None e h = absurd h
    streamed_by name v read (Some d) e h = subst (λ p. IsSomeAnd p (IsStreamed v)) (sym (found_folded name was d e)) (folded_streamed d v (at_base name v d e read h.0.0) h)

    kept_of : (v : ℕ) (o : Option Dataset) → IsSomeAnd o (IsStreamed v) → IsSomeAnd o (IsKept v)
    kept_of v None h = h
    kept_of v (Some d) h = h.0

    abbrev Stays : Origin → Cursor → Type 0
    Stays from cursor = StreamStands ever (compacted was) from cursor × (consumed ever (compacted was) from cursor ≡ consumed ever was from cursor)

    read_stays : (from : Origin) (cursor : Cursor) → IsRead from cursor → StreamStands ever was from cursor → Stays from cursor
    read_stays (origin.Files dir shape) (Files places) read stands = (stands, refl)
    read_stays (origin.Files dir shape) (At v) read stands = absurd stands
    read_stays (origin.Files dir shape) Never read stands = absurd stands
    read_stays (origin.Table name) (Files places) read stands = absurd stands
    read_stays (origin.Table name) Never read stands = (tt, refl)
    read_stays (origin.Table name) (At v) read stands =
        (streamed_by name v read (dataset_of was name) refl stands, rows_by name v read (dataset_of was name) refl (kept_of v (dataset_of was name) stands))

    view_reads : (name : List ℕ) (cursor : Cursor) → IsRead (origin.Table name) cursor → CursorStands ever was (origin.Table name) cursor → CursorStands ever (compacted was) (origin.Table name) cursor
    view_reads name (Files places) read stands = absurd stands
    view_reads name Never read stands = tt
    view_reads name (At v) read stands = kept_by name v read (dataset_of was name) refl stands

    -- ---- a dataset

    -- the versions at which these flows stand are among those that are read
    abbrev AreRead : List StoredFlow → List Cursor → Type 0
    AreRead flows cursors = (name : List ℕ) (v : ℕ) → IsIn v (versions_read name flows cursors) → IsIn v (readers_of was name)

    one_read : (from : Origin) (name : List ℕ) (cursor : Cursor) → AreRead (record { name = name; origin = stored_origin from } ∷ []) (cursor ∷ []) → IsRead from cursor
    one_read from name cursor read other v h = read other v (in_left v (option_to_list (read_version other (stored_origin from) cursor)) [] h)

    takings_stay : (flows : List AppendFlow) (cursors : List Cursor) → AreRead (map stored_flow flows) cursors → StreamsStand ever was (origins_of flows) cursors
        → StreamsStand ever (compacted was) (origins_of flows) cursors × (takings ever (compacted was) flows cursors ≡ takings ever was flows cursors)
    takings_stay [] [] read stand = (tt, refl)
    takings_stay [] (cursor ∷ cursors) read stand = absurd stand
    takings_stay (flow ∷ flows) [] read stand = absurd stand
    takings_stay (flow ∷ flows) (cursor ∷ cursors) read stand =
        let first = read_stays flow.origin cursor (λ name v h. read name v (in_left v (option_to_list (read_version name (stored_origin flow.origin) cursor)) (versions_read name (map stored_flow flows) cursors) h)) stand.0 in
        let behind = takings_stay flows cursors (λ name v h. read name v (in_right v (option_to_list (read_version name (stored_origin flow.origin) cursor)) (versions_read name (map stored_flow flows) cursors) h)) stand.1 in
        ((first.0, behind.0), λ i. record { flow = flow; rows = first.1 i } ∷ behind.1 i)

    same_rows : (d : Dataset) (rows : List Row) → SameBag (content d) rows → SameBag (content (folded_for was d)) rows
    same_rows d rows same a = ap (count_of a) (folded_content d) ∙ same a

    append_folds : (xs : List Expectation) (flows : List AppendFlow) (d : Dataset) → AreRead (map stored_flow flows) d.cursors → AppendStands ever was xs flows d → AppendStands ever (compacted was) xs flows (folded_for was d)
    append_folds xs flows d read stands =
        let both = takings_stay flows d.cursors read stands.reads in
        record {
          reads = both.0;
          runs = subst (AllRunThrough xs) (sym both.1) stands.runs;
          content_is = subst (λ t. SameBag (content (folded_for was d)) (flat_map (out_of xs) t)) (sym both.1) (same_rows d (flat_map (out_of xs) (takings ever was flows d.cursors)) stands.content_is);
          counts_are = subst (λ t. d.counts ≡ counts xs (flat_map (seen_of xs) t)) (sym both.1) stands.counts_are;
        }

    feed_folds : (xs : List Expectation) (cdc : Cdc) (d : Dataset) → AreRead (record { name = cdc.name; origin = stored_origin cdc.origin } ∷ []) d.cursors → FeedStands ever was xs cdc d → FeedStands ever (compacted was) xs cdc (folded_for was d)
    feed_folds xs cdc d read stands =
        let both = read_stays cdc.origin stands.cursor (one_read cdc.origin cdc.name stands.cursor (subst (AreRead (record { name = cdc.name; origin = stored_origin cdc.origin } ∷ [])) stands.one_flow read)) stands.reads in
        record {
          cursor = stands.cursor;
          one_flow = stands.one_flow;
          reads = both.0;
          runs = rw both.1 stands.runs;
          kept = rw both.1 stands.kept;
          content_is = rw both.1 (same_rows d (target_rows cdc (events cdc xs (consumed ever was cdc.origin stands.cursor))) stands.content_is);
          counts_are = rw both.1 stands.counts_are;
        }

    shows_folds : (xs : List Expectation) (query : Query) (d : Dataset) (rows : List Row) → Shows query xs rows d → Shows query xs rows (folded_for was d)
    shows_folds xs query d rows shows = record { result = shows.result; gives = shows.gives; content_is = same_rows d shows.result.rows shows.content_is; counts_are = shows.counts_are }

    shows_at : (xs : List Expectation) (query : Query) (d : Dataset) (cursor : Cursor) → IsRead (origin.Table query.origin) cursor → CursorStands ever was (origin.Table query.origin) cursor → ShowsAt was xs query d cursor
        → ShowsAt (compacted was) xs query (folded_for was d) cursor
    shows_at xs query d (Files places) read stands shows = absurd shows
    shows_at xs query d Never read stands shows = (same_rows d [] shows.0, shows.1)
    shows_at xs query d (At v) read stands shows =
        subst (λ rows. Shows query xs rows (folded_for was d)) (sym (rows_by query.origin v read (dataset_of was query.origin) refl stands)) (shows_folds xs query d (rows_of_table was query.origin v) shows)

    view_folds : (xs : List Expectation) (query : Query) (d : Dataset) (name : List ℕ) → AreRead (record { name = name; origin = Table query.origin } ∷ []) d.cursors → ViewStands ever was xs query d → ViewStands ever (compacted was) xs query (folded_for was d)
    view_folds xs query d name read stands =
        let reads = one_read (origin.Table query.origin) name stands.cursor (subst (AreRead (record { name = name; origin = Table query.origin } ∷ [])) stands.one_flow read) in
        record {
          cursor = stands.cursor;
          one_flow = stands.one_flow;
          reads = view_reads query.origin stands.cursor reads stands.reads;
          shows = shows_at xs query d stands.cursor reads stands.reads stands.shows;
        }

    body_folds : (part : Part) (xs : List Expectation) (b : Body) (d : Dataset) → AreRead (stored_flows part b) d.cursors → BodyStands ever was xs b d → BodyStands ever (compacted was) xs b (folded_for was d)
    body_folds part xs (body.Append flows) d read stands = append_folds xs flows d read stands
    body_folds part xs (body.Cdc cdc) d read stands = feed_folds xs cdc d read stands
    body_folds part xs (body.View query) d read stands = view_folds xs query d part.name read stands

    dataset_folds : (part : Part) (d : Dataset) → AreRead d.definition.flows d.cursors → DatasetStands ever was part d → DatasetStands ever (compacted was) part (folded_for was d)
    dataset_folds part d read stands =
        record { is_of = stands.is_of; fills = body_folds part part.expectations part.body d (subst (λ flows. AreRead flows d.cursors) stands.is_of.flows read) stands.fills }

    -- ---- all datasets

    all_fold : (parts : List Part) (ds : State) → ((name : List ℕ) (v : ℕ) → IsIn v (readers_of ds name) → IsIn v (readers_of was name)) → AllStand ever was parts ds → AllStand ever (compacted was) parts (map (folded_for was) ds)
    all_fold [] [] among all = tt
    all_fold [] (d ∷ ds) among all = absurd all
    all_fold (p ∷ ps) [] among all = absurd all
    all_fold (p ∷ ps) (d ∷ ds) among all = (
      dataset_folds p d (λ name v h. among name v (in_left v (versions_read name d.definition.flows d.cursors) (readers_of ds name) h)) all.0,
      all_fold ps ds (λ name v h. among name v (in_right v (versions_read name d.definition.flows d.cursors) (readers_of ds name) h)) all.1,
    )

pub compact_stands : (parts : List Part) (ever : List LandingFile) (state : State) → Stands parts ever state → Stands parts ever (compacted state)
compact_stands parts ever state stands = record { sound = stands.sound; each = all_fold state ever parts state (λ name v h. h) stands.each }
