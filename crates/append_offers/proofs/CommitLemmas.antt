-- What a flow of a store that stands comes to: its batch may be committed.
use Rattle.std.proofs.Common.{◌≡◌, inl, inr, ◌↔◌, true, List, ℕ, Option, Some, None, refl, sym, subst, arith}
use Rattle.std.specs.Prelude.{IsSomeAnd, Result, Ok, Err, IfOk}
use Rattle.std.specs.declared.alloc.AllocError.{AllocError}
use Rattle.std.specs.List.{flat_map}
use Rattle.value_core.specs.declared.change.Tally.{Tally}
use Rattle.value_core.specs.declared.cursor.Cursor.{Cursor}
use Rattle.value_core.specs.declared.cursor.Cursor.TheVariants.{Files, At, Never}
use Rattle.value_core.specs.declared.cursor.FilePlace.{FilePlace}
use Rattle.value_core.specs.declared.shape.Shape.{Shape}
use Rattle.value_core.specs.Bags.{in_row_order}
use Rattle.value_core.specs.FilePlaces.{IsPlaces}
use Rattle.value_core.specs.Order.{Row}
use Rattle.net_changes.specs.Chains.{all_added}
use Rattle.table_versions.specs.Versions.{IsKept, changes_since, content_now, now_of}
use Rattle.landing_core.specs.declared.landing.LandingFile.{LandingFile}
use Rattle.landing_core.specs.declared.landing.Listed.{Listed}
use Rattle.landing_core.specs.Folders.{HoldsPresent}
use Rattle.landing_core.specs.Fresh.{reach, shrunk}
use Rattle.landing_core.specs.Names.{AreAscending}
use Rattle.landing_core.specs.Places.{AreAboveZero, placed_names}
use Rattle.landing_history.specs.Taken.{AreEnds, CanReadOn}
use Rattle.plan_core.specs.declared.flow.AppendFlow.{AppendFlow}
use Rattle.plan_core.specs.declared.flow.Origin.{Origin}
use Rattle.plan_core.specs.declared.flow.Origin.TheVariants as origin
use Rattle.plan_core.specs.declared.plan.Body.TheVariants as body
use Rattle.plan_core.specs.declared.plan.Dataset.{Dataset as Part}
use Rattle.plan_core.specs.Sound.{dataset_named}
use Rattle.flow_model.specs.Admission.{counts}
use Rattle.flow_model.specs.Append.{append_seen, append_stop}
use Rattle.flow_model.specs.Counts.{count_stop}
use Rattle.commit_payloads.specs.declared.payload.Payload.TheVariants as payload
use Rattle.commit_payloads.specs.declared.take.Take.{Take}
use Rattle.state_model.specs.Dataset.{Dataset, State, cursor_of, dataset_of}
use Rattle.state_model.specs.Follows.{counts_fit}
use Rattle.state_steps.specs.Consumed.{StreamStands}
use Rattle.state_steps.specs.Stands.{Stands, seen_of, takings}
use Rattle.state_steps.specs.Steps.{AreBetween, BodyTakes, Commits, GoesOn, Takes, flow_named}
use Rattle.flow_news.specs.declared.offer.FolderListing.{FolderListing}
use Rattle.flow_news.specs.declared.offer.FolderListing.TheVariants as folder
use Rattle.flow_news.specs.declared.offer.Offer.{Offer}
use Rattle.flow_news.specs.declared.offer.Offer.TheVariants.{Halted, Idle, Ready, Unfit}
use Rattle.flow_news.specs.Commits.{IsOfStanding}
use Rattle.flow_news.specs.News.{AreRead, IsListingFor, new_rows}
use Rattle.append_offers.specs.Offers.{Comes, IsOffer, OfCursor, OfFiles, OfFolder, OfListed, OfOrigin, OfReads, OfSource, OfTable, OfVersion, batch_of, batch_stop}
use Rattle.flow_news.proofs.CountLemmas.{counts_within, made_ready, stops_none}
use Rattle.append_offers.proofs.FitLemmas.{offer_fits}
use Rattle.flow_news.proofs.PlaceLemmas.{moves_on}
use Rattle.append_offers.proofs.StandLemmas.{StoodTable, stood_stream, stood_table}

-- the rows by which a flow goes on, of which a batch was made
pub record Going (ever : List LandingFile) (state : State) (part : Part) (flow : AppendFlow) (kept : List Tally) (old : Cursor) (read : ℕ) (batch : Take) : Type 0 where
  pub rows : List Row
  pub behind : Cursor
  pub goes_on : GoesOn ever state flow.origin old behind rows
  pub runs : batch_stop flow part.expectations kept rows ≡ None
  pub batch_is : batch ≡ batch_of part flow behind rows

module _ (ever : List LandingFile) (state : State) (part : Part) (flow : AppendFlow) (kept : List Tally) (read : ℕ) (batch : Take) where
  going_of : (old : Cursor) (rows : List Row) (behind : Cursor) → GoesOn ever state flow.origin old behind rows → Comes part flow kept old rows behind (Ready read batch) → Going ever state part flow kept old read batch
  going_of old rows behind goes (inl idle) = let wrong = idle.1 in cc
  going_of old rows behind goes (inr comes) =
      let made = made_ready (batch_stop flow part.expectations kept rows) _ read (batch_of part flow behind rows) batch comes.1 in
      record { rows = rows; behind = behind; goes_on = goes; runs = made.0; batch_is = made.2 }

  -- ---- a dataset

  module _ (name : List ℕ) (source : Dataset) (is_table : flow.origin ≡ origin.Table name) (there : dataset_of state name ≡ Some source) where
    some_source : (P : Dataset → Type 0) → P source → IsSomeAnd (dataset_of state name) P
    some_source P p = subst (λ o. IsSomeAnd o P) (sym there) p

    goes_table : (old : Cursor) (rows : List Row) → GoesOn ever state (origin.Table name) old (At (now_of source.table)) rows → GoesOn ever state flow.origin old (At (now_of source.table)) rows
    goes_table old rows goes = subst (λ o. GoesOn ever state o old (At (now_of source.table)) rows) (sym is_table) goes

    first_goes : GoesOn ever state (origin.Table name) Never (At (now_of source.table)) (in_row_order (content_now source.table))
    first_goes = record { ends = some_source _ refl; not_below = some_source _ (omega arith); between = some_source _ (refl, refl) }

    version_goes : (version : ℕ) → IsKept source.table version → GoesOn ever state (origin.Table name) (At version) (At (now_of source.table)) (all_added (changes_since source.table version))
    version_goes version is_kept = record { ends = some_source _ refl; not_below = (is_kept.1, some_source _ (omega arith)); between = some_source _ (refl, refl) }

    of_version : (version : ℕ) → OfVersion part flow kept source.table version (Ready read batch) → Going ever state part flow kept (At version) read batch
    of_version version (inl unfit) = let wrong = unfit.1 in cc
    of_version version (inr comes) = going_of (At version) _ _ (goes_table _ _ (version_goes version comes.0)) comes.1

    of_table : (cursor : Cursor) → OfTable part flow kept source.table cursor (Ready read batch) → Going ever state part flow kept cursor read batch
    of_table Never comes = going_of Never _ _ (goes_table _ _ first_goes) comes
    of_table (At version) comes = of_version version comes
    of_table (Files places) unfit = cc

  of_source : (name : List ℕ) (source : Option Dataset) (cursor : Cursor) → flow.origin ≡ origin.Table name → dataset_of state name ≡ source → OfSource part flow kept source cursor (Ready read batch)
      → Going ever state part flow kept cursor read batch
  of_source name None cursor is_table there unfit = cc
  of_source name (Some source) cursor is_table there comes = of_table name source is_table there cursor comes

  -- ---- files

  module _ (tells : Type 0) (told : tells) (was now : ℕ) (files : List LandingFile) (held : HoldsPresent files ever)
      (one_form : (places : List FilePlace) → IsPlaces places ↔ (AreAscending (placed_names places) × AreAboveZero places))
      (keeps_ends : (dir : List ℕ) (present ever : List LandingFile) (places : List FilePlace) (listing : List Listed) → CanReadOn dir present ever places listing → AreEnds dir ever places → AreEnds dir ever (reach dir present places listing))
      (finds : (state : State) (shape : Shape) (dir : List ℕ) (present ever : List LandingFile) (places : List FilePlace) (listing : List Listed) → CanReadOn dir present ever places listing → AreAscending (placed_names places)
      → AreEnds dir ever places → AreBetween ever state (origin.Files dir shape) (Files places) (Files (reach dir present places listing)) (new_rows shape dir present listing places)) where
    module _ (shape : Shape) (dir : List ℕ) (is_files : flow.origin ≡ origin.Files dir shape) (places : List FilePlace) (stands : IsPlaces places × AreEnds dir ever places) where
      goes_files : (listing : List Listed) (rows : List Row) (behind : List FilePlace) → CanReadOn dir files ever places listing → AreRead tells shape dir files listing places rows behind
          → GoesOn ever state (origin.Files dir shape) (Files places) (Files behind) rows
      goes_files listing rows behind can read = record {
        ends = (read.form, subst (λ list. AreEnds dir ever list) (sym (read.reach_is told)) (keeps_ends dir files ever places listing can stands.1));
        not_below = moves_on places behind stands.0 read.later;
        between = subst (λ list. AreBetween ever state (origin.Files dir shape) (Files places) (Files behind) list) (sym (read.rows_are told))
            (subst (λ list. AreBetween ever state (origin.Files dir shape) (Files places) (Files list) (new_rows shape dir files listing places)) (sym (read.reach_is told))
            (finds state shape dir files ever places listing can ((one_form places).0 stands.0).0 stands.1));
      }

      of_reads : (listing : List Listed) → CanReadOn dir files ever places listing → OfReads tells was now files part flow kept shape dir listing places (Ready read batch) → Going ever state part flow kept (Files places) read batch
      of_reads listing can (inl failed) = let wrong = failed.0 in cc
      of_reads listing can (inr (rows, behind, read, comes)) =
          going_of (Files places) rows (Files behind) (subst (λ o. GoesOn ever state o (Files places) (Files behind) rows) (sym is_files) (goes_files listing rows behind can read)) comes

      of_listed : (listing : List Listed) (short : Option Listed) → shrunk places listing ≡ short → IsListingFor tells (origin.Files dir shape) files (folder.Files listing)
          → OfListed tells was now files part flow kept shape dir listing places short (Ready read batch) → Going ever state part flow kept (Files places) read batch
      of_listed listing (Some short) is listed halted = cc
      of_listed listing None is listed comes = of_reads listing (record { named = listed.0; there = listed.1 told; held = held; unshrunk = is }) comes

      of_folder : (listing : FolderListing) → IsListingFor tells (origin.Files dir shape) files listing → OfFolder tells was now files part flow kept shape dir listing places (Ready read batch)
          → Going ever state part flow kept (Files places) read batch
      of_folder folder.NoFolder listed unfit = absurd unfit
      of_folder (folder.Failed before after) listed halted = cc
      of_folder (folder.Files listing) listed comes = of_listed listing (shrunk places listing) refl listed comes

    of_files : (shape : Shape) (dir : List ℕ) (listing : FolderListing) (cursor : Cursor) → flow.origin ≡ origin.Files dir shape → StreamStands ever state (origin.Files dir shape) cursor
        → IsListingFor tells (origin.Files dir shape) files listing → OfFiles tells was now files part flow kept shape dir listing cursor (Ready read batch) → Going ever state part flow kept cursor read batch
    of_files shape dir listing (Files places) is_files stands listed (inl unfit) = let wrong = unfit.1 in cc
    of_files shape dir listing (Files places) is_files stands listed (inr comes) = of_folder shape dir is_files places stands listing listed comes.1
    of_files shape dir listing (At version) is_files stands listed unfit = cc
    of_files shape dir listing Never is_files stands listed unfit = cc

    of_origin : (from : Origin) (listing : FolderListing) (cursor : Cursor) → flow.origin ≡ from → StreamStands ever state from cursor → IsListingFor tells from files listing
        → OfOrigin tells was now files part flow kept state listing cursor from (Ready read batch) → Going ever state part flow kept cursor read batch
    of_origin (origin.Files dir shape) listing cursor is stands listed comes = of_files shape dir listing cursor is stands listed comes
    of_origin (origin.Table name) listing cursor is stands listed comes = of_source name (dataset_of state name) cursor is refl comes

-- ---- it may be committed

module _ (ever : List LandingFile) (parts : List Part) (state : State) (part : Part) (flows : List AppendFlow) (flow : AppendFlow) (target : Dataset) (old : Cursor) (read : ℕ) (batch : Take)
    (named : dataset_named parts part.name ≡ Some part) (body_is : part.body ≡ body.Append flows) (is_flow : flow_named flows flow.name ≡ Some flow) (there : dataset_of state part.name ≡ Some target)
    (from : cursor_of target flow.name ≡ Some old) (stood : StoodTable ever state part flows target) where
  within : (rows : List Row) → count_stop part.expectations target.counts (counts part.expectations (append_seen flow part.expectations rows)) ≡ None → counts_fit target.counts (counts part.expectations (append_seen flow part.expectations rows)) ≡ true
  within rows none =
      let are = stood.stands.counts_are in
      subst (λ list. counts_fit list (counts part.expectations (append_seen flow part.expectations rows)) ≡ true) (sym are)
      (counts_within part.expectations part.expectations (flat_map (seen_of part.expectations) (takings ever state flows target.cursors)) (append_seen flow part.expectations rows) (subst (λ list. count_stop part.expectations list (counts part.expectations (append_seen flow part.expectations rows)) ≡ None) are none) refl)

  made_takes : (rows : List Row) (behind : Cursor) → GoesOn ever state flow.origin old behind rows → batch_stop flow part.expectations target.counts rows ≡ None → Takes parts ever state (batch_of part flow behind rows)
  made_takes rows behind goes none =
      let stops = stops_none (append_stop flow part.expectations rows) _ none in
      record {
        part = part;
        dataset = target;
        found = record { part_is = named; dataset_is = there };
        takes = subst (λ b. BodyTakes ever state part.expectations b target (batch_of part flow behind rows)) (sym body_is) (record {
          flow = flow;
          is_flow = is_flow;
          old = old;
          from = from;
          rows = rows;
          goes_on = goes;
          runs = stops.0;
          change = refl;
          counts_are = refl;
          within = within rows stops.1;
          no_events = refl;
        });
      }

  going_takes : Going ever state part flow target.counts old read batch → Takes parts ever state batch
  going_takes going = subst (λ b. Takes parts ever state b) (sym going.batch_is) (made_takes going.rows going.behind going.goes_on going.runs)

module _ (tells : Type 0) (told : tells) (was now : ℕ) (files ever : List LandingFile) (held : HoldsPresent files ever)
    (one_form : (places : List FilePlace) → IsPlaces places ↔ (AreAscending (placed_names places) × AreAboveZero places))
    (keeps_ends : (dir : List ℕ) (present ever : List LandingFile) (places : List FilePlace) (listing : List Listed) → CanReadOn dir present ever places listing → AreEnds dir ever places → AreEnds dir ever (reach dir present places listing))
    (finds : (state : State) (shape : Shape) (dir : List ℕ) (present ever : List LandingFile) (places : List FilePlace) (listing : List Listed) → CanReadOn dir present ever places listing → AreAscending (placed_names places)
    → AreEnds dir ever places → AreBetween ever state (origin.Files dir shape) (Files places) (Files (reach dir present places listing)) (new_rows shape dir present listing places))
    (parts : List Part) (state : State) (part : Part) (flows : List AppendFlow) (flow : AppendFlow) (listing : FolderListing) (read : ℕ) (batch : Take)
    (listed : IsListingFor tells flow.origin files listing) (stands : Stands parts ever state) (named : dataset_named parts part.name ≡ Some part) (body_is : part.body ≡ body.Append flows)
    (is_flow : flow_named flows flow.name ≡ Some flow) where
  of_cursor : (target : Dataset) (cursor : Option Cursor) → dataset_of state part.name ≡ Some target → cursor_of target flow.name ≡ cursor
      → OfCursor tells was now files part flow state listing target.counts cursor (Ready read batch) → Takes parts ever state batch
  of_cursor target None there from unfit = cc
  of_cursor target (Some old) there from comes =
      let stood = stood_table ever state parts part flows target stands named body_is there in
      let stream = stood_stream ever state part flows target flow old stood is_flow from in
      going_takes ever parts state part flows flow target old read batch named body_is is_flow there from stood
      (of_origin ever state part flow target.counts read batch tells told was now files held one_form keeps_ends finds flow.origin listing old refl stream listed comes)

  of_dataset : (target : Option Dataset) → dataset_of state part.name ≡ target → IsOffer tells was now files part flow state listing target (Ready read batch) → Takes parts ever state batch
  of_dataset None there unfit = cc
  of_dataset (Some target) there comes = of_cursor target (cursor_of target flow.name) there refl comes

  pub offer_commits : IsOffer tells was now files part flow state listing (dataset_of state part.name) (Ready read batch) → Commits parts ever state (payload.Take batch) parts
  offer_commits comes = (refl, of_dataset (dataset_of state part.name) refl comes)

-- so it is with what was answered
module _ (tells : Type 0) (told : tells) (was now : ℕ) (files ever : List LandingFile) (held : HoldsPresent files ever)
    (one_form : (places : List FilePlace) → IsPlaces places ↔ (AreAscending (placed_names places) × AreAboveZero places))
    (keeps_ends : (dir : List ℕ) (present ever : List LandingFile) (places : List FilePlace) (listing : List Listed) → CanReadOn dir present ever places listing → AreEnds dir ever places → AreEnds dir ever (reach dir present places listing))
    (finds : (state : State) (shape : Shape) (dir : List ℕ) (present ever : List LandingFile) (places : List FilePlace) (listing : List Listed) → CanReadOn dir present ever places listing → AreAscending (placed_names places)
    → AreEnds dir ever places → AreBetween ever state (origin.Files dir shape) (Files places) (Files (reach dir present places listing)) (new_rows shape dir present listing places))
    (parts : List Part) (state : State) (part : Part) (flows : List AppendFlow) (flow : AppendFlow) (listing : FolderListing)
    (listed : IsListingFor tells flow.origin files listing) (stands : Stands parts ever state) (named : dataset_named parts part.name ≡ Some part) (body_is : part.body ≡ body.Append flows)
    (is_flow : flow_named flows flow.name ≡ Some flow) where
  offer_may : (offer : Offer) → IsOffer tells was now files part flow state listing (dataset_of state part.name) offer → IsOfStanding parts ever state offer
  offer_may (Ready read batch) comes = offer_commits tells told was now files ever held one_form keeps_ends finds parts state part flows flow listing read batch listed stands named body_is is_flow comes
  offer_may Idle comes = tt
  offer_may (Halted why) comes = tt
  offer_may Unfit comes = offer_fits tells was now files ever parts state part flows flow listing listed stands named body_is is_flow comes

  pub may_commit : (result : Result Offer AllocError) → IfOk result (IsOffer tells was now files part flow state listing (dataset_of state part.name)) → IfOk result (IsOfStanding parts ever state)
  may_commit (Ok offer) comes = offer_may offer comes
  may_commit (Err end) comes = tt
