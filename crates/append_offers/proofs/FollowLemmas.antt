-- What a flow of a store that is ready for its plan comes to: its batch may be committed, and it isn't unfit.
use Rattle.std.proofs.Common.{◌≡◌, inl, inr, true, List, [], ℕ, length, Option, Some, None, refl, sym, ap, ◌∙◌, subst, arith}
use Rattle.std.specs.Prelude.{IfSome, IsSomeAnd, Result, Ok, Err, IfOk}
use Rattle.std.specs.declared.alloc.AllocError.{AllocError}
use Rattle.std.proofs.lemmas.List.{length-map}
use Rattle.value_core.specs.declared.cursor.Cursor.{Cursor}
use Rattle.value_core.specs.declared.cursor.Cursor.TheVariants.{Files, At, Never}
use Rattle.value_core.specs.declared.schema.Column.{Column}
use Rattle.value_core.specs.declared.shape.Shape.{Shape}
use Rattle.value_core.specs.declared.value.Kind.{Kind}
use Rattle.value_core.specs.declared.change.Tally.{Tally}
use Rattle.value_core.specs.Bags.{in_row_order}
use Rattle.value_core.specs.Changes.{IsChange, change_of}
use Rattle.value_core.specs.NameFold.{same_name}
use Rattle.value_core.specs.Order.{Row}
use Rattle.value_core.proofs.BagLemmas.{order-in_row_order}
use Rattle.landing_core.specs.declared.landing.LandingFile.{LandingFile}
use Rattle.plan_core.specs.declared.expectation.Expectation.{Expectation}
use Rattle.plan_core.specs.declared.flow.AppendFlow.{AppendFlow}
use Rattle.plan_core.specs.declared.flow.Origin.{Origin}
use Rattle.plan_core.specs.declared.flow.Origin.TheVariants as origin
use Rattle.plan_core.specs.declared.plan.Body.TheVariants as body
use Rattle.plan_core.specs.declared.plan.Dataset.{Dataset as Part}
use Rattle.plan_core.specs.Sound.{IsSoundAppend, IsSoundBody, IsSoundFlow, IsSoundPlan, dataset_named, flow_columns, kinds_of}
use Rattle.flow_model.specs.Admission.{counts, tally}
use Rattle.flow_model.specs.Append.{append_out, append_seen, append_stop}
use Rattle.flow_kinds.specs.EventKinds as kinds
use Rattle.flow_kinds.proofs.FitTools.{all_in_order}
use Rattle.commit_payloads.specs.declared.take.Take.{Take}
use Rattle.state_keeps.specs.Stored.{IsStored}
use Rattle.state_model.specs.Dataset.{Dataset, State, cursor_of, dataset_of, flow_of}
use Rattle.state_model.specs.Follows.{FitsTake, FlowMoves, MovesOn, all_fit, is_row_of, is_view}
use Rattle.commit_payloads.specs.declared.definition.StoredFlow.{StoredFlow}
use Rattle.state_steps.specs.Parts.{AllKeepText, KeepsText, stored_body, stored_expectation, stored_flow, stored_origin, streams_of}
use Rattle.state_steps.specs.Steps.{flow_named}
use Rattle.state_steps.proofs.FlowShapes.{found_flow}
use Rattle.store_fitness.specs.Fitness.{IsReady, IsSourceNow}
use Rattle.update_plan.specs.Commits.{PartsKeepText}
use Rattle.flow_news.specs.declared.offer.FolderListing.{FolderListing}
use Rattle.flow_news.specs.declared.offer.Offer.{Offer}
use Rattle.flow_news.specs.declared.offer.Offer.TheVariants.{Halted, Idle, Ready, Unfit}
use Rattle.flow_news.specs.Commits.{MayBeTaken}
use Rattle.append_offers.specs.Offers.{IsOffer, OfCursor, OfFiles, OfOrigin, OfSource, batch_of, batch_stop}
use Rattle.flow_news.proofs.CountLemmas.{kept_within, stops_none}
use Rattle.append_offers.proofs.CursorLemmas.{IsPosition, ReadyFlow, ready_flow}
use Rattle.append_offers.proofs.FitLemmas.{first_fits, folder_fits, streamed_fits}
use Rattle.append_offers.proofs.NextLemmas.{AreNext, Made, origin_made, source_named}
use Rattle.flow_news.proofs.ReadyLemmas.{ReadyTable, found_each, ready_table, ready_there}
use Rattle.append_offers.proofs.StandLemmas.{found_all}

-- ---- a batch of rows that fit

adding_form : (rows : List Row) → IsChange (change_of [] (in_row_order rows))
adding_form rows = (tt, order-in_row_order rows, λ row h. absurd (omega (arith, h)))

some_target : (P : Dataset → Type 0) (o : Option Dataset) (d : Dataset) → o ≡ Some d → P d → IsSomeAnd o P
some_target P o d e p = subst (λ w. IsSomeAnd w P) (sym e) p

moves_by : (state : State) (f : Option StoredFlow) (c : Option Cursor) (flow : StoredFlow) (old new : Cursor) → f ≡ Some flow → c ≡ Some old → MovesOn state flow.origin old new → FlowMoves state f c new
moves_by state f c flow old new e g moves = subst (λ w. FlowMoves state w c new) (sym e) (subst (λ w. FlowMoves state (Some flow) w new) (sym g) moves)

ends_by : (state : State) (f : Option StoredFlow) (flow : StoredFlow) (behind : Cursor) → f ≡ Some flow → IsSourceNow state flow.origin behind → IfSome f (λ w. IsSourceNow state w.origin behind)
ends_by state f flow behind e ends = subst (λ o. IfSome o (λ w. IsSourceNow state w.origin behind)) (sym e) ends

-- rows that a sound flow keeps fit the columns of its target
abbrev pub SoundRowsFit : Type 0
SoundRowsFit = (source target : List Kind) (flow : AppendFlow) (xs : List Expectation) (rows : List Row) → IsSoundAppend source target flow → kinds.all_fit source rows ≡ true → kinds.all_fit target (append_out flow xs rows) ≡ true

module _ (sound_rows : SoundRowsFit) (plan : List Part) (state : State) (part : Part) (flows : List AppendFlow) (flow : AppendFlow) (target : Dataset) (body_is : part.body ≡ body.Append flows)
    (there : dataset_of state part.name ≡ Some target) (ready : ReadyTable plan state part target) (stood : ReadyFlow state target flow) (sound : IsSoundFlow plan part flow) where
  module _ (rows : List Row) (behind : Cursor) (next : AreNext state flow.origin sound.source stood.old behind rows) (runs : batch_stop flow part.expectations target.counts rows ≡ None) where
    out_fits : all_fit target.definition.columns (in_row_order (append_out flow part.expectations rows)) ≡ true
    out_fits =
        let out = sound_rows (kinds_of sound.source) (kinds_of part.columns) flow part.expectations rows sound.gives next.fit in
        subst (λ columns. all_fit columns (in_row_order (append_out flow part.expectations rows)) ≡ true) (sym (ap (λ d. d.columns) ready.defined))
        (all_in_order (is_row_of part.columns) (append_out flow part.expectations rows) out)

    expected : length part.expectations ≡ length target.definition.expectations
    expected = sym (ap (λ d. length d.expectations) ready.defined ∙ length-map part.expectations stored_expectation)

    counted : length (counts part.expectations (append_seen flow part.expectations rows)) ≡ length part.expectations
    counted = length-map part.expectations (tally (append_seen flow part.expectations rows))

    fits_take : FitsTake state (batch_of part flow behind rows) target
    fits_take = record {
      table = record {
        takes = ap (λ d. is_view d.body) ready.defined ∙ ap (λ b. is_view (stored_body b)) body_is;
        removes_none = λ e. refl;
        no_events = λ e. refl;
        are_there = λ row. omega arith;
        rows_fit = out_fits;
        events_fit = refl;
        events_new = refl;
        one_each = counted ∙ expected;
        within =
            kept_within part.expectations target.counts (counts part.expectations (append_seen flow part.expectations rows)) (ready.fits.one_each ∙ sym expected) counted
            (stops_none (append_stop flow part.expectations rows) _ runs).1;
      };
      moves = moves_by state (flow_of target flow.name) (cursor_of target flow.name) (stored_flow flow) stood.old behind stood.flow_is stood.cursor_is next.moves;
    }

    may_take : MayBeTaken state part (Ready 0 (batch_of part flow behind rows))
    may_take = (
      some_target (FitsTake state (batch_of part flow behind rows)) (dataset_of state part.name) target there fits_take,
      (next.form, adding_form (append_out flow part.expectations rows), refl),
      some_target _ (dataset_of state part.name) target there (ends_by state (flow_of target flow.name) (stored_flow flow) behind stood.flow_is next.ends),
      refl,
    )

  made_taken : (read : ℕ) (batch : Take) → Made state flow.origin sound.source part flow target.counts stood.old batch → MayBeTaken state part (Ready read batch)
  made_taken read batch made = subst (λ b. MayBeTaken state part (Ready read b)) (sym made.batch_is) (may_take made.rows made.behind made.are_next made.runs)

-- ---- it isn't unfit

module _ (part : Part) (flow : AppendFlow) (kept : List Tally) (tells : Type 0) (was now : ℕ) (files : List LandingFile) (state : State) where
  files_on : (shape : Shape) (dir : List ℕ) (listing : FolderListing) (old : Cursor) → IsPosition state (stored_origin (origin.Files dir shape)) old → OfFiles tells was now files part flow kept shape dir listing old Unfit → ⊥
  files_on shape dir listing (Files places) at (inl unfit) = unfit.0 at.form
  files_on shape dir listing (Files places) at (inr comes) = folder_fits part flow kept tells was now files files state shape dir listing places comes.1
  files_on shape dir listing (At version) at unfit = at.moved
  files_on shape dir listing Never at unfit = at.moved

  table_on : (name : List ℕ) (old : Cursor) → IsPosition state (stored_origin (origin.Table name)) old → ((d : Dataset) × (dataset_of state name ≡ Some d)) → OfSource part flow kept (dataset_of state name) old Unfit → ⊥
  table_on name (Files places) at there comes = at.moved
  table_on name (At version) at there comes = streamed_fits part flow kept (dataset_of state name) version at.fits comes
  table_on name Never at there comes = first_fits part flow kept (dataset_of state name) there.0 there.1 comes

  origin_on : (plan : List Part) (level : ℕ) (columns : List Column) (from : Origin) (listing : FolderListing) (old : Cursor) → IsPosition state (stored_origin from) old → flow_columns plan level from ≡ Some columns
      → ((name : List ℕ) (source : Part) → dataset_named plan name ≡ Some source → (d : Dataset) × (dataset_of state name ≡ Some d) × ReadyTable plan state source d)
      → OfOrigin tells was now files part flow kept state listing old from Unfit → ⊥
  origin_on plan level columns (origin.Files dir shape) listing old at reads ready comes = files_on shape dir listing old at comes
  origin_on plan level columns (origin.Table name) listing old at reads ready comes =
      let found = source_named plan level name columns reads in let source = ready name found.0 found.1 in table_on name old at (source.0, source.1) comes

-- ---- an offer

module _ (sound_rows : SoundRowsFit) (tells : Type 0) (was now : ℕ) (files : List LandingFile) (plan : List Part) (state : State) (part : Part) (flows : List AppendFlow) (flow : AppendFlow) (listing : FolderListing)
    (sound : IsSoundPlan plan) (texts : PartsKeepText plan) (ready : IsReady plan state) (stored : IsStored state) (named : dataset_named plan part.name ≡ Some part) (body_is : part.body ≡ body.Append flows)
    (is_there : flow_named flows flow.name ≡ Some flow) where
  sound_flow : IsSoundFlow plan part flow × KeepsText flow.origin
  sound_flow =
      let whole : IsSoundBody plan part part.body = found_all (λ p. IsSoundBody plan p p.body) (λ p. same_name p.name part.name) plan sound.each_dataset part named in
      let table : IsSoundBody plan part (body.Append flows) = subst (λ b. IsSoundBody plan part b) body_is whole in
      let kept : AllKeepText (streams_of part.body) = found_each (λ p. AllKeepText (streams_of p.body)) (λ p. same_name p.name part.name) plan texts part named in
      found_flow plan part flow.name flows flow table.each_flow (subst (λ b. AllKeepText (streams_of b)) body_is kept) is_there

  sources : (name : List ℕ) (source : Part) → dataset_named plan name ≡ Some source → (d : Dataset) × (dataset_of state name ≡ Some d) × ReadyTable plan state source d
  sources name source is = let found = ready_there plan state ready stored name source is in (found.0, found.1, ready_table plan state ready stored name source is found.0 found.1)

  origin_follows : (target : Dataset) → dataset_of state part.name ≡ Some target → (at : ReadyFlow state target flow) (offer : Offer) → OfOrigin tells was now files part flow target.counts state listing at.old flow.origin offer
      → MayBeTaken state part offer
  origin_follows target there at (Ready read batch) comes =
      made_taken sound_rows plan state part flows flow target body_is there (ready_table plan state ready stored part.name part named target there) at sound_flow.0 read batch
      (origin_made state part flow target.counts read batch tells was now files plan part.level listing at.old flow.origin sound_flow.0.source sound_flow.0.reads sound_flow.1 sources comes)
  origin_follows target there at Unfit comes =
      origin_on part flow target.counts tells was now files state plan part.level sound_flow.0.source flow.origin listing at.old at.position sound_flow.0.reads sources comes
  origin_follows target there at Idle comes = tt
  origin_follows target there at (Halted why) comes = tt

  target_follows : (target : Dataset) → dataset_of state part.name ≡ Some target → (offer : Offer) → OfCursor tells was now files part flow state listing target.counts (cursor_of target flow.name) offer → MayBeTaken state part offer
  target_follows target there offer comes =
      let at = ready_flow plan state part flows target flow (ready_table plan state ready stored part.name part named target there) body_is is_there in
      origin_follows target there at offer (subst (λ o. OfCursor tells was now files part flow state listing target.counts o offer) at.cursor_is comes)

  offer_follows : (offer : Offer) → IsOffer tells was now files part flow state listing (dataset_of state part.name) offer → MayBeTaken state part offer
  offer_follows offer comes =
      let found = ready_there plan state ready stored part.name part named in
      target_follows found.0 found.1 offer (subst (λ o. IsOffer tells was now files part flow state listing o offer) found.1 comes)

  -- so it is with what was answered
  pub may_follow : (result : Result Offer AllocError) → IfOk result (IsOffer tells was now files part flow state listing (dataset_of state part.name)) → IfOk result (MayBeTaken state part)
  may_follow (Ok offer) comes = offer_follows offer comes
  may_follow (Err end) comes = tt
