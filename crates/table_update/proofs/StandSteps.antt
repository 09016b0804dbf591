-- What one payload of an update makes of a table that stands.
use Rattle.std.proofs.Common.{◌≡◌, inl, inr, List, [], ◌∷◌, refl, sym, ap, ◌∙◌, subst}
use Rattle.value_core.specs.declared.cursor.Cursor.TheVariants.{Files}
use Rattle.value_core.specs.declared.cursor.FilePlace.{FilePlace}
use Rattle.value_core.specs.Bags.{SameBag, in_row_order}
use Rattle.value_core.specs.FilePlaces.{IsPlaces}
use Rattle.landing_core.specs.declared.landing.LandingFile.{LandingFile}
use Rattle.landing_core.specs.Folders.{HoldsPresent}
use Rattle.landing_core.specs.Names.{AreAscending}
use Rattle.landing_core.specs.Places.{placed_names}
use Rattle.landing_history.specs.Taken.{AreEnds, CanReadOn, HaveGrown}
use Rattle.landing_history.proofs.GrowthLemmas.{ends_kept, taken_kept}
use Rattle.landing_history.proofs.ReadingLemmas.{reach_at_ends, reading_adds}
use Rattle.landing_history.proofs.WholeReadings.{ends_above, one_form, reach_ascending}
use Rattle.store_state.specs.Dataset.{begun}
use Rattle.store_state.specs.State.{Dataset, State, after_payload, empty_state}
use Rattle.table_update.specs.declared.table.AppendTable.{AppendTable}
use Rattle.table_update.specs.Flow.{HasNews, batch, lines, listing, reach}
use Rattle.table_update.specs.Stands.{Stands, TableStands, content}
use Rattle.table_update.specs.Table.{HoldsTable, define, definition_of, rows_of}
use Rattle.table_update.proofs.ContentLemmas.{content_more, taken_by}
use Rattle.table_update.proofs.ReachLemmas.{begun_holds, taken_holds, with_rows}
use Rattle.table_update.proofs.StandListing.{can_read_on}

-- a state has one table, which has read up to one list of places
pub one_table : (table : AppendTable) (state : State) (a b : Dataset) (left right : List FilePlace) → HoldsTable table state a left → HoldsTable table state b right → left ≡ right
one_table table state a b left right one two =
    let lists : a ∷ [] ≡ b ∷ [] = sym (one.only) ∙ two.only in
    let same : a ≡ b = cc in
    let read : Files left ∷ [] ≡ Files right ∷ [] = sym (one.read) ∙ ap (λ (d : Dataset). d.cursors) same ∙ two.read in
    cc

-- ---- it stands

pub begins_standing : (table : AppendTable) (ever : List LandingFile) → TableStands table ever (after_payload empty_state (define table))
begins_standing table ever =
    record {
      dataset = begun (definition_of table);
      places = [];
      holds = begun_holds table;
      ends = tt;
      content_is = λ row. refl;
    }

ascending : (places : List FilePlace) → IsPlaces places → AreAscending (placed_names places)
ascending places form = ((one_form places).0 form).0

pub takes_standing : (table : AppendTable) (files ever : List LandingFile) (state : State) → HoldsPresent files ever → (stands : TableStands table ever state) → HasNews table files stands.places → TableStands table ever (after_payload state (batch table files stands.places))
takes_standing table files ever state held stands news =
    let places = stands.places in
    let up = ascending places stands.holds.form in
    let can : CanReadOn table.folder files ever places (listing table files) = can_read_on table files ever places held news.none_shrank in
    let ends : AreEnds table.folder ever (reach table files places) = reach_at_ends table.folder files ever places (listing table files) can stands.ends in
    let rows = in_row_order (rows_of table (lines table files places)) in
    let form : IsPlaces (reach table files places) = (one_form (reach table files places)).1 (reach_ascending table.folder files places places (listing table files) up, ends_above table.folder ever (reach table files places) ends) in
    record {
      dataset = with_rows table rows (reach table files places) stands.dataset;
      places = reach table files places;
      holds = taken_holds table state stands.dataset places rows (reach table files places) stands.holds form;
      ends = ends;
      content_is = content_more table ever stands.dataset places (reach table files places) (lines table files places) stands.content_is (reading_adds table.shape.format table.shape.header table.folder files ever places (listing table files) can up stands.ends);
    }

-- it has read as far then as its listing goes
pub takes_to : (table : AppendTable) (files ever : List LandingFile) (state : State) (held : HoldsPresent files ever) (stands : TableStands table ever state) (news : HasNews table files stands.places) → (takes_standing table files ever state held stands news).places ≡ reach table files stands.places
unfolding takes_standing
takes_to table files ever state held stands news = refl

table_grows : (table : AppendTable) (was now : List LandingFile) (state : State) → HaveGrown was now → TableStands table was state → TableStands table now state
table_grows table was now state grown stands =
    let kept : taken_by table now stands.places ≡ taken_by table was stands.places = taken_kept table.shape.format table.shape.header table.folder was now stands.places grown stands.ends in
    record {
      dataset = stands.dataset;
      places = stands.places;
      holds = stands.holds;
      ends = ends_kept table.folder was now stands.places grown stands.ends;
      content_is = subst (λ taken. SameBag (content stands.dataset) (rows_of table taken)) (sym kept) stands.content_is;
    }

pub still_stands : (table : AppendTable) (was now : List LandingFile) (state : State) → HaveGrown was now → Stands table was state → Stands table now state
still_stands table was now state grown (inl none) = inl none
still_stands table was now state grown (inr stands) = inr (table_grows table was now state grown stands)
