-- What a state that payloads lead to holds of a table.
use Rattle.std.proofs.Common.{◌≡◌, ℕ, ◌+◌, Bool, true, false, List, [], ◌∷◌, ◌++◌, length, map, drop, Some, refl, sym, ap, ◌∙◌, subst, arith}
use Rattle.std.specs.Prelude.{IsSomeAnd, find}
use Rattle.std.specs.Option.{option_and_then}
use Rattle.std.proofs.lemmas.List.{length_push}
use Rattle.std.proofs.lemmas.Slice.Eq.{bytes_eq-Decides}
use Rattle.value_core.specs.declared.change.Tally.{Tally}
use Rattle.value_core.specs.declared.cursor.Cursor.{Cursor}
use Rattle.value_core.specs.declared.cursor.Cursor.TheVariants.{Files, At, Never}
use Rattle.value_core.specs.declared.cursor.FilePlace.{FilePlace}
use Rattle.value_core.specs.FilePlaces.{IsPlaces}
use Rattle.value_core.specs.NameFold.{same_name, folded}
use Rattle.value_core.specs.Order.{Row}
use Rattle.commit_records.specs.declared.definition.Definition.{Definition}
use Rattle.commit_records.specs.declared.definition.StoredFlow.{StoredFlow}
use Rattle.commit_records.specs.declared.definition.StoredOrigin.{StoredOrigin}
use Rattle.commit_records.specs.declared.definition.StoredOrigin.TheVariants.{Folder, Table}
use Rattle.commit_records.specs.declared.payload.Payload.{Payload}
use Rattle.commit_records.specs.declared.payload.Payload.TheVariants as payload
use Rattle.commit_records.specs.declared.take.Take.{Take}
use Rattle.commit_records.specs.Forms.{IsProgress}
use Rattle.store_state.specs.Dataset.{Dataset, State, empty_state, after_payload, begun, begun_cursor, cursor_in, cursor_of, dataset_of, defined, first_cursor, is_flow, is_named, moved, no_tally, taken, updated, version_of}
use Rattle.store_state.specs.Dataset as dataset
use Rattle.store_state.specs.Follows.{FilesMove, FitsTake, FlowMoves, MayFollow, MovesOn}
use Rattle.store_state.proofs.FirstLemmas.{by_cases}
use Rattle.store_core.specs.Reach.{IsReachable}
use Rattle.store_core.specs.State.{LeadsTo}
use Rattle.table_update.specs.declared.table.AppendTable.{AppendTable}
use Rattle.table_update.specs.Table.{define, definition_of, flow_of, take_with, HoldsTable, IsDefinedBy}

-- ---- cursors beside their flows

-- a flow over a folder has read up to places of its files
abbrev HasForm : StoredOrigin → Cursor → Type 0
HasForm (Folder folder) (Files places) = IsPlaces places
HasForm (Folder folder) cursor = ⊥
HasForm (Table source) cursor = Unit {0}

-- there is one cursor a flow
abbrev HaveForms : List StoredFlow → List Cursor → Type 0
HaveForms [] [] = Unit {0}
HaveForms [] (cursor ∷ cursors) = ⊥
HaveForms (flow ∷ flows) [] = ⊥
HaveForms (flow ∷ flows) (cursor ∷ cursors) = HasForm flow.origin cursor × HaveForms flows cursors

form-begun : (origin : StoredOrigin) → HasForm origin (begun_cursor origin)
form-begun (Folder folder) = tt
form-begun (Table source) = tt

forms-begun : (flows : List StoredFlow) → HaveForms flows (map first_cursor flows)
forms-begun [] = tt
forms-begun (flow ∷ flows) = (form-begun flow.origin, forms-begun flows)

form-files : (folder : List ℕ) (old new : Cursor) → FilesMove old new → IsProgress new → HasForm (Folder folder) new
form-files folder (Files old) (Files new) moves form = form
form-files folder (Files old) (At version) moves form = moves
form-files folder (Files old) Never moves form = moves
form-files folder (At old) new moves form = absurd moves
form-files folder Never new moves form = absurd moves

form-moved : (state : State) (origin : StoredOrigin) (old new : Cursor) → MovesOn state origin old new → IsProgress new → HasForm origin new
form-moved state (Folder folder) old new moves form = form-files folder old new moves form
form-moved state (Table source) old new moves form = tt

forms-moved : (state : State) (name : List ℕ) (flows : List StoredFlow) (cursors : List Cursor) (new : Cursor)
    → FlowMoves state (find (is_flow name) flows) (cursor_in flows cursors name) new → IsProgress new → HaveForms flows cursors
    → HaveForms flows (moved flows cursors name new)
forms-moved state name [] cursors new moves form have = have
forms-moved state name (flow ∷ flows) [] new moves form have = absurd have
forms-moved state name (flow ∷ flows) (cursor ∷ cursors) new moves form have =
    by_cases (is_flow name flow)
    (λ t. let here : MovesOn state flow.origin cursor new = rw t at moves in rw t (form-moved state flow.origin cursor new here form, have.1))
    (λ f. let behind : FlowMoves state (find (is_flow name) flows) (cursor_in flows cursors name) new = rw f at moves in rw f (have.0, forms-moved state name flows cursors new behind form have.1))

-- ---- a dataset

-- its cursors have their forms, and without expectations it counts none
record IsWhole (of : Dataset) : Type 0 where
  pub forms : HaveForms of.definition.flows of.cursors
  pub counts : of.definition.expectations ≡ [] → of.counts ≡ []

whole-begun : (definition : Definition) → IsWhole (begun definition)
whole-begun definition = record { forms = forms-begun definition.flows; counts = λ none. ap (map no_tally) none }

added-none : (counts more : List Tally) → counts ≡ [] → dataset.added counts more ≡ []
added-none counts more none = ap (λ kept. dataset.added kept more) none

whole-taken : (state : State) (batch : Take) (of : Dataset) → FitsTake state batch of → IsProgress batch.cursor → IsWhole of → IsWhole (taken batch of)
whole-taken state batch of fits form whole =
    record {
      forms = forms-moved state batch.flow of.definition.flows of.cursors batch.cursor fits.moves form whole.forms;
      counts = λ none. added-none of.counts batch.counts (whole.counts none);
    }

-- ---- a state

abbrev AreWhole : State → Type 0
AreWhole [] = Unit {0}
AreWhole (first ∷ state) = IsWhole first × AreWhole state

wholes-begun : (list : List Definition) → AreWhole (map begun list)
wholes-begun [] = tt
wholes-begun (definition ∷ list) = (whole-begun definition, wholes-begun list)

wholes-append : (state more : State) → AreWhole state → AreWhole more → AreWhole (state ++ more)
wholes-append [] more are also = also
wholes-append (first ∷ state) more are also = (are.0, wholes-append state more are.1 also)

wholes-defined : (fresh : Bool) (list : List Definition) (state : State) → AreWhole state → AreWhole (defined fresh list state)
wholes-defined true list state are = wholes-begun list
wholes-defined false list state are = wholes-append state (map begun (drop (length state) list)) are (wholes-begun (drop (length state) list))

wholes-taken : (all : State) (batch : Take) (state : State) → IsSomeAnd (find (is_named batch.table) state) (FitsTake all batch)
    → IsProgress batch.cursor → AreWhole state → AreWhole (updated batch.table (taken batch) state)
wholes-taken all batch [] fits form are = tt
wholes-taken all batch (first ∷ state) fits form are =
    by_cases (is_named batch.table first)
    (λ t. let here : FitsTake all batch first = rw t at fits in rw t (whole-taken all batch first here form are.0, are.1))
    (λ f. let behind : IsSomeAnd (find (is_named batch.table) state) (FitsTake all batch) = rw f at fits in rw f (are.0, wholes-taken all batch state behind form are.1))

wholes-after : (state : State) (next : Payload) → MayFollow state next → AreWhole state → AreWhole (after_payload state next)
wholes-after state (payload.Define fresh list) follows are = wholes-defined fresh list state are
wholes-after state (payload.Take batch) follows are = wholes-taken state batch state follows.fits follows.spelled.1.0 are
wholes-after state (payload.Refresh refresh) follows are = are
wholes-after state (payload.Reset names) follows are = are
wholes-after state (payload.Base base) follows are = are

wholes-led : (from : State) (bodies : List (List ℕ)) (to : State) → LeadsTo from bodies to → AreWhole from → AreWhole to
wholes-led from [] to leads are = subst AreWhole (sym leads) are
wholes-led from (body ∷ bodies) to leads are = wholes-led (after_payload from leads.0) bodies to leads.3 (wholes-after from leads.0 leads.2 are)

-- ---- a table

-- the places that one flow over a folder has read up to
abbrev HasPlaces : List Cursor → Type 0
HasPlaces cursors = (places : List FilePlace) × (cursors ≡ Files places ∷ []) × IsPlaces places

places-one : (name folder : List ℕ) (cursors : List Cursor) → HaveForms (record { name = name; origin = Folder folder } ∷ []) cursors → HasPlaces cursors
places-one name folder [] have = absurd have
places-one name folder (Files places ∷ []) have = (places, refl, have.0)
places-one name folder (Files places ∷ second ∷ cursors) have = absurd have.1
places-one name folder (At version ∷ cursors) have = absurd have.0
places-one name folder (Never ∷ cursors) have = absurd have.0

abbrev Holds : AppendTable → State → Type 0
Holds table state = (dataset : Dataset) × (places : List FilePlace) × HoldsTable table state dataset places

holds-one : (table : AppendTable) (of : Dataset) → of.definition ≡ definition_of table → IsWhole of → Holds table (of ∷ [])
holds-one table of is whole =
    let have = places-one table.name table.folder of.cursors (subst (λ definition. HaveForms definition.flows of.cursors) is whole.forms) in
    (of, have.0, record { only = refl; definition = is; read = have.1; counts = whole.counts (ap (λ definition. definition.expectations) is); form = have.2 })

holds : (table : AppendTable) (state : State) → AreWhole state → IsDefinedBy table state → Holds table state
holds table [] are is = absurd (let wrong : ⊥ = cc in wrong)
holds table (of ∷ []) are is = holds-one table of (cc) are.0
holds table (of ∷ second ∷ state) are is = absurd (let wrong : ⊥ = cc in wrong)

-- a state that payloads lead to, with the table's definition alone, holds the table
pub reachable_holds : (table : AppendTable) (state : State) → IsReachable state → IsDefinedBy table state
    → (dataset : Dataset) × (places : List FilePlace) × HoldsTable table state dataset places
reachable_holds table state reached is = holds table state (wholes-led empty_state reached.bodies state reached.leads tt) is

-- the table once it is defined
pub begun_holds : (table : AppendTable) → HoldsTable table (after_payload empty_state (define table)) (begun (definition_of table)) []
begun_holds table = record { only = refl; definition = refl; read = refl; counts = refl; form = tt }

-- ---- what is found by its name

name_itself : (name : List ℕ) → same_name name name ≡ true
name_itself name = (bytes_eq-Decides (folded name) (folded name)).1 refl

named : (table : AppendTable) (of : Dataset) → of.definition ≡ definition_of table → is_named table.name of ≡ true
named table of is = ap (λ definition. same_name definition.name table.name) is ∙ name_itself table.name

found_first : (name : List ℕ) (of : Dataset) → is_named name of ≡ true → dataset_of (of ∷ []) name ≡ Some of
found_first name of is = rw is refl

-- the table's dataset
pub dataset_is : (table : AppendTable) (state : State) (of : Dataset) (places : List FilePlace) → HoldsTable table state of places
    → dataset_of state table.name ≡ Some of
dataset_is table state of places holds = ap (λ (s : State). dataset_of s table.name) holds.only ∙ found_first table.name of (named table of holds.definition)

first_cursor_is : (table : AppendTable) (places : List FilePlace) → cursor_in (flow_of table ∷ []) (Files places ∷ []) table.name ≡ Some (Files places)
first_cursor_is table places = rw (name_itself table.name) refl

-- how far its flow has read
pub cursor_is : (table : AppendTable) (state : State) (of : Dataset) (places : List FilePlace) → HoldsTable table state of places
    → option_and_then (λ (d : Dataset). cursor_of d table.name) (dataset_of state table.name) ≡ Some (Files places)
cursor_is table state of places holds =
    ap (option_and_then (λ (d : Dataset). cursor_of d table.name)) (dataset_is table state of places holds)
    ∙ ap (λ (d : Definition). cursor_in d.flows of.cursors table.name) holds.definition
    ∙ ap (λ (cursors : List Cursor). cursor_in (flow_of table ∷ []) cursors table.name) holds.read
    ∙ first_cursor_is table places

-- ---- a batch

abbrev batch_with : AppendTable → List Row → List FilePlace → Take
batch_with table rows now = record { table = table.name; flow = table.name; cursor = Files now; change = record { removed = []; added = rows }; counts = []; events = [] }

-- the table's dataset once it has taken these rows
abbrev pub with_rows : AppendTable → List Row → List FilePlace → Dataset → Dataset
with_rows table rows now of = record of { changes = of.changes ++ record { removed = []; added = rows } ∷ []; cursors = Files now ∷ [] }

moved_one : (table : AppendTable) (places now : List FilePlace) → moved (flow_of table ∷ []) (Files places ∷ []) table.name (Files now) ≡ Files now ∷ []
moved_one table places now = rw (name_itself table.name) refl

taken_is : (table : AppendTable) (of : Dataset) (places : List FilePlace) (rows : List Row) (now : List FilePlace)
    → of.definition ≡ definition_of table → of.cursors ≡ Files places ∷ [] → of.counts ≡ []
    → taken (batch_with table rows now) of ≡ with_rows table rows now of
taken_is table of places rows now is read none =
    let cursors : moved of.definition.flows of.cursors table.name (Files now) ≡ Files now ∷ [] =
    ap (λ definition. moved definition.flows of.cursors table.name (Files now)) is ∙ ap (λ cursors. moved (flow_of table ∷ []) cursors table.name (Files now)) read ∙ moved_one table places now in
    let counts : dataset.added of.counts [] ≡ of.counts = added-none of.counts [] none ∙ sym none in
    λ i. record of { changes = of.changes ++ record { removed = []; added = rows } ∷ []; cursors = cursors i; counts = counts i }

updated_first : (name : List ℕ) (change : Dataset → Dataset) (of : Dataset) → is_named name of ≡ true → updated name change (of ∷ []) ≡ change of ∷ []
updated_first name change of is = rw is refl

-- the table once it has taken these rows, and its flow has read up to these places
pub taken_holds : (table : AppendTable) (state : State) (of : Dataset) (places : List FilePlace) (rows : List Row) (now : List FilePlace)
    → HoldsTable table state of places → IsPlaces now
    → HoldsTable table (after_payload state (take_with table rows now)) (with_rows table rows now of) now
taken_holds table state of places rows now holds form =
    let batch = batch_with table rows now in
    record {
      only = ap (updated table.name (taken batch)) holds.only
          ∙ updated_first table.name (taken batch) of (named table of holds.definition)
          ∙ ap (λ one. one ∷ []) (taken_is table of places rows now holds.definition holds.read holds.counts);
      definition = holds.definition;
      read = refl;
      counts = holds.counts;
      form = form;
    }

-- and it has one version more
pub taken_version : (table : AppendTable) (rows : List Row) (now : List FilePlace) (of : Dataset) → version_of (with_rows table rows now of) ≡ version_of of + 1
taken_version table rows now of = omega (arith, length_push of.changes (record { removed = []; added = rows }))
