-- The level of a dataset stands above what its statements read.
use Rattle.std.proofs.Common.{◌≡◌, inl, inr, ℕ, ◌+◌, ◌<◌, true, List, Option, Some, None, length, refl, sym, ap, subst, ◌∙◌}
use Rattle.std.specs.Prelude.{slice_get, slice_index, option_and_then, option_map, option_to_list}
use Rattle.std.proofs.lemmas.List.{length-map}
use Rattle.std.proofs.lemmas.Option.{get_or_from_slice_get, slice_get-map, slice_get_within}
use Rattle.value_core.specs.NameFold.{same_name}
use Rattle.sql_tree.specs.declared.statement.Statement.{Statement}
use Rattle.sql_tree.specs.declared.statement.Statement.TheVariants as statement
use Rattle.plan_core.specs.declared.plan.Dataset.{Dataset}
use Rattle.graph_check.specs.Graphs.{Reads}
use Rattle.graph_check.specs.Levels.{AreLevels}
use Rattle.statement_checks.specs.Declares.{dataset_name}
use Rattle.name_checks.specs.Edges.{dataset_names, dataset_place, reading_edge, reading_edges}
use Rattle.name_checks.specs.Sources.{reader_name, source_name}
use Rattle.origin_checks.specs.declared.resolved.Resolved.{Resolved}
use Rattle.dataset_checks.specs.Filling.{dataset_places, fills}
use Rattle.plan_check.specs.Visits.{declared_places}
use Rattle.plan_texts.specs.Judged.{IsLevelAbove, IsSource, statements_of}
use Rattle.plan_texts.proofs.Declared.{declared, filler, fills_at, is_declared}
use Rattle.plan_texts.proofs.Lists.{Among, among_at, among_contains, among_found, among_flat, among_option, at_among, contains_among, flat_among, found_among, in_some, no_some, option_among}
use Rattle.plan_texts.proofs.Names.{IsThere, name_back, name_itself, name_of, named_at, one_place, placed, there_at}
use Rattle.plan_texts.proofs.Planned.{IsPlacedAt, IsPlanned, mapped_name}

-- ---- the edge of a statement

abbrev edge_to : ℕ → ℕ → ℕ × ℕ
edge_to reader source = (reader, source)

abbrev joined : Option ℕ → Option ℕ → Option (ℕ × ℕ)
joined reader source = option_and_then (λ (r : ℕ). option_map (λ (s : ℕ). edge_to r s) source) reader

both_parts : (a b : Option ℕ) (reader source : ℕ) → joined a b ≡ Some (edge_to reader source) → (a ≡ Some reader) × (b ≡ Some source)
both_parts None b reader source e = absurd (no_some e)
both_parts (Some r) None reader source e = absurd (no_some e)
both_parts (Some r) (Some s) reader source e = let one : edge_to r s ≡ edge_to reader source = in_some e in (ap (λ (p : ℕ × ℕ). Some p.0) one, ap (λ (p : ℕ × ℕ). Some p.1) one)

placed_name : (names : List (List ℕ)) (o : Option (List ℕ)) (place : ℕ) → option_and_then (dataset_place names) o ≡ Some place → (name : List ℕ) × (o ≡ Some name) × (dataset_place names name ≡ Some place)
placed_name names None place e = absurd (no_some e)
placed_name names (Some name) place e = (name, refl, e)

-- what a statement is that gives an edge
record IsEdge (names : List (List ℕ)) (statement : Statement) (reader source : ℕ) : Type 0 where
  filled : List ℕ
  fills_it : reader_name statement ≡ Some filled
  filled_at : dataset_place names filled ≡ Some reader
  read : List ℕ
  reads_it : source_name statement ≡ Some read
  read_at : dataset_place names read ≡ Some source

edge_parts : (names : List (List ℕ)) (statement : Statement) (reader source : ℕ) → reading_edge names statement ≡ Some (edge_to reader source) → IsEdge names statement reader source
edge_parts names statement reader source e =
    let parts = both_parts (option_and_then (dataset_place names) (reader_name statement)) (option_and_then (dataset_place names) (source_name statement)) reader source e in
    let one = placed_name names (reader_name statement) reader parts.0 in
    let two = placed_name names (source_name statement) source parts.1 in
    record { filled = one.0; fills_it = one.1; filled_at = one.2; read = two.0; reads_it = two.1; read_at = two.2 }

edge_is : (names : List (List ℕ)) (statement : Statement) (reader source : ℕ) → IsEdge names statement reader source → reading_edge names statement ≡ Some (edge_to reader source)
edge_is names statement reader source edge =
    let one : option_and_then (dataset_place names) (reader_name statement) ≡ Some reader = ap (option_and_then (dataset_place names)) edge.fills_it ∙ edge.filled_at in
    let two : option_and_then (dataset_place names) (source_name statement) ≡ Some source = ap (option_and_then (dataset_place names)) edge.reads_it ∙ edge.read_at in
    ap (λ (r : Option ℕ). joined r (option_and_then (dataset_place names) (source_name statement))) one ∙ ap (joined (Some reader)) two

-- ---- statements that fill a table

-- what fills the table names it
filler_reader : (table : List ℕ) (reader : Statement) → fills table reader ≡ true → (name : List ℕ) × (reader_name reader ≡ Some name) × (same_name table name ≡ true)
filler_reader table (statement.Table name items select) e = absurd (cc)
filler_reader table (statement.View name items select) e = absurd (cc)
filler_reader table (statement.Insert flow target select) e = (target, refl, name_back target table e)
filler_reader table (statement.Cdc flow feed) e = (feed.target, refl, name_back feed.target table e)

own_reader : (reader : Statement) (name : List ℕ) → dataset_name reader ≡ Some name → reader_name reader ≡ Some name
own_reader (statement.Table name items select) one e = e
own_reader (statement.View name items select) one e = e
own_reader (statement.Insert flow target select) one e = absurd (no_some e)
own_reader (statement.Cdc flow feed) one e = absurd (no_some e)

module _ (statements : List Statement) (resolved : List Resolved) (levels : List ℕ) (plan : List Dataset) (planned : IsPlanned statements resolved levels plan) where
  -- the first of a name is at the index of its dataset
  place_is : (index : ℕ) (dataset : Dataset) (name : List ℕ) → slice_get plan index ≡ Some dataset → same_name dataset.name name ≡ true → dataset_place (dataset_names statements) name ≡ Some index
  place_is index dataset name is same =
      let there = placed plan name dataset (named_at plan name index dataset planned.differ is same) in
      let one : there.index ≡ index = one_place plan there.index index dataset dataset planned.differ there.is_there is (name_itself dataset.name) in
      ap (λ (names : List (List ℕ)). dataset_place names name) (sym planned.names_are) ∙ there.placed ∙ ap Some one

  there_is : (index : ℕ) (name : List ℕ) → dataset_place (dataset_names statements) name ≡ Some index → IsThere plan name index
  there_is index name e = there_at plan name index (ap (λ (names : List (List ℕ)). dataset_place names name) planned.names_are ∙ e)

  module _ (index : ℕ) (dataset : Dataset) (is : slice_get plan index ≡ Some dataset) (home : ℕ) (at : IsPlacedAt statements resolved levels plan planned index dataset home) where
    abbrev Own : List Statement
    Own = statements_of statements home dataset.name

    -- each of its statements names it
    reader_named : (place : ℕ) (reader : Statement) → Among place (dataset_places statements home dataset.name) → slice_get statements place ≡ Some reader → (name : List ℕ) × (reader_name reader ≡ Some name) × (same_name dataset.name name ≡ true)
    reader_named place reader (inl e) there =
        (dataset.name, own_reader reader dataset.name (sym (ap (option_and_then dataset_name) (ap (slice_get statements) (sym e) ∙ there)) ∙ at.named), name_itself dataset.name)
    reader_named place reader (inr m) there =
        let f = filler dataset.name statements place m in
        let one : f.statement ≡ reader = in_some (sym f.is_there ∙ there) in
        filler_reader dataset.name reader (subst (λ (s : Statement). fills dataset.name s ≡ true) one f.is_flow)

    source_edge : (source : Dataset) → IsSource plan Own source → (place : ℕ) × Reads (reading_edges statements) index place × (slice_get plan place ≡ Some source)
    source_edge source reads =
        let of = among_found (slice_get statements) (dataset_places statements home dataset.name) reads.reader (among_at Own reads.index reads.reader reads.is_there) in
        let named = reader_named of.0 reads.reader of.1 of.2 in
        let there = placed plan reads.name source reads.found in
        let edge : IsEdge (dataset_names statements) reads.reader index there.index = record {
          filled = named.0;
          fills_it = named.1;
          filled_at = place_is index dataset named.0 is named.2;
          read = reads.name;
          reads_it = reads.reads;
          read_at = ap (λ (names : List (List ℕ)). dataset_place names reads.name) (sym planned.names_are) ∙ there.placed;
        } in
        let among : Among (edge_to index there.index) (reading_edges statements) =
        flat_among (λ (s : Statement). option_to_list (reading_edge (dataset_names statements) s)) statements reads.reader (edge_to index there.index) (among_at statements of.0 reads.reader of.2)
        (option_among (reading_edge (dataset_names statements) reads.reader) (edge_to index there.index) (edge_is (dataset_names statements) reads.reader index there.index edge)) in
        (there.index, among_contains (reading_edges statements) (edge_to index there.index) among, there.is_there)

    -- a statement that names it is one of its own
    own_place : (place : ℕ) (reader : Statement) (name : List ℕ) → slice_get statements place ≡ Some reader → dataset_name reader ≡ Some name → same_name dataset.name name ≡ true → place ≡ home
    own_place place reader name there named same =
        let k = at_among (declared_places statements) place (is_declared statements place reader name there named) in
        let of = declared statements k.0 place k.1 in
        let one = mapped_name (slice_get plan k.0) of.name (sym (slice_get-map name_of plan k.0) ∙ ap (λ (names : List (List ℕ)). slice_get names k.0) planned.names_are ∙ of.name_is) in
        let name_is : name ≡ of.name = in_some (sym (ap (option_and_then dataset_name) there ∙ named) ∙ of.declares) in
        let alike : same_name dataset.name one.0.name ≡ true = subst (λ (n : List ℕ). same_name dataset.name n ≡ true) (name_is ∙ sym one.2) same in
        let here : index ≡ k.0 = one_place plan index k.0 dataset one.0 planned.differ is one.1 alike in
        in_some (sym k.1 ∙ ap (slice_get (declared_places statements)) (sym here) ∙ at.place_is)

    own_among : (place : ℕ) (reader : Statement) (name : List ℕ) → slice_get statements place ≡ Some reader → reader_name reader ≡ Some name → same_name dataset.name name ≡ true → Among place (dataset_places statements home dataset.name)
    own_among place (statement.Table table items select) name there named same = inl (own_place place (statement.Table table items select) name there named same)
    own_among place (statement.View view items select) name there named same = inl (own_place place (statement.View view items select) name there named same)
    own_among place (statement.Insert flow target select) name there named same =
        inr (fills_at dataset.name statements place (statement.Insert flow target select) there (subst (λ (n : List ℕ). same_name n dataset.name ≡ true) (sym (in_some named)) (name_back dataset.name name same)))
    own_among place (statement.Cdc flow feed) name there named same =
        inr (fills_at dataset.name statements place (statement.Cdc flow feed) there (subst (λ (n : List ℕ). same_name n dataset.name ≡ true) (sym (in_some named)) (name_back dataset.name name same)))

    edge_source : (source : ℕ) → Reads (reading_edges statements) index source → (read : Dataset) × IsSource plan Own read × (slice_get plan source ≡ Some read)
    edge_source source reads =
        let of = among_flat (λ (s : Statement). option_to_list (reading_edge (dataset_names statements) s)) statements (edge_to index source) (contains_among (reading_edges statements) (edge_to index source) reads) in
        let reader = of.0 in
        let edge = edge_parts (dataset_names statements) reader index source (among_option (reading_edge (dataset_names statements) reader) (edge_to index source) of.2) in
        let here = there_is index edge.filled edge.filled_at in
        let one : here.dataset ≡ dataset = in_some (sym here.is_there ∙ is) in
        let read = there_is source edge.read edge.read_at in
        let place = at_among statements reader of.1 in
        let own = own_among place.0 reader edge.filled place.1 edge.fills_it (subst (λ (d : Dataset). same_name d.name edge.filled ≡ true) one here.same) in
        let k = at_among Own reader (found_among (slice_get statements) (dataset_places statements home dataset.name) place.0 reader own place.1) in (
          read.dataset,
          record { index = k.0; reader = reader; is_there = k.1; name = edge.read; reads = edge.reads_it; found = named_at plan edge.read source read.dataset planned.differ read.is_there read.same },
          read.is_there,
        )

    -- the levels, by the law that a dataset is of a greater level than each one that it reads
    pub level_of : AreLevels (length (dataset_names statements)) (reading_edges statements) levels →
        ((source : ℕ) (read : Dataset) → Reads (reading_edges statements) index source → slice_get plan source ≡ Some read → read.level < dataset.level) →
        ((source : ℕ) (read : Dataset) → slice_get plan source ≡ Some read → slice_get levels source ≡ Some read.level) → IsLevelAbove plan Own dataset.level
    level_of are lesser at_levels = record {
      above = λ source reads. let edge = source_edge source reads in lesser edge.0 source edge.1 edge.2;
      least = elim ((are.each index (within)).least) [
        | inl none ↦ inl (sym here ∙ none)
        | inr edge ↦ inr (above_one edge.0 edge.1 edge.2)
      ];
    }
      where
        within : index < length (dataset_names statements)
        within = subst (λ (n : ℕ). index < n) (sym (length-map plan name_of) ∙ ap length planned.names_are) (slice_get_within plan index dataset is)

        here : slice_index levels index ≡ dataset.level
        here = get_or_from_slice_get levels index dataset.level 0 at.level_is

        above_one : (source : ℕ) → Reads (reading_edges statements) index source → slice_index levels index ≡ slice_index levels source + 1 → (read : Dataset) × IsSource plan Own read × (dataset.level ≡ read.level + 1)
        above_one source reads e =
            let read = edge_source source reads in
            (read.0, read.1, sym here ∙ e ∙ ap (λ (n : ℕ). n + 1) (get_or_from_slice_get levels source read.0.level 0 (at_levels source read.0 read.2)))
