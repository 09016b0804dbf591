-- The least version at which a dataset is read.
use Rattle.std.proofs.Common.{◌≡◌, ℕ, ◌<◌, ◌≤◌, ◌+◌, ◌++◌, max, min, List, [], ◌∷◌, length, take, get_or, zero, suc, Some, None, refl, ap, sym, ◌∙◌, arith}
use Rattle.std.specs.Prelude.{flat_map, map, option_map, slice_get}
use Rattle.std.proofs.lemmas.Grind.{flat_map-append}
use Rattle.std.proofs.lemmas.List.Sums.{fold-append}
use Rattle.std.proofs.lemmas.List.{append-nil, take_more}
use Rattle.std.proofs.lemmas.Option.{get_or_from_slice_get, slice_get_within}
use Rattle.std.proofs.Math.Nat.{le-max_left, max-le, min-le_left}
use Rattle.table_versions.specs.Versions.{IsKept, Versions, now_of}
use Rattle.value_core.specs.declared.cursor.Cursor.{Cursor}
use Rattle.commit_payloads.specs.declared.definition.Definition.{Definition}
use Rattle.state_model.specs.Dataset.{Dataset, State, definitions_of}
use Rattle.state_model.specs.Saved.{least_of, readers_of, versions_read}
use Rattle.store_folding.specs.Folding.{base_due}
use Rattle.store_tables.specs.Kept.{cursors_of}

-- the versions at which the flows of one dataset stand in that of a name
abbrev pub versions_of_reader : List ℕ → Dataset → List ℕ
versions_of_reader name reader = versions_read name reader.definition.flows reader.cursors

-- a front and the item behind it
pub take_step : {X : Type 0} (xs : List X) (i : ℕ) (x : X) → slice_get xs i ≡ Some x → take (i + 1) xs ≡ take i xs ++ x ∷ []
take_step xs i x here =
    rw (take_more xs i x (slice_get_within xs i x here), get_or_from_slice_get xs i x x here) refl

-- one reader more
pub least_step : (name : List ℕ) (state : State) (i least : ℕ) (reader : Dataset) → slice_get state i ≡ Some reader
    → least_of (least_of least (flat_map (versions_of_reader name) (take i state))) (versions_of_reader name reader) ≡ least_of least (flat_map (versions_of_reader name) (take (i + 1) state))
least_step name state i least reader here =
    rw (take_step state i reader here, flat_map-append (versions_of_reader name) (take i state) (reader ∷ []), append-nil (versions_of_reader name reader), fold-append min least (flat_map (versions_of_reader name) (take i state)) (versions_of_reader name reader)) refl

record IsReaderAt (state : State) (i : ℕ) (d : Definition) (cs : List Cursor) : Type 0 where
  pub reader : Dataset
  pub here : slice_get state i ≡ Some reader
  pub defined : d ≡ reader.definition
  pub read : cs ≡ reader.cursors

reader_at : (state : State) (i : ℕ) (d : Definition) (cs : List Cursor) → i < length state → d ≡ get_or (definitions_of state) i d → Some cs ≡ option_map cursors_of (slice_get state i) → IsReaderAt state i d cs
reader_at [] i d cs within defined read = absurd (omega arith)
reader_at (x ∷ state) zero d cs within defined read = record { reader = x; here = refl; defined = defined; read = cc }
reader_at (x ∷ state) (suc i) d cs within defined read =
    let at = reader_at state i d cs (omega arith) defined read in
    record { reader = at.reader; here = at.here; defined = at.defined; read = at.read }

-- there is a reader at each place
pub none_past : (state : State) (i : ℕ) → i < length state → None ≡ option_map cursors_of (slice_get state i) → ⊥
none_past [] i within none = absurd (omega arith)
none_past (x ∷ state) zero within none = cc
none_past (x ∷ state) (suc i) within none = none_past state i (omega arith) none

same_versions : (name : List ℕ) (d : Definition) (cs : List Cursor) (reader : Dataset) → d ≡ reader.definition → cs ≡ reader.cursors → versions_read name d.flows cs ≡ versions_of_reader name reader
same_versions name d cs reader e f = rw (e, f) refl

-- one reader more, by its definition and its cursors
pub reader_step : (name : List ℕ) (state : State) (i least : ℕ) (d : Definition) (cs : List Cursor) → i < length state → d ≡ get_or (definitions_of state) i d → Some cs ≡ option_map cursors_of (slice_get state i)
    → least_of (least_of least (flat_map (versions_of_reader name) (take i state))) (versions_read name d.flows cs) ≡ least_of least (flat_map (versions_of_reader name) (take (i + 1) state))
reader_step name state i least d cs within defined read =
    let at = reader_at state i d cs within defined read in
    rw (same_versions name d cs at.reader at.defined at.read) (least_step name state i least at.reader at.here)

pub least_below : (last : ℕ) (xs : List ℕ) → least_of last xs ≤ last
least_below last [] = omega arith
least_below last (x ∷ xs) = omega (arith, least_below (min last x) xs, min-le_left last x)

-- a base that is due is a version that is kept
pub due_is_kept : (state : State) (name : List ℕ) (table : Versions) → IsKept table (base_due state name table)
due_is_kept state name table =
    let last : table.base ≤ now_of table = omega arith in
    (le-max_left table.base (least_of (now_of table) (readers_of state name)), max-le last (least_below (now_of table) (readers_of state name)))
