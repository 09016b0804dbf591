-- Datasets by name, before and after a payload.
use Rattle.std.proofs.Common.{◌≡◌, ℕ, ◌+◌, ◌≤◌, List, [], ◌∷◌, ◌++◌, map, Bool, true, false, cond, if◌then◌else◌, Option, Some, None, refl, sym, ap, ◌∙◌, subst, arith, length-append}
use Rattle.std.specs.Prelude.{⊤, IsSomeAnd, find, is_none, unwrap_or}
use Rattle.std.specs.Option.{option_or}
use Rattle.std.proofs.lemmas.Bool.{and_parts}
use Rattle.std.proofs.lemmas.List.Folds.{find-append}
use Rattle.std.proofs.lemmas.Slice.Eq.{bytes_eq-Decides}
use Rattle.value_core.specs.declared.change.Change.{Change}
use Rattle.value_core.specs.declared.cursor.Cursor.{Cursor}
use Rattle.value_core.specs.declared.cursor.Cursor.TheVariants.{Files, At, Never}
use Rattle.value_core.specs.NameFold.{folded, same_name}
use Rattle.table_versions.specs.Versions.{Versions, grown, now_of}
use Rattle.commit_payloads.specs.declared.definition.Definition.{Definition}
use Rattle.commit_payloads.specs.declared.definition.StoredFlow.{StoredFlow}
use Rattle.commit_payloads.specs.declared.definition.StoredOrigin.{StoredOrigin}
use Rattle.commit_payloads.specs.declared.definition.StoredOrigin.TheVariants.{Folder, Table}
use Rattle.state_model.specs.After.{begun_cursor, updated}
use Rattle.state_model.specs.Dataset.{Dataset, State, dataset_of, definitions_of, is_defined, is_named, version_of}
use Rattle.state_model.specs.Follows.{CursorsFit, IsReached, MovesOn, are_distinct}

pub some_is : {A : Type 0} (a b : A) → Some a ≡ Some b → a ≡ b
some_is a b e = ap (λ o. unwrap_or o a) e

-- ---- a dataset is found under its own name

name_is : (a b : List ℕ) → same_name a b ≡ true → folded a ≡ folded b
name_is a b e = (bytes_eq-Decides (folded a) (folded b)).0 e

-- names that are both another one's are one
two_names : (a b c : List ℕ) → same_name a c ≡ true → same_name b c ≡ true → same_name b a ≡ true
two_names a b c e f = (bytes_eq-Decides (folded b) (folded a)).1 (name_is b c f ∙ sym (name_is a c e))

-- each dataset is the one that is found under each name that it has
abbrev pub AreFound : State → State → Type 0
AreFound whole [] = ⊤
AreFound whole (d ∷ ds) = ((name : List ℕ) → is_named name d ≡ true → dataset_of whole name ≡ Some d) × AreFound whole ds

-- each dataset has another name
abbrev AllOthers : Dataset → State → Type 0
AllOthers d [] = ⊤
AllOthers d (e ∷ es) = (is_named d.definition.name e ≡ false) × AllOthers d es

others_by : (d e : Dataset) (o : Option Definition) (b : Bool) → is_defined d.definition.name e.definition ≡ b → is_none (cond b (Some e.definition) o) ≡ true → (b ≡ false) × (is_none o ≡ true)
others_by d e o true is h = cc
others_by d e o false is h = (refl, h)

others_differ : (d : Dataset) (ds : State) → is_none (find (is_defined d.definition.name) (definitions_of ds)) ≡ true → AllOthers d ds
others_differ d [] h = tt
others_differ d (e ∷ es) h =
    let parts = others_by d e (find (is_defined d.definition.name) (definitions_of es)) (is_defined d.definition.name e.definition) refl h in (parts.0, others_differ d es parts.1)

clash : (b : Bool) → b ≡ true → b ≡ false → ⊥
clash true e f = cc
clash false e f = cc

behind_by : (d e : Dataset) (whole : State) (name : List ℕ) (b : Bool) → is_named name d ≡ b → is_named d.definition.name e ≡ false → is_named name e ≡ true → dataset_of whole name ≡ Some e → cond b (Some d) (dataset_of whole name) ≡ Some e
behind_by d e whole name true is other named found = absurd (clash (same_name e.definition.name d.definition.name) (two_names d.definition.name e.definition.name name is named) other)
behind_by d e whole name false is other named found = found

found_behind : (d : Dataset) (whole ds : State) → AllOthers d ds → AreFound whole ds → AreFound (d ∷ whole) ds
found_behind d whole [] others found = tt
found_behind d whole (e ∷ es) others found =
    ((λ name named. behind_by d e whole name (is_named name d) refl others.0 named (found.0 name named)), found_behind d whole es others.1 found.1)

pub all_found : (ds : State) → are_distinct (definitions_of ds) ≡ true → AreFound ds ds
all_found [] distinct = tt
all_found (d ∷ ds) distinct =
    let parts = and_parts (is_none (find (is_defined d.definition.name) (definitions_of ds))) (are_distinct (definitions_of ds)) distinct in
    ((λ name named. ap (λ (b : Bool). cond b (Some d) (dataset_of ds name)) named), found_behind d ds ds (others_differ d ds parts.0) (all_found ds parts.1))

-- ---- versions rise

-- a version that was reached stays so
abbrev pub Rises : State → State → Type 0
Rises was now = (name : List ℕ) (v : ℕ) → IsReached was name v → IsReached now name v

-- each dataset that is found goes on to one of no lesser version
abbrev Goes : State → State → List ℕ → Type 0
Goes was now name = (d : Dataset) → dataset_of was name ≡ Some d → (e : Dataset) × (dataset_of now name ≡ Some e) × (version_of d ≤ version_of e)

rises_by : (v : ℕ) (o p : Option Dataset) → ((d : Dataset) → o ≡ Some d → (e : Dataset) × (p ≡ Some e) × (version_of d ≤ version_of e)) → IsSomeAnd o (λ d. v ≤ version_of d) → IsSomeAnd p (λ d. v ≤ version_of d)
rises_by v None p go h = absurd h
rises_by v (Some d) p go h = let g = go d refl in subst (λ q. IsSomeAnd q (λ e. v ≤ version_of e)) (sym g.1) (omega (arith, h, g.2))

all_rise : (was now : State) → ((name : List ℕ) → Goes was now name) → Rises was now
all_rise was now go name v h = rises_by v (dataset_of was name) (dataset_of now name) (go name) h

pub grown_rises : (table : Versions) (change : Change) → now_of table ≤ now_of (grown table change)
grown_rises table change = omega (arith, length-append table.changes (change ∷ []))

module _ (f : Dataset → Dataset) (same : (d : Dataset) → (f d).definition ≡ d.definition) (more : (d : Dataset) → version_of d ≤ version_of (f d)) where
  updated_by : (name other : List ℕ) (d : Dataset) (ds : State) (here there : Bool) → is_named other d ≡ there → Goes ds (updated name f ds) other → (old : Dataset) → cond there (Some d) (dataset_of ds other) ≡ Some old
      → (e : Dataset) × (dataset_of (if here then f d ∷ ds else d ∷ updated name f ds) other ≡ Some e) × (version_of old ≤ version_of e)
  updated_by name other d ds true true is go old e =
      let one : d ≡ old = some_is d old e in
      (f d, ap (λ (b : Bool). cond b (Some (f d)) (dataset_of ds other)) (ap (λ (k : Definition). same_name k.name other) (same d) ∙ is), subst (λ w. version_of w ≤ version_of (f d)) one (more d))
  updated_by name other d ds true false is go old e =
      (old, ap (λ (b : Bool). cond b (Some (f d)) (dataset_of ds other)) (ap (λ (k : Definition). same_name k.name other) (same d) ∙ is) ∙ e, omega arith)
  updated_by name other d ds false true is go old e = (old, ap (λ (b : Bool). cond b (Some d) (dataset_of (updated name f ds) other)) is ∙ e, omega arith)
  updated_by name other d ds false false is go old e =
      let g = go old e in (g.0, ap (λ (b : Bool). cond b (Some d) (dataset_of (updated name f ds) other)) is ∙ g.1, g.2)

  updated_goes : (name other : List ℕ) (ds : State) → Goes ds (updated name f ds) other
  updated_goes name other [] old e = cc
  updated_goes name other (d ∷ ds) old e = updated_by name other d ds (is_named name d) (is_named other d) refl (updated_goes name other ds) old e

  pub updated_rises : (name : List ℕ) (state : State) → Rises state (updated name f state)
  updated_rises name state = all_rise state (updated name f state) (λ other. updated_goes name other state)

  mapped_by : (other : List ℕ) (d : Dataset) (ds : State) (there : Bool) → is_named other d ≡ there → Goes ds (map f ds) other → (old : Dataset) → cond there (Some d) (dataset_of ds other) ≡ Some old
      → (e : Dataset) × (dataset_of (map f (d ∷ ds)) other ≡ Some e) × (version_of old ≤ version_of e)
  mapped_by other d ds true is go old e =
      let one : d ≡ old = some_is d old e in
      (f d, ap (λ (b : Bool). cond b (Some (f d)) (dataset_of (map f ds) other)) (ap (λ (k : Definition). same_name k.name other) (same d) ∙ is), subst (λ w. version_of w ≤ version_of (f d)) one (more d))
  mapped_by other d ds false is go old e =
      let g = go old e in (g.0, ap (λ (b : Bool). cond b (Some (f d)) (dataset_of (map f ds) other)) (ap (λ (k : Definition). same_name k.name other) (same d) ∙ is) ∙ g.1, g.2)

  mapped_goes : (other : List ℕ) (ds : State) → Goes ds (map f ds) other
  mapped_goes other [] old e = cc
  mapped_goes other (d ∷ ds) old e = mapped_by other d ds (is_named other d) refl (mapped_goes other ds) old e

  pub mapped_rises : (state : State) → Rises state (map f state)
  mapped_rises state = all_rise state (map f state) (λ other. mapped_goes other state)

appended_goes : (state more : State) (name : List ℕ) → Goes state (state ++ more) name
appended_goes state more name old e = (old, find-append (is_named name) state more ∙ ap (λ o. option_or o (dataset_of more name)) e, omega arith)

pub appended_rises : (state more : State) → Rises state (state ++ more)
appended_rises state more = all_rise state (state ++ more) (appended_goes state more)

-- ---- cursors

origin_rises : (was now : State) → Rises was now → (from : StoredOrigin) (cursor : Cursor) → MovesOn was from (begun_cursor from) cursor → MovesOn now from (begun_cursor from) cursor
origin_rises was now rises (Folder folder) cursor moves = moves
origin_rises was now rises (Table source) (Files places) moves = absurd moves
origin_rises was now rises (Table source) Never moves = tt
origin_rises was now rises (Table source) (At v) moves = rises source v moves

pub cursors_rise : (was now : State) → Rises was now → (flows : List StoredFlow) (cursors : List Cursor) → CursorsFit was flows cursors → CursorsFit now flows cursors
cursors_rise was now rises [] [] fit = tt
cursors_rise was now rises [] (cursor ∷ cursors) fit = absurd fit
cursors_rise was now rises (flow ∷ flows) [] fit = absurd fit
cursors_rise was now rises (flow ∷ flows) (cursor ∷ cursors) fit = (origin_rises was now rises flow.origin cursor fit.0, cursors_rise was now rises flows cursors fit.1)
