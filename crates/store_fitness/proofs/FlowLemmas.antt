-- Datasets and flows by name, and positions from which flows can go on.
use Rattle.std.proofs.Common.{◌≡◌, ◌⊎◌, inl, inr, ℕ, ◌-◌, List, [], ◌∷◌, Bool, true, false, cond, if◌then◌else◌, Option, Some, None, refl, sym, ap, ◌∙◌, subst, arith}
use Rattle.std.specs.Prelude.{IfSome, find}
use Rattle.std.specs.List.{AllByRecursion}
use Rattle.std.proofs.lemmas.List.{drop_all}
use Rattle.std.proofs.lemmas.Slice.Eq.{bytes_eq-Decides}
use Rattle.value_core.specs.declared.cursor.Cursor.{Cursor}
use Rattle.value_core.specs.declared.cursor.Cursor.TheVariants.{Files, At, Never}
use Rattle.value_core.specs.NameFold.{folded, same_name}
use Rattle.commit_payloads.specs.declared.definition.Definition.{Definition}
use Rattle.commit_payloads.specs.declared.definition.StoredBody.{StoredBody}
use Rattle.commit_payloads.specs.declared.definition.StoredBody.TheVariants.{Append, Scd1, Scd2, View}
use Rattle.commit_payloads.specs.declared.definition.StoredFlow.{StoredFlow}
use Rattle.commit_payloads.specs.declared.definition.StoredOrigin.{StoredOrigin}
use Rattle.commit_payloads.specs.declared.definition.StoredOrigin.TheVariants.{Folder, Table}
use Rattle.state_model.specs.After.{moved}
use Rattle.state_model.specs.Dataset.{Dataset, State, changes_after, cursor_in, dataset_of, definitions_of, is_flow, is_named, version_of}
use Rattle.state_steps.specs.Consumed.{IsStreamed, RemoveNone}
use Rattle.state_steps.proofs.Lookups.{Goes, some_and, some_same}
use Rattle.state_steps.proofs.VersionLemmas.{IsStreamedOn, still_kept, still_streamed}
use Rattle.store_fitness.specs.Fitness.{CanGoOn, IsSourceNow, PositionFits}

-- ---- what is found

pub name_itself : (name : List ℕ) → same_name name name ≡ true
name_itself name = (bytes_eq-Decides (folded name) (folded name)).1 refl

there_by : (P : Definition → Type 0) (d : Dataset) (later : Option Dataset) (b : Bool) (found : Dataset) → P d.definition → (later ≡ Some found → P found.definition) → cond b (Some d) later ≡ Some found → P found.definition
there_by P d later true found here behind e = subst (λ (w : Dataset). P w.definition) (some_same d found e) here
there_by P d later false found here behind e = behind e

-- what holds of all definitions holds of that of a dataset that is found
pub all_there : (P : Definition → Type 0) (ds : State) (name : List ℕ) (found : Dataset) → AllByRecursion P (definitions_of ds) → dataset_of ds name ≡ Some found → P found.definition
all_there P [] name found all e = cc
all_there P (d ∷ ds) name found all e = there_by P d (dataset_of ds name) (is_named name d) found all.0 (all_there P ds name found all.1) e

pub if_moved : {A : Type 0} (P Q : A → Type 0) (o : Option A) → ((a : A) → P a → Q a) → IfSome o P → IfSome o Q
if_moved P Q None f h = tt
if_moved P Q (Some a) f h = f a h

pub map_all : {A : Type 0} (P Q : A → Type 0) (xs : List A) → ((x : A) → P x → Q x) → AllByRecursion P xs → AllByRecursion Q xs
map_all P Q [] f all = tt
map_all P Q (x ∷ xs) f all = (f x all.0, map_all P Q xs f all.1)

-- ---- versions

-- after the version now nothing was removed
pub streamed_now : (v : ℕ) (d : Dataset) → v ≡ version_of d → IsStreamed v d
streamed_now v d is =
    let none : changes_after d v ≡ [] = drop_all (v - d.table.base) d.table.changes (omega (arith, is)) in
    ((omega (arith, is), omega (arith, is)), subst RemoveNone (sym none) tt)

pub can_of : (body : StoredBody) (v : ℕ) (d : Dataset) → IsStreamed v d → CanGoOn body v d
can_of Append v d is = is
can_of Scd1 v d is = is
can_of Scd2 v d is = is
can_of View v d is = is.0

still_can : (body : StoredBody) (v : ℕ) (was now : Dataset) → IsStreamedOn was now → CanGoOn body v was → CanGoOn body v now
still_can Append v was now goes is = still_streamed v was now goes is
still_can Scd1 v was now goes is = still_streamed v was now goes is
still_can Scd2 v was now goes is = still_streamed v was now goes is
still_can View v was now goes is = still_kept v was now goes.is_more is

-- ---- positions, where each dataset goes on by changes that remove no row

module _ (was now : State) (go : (name : List ℕ) → Goes IsStreamedOn was now name) (body : StoredBody) where
  pub position_stays : (from : StoredOrigin) (cursor : Cursor) → PositionFits was body from cursor → PositionFits now body from cursor
  position_stays (Folder folder) cursor fits = tt
  position_stays (Table source) (Files places) fits = tt
  position_stays (Table source) Never fits = tt
  position_stays (Table source) (At v) fits = some_and IsStreamedOn (CanGoOn body v) (CanGoOn body v) (dataset_of was source) (dataset_of now source) (go source) (λ a b goes can. still_can body v a b goes can) fits

  pub source_fits : (from : StoredOrigin) (cursor : Cursor) → IsSourceNow was from cursor → PositionFits now body from cursor
  source_fits (Folder folder) cursor is = tt
  source_fits (Table source) (Files places) is = tt
  source_fits (Table source) Never is = tt
  source_fits (Table source) (At v) is =
      some_and IsStreamedOn (λ (d : Dataset). v ≡ version_of d) (CanGoOn body v) (dataset_of was source) (dataset_of now source) (go source)
      (λ a b goes e. can_of body v b (still_streamed v a b goes (streamed_now v a e))) is

-- ---- cursors that moved

-- the cursor of a flow of a name is as it was, or the new one, where this name and that of the batch find one flow
abbrev pub Moves : List StoredFlow → List ℕ → List ℕ → Option Cursor → Option Cursor → Cursor → Type 0
Moves flows name other was now place = (now ≡ was) ⊎ ((now ≡ Some place) × (find (is_flow name) flows ≡ find (is_flow other) flows))

moves_by : (name other : List ℕ) (place cursor : Cursor) (flow : StoredFlow) (flows : List StoredFlow) (cursors : List Cursor) (here there : Bool) → is_flow name flow ≡ here
    → Moves flows name other (cursor_in flows cursors name) (cursor_in flows (moved flows cursors other place) name) place
    → ((cursor_in (flow ∷ flows) (if there then place ∷ cursors else cursor ∷ moved flows cursors other place) name) ≡ (if here then Some cursor else cursor_in flows cursors name))
    ⊎ ((cursor_in (flow ∷ flows) (if there then place ∷ cursors else cursor ∷ moved flows cursors other place) name ≡ Some place) × (cond here (Some flow) (find (is_flow name) flows) ≡ cond there (Some flow) (find (is_flow other) flows)))
moves_by name other place cursor flow flows cursors true true is behind = inr (ap (λ (b : Bool). if b then Some place else cursor_in flows cursors name) is, refl)
moves_by name other place cursor flow flows cursors false true is behind = inl (ap (λ (b : Bool). if b then Some place else cursor_in flows cursors name) is)
moves_by name other place cursor flow flows cursors true false is behind = inl (ap (λ (b : Bool). if b then Some cursor else cursor_in flows (moved flows cursors other place) name) is)
moves_by name other place cursor flow flows cursors false false is behind =
    let step : cursor_in (flow ∷ flows) (cursor ∷ moved flows cursors other place) name ≡ cursor_in flows (moved flows cursors other place) name =
    ap (λ (b : Bool). if b then Some cursor else cursor_in flows (moved flows cursors other place) name) is in
    elim behind [ inl h ↦ inl (step ∙ h) | inr h ↦ inr (step ∙ h.0, h.1) ]

pub cursor_moves : (name other : List ℕ) (place : Cursor) (flows : List StoredFlow) (cursors : List Cursor) → Moves flows name other (cursor_in flows cursors name) (cursor_in flows (moved flows cursors other place) name) place
cursor_moves name other place [] cursors = inl refl
cursor_moves name other place (flow ∷ flows) [] = inl refl
cursor_moves name other place (flow ∷ flows) (cursor ∷ cursors) =
    moves_by name other place cursor flow flows cursors (is_flow name flow) (is_flow other flow) refl (cursor_moves name other place flows cursors)
