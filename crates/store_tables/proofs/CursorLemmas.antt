-- Cursors beside their flows.
use Rattle.std.proofs.Common.{◌≡◌, ℕ, zero, suc, ◌<◌, ◌≤◌, List, [], ◌∷◌, length, get_or, set, Some, None, refl, ap, arith}
use Rattle.std.specs.Prelude.{find}
use Rattle.value_core.specs.declared.cursor.Cursor.{Cursor}
use Rattle.commit_payloads.specs.declared.definition.StoredFlow.{StoredFlow}
use Rattle.state_model.specs.Dataset.{is_flow, cursor_in}
use Rattle.state_model.specs.After.{moved}
use Rattle.store_tables.specs.Places.{IsFirst}
use Rattle.store_tables.proofs.FirstLemmas.{by_cases, none-split}

pub moved-none : (name : List ℕ) (flows : List StoredFlow) (cursors : List Cursor) (new : Cursor) → find (is_flow name) flows ≡ None → cursors ≡ moved flows cursors name new
moved-none name [] cursors new e = refl
moved-none name (flow ∷ flows) [] new e = refl
moved-none name (flow ∷ flows) (c ∷ cursors) new e =
    let split = none-split (is_flow name) flow flows e in
    rw split.0 (ap (λ rest. c ∷ rest) (moved-none name flows cursors new split.1))

pub cursor-none : (name : List ℕ) (flows : List StoredFlow) (cursors : List Cursor) → find (is_flow name) flows ≡ None → None ≡ cursor_in flows cursors name
cursor-none name [] cursors e = refl
cursor-none name (flow ∷ flows) [] e = refl
cursor-none name (flow ∷ flows) (c ∷ cursors) e =
    let split = none-split (is_flow name) flow flows e in
    rw split.0 (cursor-none name flows cursors split.1)

pub moved-past : (name : List ℕ) (flows : List StoredFlow) (cursors : List Cursor) (i : ℕ) (new : Cursor) → IsFirst (is_flow name) flows i → length cursors ≤ i → cursors ≡ moved flows cursors name new
moved-past name [] cursors i new first h = refl
moved-past name (flow ∷ flows) [] i new first h = refl
moved-past name (flow ∷ flows) (c ∷ cursors) zero new first h = absurd (omega arith)
moved-past name (flow ∷ flows) (c ∷ cursors) (suc i) new first h = rw first.0 (ap (λ rest. c ∷ rest) (moved-past name flows cursors i new first.1 (omega arith)))

pub cursor-past : (name : List ℕ) (flows : List StoredFlow) (cursors : List Cursor) (i : ℕ) → IsFirst (is_flow name) flows i → length cursors ≤ i → None ≡ cursor_in flows cursors name
cursor-past name [] cursors i first h = refl
cursor-past name (flow ∷ flows) [] i first h = refl
cursor-past name (flow ∷ flows) (c ∷ cursors) zero first h = absurd (omega arith)
cursor-past name (flow ∷ flows) (c ∷ cursors) (suc i) first h = rw first.0 (cursor-past name flows cursors i first.1 (omega arith))

pub moved-at : (name : List ℕ) (flows : List StoredFlow) (cursors : List Cursor) (i : ℕ) (new : Cursor) → IsFirst (is_flow name) flows i → i < length cursors → set cursors i new ≡ moved flows cursors name new
moved-at name [] cursors i new first h = absurd first
moved-at name (flow ∷ flows) [] i new first h = absurd (omega arith)
moved-at name (flow ∷ flows) (c ∷ cursors) zero new first h = rw first refl
moved-at name (flow ∷ flows) (c ∷ cursors) (suc i) new first h = rw first.0 (ap (λ rest. c ∷ rest) (moved-at name flows cursors i new first.1 (omega arith)))

pub cursor-at : (name : List ℕ) (flows : List StoredFlow) (cursors : List Cursor) (i : ℕ) (old : Cursor) → IsFirst (is_flow name) flows i → i < length cursors → old ≡ get_or cursors i old → Some old ≡ cursor_in flows cursors name
cursor-at name [] cursors i old first h e = absurd first
cursor-at name (flow ∷ flows) [] i old first h e = absurd (omega arith)
cursor-at name (flow ∷ flows) (c ∷ cursors) zero old first h e = rw first (ap Some e)
cursor-at name (flow ∷ flows) (c ∷ cursors) (suc i) old first h e = rw first.0 (cursor-at name flows cursors i old first.1 (omega arith) e)

-- a cursor that is put back
pub moved-back : (name : List ℕ) (flows : List StoredFlow) (cursors : List Cursor) (old new : Cursor) → cursor_in flows cursors name ≡ Some old → moved flows (moved flows cursors name new) name old ≡ cursors
moved-back name [] cursors old new found = refl
moved-back name (flow ∷ flows) [] old new found = refl
moved-back name (flow ∷ flows) (c ∷ cursors) old new found =
    by_cases (is_flow name flow)
    (λ t. let here = rw t at found in let same : old ≡ c = cc in rw (t, t) (ap (λ x. x ∷ cursors) same))
    (λ f. let behind = rw f at found in rw (f, f) (ap (λ rest. c ∷ rest) (moved-back name flows cursors old new behind)))
