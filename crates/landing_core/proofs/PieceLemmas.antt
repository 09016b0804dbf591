-- What is left of a file behind the next piece.
use Rattle.std.proofs.Common.{◌≡◌, ℕ, ◌+◌, ◌-◌, ◌<◌, ◌≤◌, List, [], ◌∷◌, ◌++◌, length, get_or, take, drop, append_assoc, Some, None, sym, ap, ◌∙◌, arith, Option}
use Rattle.std.specs.Prelude.{slice_range}
use Rattle.std.proofs.Math.Seq.{take-add}
use Rattle.std.proofs.lemmas.List.{drop-drop, drop_more, take-append-drop}
use Rattle.std.proofs.lemmas.Slice.{between_from_start}
use Rattle.value_core.specs.declared.cursor.Format.{Format}
use Rattle.landing_core.specs.declared.lines.FreshLine.{FreshLine}
use Rattle.landing_core.specs.declared.lines.Begun.{Begun}
use Rattle.landing_core.specs.declared.heads.Head.{Head}
use Rattle.landing_core.specs.Lines.{CompleteLine, rows_from}
use Rattle.landing_core.specs.Pieces.{ReadsOn, EndsOn, FindsOn, IsHead, end_from, first_from}

pub split_piece : (bytes : List ℕ) (at len size : ℕ) → at + len ≤ size → slice_range bytes at size ≡ slice_range bytes at (at + len) ++ slice_range bytes (at + len) size
split_piece bytes at len size within =
    let total : size - at ≡ (at + len - at) + (size - (at + len)) = omega arith in
    let back : drop (at + len - at) (drop at bytes) ≡ drop (at + len) bytes = drop-drop (at + len - at) at bytes ∙ ap (λ k. drop k bytes) (omega arith) in
    ap (λ k. take k (drop at bytes)) total ∙ take-add (at + len - at) (size - (at + len)) (drop at bytes) ∙ ap (λ ys. take (at + len - at) (drop at bytes) ++ take (size - (at + len)) ys) back

pub rows_more : (format : Format) (head : Option ℕ) (number : ℕ) (bytes piece : List ℕ) (at len size : ℕ) (was begun : Begun) (lines lines' all : List FreshLine) → at + len ≤ size → piece ≡ slice_range bytes at (at + len) → ReadsOn format head number piece was lines begun lines' → lines ++ rows_from format head number was.start was.bytes.items (slice_range bytes at size) ≡ all → lines' ++ rows_from format head number begun.start begun.bytes.items (slice_range bytes (at + len) size) ≡ all
rows_more format head number bytes piece at len size was begun lines lines' all within is reads so_far =
    let whole : slice_range bytes at size ≡ piece ++ slice_range bytes (at + len) size = split_piece bytes at len size within ∙ ap (λ p. p ++ slice_range bytes (at + len) size) (sym is) in
    reads (slice_range bytes (at + len) size) ∙ (rw whole at so_far)

pub end_more : (bytes piece : List ℕ) (at len size : ℕ) (was begun : Begun) (all : ℕ) → at + len ≤ size → piece ≡ slice_range bytes at (at + len) → EndsOn piece was begun → end_from was (slice_range bytes at size) ≡ all → end_from begun (slice_range bytes (at + len) size) ≡ all
end_more bytes piece at len size was begun all within is ends so_far =
    let whole : slice_range bytes at size ≡ piece ++ slice_range bytes (at + len) size = split_piece bytes at len size within ∙ ap (λ p. p ++ slice_range bytes (at + len) size) (sym is) in
    ends (slice_range bytes (at + len) size) ∙ (rw whole at so_far)

-- a piece of this length was read
pub piece_is : (bytes into : List ℕ) (at len given : ℕ) → into ≡ slice_range bytes at (at + given) → given ≡ len → into ≡ slice_range bytes at (at + len)
piece_is bytes into at len given is same = is ∙ ap (λ n. slice_range bytes at (at + n)) same

-- the head ends at this byte of a piece
pub found_at : (piece : List ℕ) (i : ℕ) (was begun now : Begun) (head : Head) → i < length piece → FindsOn (take i piece) was begun None → FindsOn (get_or piece i 0 ∷ []) begun now (Some head) → FindsOn piece was now (Some head)
found_at piece i was begun now head within so_far found tail =
    let behind = drop (i + 1) piece ++ tail in
    let split : piece ≡ take i piece ++ get_or piece i 0 ∷ drop (i + 1) piece = sym (take-append-drop i piece) ∙ ap (λ bs. take i piece ++ bs) (drop_more piece i 0 within) in
    let whole : piece ++ tail ≡ take i piece ++ (get_or piece i 0 ∷ behind) = ap (λ bs. bs ++ tail) split ∙ append_assoc (take i piece) (get_or piece i 0 ∷ drop (i + 1) piece) tail in
    let same : first_from begun (get_or piece i 0 ∷ behind) ≡ first_from was (piece ++ tail) = so_far (get_or piece i 0 ∷ behind) ∙ ap (first_from was) (sym whole) in
    rw same at (found behind)

-- what is left of a file where its head is sought
pub head_start : (bytes : List ℕ) (size : ℕ) → slice_range bytes 0 size ≡ take size bytes
head_start bytes size = between_from_start bytes size

pub head_more : (bytes piece : List ℕ) (at len size : ℕ) (was begun : Begun) (all : Option CompleteLine) → at + len ≤ size → piece ≡ slice_range bytes at (at + len) → FindsOn piece was begun None → first_from was (slice_range bytes at size) ≡ all → first_from begun (slice_range bytes (at + len) size) ≡ all
head_more bytes piece at len size was begun all within is finds so_far =
    let whole : slice_range bytes at size ≡ piece ++ slice_range bytes (at + len) size = split_piece bytes at len size within ∙ ap (λ p. p ++ slice_range bytes (at + len) size) (sym is) in
    finds (slice_range bytes (at + len) size) ∙ (rw whole at so_far)

pub head_found : (bytes piece : List ℕ) (at len size : ℕ) (was begun : Begun) (head : Head) (all : Option CompleteLine) → at + len ≤ size → piece ≡ slice_range bytes at (at + len) → FindsOn piece was begun (Some head) → first_from was (slice_range bytes at size) ≡ all → IsHead head all
head_found bytes piece at len size was begun head all within is finds so_far =
    let whole : slice_range bytes at size ≡ piece ++ slice_range bytes (at + len) size = split_piece bytes at len size within ∙ ap (λ p. p ++ slice_range bytes (at + len) size) (sym is) in
    rw (rw whole at so_far) at (finds (slice_range bytes (at + len) size))
