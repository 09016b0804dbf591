-- Pieces that follow one another, and what they give together.
use Rattle.std.proofs.Common.{suc, ◌≡◌, subst, ℕ, ◌+◌, ◌*◌, ◌/◌, ◌%◌, ◌<◌, ◌≤◌, List, [], ◌∷◌, ◌++◌, length, take, drop, min, arith, All, IfOk, get_or, Result, Ok, Err}
use Rattle.std.proofs.lemmas.List.Elements.{All-nil, All-cons}
use Rattle.std.proofs.lemmas.List.{drop-drop, take-append-drop, length-drop, length-take-le}
use Rattle.std.proofs.Math.Seq.{drop-length}
use Rattle.std.proofs.Math.Nat.{div-add-mod, mul-le-mul_right}
use Rattle.par_rows.specs.declared.piece.Piece.{Piece}
use Rattle.par_rows.specs.Rows.{Answered}
use Rattle.par_rows.specs.Pieces.{Covers, AreEven, GivesPiece, AllCame, IsBehind, IsPieceOf, joined}
use Rattle.par_rows.proofs.RowLemmas.{answered_append}

-- one more piece behind these
pub covers_more : (number first end : ℕ) (pieces : List Piece) (p : Piece) → Covers number first end pieces → p.number ≡ number + length pieces → p.first ≡ end → Covers number first (end + p.rows) (pieces ++ p ∷ [])
covers_more number first end [] p a n f = ((omega arith, omega arith), omega arith)
covers_more number first end (q ∷ more) p a n f = (a.0, covers_more (number + 1) (first + q.rows) end more p a.1 (omega arith) f)

pub even_more : (least : ℕ) (pieces : List Piece) (p : Piece) → AreEven least pieces → least ≤ p.rows → p.rows ≤ least + 1 → AreEven least (pieces ++ p ∷ [])
even_more least [] p a low high = ((low, high), tt)
even_more least (q ∷ more) p a low high = (a.0, even_more least more p a.1 low high)

-- the first row is not behind the last
pub covers_le : (number first end : ℕ) (pieces : List Piece) → Covers number first end pieces → first ≤ end
covers_le number first end [] a = omega arith
covers_le number first end (q ∷ more) a = let b = covers_le (number + 1) (first + q.rows) end more a.1 in omega arith

-- each piece lies within the rows
pub covers_within : (number first end : ℕ) (pieces : List Piece) → Covers number first end pieces → All (λ (piece : Piece). piece.first + piece.rows ≤ end) pieces
covers_within number first end [] a = All-nil (λ (piece : Piece). piece.first + piece.rows ≤ end)
covers_within number first end (q ∷ more) a =
    let b = covers_le (number + 1) (first + q.rows) end more a.1 in
    let f = a.0.1 in
    All-cons (λ (piece : Piece). piece.first + piece.rows ≤ end) q more (omega arith) (covers_within (number + 1) (first + q.rows) end more a.1)

-- where the next piece begins, behind one of the longer pieces and behind one of the others
pub behind_longer : (at least longer first length : ℕ) → first ≡ at * least + min at longer → at < longer → length ≡ least + 1 → first + length ≡ (at + 1) * least + min (at + 1) longer
behind_longer at least longer first length is below l =
    let d : (at + 1) * least ≡ at * least + least = grind arith in
    omega arith

pub behind_other : (at least longer first length : ℕ) → first ≡ at * least + min at longer → longer ≤ at → length ≡ least → first + length ≡ (at + 1) * least + min (at + 1) longer
behind_other at least longer first length is below l =
    let d : (at + 1) * least ≡ at * least + least = grind arith in
    omega arith

-- the pieces end with the last row
pub at_end : (count rows : ℕ) → 0 < count → count * (rows / count) + min count (rows % count) ≡ rows
at_end count rows some =
    let d = div-add-mod rows count in
    let m : rows % count < count = omega arith in
    omega arith

-- no piece ends behind the last row
pub not_past : (count rows at : ℕ) → at < count → (at + 1) * (rows / count) + min (at + 1) (rows % count) ≤ rows
not_past count rows at below =
    let whole = at_end count rows (omega arith) in
    let up : at + 1 ≤ count = omega arith in
    let more = mul-le-mul_right (rows / count) up in
    omega arith

-- where a piece has passed the gate, its rows may be taken
pub behind : (passed : ℕ → Type 0) (workers rows : ℕ) (piece : Piece) (k : ℕ) → passed piece.number → IsPieceOf (min workers rows) rows piece → k < piece.rows → IsBehind passed workers rows (piece.first + k)
behind passed workers rows piece k entered is below = (piece.number, entered, omega (arith, is.begins), omega (arith, is.ends))

-- what the pieces give is what the rows give
pub pieces_give : {T R V E : Type 0} (P : ℕ → T → R → Type 0) (items : V → List R) (rows : List T) (number first : ℕ) (pieces : List Piece) (parts : List (Result V E)) → Covers number first (length rows) pieces → Answered (λ k (piece : Piece) (part : Result V E). IfOk part (λ v. Answered P piece.first (take piece.rows (drop piece.first rows)) (items v))) number pieces parts → AllCame parts → Answered P first (drop first rows) (joined items parts)
pieces_give P items rows number first [] [] covers given came = rw (covers, drop-length rows) tt
pieces_give P items rows number first [] (part ∷ parts) covers given came = absurd given
pieces_give P items rows number first (piece ∷ more) [] covers given came = absurd given
pieces_give P items rows number first (piece ∷ more) (Err e ∷ parts) covers given came = absurd came
pieces_give P items rows number first (piece ∷ more) (Ok v ∷ parts) covers given came =
    let within = covers_le (number + 1) (first + piece.rows) (length rows) more covers.1 in
    let size : length (take piece.rows (drop first rows)) ≡ piece.rows = length-take-le piece.rows (drop first rows) (omega (arith, length-drop first rows)) in
    let here : Answered P first (take piece.rows (drop first rows)) (items v) = subst (λ n. Answered P n (take piece.rows (drop n rows)) (items v)) covers.0.1 given.0 in
    let rest : Answered P (first + piece.rows) (drop piece.rows (drop first rows)) (joined items parts) = rw (drop-drop piece.rows first rows) (pieces_give P items rows (number + 1) (first + piece.rows) more parts covers.1 given.1 came) in
    subst (λ xs. Answered P first xs (items v ++ joined items parts)) (take-append-drop piece.rows (drop first rows)) (answered_append P first (take piece.rows (drop first rows)) (items v) (first + piece.rows) (drop piece.rows (drop first rows)) (joined items parts) (omega (arith, size)) here rest)

-- what holds of each holds of each in a part
pub all_of_part : (P : Piece → Type 0) (start : ℕ) (all part : List Piece) → All P all → start + length part ≤ length all → ((k : ℕ) (d : Piece) → k < length part → get_or part k d ≡ get_or all (start + k) d) → All P part
all_of_part P start all part each inside same k d below = rw (same k d below) (each (start + k) d (omega arith))

-- one more of which it holds
pub all_more : (P : Piece → Type 0) (pieces : List Piece) (p : Piece) → All P pieces → P p → All P (pieces ++ p ∷ [])
all_more P [] p each here = All-cons P p [] here (All-nil P)
all_more P (q ∷ more) p each here = All-cons P q (more ++ p ∷ []) (each 0 q (omega arith)) (all_more P more p (λ k d below. each (suc k) d (omega arith)) here)

-- what the piece at a place gives, from what its chunk gave
pub chunk_gives : {T R V E : Type 0} (P : ℕ → T → R → Type 0) (items : V → List R) (rows : List T) (all one : List Piece) (k : ℕ) (piece : Piece) (part : Result V E) → 0 < length one → get_or one 0 piece ≡ get_or all k piece → IfOk part (λ v. GivesPiece P rows one (items v)) → IfOk part (λ v. Answered P (get_or all k piece).first (take (get_or all k piece).rows (drop (get_or all k piece).first rows)) (items v))
chunk_gives P items rows all [] k piece part some is given = absurd (omega arith)
chunk_gives P items rows all (p ∷ more) k piece (Ok v) some is given = subst (λ (q : Piece). Answered P q.first (take q.rows (drop q.first rows)) (items v)) is given
chunk_gives P items rows all (p ∷ more) k piece (Err e) some is given = given
