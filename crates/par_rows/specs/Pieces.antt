-- How rows are cut into pieces, and what the pieces give.
use Rattle.std.specs.Prelude.{◌≡◌, ℕ, ◌+◌, ◌*◌, ◌/◌, ◌%◌, ◌<◌, ◌≤◌, List, [], ◌∷◌, ◌++◌, take, drop, length, min, All, Result, Ok, Err}
use Rattle.par_rows.specs.declared.piece.Piece.{Piece}
use Rattle.par_rows.specs.Rows.{Answered}

-- the pieces have the numbers from number on, and follow one another from row first up to row end
abbrev pub Covers : ℕ → ℕ → ℕ → List Piece → Type 0
Covers number first end [] = first ≡ end
Covers number first end (piece ∷ more) = ((piece.number ≡ number) × (piece.first ≡ first)) × Covers (number + 1) (first + piece.rows) end more

-- each piece has so many rows, or one more
abbrev pub AreEven : ℕ → List Piece → Type 0
AreEven least [] = Unit {0}
AreEven least (piece ∷ more) = ((least ≤ piece.rows) × (piece.rows ≤ least + 1)) × AreEven least more

-- the row at which a piece begins, and the one before it ends, where rows are cut into so many pieces: the first ones are longer by one row where the rest wants it
abbrev pub begin_of : ℕ → ℕ → ℕ → ℕ
begin_of count rows piece = piece * (rows / count) + min piece (rows % count)

-- a piece stands where its number says
pub record IsPieceOf (count rows : ℕ) (piece : Piece) : Type 0 where
  pub begins : piece.first ≡ begin_of count rows piece.number
  pub ends : piece.first + piece.rows ≡ begin_of count rows (piece.number + 1)
  pub within : piece.first + piece.rows ≤ rows

-- a row whose piece has passed the gate, where rows are cut for so many workers
abbrev pub IsBehind : (ℕ → Type 0) → ℕ → ℕ → ℕ → Type 0
IsBehind passed workers rows row = (piece : ℕ) × passed piece × (begin_of (min workers rows) rows piece ≤ row) × (row < begin_of (min workers rows) rows (piece + 1))

-- the rows are cut in order into as many pieces as there are workers, or rows where these are fewer, and none is empty or longer than another by more than one
pub record IsCut (workers rows : ℕ) (pieces : List Piece) : Type 0 where
  pub count : length pieces ≡ min workers rows
  pub in_order : Covers 0 0 rows pieces
  pub even : (least : ℕ) × (0 < least) × AreEven least pieces
  pub placed : All (IsPieceOf (min workers rows) rows) pieces

-- what a piece gives, where it stands first
abbrev pub GivesPiece : {T R : Type 0} → (ℕ → T → R → Type 0) → List T → List Piece → List R → Type 0
GivesPiece P rows [] answers = answers ≡ []
GivesPiece P rows (piece ∷ more) answers = Answered P piece.first (take piece.rows (drop piece.first rows)) answers

-- no piece wanted memory
abbrev pub AllCame : {V E : Type 0} → List (Result V E) → Type 0
AllCame [] = Unit {0}
AllCame (Err e ∷ parts) = ⊥
AllCame (Ok v ∷ parts) = AllCame parts

-- the answers of all pieces in order
abbrev pub joined : {V E R : Type 0} → (V → List R) → List (Result V E) → List R
joined items [] = []
joined items (Err e ∷ parts) = joined items parts
joined items (Ok v ∷ parts) = items v ++ joined items parts
