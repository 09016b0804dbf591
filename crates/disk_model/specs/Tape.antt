-- The record that a disk in memory keeps of its calls.
use Rattle.std.specs.Prelude.{◌≡◌, ℕ, ◌+◌, ◌≤◌, List, [], ◌∷◌, ◌++◌, length}
use Rattle.disk_model.specs.declared.record.Call.{Call}
use Rattle.disk_model.specs.declared.tape.Tape.{Tape}

abbrev pub tape_calls : Tape → List Call
tape_calls tape = tape.calls.items

-- what the writes wrote, one behind the other
abbrev pub tape_pieces : Tape → List ℕ
tape_pieces tape = tape.pieces.items

abbrev pub tape_limit : Tape → ℕ
tape_limit tape = tape.limit

-- how long the record is: a byte for each call, and the bytes that a write wrote
abbrev pub tape_length : Tape → ℕ
tape_length tape = length (tape_calls tape) + length (tape_pieces tape)

-- a call with so many bytes to write has its place in the record
abbrev pub HasPlaceFor : ℕ → Tape → Type 0
HasPlaceFor n tape = tape_length tape + 1 + n ≤ tape_limit tape

-- a call stands behind the others
pub record Notes (call : Call) (piece : List ℕ) (old new : Tape) : Type 0 where
  pub calls : tape_calls new ≡ tape_calls old ++ call ∷ []
  pub pieces : tape_pieces new ≡ tape_pieces old ++ piece
  pub limit : tape_limit new ≡ tape_limit old
