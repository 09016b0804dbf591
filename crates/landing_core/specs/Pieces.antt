-- How reading goes on at the next piece of a file.
use Rattle.std.specs.Prelude.{◌≡◌, ℕ, ◌+◌, List, ◌++◌, length, if◌then◌else◌, ◌==◌, Option, Some, None}
use Rattle.value_core.specs.declared.cursor.Format.{Format}
use Rattle.value_core.specs.declared.cursor.Format.TheVariants.{Csv}
use Rattle.landing_core.specs.declared.lines.FreshLine.{FreshLine}
use Rattle.landing_core.specs.declared.lines.Begun.{Begun}
use Rattle.landing_core.specs.declared.heads.Head.{Head}
use Rattle.landing_core.specs.Lines.{CompleteLine, complete_len, first_filled, head_place, head_text, lines_from, rows_from}

-- where the last complete line ends once these bytes follow on a line that has begun
abbrev pub end_from : Begun → List ℕ → ℕ
end_from begun bytes = if complete_len bytes == 0 then begun.start else begun.start + length begun.bytes.items + complete_len bytes

-- the rows and the line that has begun are those after this piece, whatever follows
abbrev pub ReadsOn : Format → Option ℕ → ℕ → List ℕ → Begun → List FreshLine → Begun → List FreshLine → Type 0
ReadsOn format head number piece was lines begun lines' = (tail : List ℕ) → lines' ++ rows_from format head number begun.start begun.bytes.items tail ≡ lines ++ rows_from format head number was.start was.bytes.items (piece ++ tail)

-- so does where the last complete line ends
abbrev pub EndsOn : List ℕ → Begun → Begun → Type 0
EndsOn piece was begun = (tail : List ℕ) → end_from begun tail ≡ end_from was (piece ++ tail)

-- the first line that isn't blank once these bytes follow on a line of a CSV file that has begun
abbrev pub first_from : Begun → List ℕ → Option CompleteLine
first_from begun bytes = first_filled Csv (lines_from begun.start begun.bytes.items bytes)

-- this is what a head says: where it begins and its text
abbrev pub IsHead : Head → Option CompleteLine → Type 0
IsHead head line = (head.place ≡ head_place line) × (head.text ≡ head_text line)

-- the head ends in this piece, or it is the one that is found behind it, whatever follows
abbrev pub FindsOn : List ℕ → Begun → Begun → Option Head → Type 0
FindsOn piece was begun None = (tail : List ℕ) → first_from begun tail ≡ first_from was (piece ++ tail)
FindsOn piece was begun (Some head) = (tail : List ℕ) → IsHead head (first_from was (piece ++ tail))
