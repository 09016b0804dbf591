-- Late events that were worked by hand, and how many kept events each touches.
use Rattle.std.specs.Prelude.{◌≡◌, ℕ, zero, suc, pos, true, false, List, [], ◌∷◌}
use Rattle.value_core.specs.declared.event.Event.{Event}
use Rattle.value_core.specs.declared.event.EventKind.TheVariants.{Upsert, Delete}
use Rattle.value_core.specs.declared.value.Value.{Value}
use Rattle.value_core.specs.declared.value.Value.TheVariants.{Null, Int, Big}
use Rattle.cdc_scd2.specs.Looks.{touched}

abbrev pub upsert : ℕ → Value → Value → Event
upsert sequence name city = record { kind = Upsert; sequence = Big (pos sequence) ∷ []; key = Int (pos 123) ∷ []; columns = name ∷ city ∷ [] }

abbrev pub delete : ℕ → Event
delete sequence = record { kind = Delete; sequence = Big (pos sequence) ∷ []; key = Int (pos 123) ∷ []; columns = [] }

abbrev pub big : ℕ → Value
big n = Big (pos n)

-- so many moves at every second sequence, each to another city
abbrev pub moves : ℕ → ℕ → List Event
moves zero sequence = []
moves (suc n) sequence = upsert sequence (big 11) (big sequence) ∷ moves n (suc (suc sequence))

-- of a thousand moves, a late one touches the one before it alone
abbrev pub LongHistory : Type 0
LongHistory =
    touched false (0 ∷ 1 ∷ []) (moves 1000 1) (upsert 1000 (big 11) (big 0)) ≡ 1

-- another name in the middle of a run touches the two events of that run
abbrev pub LateSplit : Type 0
LateSplit =
    touched false (0 ∷ []) (upsert 1 (big 11) (big 21) ∷ upsert 5 (big 11) (big 22) ∷ delete 6 ∷ []) (upsert 3 (big 12) (big 23)) ≡ 2

-- a late value touches the event before it, and the one behind it, whose NULL it stands for
abbrev pub LateNull : Type 0
LateNull =
    touched true (0 ∷ 1 ∷ []) (upsert 1 (big 31) (big 41) ∷ upsert 3 Null (big 42) ∷ []) (upsert 2 (big 32) Null) ≡ 2

-- an event in the middle of a run, with the columns of that run, touches nothing
abbrev pub LateRepeat : Type 0
LateRepeat =
    touched false (0 ∷ []) (upsert 1 (big 11) (big 21) ∷ upsert 2 (big 11) (big 21) ∷ upsert 5 (big 11) (big 21) ∷ []) (upsert 3 (big 11) (big 21)) ≡ 0
