-- Which calls of a device in memory are to fail.
use Rattle.std.specs.Prelude.{ℕ, ◌+◌, ◌-◌, ◌^◌, ◌==◌, min, List, IsTrue}
use Rattle.std.specs.List.{list_any}
use Rattle.disk_model.specs.declared.failing.Failing.{Failing}

-- the numbers of the calls that are to fail, from 1
abbrev pub failing_calls : Failing → List ℕ
failing_calls failing = failing.calls.items

-- how many calls were made, up to the last value of a `u64`
abbrev pub calls_made : Failing → ℕ
calls_made failing = failing.made

-- the number of the call behind so many
abbrev pub next_number : ℕ → ℕ
next_number made = min (made + 1) (2 ^ 64 - 1)

-- one of these numbers is the next call's
abbrev pub IsListed : List ℕ → ℕ → Type 0
IsListed numbers made = IsTrue (list_any (λ n. n == next_number made) numbers)
