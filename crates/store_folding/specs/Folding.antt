-- The parts of a store whose older versions are folded away.
use Rattle.std.specs.Prelude.{ℕ, max, List, map}
use Rattle.table_versions.specs.Versions.{Versions, folded, now_of}
use Rattle.commit_payloads.specs.declared.state.DatasetState.{DatasetState}
use Rattle.state_model.specs.Dataset.{State}
use Rattle.state_model.specs.Saved.{folded_for, kept_of, least_of, readers_of}

-- the version at which the base of a table of this name is to stand
abbrev pub base_due : State → List ℕ → Versions → ℕ
base_due state name table = max table.base (least_of (now_of table) (readers_of state name))

-- the table with that base
abbrev pub table_for : State → List ℕ → Versions → Versions
table_for state name table = folded table (base_due state name table)

-- what is kept of each dataset then
abbrev pub folded_states : State → List DatasetState
folded_states state = map (λ dataset. kept_of (folded_for state dataset)) state
