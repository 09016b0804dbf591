-- The bytes of a payload, and which payloads have a spelling.
use Rattle.std.specs.Prelude.{⊤, ℕ, List, [], ◌∷◌, Bool, true, false}
use Rattle.segment_rows.specs.Ranges.{IsList, IsText}
use Rattle.segment_rows.specs.Spelling.{spelled_list, spelled_text}
use Rattle.commit_payloads.specs.declared.payload.Payload.{Payload}
use Rattle.commit_payloads.specs.declared.payload.Payload.TheVariants.{Define, Take, Refresh, Reset, Base}
use Rattle.commit_payloads.specs.Forms.{AreDefinitions, IsBase, IsBatch, IsRenewal}
use Rattle.commit_payloads.specs.Ranges.{IsDefinition, IsRefresh, IsState, IsTake}
use Rattle.commit_payloads.specs.Spelling.{spelled_definition, spelled_refresh, spelled_state, spelled_take}

abbrev pub fresh_byte : Bool → ℕ
fresh_byte true = 1
fresh_byte false = 0

-- the format, 1, then which payload, then its parts
abbrev pub spelled_payload : Payload → List ℕ
spelled_payload (Define fresh list) = 1 ∷ 1 ∷ fresh_byte fresh ∷ spelled_list spelled_definition list
spelled_payload (Take take) = 1 ∷ 2 ∷ spelled_take take
spelled_payload (Refresh refresh) = 1 ∷ 3 ∷ spelled_refresh refresh
spelled_payload (Reset names) = 1 ∷ 4 ∷ spelled_list spelled_text names
spelled_payload (Base state) = 1 ∷ 5 ∷ spelled_state state

-- whether a payload may be written
abbrev pub IsWritable : Payload → Type 0
IsWritable (Define fresh list) = AreDefinitions list
IsWritable (Take take) = IsBatch take
IsWritable (Refresh refresh) = IsRenewal refresh
IsWritable (Reset names) = ⊤
IsWritable (Base state) = IsBase state

-- a payload that may be written, with its numbers in range and its texts in UTF-8
abbrev pub HasSpelling : Payload → Type 0
HasSpelling (Define fresh list) = IsList IsDefinition list × AreDefinitions list
HasSpelling (Take take) = IsTake take × IsBatch take
HasSpelling (Refresh refresh) = IsRefresh refresh × IsRenewal refresh
HasSpelling (Reset names) = IsList IsText names
HasSpelling (Base state) = IsState state × IsBase state
