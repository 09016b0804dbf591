-- The bytes of a payload, and which payloads have a spelling.
use Rattle.std.specs.Prelude.{ℕ, List, [], ◌∷◌, Bool, true, false}
use Rattle.segment_rows.specs.Ranges.{IsList}
use Rattle.segment_rows.specs.Spelling.{spelled_list}
use Rattle.commit_records.specs.declared.payload.Payload.{Payload}
use Rattle.commit_records.specs.declared.payload.Payload.TheVariants.{Define, Take, Refresh, Reset, Base}
use Rattle.commit_records.specs.Forms.{AreDefinitions, IsBatch}
use Rattle.commit_records.specs.Ranges.{IsDefinition, IsTake}
use Rattle.commit_records.specs.Spelling.{spelled_definition, spelled_take}

abbrev pub fresh_byte : Bool → ℕ
fresh_byte true = 1
fresh_byte false = 0

-- the format, 1, then which payload, then its parts; the last three have no spelling yet
abbrev pub spelled_payload : Payload → List ℕ
spelled_payload (Define fresh list) = 1 ∷ 1 ∷ fresh_byte fresh ∷ spelled_list spelled_definition list
spelled_payload (Take take) = 1 ∷ 2 ∷ spelled_take take
spelled_payload (Refresh refresh) = []
spelled_payload (Reset names) = []
spelled_payload (Base state) = []

-- whether a payload may be written
abbrev pub IsWritable : Payload → Type 0
IsWritable (Define fresh list) = AreDefinitions list
IsWritable (Take take) = IsBatch take
IsWritable (Refresh refresh) = ⊥
IsWritable (Reset names) = ⊥
IsWritable (Base state) = ⊥

-- a payload that may be written, with its numbers in range and its texts in UTF-8
abbrev pub HasSpelling : Payload → Type 0
HasSpelling (Define fresh list) = IsList IsDefinition list × AreDefinitions list
HasSpelling (Take take) = IsTake take × IsBatch take
HasSpelling (Refresh refresh) = ⊥
HasSpelling (Reset names) = ⊥
HasSpelling (Base state) = ⊥
