-- The members of an object.
use Rattle.std.proofs.Common.{◌≡◌, List, [], ◌∷◌, Bool, ◌||◌, refl, ap}
use Rattle.std.specs.Prelude.{String, string_bytes}
use Rattle.std.specs.List.{list_any}
use Rattle.std.specs.declared.alloc.Global.{Global}
use Rattle.serde_json.specs.View.{view, members_view}
use Rattle.serde_json.specs.declared.value.Value.{Value as Json}
use Rattle.value_core.specs.declared.schema.Column.{Column}
use Rattle.line_rows.specs.Json.{is_stray, has_stray}

-- an entry of a map is such a member
abbrev pub is_stray_entry : List Column → String Global × Json → Bool
is_stray_entry columns entry = is_stray columns (string_bytes entry.0, view entry.1)

pub any_stray : (columns : List Column) (entries : List (String Global × Json)) → list_any (is_stray_entry columns) entries ≡ has_stray columns (members_view entries)
any_stray columns [] = refl
any_stray columns (entry ∷ more) = ap (λ rest. is_stray_entry columns entry || rest) (any_stray columns more)
