-- The folder that a path names.
use Rattle.std.specs.Prelude.{ℕ, ◌==◌, List, [], ◌∷◌, reverse, length, codes, bytes_eq, Bool, not, ◌&&◌, ◌||◌, if◌then◌else◌, Option, Some, None}
use Rattle.std.specs.List.{list_all, slice_split}
use Rattle.std.specs.Char.{is_ascii_alphanumeric}

-- `/` is 47
abbrev pub without_leading_slashes : List ℕ → List ℕ
without_leading_slashes [] = []
without_leading_slashes (b ∷ bs) = if b == 47 then without_leading_slashes bs else b ∷ bs

-- a path without its leading and trailing slashes
abbrev pub trimmed : List ℕ → List ℕ
trimmed path = reverse (without_leading_slashes (reverse (without_leading_slashes path)))

-- a letter, a digit, `_`, `.` or `-`
abbrev pub is_path_byte : ℕ → Bool
is_path_byte b = is_ascii_alphanumeric b || b == 95 || b == 46 || b == 45

-- one or more of these, but neither `.` nor `..`
abbrev pub is_segment : List ℕ → Bool
is_segment z = not (length z == 0) && not (bytes_eq z (codes ".")) && not (bytes_eq z (codes "..")) && list_all is_path_byte z

-- segments with a slash between each two
abbrev pub is_folder : List ℕ → Bool
is_folder z = list_all is_segment (slice_split (λ b. b == 47) z)

-- what is left of the path between its slashes, where it is a folder
abbrev pub folder_of : List ℕ → Option (List ℕ)
folder_of path = if is_folder (trimmed path) then Some (trimmed path) else None
