-- What single options of `read_files` say.
use Rattle.std.specs.Prelude.{ℕ, ◌==◌, nat_lt, List, [], ◌∷◌, ◌++◌, codes, bytes_eq, find, Bool, true, false, not, ◌&&◌, ◌||◌, if◌then◌else◌, Option, Some, None, option_map, option_and_then}
use Rattle.std.specs.List.{list_any}
use Rattle.sql_tree.specs.declared.statement.OptionValue.{OptionValue}
use Rattle.sql_tree.specs.declared.statement.OptionValue.TheVariants as value
use Rattle.sql_tree.specs.declared.statement.SqlOption.{SqlOption}
use Rattle.value_core.specs.declared.cursor.Format.{Format}
use Rattle.value_core.specs.declared.cursor.Format.TheVariants.{Json, Csv}

abbrev pub Word : Type 0
Word = List ℕ

-- the first option of a word
abbrev pub option_named : Word → List SqlOption → Option SqlOption
option_named word options = find (λ option. bytes_eq option.word word) options

-- what an option is set to, if it is there
abbrev pub set_to : Word → List SqlOption → Option OptionValue
set_to word options = option_map (λ option. option.value) (option_named word options)

-- ---- words, byte for byte

abbrev pub is_known : Word → Bool
is_known word = list_any (bytes_eq word) (codes "format" ∷ codes "schema" ∷ codes "header" ∷ codes "sep" ∷ codes "rescuedDataColumn" ∷ [])

abbrev pub has_word : List SqlOption → Word → Bool
has_word options word = list_any (λ option. bytes_eq option.word word) options

-- among options behind others, the word of the first that is unknown or repeats an earlier one
abbrev pub stray_behind : List SqlOption → List SqlOption → Option Word
stray_behind before [] = None
stray_behind before (option ∷ more) =
    if is_known option.word && not (has_word before option.word) then stray_behind (before ++ option ∷ []) more else Some option.word

abbrev pub stray_word : List SqlOption → Option Word
stray_word = stray_behind []

-- ---- values

-- the string `json` or `csv`
abbrev pub format_named : OptionValue → Option Format
format_named (value.Bool truth) = None
format_named (value.Str text) = if bytes_eq text (codes "json") then Some Json else (if bytes_eq text (codes "csv") then Some Csv else None)

abbrev pub format_of : List SqlOption → Option Format
format_of options = option_and_then format_named (set_to (codes "format") options)

-- an ASCII character other than `"`, CR and LF
abbrev pub is_separator : ℕ → Bool
is_separator b = nat_lt b 128 && not (b == 34 || b == 13 || b == 10)

abbrev pub one_separator : List ℕ → Option ℕ
one_separator (b ∷ []) = if is_separator b then Some b else None
one_separator _ = None

-- a comma where nothing is said
abbrev pub separator_by : Option OptionValue → Option ℕ
separator_by None = Some 44
separator_by (Some (value.Bool truth)) = None
separator_by (Some (value.Str text)) = one_separator text

abbrev pub separator_of : List SqlOption → Option ℕ
separator_of options = separator_by (set_to (codes "sep") options)

-- the string `true` or `false`
abbrev pub truth_named : List ℕ → Option Bool
truth_named text = if bytes_eq text (codes "true") then Some true else (if bytes_eq text (codes "false") then Some false else None)

-- a header where nothing is said
abbrev pub header_by : Option OptionValue → Option Bool
header_by None = Some true
header_by (Some (value.Bool truth)) = Some truth
header_by (Some (value.Str text)) = truth_named text

abbrev pub header_of : List SqlOption → Option Bool
header_of options = header_by (set_to (codes "header") options)

-- ---- what JSON has no use for

abbrev pub is_of_csv : Word → Bool
is_of_csv word = bytes_eq word (codes "header") || bytes_eq word (codes "sep")

-- the word of the first option that stands with json and is of CSV
abbrev pub idle_word : Format → List SqlOption → Option Word
idle_word Csv options = None
idle_word Json options = option_map (λ option. option.word) (find (λ option. is_of_csv option.word) options)
