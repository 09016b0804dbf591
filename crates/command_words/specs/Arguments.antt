-- The arguments of a command: operands, and options with their values.
use Rattle.std.specs.Prelude.{ℕ, List, [], ◌∷◌, drop, codes, Bool, true, false, ◌==◌, if◌then◌else◌, Option, Some, None, is_some}
use Rattle.std.specs.List.{list_any, before_first, after_first}
use Rattle.std.specs.Str.{bytes_eq}
use Rattle.command_words.specs.declared.arguments.Argument.{Argument}
use Rattle.command_words.specs.declared.arguments.Argument.TheVariants.{Operand, Valued}
use Rattle.command_words.specs.declared.arguments.CommandOption.{CommandOption}
use Rattle.command_words.specs.declared.arguments.CommandOption.TheVariants.{FullRefresh, Workers, Version}

-- the option that a word spells in full
abbrev pub option_named : List ℕ → Option CommandOption
option_named word =
    if bytes_eq word (codes "--full-refresh") then Some FullRefresh
    else (if bytes_eq word (codes "--workers") then Some Workers
    else (if bytes_eq word (codes "--version") then Some Version else None))

-- it begins with a minus sign, and so is no operand and no value
abbrev pub is_dashed : List ℕ → Bool
is_dashed [] = false
is_dashed (byte ∷ bytes) = byte == 45

abbrev pub is_equals : ℕ → Bool
is_equals byte = byte == 61

-- a word that is no option, if it is not empty
abbrev pub operand : List ℕ → Option Argument
operand [] = None
operand (byte ∷ bytes) = Some (Operand (byte ∷ bytes))

-- an option with a value, if both are there and the value is not empty
abbrev pub valued : Option CommandOption → List ℕ → Option Argument
valued None value = None
valued (Some option) [] = None
valued (Some option) (byte ∷ bytes) = Some (Valued option (byte ∷ bytes))

-- an option and its value with an equals sign between them
abbrev pub joined : List ℕ → Option Argument
joined word = if list_any is_equals word then valued (option_named (before_first is_equals word)) (after_first is_equals word) else None

-- one word: an operand, or an option with its value
abbrev pub alone : List ℕ → Option Argument
alone word = if is_dashed word then joined word else operand word

-- an option and the next word as its value
abbrev pub beside : CommandOption → List (List ℕ) → Option Argument
beside option [] = None
beside option (value ∷ words) = if is_dashed value then None else valued (Some option) value

-- the argument that begins with a word, before these
abbrev pub argument_by : Option CommandOption → List ℕ → List (List ℕ) → Option Argument
argument_by None word words = alone word
argument_by (Some option) word words = beside option words

abbrev pub argument : List ℕ → List (List ℕ) → Option Argument
argument word words = argument_by (option_named word) word words

-- one argument and then others, if all of them are there
abbrev pub one_more : Option Argument → Option (List Argument) → Option (List Argument)
one_more None more = None
one_more (Some first) None = None
one_more (Some first) (Some more) = Some (first ∷ more)

-- the arguments that words spell, if each is of the form
abbrev pub arguments : List (List ℕ) → Option (List Argument)
arguments [] = Some []
arguments (word ∷ []) = one_more (argument word []) (Some [])
arguments (word ∷ next ∷ words) = one_more (argument word (next ∷ words)) (if is_some (option_named word) then arguments words else arguments (next ∷ words))
