-- The values that arguments give, each once at most.
use Rattle.std.specs.Prelude.{ℕ, List, [], ◌∷◌, Bool, true, false, if◌then◌else◌, filter_map, Option, Some, None}
use Rattle.command_words.specs.declared.arguments.Argument.{Argument}
use Rattle.command_words.specs.declared.arguments.Argument.TheVariants.{Operand, Valued}
use Rattle.command_words.specs.declared.arguments.CommandOption.{CommandOption}
use Rattle.command_words.specs.declared.arguments.CommandOption.TheVariants.{FullRefresh, Workers, Version}

abbrev pub same_option : CommandOption → CommandOption → Bool
same_option FullRefresh FullRefresh = true
same_option Workers Workers = true
same_option Version Version = true
same_option option other = false

abbrev pub operand_of : Argument → Option (List ℕ)
operand_of (Operand word) = Some word
operand_of (Valued option value) = None

abbrev pub value_of : CommandOption → Argument → Option (List ℕ)
value_of option (Operand word) = None
value_of option (Valued given value) = if same_option option given then Some value else None

-- the operands, in order
abbrev pub operands : List Argument → List (List ℕ)
operands list = filter_map operand_of list

-- the values of an option, in order
abbrev pub values : CommandOption → List Argument → List (List ℕ)
values option list = filter_map (value_of option) list

-- what a list of one item or none holds, and nothing for a longer list
abbrev pub at_most_one : {A : Type 0} → List A → Option (Option A)
at_most_one [] = Some None
at_most_one (item ∷ []) = Some (Some item)
at_most_one (item ∷ next ∷ more) = None
