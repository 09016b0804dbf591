-- One command, by its name and its arguments.
use Rattle.std.specs.Prelude.{ℕ, ◌-◌, ◌^◌, List, [], ◌∷◌, codes, ◌&&◌, if◌then◌else◌, Option, Some, None, option_map, option_and_then}
use Rattle.std.specs.Str.{bytes_eq}
use Rattle.update_plan.specs.declared.ends.Refresh.{Refresh}
use Rattle.command_words.specs.declared.arguments.Argument.{Argument}
use Rattle.command_words.specs.declared.arguments.CommandOption.TheVariants.{FullRefresh, Workers, Version}
use Rattle.command_words.specs.declared.command.Command.{Command}
use Rattle.command_words.specs.declared.command.Command.TheVariants as command
use Rattle.command_words.specs.Arguments.{arguments}
use Rattle.command_words.specs.Numbers.{number, number_within}
use Rattle.command_words.specs.Refreshes.{is_empty, refresh_given}
use Rattle.command_words.specs.Values.{operands, values, at_most_one}

-- a command that takes no argument
abbrev pub bare : Command → List Argument → Option Command
bare command list = if is_empty list then Some command else None

-- ---- update [--full-refresh all or names] [--workers N]

-- one worker where none is given, and else 1 to 64
abbrev pub workers_given : Option (List ℕ) → Option ℕ
workers_given None = Some 1
workers_given (Some value) = number_within 1 64 value

abbrev pub update_with : Option Refresh → Option ℕ → Option Command
update_with (Some refresh) (Some workers) = Some (command.Update refresh workers)
update_with refresh workers = None

abbrev pub update_of : List Argument → Option Command
update_of list =
    if is_empty (operands list) && is_empty (values Version list)
    then update_with (option_and_then refresh_given (at_most_one (values FullRefresh list))) (option_and_then workers_given (at_most_one (values Workers list)))
    else None

-- the operand, where there is just one
abbrev pub one_operand : List Argument → Option (List ℕ)
one_operand list = option_and_then (λ found. found) (at_most_one (operands list))

-- ---- show NAME [--version N]

-- the last version where none is given
abbrev pub version_given : Option (List ℕ) → Option (Option ℕ)
version_given None = Some None
version_given (Some value) = option_map (λ version. Some version) (number value)

abbrev pub show_with : Option (List ℕ) → Option (Option ℕ) → Option Command
show_with (Some name) (Some version) = Some (command.Show name version)
show_with name version = None

abbrev pub show_of : List Argument → Option Command
show_of list =
    if is_empty (values FullRefresh list) && is_empty (values Workers list)
    then show_with (one_operand list) (option_and_then version_given (at_most_one (values Version list)))
    else None

-- ---- generate N

abbrev pub generate_with : List ℕ → Option Command
generate_with count = option_map (λ n. command.Generate n) (number_within 1 200000 count)

abbrev pub generate_of : List Argument → Option Command
generate_of list =
    if is_empty (values FullRefresh list) && is_empty (values Workers list) && is_empty (values Version list) then option_and_then generate_with (one_operand list) else None

-- ---- each command

abbrev pub command_with : List ℕ → List Argument → Option Command
command_with word list =
    if bytes_eq word (codes "validate") then bare command.Validate list
    else (if bytes_eq word (codes "update") then update_of list
    else (if bytes_eq word (codes "show") then show_of list
    else (if bytes_eq word (codes "metrics") then bare command.Metrics list
    else (if bytes_eq word (codes "compact") then bare command.Compact list
    else (if bytes_eq word (codes "generate") then generate_of list else None)))))

-- the command that words ask for: its name and then its arguments
abbrev pub command_of : List (List ℕ) → Option Command
command_of [] = None
command_of (word ∷ words) = option_and_then (command_with word) (arguments words)
