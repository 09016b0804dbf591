-- The words of a command line: three paths, and then commands with the word `then` between two of them.
use Rattle.std.specs.Prelude.{ℕ, List, [], ◌∷◌, codes, Bool, not, ◌&&◌, if◌then◌else◌, Option, Some, None}
use Rattle.std.specs.Str.{bytes_eq}
use Rattle.command_words.specs.declared.command.Command.{Command}
use Rattle.command_words.specs.Commands.{command_of}
use Rattle.command_words.specs.Refreshes.{is_empty}

abbrev pub is_path : List ℕ → Bool
is_path word = not (is_empty word)

abbrev pub is_then : List ℕ → Bool
is_then word = bytes_eq word (codes "then")

-- this word before the first part
abbrev pub before_part : List ℕ → List (List (List ℕ)) → List (List (List ℕ))
before_part word [] = (word ∷ []) ∷ []
before_part word (part ∷ parts) = (word ∷ part) ∷ parts

-- the parts between the words `then`, which may be empty; there is at least one
abbrev pub parts : List (List ℕ) → List (List (List ℕ))
parts [] = [] ∷ []
parts (word ∷ words) = if is_then word then [] ∷ parts words else before_part word (parts words)

-- one command and then others, if all of them are there
abbrev pub and_then : Option Command → Option (List Command) → Option (List Command)
and_then (Some first) (Some others) = Some (first ∷ others)
and_then first others = None

-- the commands that parts ask for, if each of them asks for one
abbrev pub each_command : List (List (List ℕ)) → Option (List Command)
each_command [] = Some []
each_command (part ∷ parts) = and_then (command_of part) (each_command parts)

-- the commands that the words ask for, where they are of the form
abbrev pub commands_of : List (List ℕ) → Option (List Command)
commands_of (pipeline ∷ store ∷ landing ∷ words) =
    if is_path pipeline && is_path store && is_path landing then each_command (parts words) else None
commands_of words = None
