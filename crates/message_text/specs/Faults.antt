-- A check that statements break, as it is printed.
use Rattle.std.specs.Prelude.{ℕ, List, [], ◌∷◌, ◌++◌, codes}
use Rattle.std.specs.Fmt.{decimal}
use Rattle.std.specs.List.{flat_map}
use Rattle.statement_checks.specs.declared.fault.Break.{Break}
use Rattle.statement_checks.specs.declared.fault.CheckFault.{CheckFault}
use Rattle.statement_checks.specs.declared.fault.CheckFault.TheVariants as fault
use Rattle.report_text.specs.Words.{print_word}

-- which check is broken. Outputs are numbered from 1.
abbrev pub fault_text : CheckFault → List ℕ
fault_text (fault.Duplicate name) = codes "duplicate " ++ print_word name
fault_text (fault.TooMany count) = codes "too many: " ++ decimal count
fault_text (fault.UnknownName name) = codes "unknown name " ++ print_word name
fault_text (fault.NotStreaming name) = codes "not streaming " ++ print_word name
fault_text (fault.BadOption word) = codes "bad option " ++ print_word word
fault_text fault.NotBatch = codes "not batch"
fault_text fault.StreamOfChanging = codes "stream of changing target"
fault_text fault.MixedFlows = codes "mixed flows"
fault_text fault.AggregateInStream = codes "aggregate in stream"
fault_text fault.TypeMismatch = codes "type mismatch"
fault_text (fault.NotGrouped item) = codes "not grouped: output " ++ decimal item
fault_text (fault.NoName item) = codes "no name: output " ++ decimal item
fault_text (fault.KeyNotOutput name) = codes "key not output " ++ print_word name
fault_text fault.TruncateScd2 = codes "truncate with scd type 2"
fault_text fault.StructSequence = codes "struct sequence with scd type 2"
fault_text (fault.SchemaDiffers name) = codes "schema differs at " ++ print_word name
fault_text (fault.NoFlow name) = codes "no flow " ++ print_word name

-- a statement by its number from 1, and what is wrong with it
abbrev pub statement_text : ℕ → List ℕ → List ℕ
statement_text statement wrong = (codes "statement " ++ decimal statement) ++ (codes ": " ++ wrong)

-- a check that a statement breaks
abbrev pub break_text : Break → List ℕ
break_text found = statement_text found.statement (fault_text found.fault)

-- names behind another one
abbrev pub more_path : List (List ℕ) → List ℕ
more_path names = flat_map (λ name. codes " -> " ++ print_word name) names

-- the names of a path, joined by ` -> `
abbrev pub path_text : List (List ℕ) → List ℕ
path_text [] = []
path_text (first ∷ more) = print_word first ++ more_path more
