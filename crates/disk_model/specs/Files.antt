-- Both files, one of them changed.
use Rattle.std.specs.Prelude.{ℕ, ◌+◌, List, ◌++◌, length, take, drop}
use Rattle.disk_model.specs.declared.disk.Side.{Side}
use Rattle.disk_model.specs.declared.disk.Side.TheVariants.{Left, Right}
use Rattle.disk_model.specs.declared.files.Files.{Files}
use Rattle.disk_model.specs.Disk.{TwoFiles}

-- the files with these bytes in one of them
abbrev pub with_file : Side → List ℕ → TwoFiles → TwoFiles
with_file Left bytes files = record { left = bytes; right = files.right }
with_file Right bytes files = record { left = files.left; right = bytes }

-- one file with these bytes, and the other one with those
abbrev pub both : Side → List ℕ → List ℕ → TwoFiles
both Left bytes others = record { left = bytes; right = others }
both Right bytes others = record { left = others; right = bytes }

-- a piece written over what stands at this place
abbrev pub written_over : ℕ → List ℕ → List ℕ → List ℕ
written_over at piece bytes = take at bytes ++ piece ++ drop (at + length piece) bytes

abbrev pub files_now : Files → TwoFiles
files_now files = record { left = files.left.items; right = files.right.items }

abbrev pub files_room : Files → ℕ
files_room files = files.room
