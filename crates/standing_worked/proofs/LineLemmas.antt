-- The rows of the lines of the file.
use Rattle.std.proofs.Common.{◌≡◌, [], ◌∷◌, true, false, codes, refl}
use Rattle.std.specs.Str.{chars, is_utf8}
use lib.Utf8.{encode}
use Rattle.csv.specs.Machine.{next_record}
use Rattle.csv.specs.Records.{field_at}
use Rattle.state_steps.specs.Consumed.{rows_of_files}
use Rattle.standing_worked.specs.Worked.{files, lines_in, row, three_lines, two_lines}

pub two_landed : rows_of_files lines_in (codes "in") (files two_lines) (record { file = codes "x"; place = 8 } ∷ []) ≡ row false true ∷ row true true ∷ []
unfolding next_record field_at is_utf8 chars encode
two_landed = refl

pub three_landed : rows_of_files lines_in (codes "in") (files three_lines) (record { file = codes "x"; place = 12 } ∷ []) ≡ row false true ∷ row true true ∷ row true false ∷ []
unfolding next_record field_at is_utf8 chars encode
three_landed = refl
