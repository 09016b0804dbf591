-- Files that grow keep what was taken of them.
use Rattle.std.proofs.Common.{◌≡◌, ℕ, ◌-◌, ◌<◌, ◌≤◌, List, [], ◌∷◌, ◌++◌, length, get_or, take, drop, Bool, refl, sym, ap, ◌∙◌, flat_map, get_or-take, take-take, take_all, arith}
use Rattle.value_core.specs.declared.cursor.Format.{Format}
use Rattle.value_core.specs.declared.cursor.FilePlace.{FilePlace}
use Rattle.landing_core.specs.declared.landing.LandingFile.{LandingFile}
use Rattle.landing_core.specs.Folders.{bytes_of}
use Rattle.landing_core.specs.Lines.{head_of, lines_from}
use Rattle.landing_history.specs.Taken.{AreEnds, HaveGrown, IsLineEnd, landed_line, taken, taken_of}
use Rattle.landing_history.proofs.LineCuts.{lines_between, within}
use Rattle.landing_history.proofs.FileLemmas.{none_before, same_rows}

end_within : (bytes : List ℕ) (place : ℕ) → IsLineEnd bytes place → place ≤ length bytes
end_within bytes place ends = omega (arith, within bytes (place - 1) ends.1, ends.0)

front_kept : (was now : List ℕ) (place : ℕ) → take (length was) now ≡ was → place ≤ length was → take place now ≡ take place was
front_kept was now place grown short = sym (take-take place (length was) now short) ∙ ap (take place) grown

file_kept : (format : Format) (header : Bool) (was now : List ℕ) (place : ℕ) → take (length was) now ≡ was → IsLineEnd was place → taken_of format header now place ≡ taken_of format header was place
file_kept format header was now place grown ends =
    let short = end_within was place ends in
    let lines = lines_from 0 [] (take place was) in
    let all : take (length was) was ≡ was = take_all (length was) was (omega arith) in
    let whole : lines_from 0 [] was ≡ lines ++ lines_from place [] (take (length was - place) (drop place was)) = ap (lines_from 0 []) (sym all) ∙ lines_between was place (length was) (λ above. ends.1) short in
    let same : flat_map (landed_line format (head_of format header now)) lines ≡ flat_map (landed_line format (head_of format header (take (length was) now))) lines = same_rows format header now (length was) lines (λ f none. none_before f lines (lines_from place [] (take (length was - place) (drop place was))) (rw (grown, whole) at none)) in
    ap (λ bs. flat_map (landed_line format (head_of format header now)) (lines_from 0 [] bs)) (front_kept was now place grown short) ∙ same ∙ ap (λ bs. flat_map (landed_line format (head_of format header bs)) lines) grown

end_kept : (was now : List ℕ) (place : ℕ) → take (length was) now ≡ was → IsLineEnd was place → IsLineEnd now place
end_kept was now place grown ends =
    let inside : place - 1 < length was = within was (place - 1) ends.1 in
    (ends.0, sym (get_or-take (length was) now (place - 1) 0 inside) ∙ ap (λ bs. get_or bs (place - 1) 0) grown ∙ ends.1)

pub taken_kept : (format : Format) (header : Bool) (dir : List ℕ) (was now : List LandingFile) (places : List FilePlace) → HaveGrown was now → AreEnds dir was places → taken format header dir now places ≡ taken format header dir was places
taken_kept format header dir was now [] grown ends = refl
taken_kept format header dir was now (known ∷ more) grown ends =
    let here = file_kept format header (bytes_of dir known.file was) (bytes_of dir known.file now) known.place (grown dir known.file) ends.0 in
    let later = taken_kept format header dir was now more grown ends.1 in
    λ i. here i ++ later i

pub ends_kept : (dir : List ℕ) (was now : List LandingFile) (places : List FilePlace) → HaveGrown was now → AreEnds dir was places → AreEnds dir now places
ends_kept dir was now [] grown ends = tt
ends_kept dir was now (known ∷ more) grown ends =
    (end_kept (bytes_of dir known.file was) (bytes_of dir known.file now) known.place (grown dir known.file) ends.0, ends_kept dir was now more grown ends.1)
