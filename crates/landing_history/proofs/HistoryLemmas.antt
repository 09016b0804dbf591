-- What readings one after the other have found, all together.
use Rattle.std.proofs.Common.{◌≡◌, ℕ, ◌+◌, List, [], ◌∷◌, ◌++◌, Bool, cond, refl, sym, ap, ◌∙◌, flat_map, sum_by, IsPermutation}
use Rattle.std.proofs.lemmas.List.Sorted.{IsPermutation-append_left, IsPermutation-refl, IsPermutation-trans, sum_by-IsPermutation}
use Rattle.std.proofs.lemmas.List.Sums.{sum_by-append, sum_by-cons}
use Rattle.value_core.specs.Bags.{SameBag, count_of}
use Rattle.value_core.specs.Order.{Row, same_row}
use Rattle.value_core.specs.declared.cursor.Format.{Format}
use Rattle.landing_core.specs.declared.landing.LandingFile.{LandingFile}
use Rattle.landing_core.specs.Fresh.{heads_of, new_lines}
use Rattle.landing_core.specs.Names.{AreAscending}
use Rattle.landing_core.specs.Places.{placed_names}
use Rattle.landing_history.specs.Readings.{AreReadings, Reading, places_after, rows_found}
use Rattle.landing_history.specs.Taken.{AreEnds, LandedLine, taken, with_heads}
use Rattle.landing_history.proofs.GrowthLemmas.{ends_kept, taken_kept}
use Rattle.landing_history.proofs.ReadingLemmas.{reach_at_ends, reading_adds}
use Rattle.landing_history.proofs.WholeReadings.{reach_ascending}

pub places_up : (dir : List ℕ) (readings : List Reading) → AreAscending (placed_names (places_after dir readings))
places_up dir [] = tt
places_up dir (reading ∷ before) = reach_ascending dir reading.present (places_after dir before) (places_after dir before) reading.listing (places_up dir before)

pub places_end : (dir : List ℕ) (readings : List Reading) (now : List LandingFile) → AreReadings dir readings now → AreEnds dir now (places_after dir readings)
places_end dir [] now are = tt
places_end dir (reading ∷ before) now are =
    ends_kept dir reading.ever now (places_after dir (reading ∷ before)) are.1 (reach_at_ends dir reading.present reading.ever (places_after dir before) reading.listing are.0 (places_end dir before reading.ever are.2))

pub all_found : (format : Format) (header : Bool) (dir : List ℕ) (readings : List Reading) (now : List LandingFile) → AreReadings dir readings now → IsPermutation (rows_found format header dir readings) (taken format header dir now (places_after dir readings))
all_found format header dir [] now are = IsPermutation-refl []
all_found format header dir (reading ∷ before) now are =
    let places = places_after dir before in
    let reached = places_after dir (reading ∷ before) in
    let new = with_heads (heads_of format header dir reading.present reading.listing) (new_lines format header dir reading.present places 0 reading.listing) in
    let ends = places_end dir before reading.ever are.2 in
    let so_far : IsPermutation (rows_found format header dir before ++ new) (taken format header dir reading.ever places ++ new) = IsPermutation-append_left new (rows_found format header dir before) (taken format header dir reading.ever places) (all_found format header dir before reading.ever are.2) in
    let more : IsPermutation (taken format header dir reading.ever places ++ new) (taken format header dir reading.ever reached) = reading_adds format header dir reading.present reading.ever places reading.listing are.0 (places_up dir before) ends in
    let kept : taken format header dir now reached ≡ taken format header dir reading.ever reached = taken_kept format header dir reading.ever now reached are.1 (reach_at_ends dir reading.present reading.ever places reading.listing are.0 ends) in
    rw kept (IsPermutation-trans (rows_found format header dir before ++ new) (taken format header dir reading.ever places ++ new) (taken format header dir reading.ever reached) so_far more)

-- ---- lines in another order give one bag of rows

count_each : (rows : LandedLine → List Row) (row : Row) (lines : List LandedLine) → count_of row (flat_map rows lines) ≡ sum_by (λ line. count_of row (rows line)) lines
count_each rows row [] = refl
count_each rows row (line ∷ lines) =
    sum_by-append (λ x. cond (same_row row x) 1 0) (rows line) (flat_map rows lines) ∙ ap (λ n. count_of row (rows line) + n) (count_each rows row lines) ∙ sym (sum_by-cons (λ l. count_of row (rows l)) line lines)

pub one_bag : (rows : LandedLine → List Row) (lines others : List LandedLine) → IsPermutation lines others → SameBag (flat_map rows lines) (flat_map rows others)
one_bag rows lines others moved row =
    count_each rows row lines ∙ sym (sum_by-IsPermutation (λ line. count_of row (rows line)) lines others moved) ∙ sym (count_each rows row others)
