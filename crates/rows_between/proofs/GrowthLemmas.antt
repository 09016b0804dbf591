-- Files that grow keep the rows between places.
use Rattle.std.proofs.Common.{◌≡◌, ℕ, zero, suc, ◌<◌, ◌≤◌, List, [], ◌∷◌, ◌++◌, Bool, refl, sym, ap, ◌∙◌, append-nil, flat_map, arith}
use Rattle.std.proofs.lemmas.List.{append_cancel_left}
use Rattle.value_core.specs.declared.cursor.Format.{Format}
use Rattle.value_core.specs.declared.cursor.FilePlace.{FilePlace}
use Rattle.landing_core.specs.declared.landing.LandingFile.{LandingFile}
use Rattle.landing_core.specs.Folders.{bytes_of}
use Rattle.landing_core.specs.Names.{AreAscending}
use Rattle.landing_core.specs.Places.{NoneFalls, place_of, placed_names}
use Rattle.landing_history.specs.Taken.{AreEnds, HaveGrown, IsLineEnd, taken_of}
use Rattle.landing_history.proofs.GrowthLemmas.{ends_kept, taken_kept}
use Rattle.landing_history.proofs.LineCuts.{EndsAt}
use Rattle.landing_history.proofs.PlaceWalks.{entry}
use Rattle.landing_history.proofs.ReadingLemmas.{place_ends}
use Rattle.rows_between.specs.Between.{between_of, rows_behind, rows_between}
use Rattle.rows_between.proofs.FoundLemmas.{comes_behind}
use Rattle.rows_between.proofs.OrderLemmas.{AreOwn, all_own}

pub come_behind : (format : Format) (header : Bool) (bytes : List ℕ) (from to : ℕ) → (0 < from → IsLineEnd bytes from) → from ≤ to → taken_of format header bytes to ≡ taken_of format header bytes from ++ between_of format header bytes from to
come_behind format header bytes from to ends later = comes_behind format header bytes from to (λ above. (ends above).1) later

module _ (format : Format) (header : Bool) (dir : List ℕ) (was now : List LandingFile) (grown : HaveGrown was now) where
  -- of one file
  end_stays : (file : List ℕ) (place : ℕ) → EndsAt (bytes_of dir file was) place → EndsAt (bytes_of dir file now) place
  end_stays file place ends above = (ends_kept dir was now (entry file place ∷ []) grown ((above, ends above), tt)).0.1

  taken_stays : (file : List ℕ) (place : ℕ) → EndsAt (bytes_of dir file was) place → taken_of format header (bytes_of dir file now) place ≡ taken_of format header (bytes_of dir file was) place
  taken_stays file zero ends = refl
  taken_stays file (suc n) ends =
      let both = taken_kept format header dir was now (entry file (suc n) ∷ []) grown ((omega arith, ends (omega arith)), tt) in
      sym (append-nil (taken_of format header (bytes_of dir file now) (suc n))) ∙ both ∙ append-nil (taken_of format header (bytes_of dir file was) (suc n))

  file_stays : (file : List ℕ) (from to : ℕ) → EndsAt (bytes_of dir file was) from → EndsAt (bytes_of dir file was) to → from ≤ to → between_of format header (bytes_of dir file now) from to ≡ between_of format header (bytes_of dir file was) from to
  file_stays file from to begins ends later =
      let before = bytes_of dir file was in
      let behind = bytes_of dir file now in
      append_cancel_left (taken_of format header behind from) (between_of format header behind from to) (between_of format header before from to)
      (sym (comes_behind format header behind from to (end_stays file from begins) later) ∙ taken_stays file to ends ∙ comes_behind format header before from to begins later
      ∙ ap (λ front. front ++ between_of format header before from to) (sym (taken_stays file from begins)))

  -- of all
  rows_stay : (old new rest : List FilePlace) → AreEnds dir was old → AreEnds dir was rest → AreOwn new rest → NoneFalls old new → flat_map (rows_behind format header dir now old) rest ≡ flat_map (rows_behind format header dir was old) rest
  rows_stay old new [] begin ends own up = refl
  rows_stay old new (known ∷ more) begin ends own up =
      let here = file_stays known.file (place_of old known.file) known.place (place_ends dir known.file was old begin) (λ above. ends.0.1) (omega (arith, up known.file, own.0)) in
      let later = rows_stay old new more begin ends.1 own.1 up in
      λ i. here i ++ later i

pub growth_keeps : (format : Format) (header : Bool) (dir : List ℕ) (was now : List LandingFile) (old new : List FilePlace) → HaveGrown was now → AreEnds dir was old → AreEnds dir was new → AreAscending (placed_names new) → NoneFalls old new
    → rows_between format header dir now old new ≡ rows_between format header dir was old new
growth_keeps format header dir was now old new grown begin ends ascending up = rows_stay format header dir was now grown old new new begin ends (all_own new ascending) up
