-- Files whose places move on one after the other, by their names, give their rows in that order.
use Rattle.std.proofs.Common.{◌≡◌, ◌⊎◌, inl, inr, ℕ, ◌-◌, ◌≤◌, List, [], ◌∷◌, ◌++◌, take, drop, Bool, true, false, cond, eqb, refl, sym, ap, ◌∙◌, subst, append_assoc, append-nil, flat_map, None, Ordering, Less, Equal, Greater, nat_cmp, bytes_eq, arith}
use Rattle.std.specs.Ordering.{match_ordering, ordering_reverse}
use Rattle.std.specs.Cmp.Lexicographic.{slice_cmp}
use Rattle.std.proofs.lemmas.Bool.Decides.{nat_tests}
use Rattle.std.proofs.lemmas.Cmp.{nat_list_cmp_total}
use Rattle.std.proofs.lemmas.Slice.Eq.{bytes_eq-Decides}
use Rattle.value_core.specs.declared.cursor.Format.{Format}
use Rattle.value_core.specs.declared.cursor.FilePlace.{FilePlace}
use Rattle.landing_core.specs.declared.landing.LandingFile.{LandingFile}
use Rattle.landing_core.specs.declared.landing.Listed.{Listed}
use Rattle.landing_core.specs.Folders.{AreThere, HoldsPresent, bytes_of, listed_names}
use Rattle.landing_core.specs.Fresh.{heads_of, new_lines, reach, reach_from, reach_of, shrunk}
use Rattle.landing_core.specs.Lines.{head_of, lines_from}
use Rattle.landing_core.specs.Names.{AreAscending, IsBefore}
use Rattle.landing_core.specs.Places.{moved, place_of, placed, placed_names}
use Rattle.landing_core.proofs.PlaceLawLemmas.{moved_ascending, same_names}
use Rattle.landing_history.specs.Taken.{AreEnds, CanReadOn, landed_line, with_heads}
use Rattle.landing_history.proofs.PlaceWalks.{apart_below, entry}
use Rattle.landing_history.proofs.ReadingLemmas.{found_in, unshrunk_first}
use Rattle.rows_between.specs.Between.{between_of, rows_behind, rows_between}
use Rattle.rows_between.proofs.FoundLemmas.{lines_found, listed_between}

-- ---- a place that moves on behind all places that give rows

back_less : (a b : List ℕ) → slice_cmp nat_cmp a b ≡ Less → slice_cmp nat_cmp b a ≡ Greater
back_less a b less = nat_list_cmp_total.antisymm b a ∙ ap ordering_reverse less

less_again : (a b : List ℕ) → slice_cmp nat_cmp a b ≡ Greater → slice_cmp nat_cmp b a ≡ Less
less_again a b more = nat_list_cmp_total.antisymm b a ∙ ap ordering_reverse more

module _ {A : Type 0} (rows : FilePlace → List A) where
  -- a file gives rows only where it stands before this one
  abbrev AreQuiet : List ℕ → List FilePlace → Type 0
  AreQuiet file [] = Unit {0}
  AreQuiet file (known ∷ more) = ((slice_cmp nat_cmp file known.file ≡ Greater) ⊎ (rows known ≡ [])) × AreQuiet file more

  quiet_by : (o wrong : Ordering) (known : FilePlace) → (o ≡ Greater) ⊎ (rows known ≡ []) → o ≡ wrong → (wrong ≡ Greater → ⊥) → rows known ≡ []
  quiet_by o wrong known (inl more) is other = absurd (other (sym is ∙ more))
  quiet_by o wrong known (inr none) is other = none

  -- files behind this one give none
  none_above : (file : List ℕ) (places : List FilePlace) → IsBefore file (placed_names places) → AreAscending (placed_names places) → AreQuiet file places → flat_map rows places ≡ []
  none_above file [] first up quiet = refl
  none_above file (known ∷ more) first up quiet =
      let here : rows known ≡ [] = quiet_by (slice_cmp nat_cmp file known.file) Less known quiet.0 first (λ e. cc) in
      let later : flat_map rows more ≡ [] = none_above file more (before_too file known.file (placed_names more) first up.0) up.1 quiet.1 in
      λ i. here i ++ later i
    where
      before_too : (file name : List ℕ) (names : List (List ℕ)) → slice_cmp nat_cmp file name ≡ Less → IsBefore name names → IsBefore file names
      before_too file name [] less first = tt
      before_too file name (next ∷ names) less first = nat_list_cmp_total.trans file name next less first

  put_by : (file : List ℕ) (place : ℕ) (known : FilePlace) (more : List FilePlace) (o : Ordering) → slice_cmp nat_cmp file known.file ≡ o → AreAscending (placed_names (known ∷ more)) → AreQuiet file (known ∷ more)
      → flat_map rows (placed file place more) ≡ flat_map rows more ++ rows (entry file place)
      → flat_map rows (match_ordering o (entry file place ∷ known ∷ more) (entry file place ∷ more) (known ∷ placed file place more)) ≡ flat_map rows (known ∷ more) ++ rows (entry file place)
  put_by file place known more Less is up quiet later =
      let none : flat_map rows (known ∷ more) ≡ [] = none_above file (known ∷ more) is up quiet in
      ap (λ back. rows (entry file place) ++ back) none ∙ append-nil (rows (entry file place)) ∙ ap (λ front. front ++ rows (entry file place)) (sym none)
  put_by file place known more Equal is up quiet later =
      let same : file ≡ known.file = same_names file known.file is in
      let here : rows known ≡ [] = quiet_by (slice_cmp nat_cmp file known.file) Equal known quiet.0 is (λ e. cc) in
      let behind : flat_map rows more ≡ [] = none_above file more (subst (λ name. IsBefore name (placed_names more)) (sym same) up.0) up.1 quiet.1 in
      let none : flat_map rows (known ∷ more) ≡ [] = λ i. here i ++ behind i in
      ap (λ back. rows (entry file place) ++ back) behind ∙ append-nil (rows (entry file place)) ∙ ap (λ front. front ++ rows (entry file place)) (sym none)
  put_by file place known more Greater is up quiet later =
      ap (λ back. rows known ++ back) later ∙ sym (append_assoc (rows known) (flat_map rows more) (rows (entry file place)))

  put_last : (file : List ℕ) (place : ℕ) (places : List FilePlace) → AreAscending (placed_names places) → AreQuiet file places → flat_map rows (placed file place places) ≡ flat_map rows places ++ rows (entry file place)
  put_last file place [] up quiet = append-nil (rows (entry file place))
  put_last file place (known ∷ more) up quiet = put_by file place known more (slice_cmp nat_cmp file known.file) refl up quiet (put_last file place more up.1 quiet.1)

  move_by : (file : List ℕ) (place : ℕ) (places : List FilePlace) (test : Bool) → eqb place 0 ≡ test → rows (entry file 0) ≡ [] → AreAscending (placed_names places) → AreQuiet file places → flat_map rows (cond test places (placed file place places)) ≡ flat_map rows places ++ rows (entry file place)
  move_by file place places true is nothing up quiet =
      let zeroth : place ≡ 0 = grind (arith, nat_tests) in
      sym (ap (λ (p : ℕ). flat_map rows places ++ rows (entry file p)) zeroth ∙ ap (λ back. flat_map rows places ++ back) nothing ∙ append-nil (flat_map rows places))
  move_by file place places false is nothing up quiet = put_last file place places up quiet

  -- ---- the next file stands behind it

  still_by : (file next : List ℕ) (known : FilePlace) → slice_cmp nat_cmp file next ≡ Less → (slice_cmp nat_cmp file known.file ≡ Greater) ⊎ (rows known ≡ []) → (slice_cmp nat_cmp next known.file ≡ Greater) ⊎ (rows known ≡ [])
  still_by file next known less (inl more) = inl (back_less known.file next (nat_list_cmp_total.trans known.file file next (less_again file known.file more) less))
  still_by file next known less (inr none) = inr none

  still_quiet : (file next : List ℕ) (places : List FilePlace) → slice_cmp nat_cmp file next ≡ Less → AreQuiet file places → AreQuiet next places
  still_quiet file next [] less quiet = tt
  still_quiet file next (known ∷ more) less quiet = (still_by file next known less quiet.0, still_quiet file next more less quiet.1)

  put_quiet_by : (file next : List ℕ) (place : ℕ) (known : FilePlace) (more : List FilePlace) (o : Ordering) → slice_cmp nat_cmp file next ≡ Less → AreQuiet next (known ∷ more) → AreQuiet next (placed file place more)
      → AreQuiet next (match_ordering o (entry file place ∷ known ∷ more) (entry file place ∷ more) (known ∷ placed file place more))
  put_quiet_by file next place known more Less less quiet later = (inl (back_less file next less), quiet)
  put_quiet_by file next place known more Equal less quiet later = (inl (back_less file next less), quiet.1)
  put_quiet_by file next place known more Greater less quiet later = (quiet.0, later)

  put_quiet : (file next : List ℕ) (place : ℕ) (places : List FilePlace) → slice_cmp nat_cmp file next ≡ Less → AreQuiet next places → AreQuiet next (placed file place places)
  put_quiet file next place [] less quiet = (inl (back_less file next less), tt)
  put_quiet file next place (known ∷ more) less quiet = put_quiet_by file next place known more (slice_cmp nat_cmp file known.file) less quiet (put_quiet file next place more less quiet.1)

  move_quiet_by : (file next : List ℕ) (place : ℕ) (places : List FilePlace) (test : Bool) → slice_cmp nat_cmp file next ≡ Less → AreQuiet next places → AreQuiet next (cond test places (placed file place places))
  move_quiet_by file next place places true less quiet = quiet
  move_quiet_by file next place places false less quiet = put_quiet file next place places less quiet

  -- so it is of the first listed file, where there is one
  abbrev AwaitsFirst : List FilePlace → List Listed → Type 0
  AwaitsFirst places [] = Unit {0}
  AwaitsFirst places (listed ∷ more) = AreQuiet listed.file places

  awaits_next : (file : List ℕ) (place : ℕ) (places : List FilePlace) (more : List Listed) → IsBefore file (listed_names more) → AreQuiet file places → AwaitsFirst (moved file place places) more
  awaits_next file place places [] first quiet = tt
  awaits_next file place places (next ∷ more) first quiet = move_quiet_by file next.file place places (eqb place 0) first (still_quiet file next.file places first quiet)

-- ---- where a file stands among ascending places is its own

-- none of these stands before this name, or at it
abbrev AreAbove : List ℕ → List FilePlace → Type 0
AreAbove file [] = Unit {0}
AreAbove file (known ∷ more) = (slice_cmp nat_cmp file known.file ≡ Less) × AreAbove file more

above_too : (file name : List ℕ) (places : List FilePlace) → slice_cmp nat_cmp file name ≡ Less → AreAbove name places → AreAbove file places
above_too file name [] less above = tt
above_too file name (known ∷ more) less above = (nat_list_cmp_total.trans file name known.file less above.0, above_too file name more less above.1)

all_above : (file : List ℕ) (places : List FilePlace) → IsBefore file (placed_names places) → AreAscending (placed_names places) → AreAbove file places
all_above file [] first up = tt
all_above file (known ∷ more) first up = (first, above_too file known.file more first (all_above known.file more up.0 up.1))

-- the place that these files have there is their own
abbrev pub AreOwn : List FilePlace → List FilePlace → Type 0
AreOwn places [] = Unit {0}
AreOwn places (known ∷ more) = (place_of places known.file ≡ known.place) × AreOwn places more

own_later : (first : FilePlace) (places rest : List FilePlace) → AreAbove first.file rest → AreOwn places rest → AreOwn (first ∷ places) rest
own_later first places [] above own = tt
own_later first places (known ∷ more) above own =
    let other : bytes_eq first.file known.file ≡ false = apart_below first.file known.file (bytes_eq first.file known.file) refl above.0 in
    (ap (λ test. cond test first.place (place_of places known.file)) other ∙ own.0, own_later first places more above.1 own.1)

pub all_own : (places : List FilePlace) → AreAscending (placed_names places) → AreOwn places places
all_own [] up = tt
all_own (known ∷ more) up =
    let here : bytes_eq known.file known.file ≡ true = (bytes_eq-Decides known.file known.file).1 refl in
    (ap (λ test. cond test known.place (place_of more known.file)) here, own_later known more more (all_above known.file more up.0 up.1) (all_own more up.1))

-- ---- a reading

module _ (format : Format) (header : Bool) (dir : List ℕ) (ever : List LandingFile) (places : List FilePlace) where
  no_lines : (bytes : List ℕ) (from to : ℕ) → to ≤ from → between_of format header bytes from to ≡ []
  no_lines bytes from to short =
      let none : to - from ≡ 0 = omega arith in
      ap (λ n. flat_map (landed_line format (head_of format header bytes)) (lines_from from [] (take n (drop from bytes)))) none

  quiet_at_first : (file : List ℕ) (rest : List FilePlace) → AreOwn places rest → AreQuiet (rows_behind format header dir ever places) file rest
  quiet_at_first file [] own = tt
  quiet_at_first file (known ∷ more) own =
      (inr (no_lines (bytes_of dir known.file ever) (place_of places known.file) known.place (omega (arith, own.0))), quiet_at_first file more own.1)

  none_at_first : (rest : List FilePlace) → AreOwn places rest → flat_map (rows_behind format header dir ever places) rest ≡ []
  none_at_first [] own = refl
  none_at_first (known ∷ more) own =
      let here = no_lines (bytes_of dir known.file ever) (place_of places known.file) known.place (omega (arith, own.0)) in
      let later = none_at_first more own.1 in
      λ i. here i ++ later i

  awaits_at_first : (listing : List Listed) → AreOwn places places → AwaitsFirst (rows_behind format header dir ever places) places listing
  awaits_at_first [] own = tt
  awaits_at_first (listed ∷ more) own = quiet_at_first listed.file places own

  module _ (present : List LandingFile) (held : HoldsPresent present ever) (ends : AreEnds dir ever places) where
    found_from : (so_far : List FilePlace) (listing : List Listed) → AreAscending (listed_names listing) → AreThere dir present listing → shrunk places listing ≡ None → AreAscending (placed_names so_far) → AwaitsFirst (rows_behind format header dir ever places) so_far listing
        → flat_map (rows_behind format header dir ever places) (reach_from dir present places so_far listing) ≡ flat_map (rows_behind format header dir ever places) so_far ++ flat_map (found_in format header dir present places) listing
    found_from so_far [] up there none ascending quiet = sym (append-nil (flat_map (rows_behind format header dir ever places) so_far))
    found_from so_far (listed ∷ more) up there none ascending quiet =
        let rows = rows_behind format header dir ever places in
        let found = found_in format header dir present places in
        let first = unshrunk_first places listed more none in
        let place = reach_of dir present places listed in
        let next = moved listed.file place so_far in
        let nothing : rows (entry listed.file 0) ≡ [] = no_lines (bytes_of dir listed.file ever) (place_of places listed.file) 0 (omega arith) in
        let one : flat_map rows next ≡ flat_map rows so_far ++ rows (entry listed.file place) = move_by rows listed.file place so_far (eqb place 0) refl nothing ascending quiet in
        let is : rows (entry listed.file place) ≡ found listed = listed_between format header dir present ever places listed held there.0 first.0 ends in
        let later : flat_map rows (reach_from dir present places next more) ≡ flat_map rows next ++ flat_map found more = found_from next more up.1 there.1 first.1 (moved_ascending listed.file place so_far ascending) (awaits_next rows listed.file place so_far more up.0 quiet) in
        later ∙ ap (λ front. front ++ flat_map found more) (one ∙ ap (λ back. flat_map rows so_far ++ back) is) ∙ append_assoc (flat_map rows so_far) (found listed) (flat_map found more)

pub reading_finds : (format : Format) (header : Bool) (dir : List ℕ) (present ever : List LandingFile) (places : List FilePlace) (listing : List Listed) → CanReadOn dir present ever places listing → AreAscending (placed_names places) → AreEnds dir ever places
    → with_heads (heads_of format header dir present listing) (new_lines format header dir present places 0 listing) ≡ rows_between format header dir ever places (reach dir present places listing)
reading_finds format header dir present ever places listing can up ends =
    let own = all_own places up in
    let found = flat_map (found_in format header dir present places) listing in
    lines_found format header dir present places listing
    ∙ sym (found_from format header dir ever places present can.held ends places listing can.named can.there can.unshrunk up (awaits_at_first format header dir ever places listing own)
    ∙ ap (λ front. front ++ found) (none_at_first format header dir ever places places own))
