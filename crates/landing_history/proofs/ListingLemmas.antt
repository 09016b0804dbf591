-- A whole listing of files that only grow can be read on from any ends of lines.
use Rattle.std.proofs.Common.{◌≡◌, ℕ, ◌-◌, ◌<◌, ◌≤◌, List, [], ◌∷◌, length, Bool, true, false, not, cond, nat_lt, refl, sym, ap, ◌∙◌, None, Option, Some, Ordering, Less, Equal, Greater, nat_cmp, bytes_eq, arith}
use Rattle.std.specs.Ordering.{match_ordering}
use Rattle.std.specs.Cmp.Lexicographic.{slice_cmp}
use Rattle.std.proofs.lemmas.Bool.Decides.{nat_tests}
use Rattle.std.proofs.lemmas.Slice.Eq.{bytes_eq-Decides}
use Rattle.value_core.specs.declared.cursor.FilePlace.{FilePlace}
use Rattle.landing_core.specs.declared.landing.LandingFile.{LandingFile}
use Rattle.landing_core.specs.declared.landing.Listed.{Listed}
use Rattle.landing_core.specs.Folders.{HoldsPresent, are_distinct, bytes_of, entered, entry_of, has_file, is_at, is_hidden, is_in, listing_of}
use Rattle.landing_core.specs.Fresh.{shrunk}
use Rattle.landing_core.specs.Places.{place_of}
use Rattle.landing_core.proofs.EntryLemmas.{listing_ascending}
use Rattle.landing_core.proofs.FolderLemmas.{and_left, and_right, listed_are_there, true_or_false}
use Rattle.landing_history.specs.Taken.{AreEnds, CanReadOn}
use Rattle.landing_history.proofs.LineCuts.{EndsAt, within}
use Rattle.landing_history.proofs.ReadingLemmas.{place_ends}

-- ---- each listed file is there with its whole size

abbrev IsWhole : List ℕ → List LandingFile → Listed → Type 0
IsWhole dir files listed = (has_file dir listed.file files ≡ true) × (listed.size ≡ length (bytes_of dir listed.file files))

abbrev AreWhole : List ℕ → List LandingFile → List Listed → Type 0
AreWhole dir files [] = Unit {0}
AreWhole dir files (listed ∷ more) = IsWhole dir files listed × AreWhole dir files more

put_whole : (dir : List ℕ) (files : List LandingFile) (entry known : Listed) (more : List Listed) (order : Ordering) → IsWhole dir files entry → AreWhole dir files (known ∷ more) → AreWhole dir files (entered entry more) → AreWhole dir files (match_ordering order (entry ∷ known ∷ more) (entry ∷ more) (known ∷ entered entry more))
put_whole dir files entry known more Less here were later = (here, were)
put_whole dir files entry known more Equal here were later = (here, were.1)
put_whole dir files entry known more Greater here were later = (were.0, later)

entered_whole : (dir : List ℕ) (files : List LandingFile) (entry : Listed) (listing : List Listed) → IsWhole dir files entry → AreWhole dir files listing → AreWhole dir files (entered entry listing)
entered_whole dir files entry [] here were = (here, tt)
entered_whole dir files entry (known ∷ more) here were = put_whole dir files entry known more (slice_cmp nat_cmp entry.file known.file) here were (entered_whole dir files entry more here were.1)

-- what is found in the second list is found alike in the first
abbrev Finds : List LandingFile → List LandingFile → Type 0
Finds whole files = (dir name : List ℕ) → has_file dir name files ≡ true → (has_file dir name whole ≡ true) × (bytes_of dir name whole ≡ bytes_of dir name files)

skips : (dir name : List ℕ) (file : LandingFile) (files : List LandingFile) → not (has_file file.dir file.file files) ≡ true → has_file dir name files ≡ true → is_at dir name file ≡ false
skips dir name file files differs has =
    true_or_false (is_at dir name file) (λ is.
    let same_dir : file.dir ≡ dir = (bytes_eq-Decides file.dir dir).0 (and_left (bytes_eq file.dir dir) (bytes_eq file.file name) is) in
    let same_name : file.file ≡ name = (bytes_eq-Decides file.file name).0 (and_right (bytes_eq file.dir dir) (bytes_eq file.file name) is) in
    let here : has_file file.dir file.file files ≡ true = rw (same_dir, same_name) has in
    absurd (cc (sym differs ∙ ap not here)))

finds_more : (whole : List LandingFile) (file : LandingFile) (files : List LandingFile) → not (has_file file.dir file.file files) ≡ true → Finds whole (file ∷ files) → Finds whole files
finds_more whole file files differs finds dir name has =
    let other : is_at dir name file ≡ false = skips dir name file files differs has in
    let found : (has_file dir name whole ≡ true) × (bytes_of dir name whole ≡ bytes_of dir name (file ∷ files)) = finds dir name (rw other has) in
    (found.0, found.1 ∙ rw other refl)

first_whole : (dir : List ℕ) (whole files : List LandingFile) (file : LandingFile) → Finds whole (file ∷ files) → is_in dir file ≡ true → IsWhole dir whole (entry_of file)
first_whole dir whole files file finds is =
    let here : is_at dir file.file file ≡ true = rw (and_left (bytes_eq file.dir dir) (not (is_hidden file.file)) is, (bytes_eq-Decides file.file file.file).1 refl) refl in
    let found : (has_file dir file.file whole ≡ true) × (bytes_of dir file.file whole ≡ bytes_of dir file.file (file ∷ files)) = finds dir file.file (rw here refl) in
    let first : bytes_of dir file.file (file ∷ files) ≡ file.bytes = rw here refl in
    (found.0, sym (ap length (found.1 ∙ first)))

whole_if : (dir : List ℕ) (whole : List LandingFile) (file : LandingFile) (listing : List Listed) (listed : Bool) → (listed ≡ true → IsWhole dir whole (entry_of file)) → AreWhole dir whole listing → AreWhole dir whole (cond listed (entered (entry_of file) listing) listing)
whole_if dir whole file listing true here more = entered_whole dir whole (entry_of file) listing (here refl) more
whole_if dir whole file listing false here more = more

whole_from : (dir : List ℕ) (whole files : List LandingFile) → are_distinct files ≡ true → Finds whole files → AreWhole dir whole (listing_of dir files)
whole_from dir whole [] distinct finds = tt
whole_from dir whole (file ∷ files) distinct finds =
    let differs = and_left (not (has_file file.dir file.file files)) (are_distinct files) distinct in
    let later = and_right (not (has_file file.dir file.file files)) (are_distinct files) distinct in
    whole_if dir whole file (listing_of dir files) (is_in dir file) (first_whole dir whole files file finds) (whole_from dir whole files later (finds_more whole file files differs finds))

-- ---- a file that holds all that it ever held isn't shorter than a place in it

end_within : (bytes : List ℕ) (place : ℕ) → EndsAt bytes place → place ≤ length bytes
end_within bytes place ends = by (nat_lt 0 place) refl
  where
    by : (test : Bool) → nat_lt 0 place ≡ test → place ≤ length bytes
    by true is =
        let above : 0 < place = grind (arith, nat_tests) in
        let inside : place - 1 < length bytes = within bytes (place - 1) (ends above) in
        omega arith
    by false is = grind (arith, nat_tests)

unshrunk_by : (listed : Listed) (place : ℕ) (rest : Option Listed) (test : Bool) → nat_lt listed.size place ≡ test → place ≤ listed.size → rest ≡ None → cond test (Some listed) rest ≡ None
unshrunk_by listed place rest true is long none = absurd (let never : ⊥ = grind (arith, nat_tests) in never)
unshrunk_by listed place rest false is long none = none

unshrunk : (dir : List ℕ) (present ever : List LandingFile) (places : List FilePlace) (listing : List Listed) → HoldsPresent present ever → AreEnds dir ever places → AreWhole dir present listing → shrunk places listing ≡ None
unshrunk dir present ever places [] held ends whole = refl
unshrunk dir present ever places (listed ∷ more) held ends whole =
    let place = place_of places listed.file in
    let long : place ≤ length (bytes_of dir listed.file ever) = end_within (bytes_of dir listed.file ever) place (place_ends dir listed.file ever places ends) in
    let same : length (bytes_of dir listed.file ever) ≡ listed.size = ap length (held dir listed.file (whole.0.0)).1 ∙ sym (whole.0.1) in
    unshrunk_by listed place (shrunk places more) (nat_lt listed.size place) refl (omega arith) (unshrunk dir present ever places more held ends whole.1)

pub listing_read_on : (dir : List ℕ) (present ever : List LandingFile) (places : List FilePlace) → are_distinct present ≡ true → HoldsPresent present ever → AreEnds dir ever places → CanReadOn dir present ever places (listing_of dir present)
listing_read_on dir present ever places distinct held ends =
    record {
      named = listing_ascending dir present;
      there = listed_are_there dir present distinct;
      held = held;
      unshrunk = unshrunk dir present ever places (listing_of dir present) held ends (whole_from dir present present distinct (λ d n has. (has, refl)));
    }
