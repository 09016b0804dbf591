-- A table's whole listing can be read on from places that it isn't shorter than.
use Rattle.std.proofs.Common.{◌≡◌, ℕ, ◌≤◌, List, [], ◌∷◌, length, Bool, true, false, not, ◌&&◌, cond, refl, sym, ap, ◌∙◌, subst, None, Ordering, Less, Equal, Greater, nat_cmp, bytes_eq, arith}
use Rattle.std.specs.Ordering.{match_ordering}
use Rattle.std.specs.Cmp.Lexicographic.{slice_cmp}
use Rattle.std.proofs.lemmas.Slice.Eq.{bytes_eq-Decides}
use Rattle.value_core.specs.declared.cursor.FilePlace.{FilePlace}
use Rattle.landing_core.specs.declared.landing.LandingFile.{LandingFile}
use Rattle.landing_core.specs.declared.landing.Listed.{Listed}
use Rattle.landing_core.specs.Folders.{AreThere, HoldsPresent, bytes_of, entered, entry_of, is_at, is_hidden, is_in, listed_names, listing_of}
use Rattle.landing_core.specs.Names.{AreAscending, IsBefore}
use Rattle.landing_core.proofs.EntryLemmas.{listing_ascending}
use Rattle.landing_core.proofs.FolderLemmas.{and_left, and_right, true_or_false}
use Rattle.landing_core.proofs.PlaceLawLemmas.{less_back, same_names}
use Rattle.landing_history.specs.Taken.{CanReadOn}
use Rattle.landing_history.proofs.PlaceWalks.{apart, apart_below}
use Rattle.landing_history.proofs.ReadingLemmas.{before_more}
use Rattle.table_update.specs.declared.table.AppendTable.{AppendTable}
use Rattle.table_update.specs.Flow.{listing, shrunk}

-- ---- a listing without this file

-- none of the listed files is this one
abbrev AreApart : List ℕ → LandingFile → List Listed → Type 0
AreApart dir file [] = Unit {0}
AreApart dir file (listed ∷ more) = (is_at dir listed.file file ≡ false) × AreApart dir file more

and_no : (a b : Bool) → b ≡ false → (a && b) ≡ false
and_no true b e = e
and_no false b e = refl

still_there : (dir : List ℕ) (files : List LandingFile) (file : LandingFile) (entries : List Listed) → AreApart dir file entries → AreThere dir files entries → AreThere dir (file ∷ files) entries
still_there dir files file [] apart there = tt
still_there dir files file (listed ∷ more) apart there = (rw apart.0 (there.0), still_there dir files file more apart.1 there.1)

above_apart : (dir : List ℕ) (file : LandingFile) (entries : List Listed) → IsBefore file.file (listed_names entries) → AreAscending (listed_names entries) → AreApart dir file entries
above_apart dir file [] first up = tt
above_apart dir file (listed ∷ more) first up =
    let other : bytes_eq file.file listed.file ≡ false = apart_below file.file listed.file (bytes_eq file.file listed.file) refl first in
    (and_no (bytes_eq file.dir dir) (bytes_eq file.file listed.file) other, above_apart dir file more (before_more file.file listed.file more first up.0) up.1)

-- ---- what is listed is there: of two files of one name the first is listed, and it is the one that is read

first_there : (dir : List ℕ) (files : List LandingFile) (file : LandingFile) → is_in dir file ≡ true → length file.bytes ≤ length (bytes_of dir file.file (file ∷ files))
first_there dir files file is =
    let here : is_at dir file.file file ≡ true = rw (and_left (bytes_eq file.dir dir) (not (is_hidden file.file)) is, (bytes_eq-Decides file.file file.file).1 refl) refl in
    let first : bytes_of dir file.file (file ∷ files) ≡ file.bytes = rw here refl in
    omega (arith, ap length first)

put_there : (dir : List ℕ) (files : List LandingFile) (file : LandingFile) (known : Listed) (more : List Listed) (order : Ordering) → slice_cmp nat_cmp file.file known.file ≡ order → is_in dir file ≡ true → AreAscending (listed_names (known ∷ more)) → AreThere dir files (known ∷ more) → AreThere dir (file ∷ files) (entered (entry_of file) more) → AreThere dir (file ∷ files) (match_ordering order (entry_of file ∷ known ∷ more) (entry_of file ∷ more) (known ∷ entered (entry_of file) more))
put_there dir files file known more Less order is up there later =
    (first_there dir files file is, still_there dir files file (known ∷ more) (above_apart dir file (known ∷ more) order up) there)
put_there dir files file known more Equal order is up there later =
    let same : file.file ≡ known.file = same_names file.file known.file order in
    let first : IsBefore file.file (listed_names more) = subst (λ name. IsBefore name (listed_names more)) (sym same) up.0 in
    (first_there dir files file is, still_there dir files file more (above_apart dir file more first up.1) there.1)
put_there dir files file known more Greater order is up there later =
    let other : bytes_eq file.file known.file ≡ false = apart file.file known.file (bytes_eq file.file known.file) refl (less_back file.file known.file order) in
    (rw (and_no (bytes_eq file.dir dir) (bytes_eq file.file known.file) other) (there.0), later)

entered_there : (dir : List ℕ) (files : List LandingFile) (file : LandingFile) (entries : List Listed) → is_in dir file ≡ true → AreAscending (listed_names entries) → AreThere dir files entries → AreThere dir (file ∷ files) (entered (entry_of file) entries)
entered_there dir files file [] is up there = (first_there dir files file is, tt)
entered_there dir files file (known ∷ more) is up there = put_there dir files file known more (slice_cmp nat_cmp file.file known.file) refl is up there (entered_there dir files file more is up.1 there.1)

-- ---- what isn't listed is apart

abbrev AreShown : List Listed → Type 0
AreShown [] = Unit {0}
AreShown (listed ∷ more) = (is_hidden listed.file ≡ false) × AreShown more

put_shown : (entry known : Listed) (more : List Listed) (order : Ordering) → is_hidden entry.file ≡ false → AreShown (known ∷ more) → AreShown (entered entry more) → AreShown (match_ordering order (entry ∷ known ∷ more) (entry ∷ more) (known ∷ entered entry more))
put_shown entry known more Less here were later = (here, were)
put_shown entry known more Equal here were later = (here, were.1)
put_shown entry known more Greater here were later = (were.0, later)

entered_shown : (entry : Listed) (entries : List Listed) → is_hidden entry.file ≡ false → AreShown entries → AreShown (entered entry entries)
entered_shown entry [] here were = (here, tt)
entered_shown entry (known ∷ more) here were = put_shown entry known more (slice_cmp nat_cmp entry.file known.file) here were (entered_shown entry more here were.1)

not_true : (b : Bool) → not b ≡ true → b ≡ false
not_true false e = refl
not_true true e = absurd (cc e)

shown_if : (dir : List ℕ) (file : LandingFile) (entries : List Listed) (listed : Bool) → is_in dir file ≡ listed → AreShown entries → AreShown (cond listed (entered (entry_of file) entries) entries)
shown_if dir file entries true is were = entered_shown (entry_of file) entries (not_true (is_hidden file.file) (and_right (bytes_eq file.dir dir) (not (is_hidden file.file)) is)) were
shown_if dir file entries false is were = were

listing_shown : (dir : List ℕ) (files : List LandingFile) → AreShown (listing_of dir files)
listing_shown dir [] = tt
listing_shown dir (file ∷ files) = shown_if dir file (listing_of dir files) (is_in dir file) refl (listing_shown dir files)

-- a name that shows isn't that of a file that isn't listed
not_at : (dir name : List ℕ) (file : LandingFile) → is_in dir file ≡ false → is_hidden name ≡ false → is_at dir name file ≡ false
not_at dir name file out shows =
    true_or_false (is_at dir name file) (λ is.
    let same : file.file ≡ name = (bytes_eq-Decides file.file name).0 (and_right (bytes_eq file.dir dir) (bytes_eq file.file name) is) in
    let shown : is_hidden file.file ≡ false = ap is_hidden same ∙ shows in
    let both : is_in dir file ≡ true = rw (and_left (bytes_eq file.dir dir) (bytes_eq file.file name) is, shown) refl in
    absurd (cc (sym both ∙ out)))

unlisted_apart : (dir : List ℕ) (file : LandingFile) (entries : List Listed) → is_in dir file ≡ false → AreShown entries → AreApart dir file entries
unlisted_apart dir file [] out shown = tt
unlisted_apart dir file (listed ∷ more) out shown = (not_at dir listed.file file out shown.0, unlisted_apart dir file more out shown.1)

-- ---- the whole listing

there_if : (dir : List ℕ) (files : List LandingFile) (file : LandingFile) (entries : List Listed) (listed : Bool) → is_in dir file ≡ listed → AreAscending (listed_names entries) → AreShown entries → AreThere dir files entries → AreThere dir (file ∷ files) (cond listed (entered (entry_of file) entries) entries)
there_if dir files file entries true is up shown there = entered_there dir files file entries is up there
there_if dir files file entries false is up shown there = still_there dir files file entries (unlisted_apart dir file entries is shown) there

listing_there : (dir : List ℕ) (files : List LandingFile) → AreThere dir files (listing_of dir files)
listing_there dir [] = tt
listing_there dir (file ∷ files) = there_if dir files file (listing_of dir files) (is_in dir file) refl (listing_ascending dir files) (listing_shown dir files) (listing_there dir files)

pub can_read_on : (table : AppendTable) (files ever : List LandingFile) (places : List FilePlace) → HoldsPresent files ever → shrunk table files places ≡ None → CanReadOn table.folder files ever places (listing table files)
can_read_on table files ever places held none =
    record {
      named = listing_ascending table.folder files;
      there = listing_there table.folder files;
      held = held;
      unshrunk = none;
    }
