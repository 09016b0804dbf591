-- Where an entry is put in a listing.
use Rattle.std.proofs.Common.{◌≡◌, ℕ, ◌+◌, ◌<◌, List, [], ◌∷◌, ◌++◌, length, get_or, take, drop, Bool, true, false, cond, refl, sym, ap, ◌∙◌, add-one}
use Rattle.std.proofs.lemmas.List.{drop_more, set_split}
use Rattle.std.proofs.Math.ListN.{set}
use Rattle.std.specs.List.{insert}
use Rattle.std.specs.declared.cmp.Ordering.{Ordering}
use Rattle.std.specs.declared.cmp.Ordering.TheVariants.{Less, Equal, Greater}
use Rattle.std.specs.Ordering.{nat_cmp, match_ordering}
use Rattle.std.specs.Cmp.Lexicographic.{slice_cmp}
use Rattle.landing_core.specs.declared.landing.LandingFile.{LandingFile}
use Rattle.landing_core.specs.declared.landing.Listed.{Listed}
use Rattle.landing_core.specs.Names.{IsBefore, AreAscending}
use Rattle.landing_core.specs.Folders.{entered, entry_of, is_in, listing_of, listed_names}
use Rattle.landing_core.proofs.PlaceLawLemmas.{same_names, less_back}

split_at : (entries : List Listed) (i : ℕ) (known : Listed) → i < length entries → known ≡ get_or entries i known → drop i entries ≡ known ∷ drop (i + 1) entries
split_at entries i known within is = drop_more entries i known within ∙ ap (λ (k : Listed). k ∷ drop (i + 1) entries) (sym is)

pub enter_less : (entry known : Listed) (entries all : List Listed) (i : ℕ) → i < length entries → known ≡ get_or entries i known → slice_cmp nat_cmp entry.file known.file ≡ Less → take i entries ++ entered entry (drop i entries) ≡ all → insert entries i entry ≡ all
enter_less entry known entries all i within is below so_far =
    let split = split_at entries i known within is in
    let put : entered entry (known ∷ drop (i + 1) entries) ≡ entry ∷ known ∷ drop (i + 1) entries = rw below refl in
    rw split (rw (split, put) at so_far)

pub enter_equal : (entry known : Listed) (entries all : List Listed) (i : ℕ) → i < length entries → known ≡ get_or entries i known → slice_cmp nat_cmp entry.file known.file ≡ Equal → take i entries ++ entered entry (drop i entries) ≡ all → set entries i entry ≡ all
enter_equal entry known entries all i within is same so_far =
    let split = split_at entries i known within is in
    let put : entered entry (known ∷ drop (i + 1) entries) ≡ entry ∷ drop (i + 1) entries = rw same refl in
    let here : take i entries ++ entry ∷ drop (i + 1) entries ≡ all = rw (split, put) at so_far in
    set_split entries i entry within ∙ rw (← add-one i) here

-- entries that are put stand in ascending order
abbrev put : Listed → Listed → List Listed → Ordering → List Listed
put entry known more order = match_ordering order (entry ∷ known ∷ more) (entry ∷ more) (known ∷ entered entry more)

before_put : (name : List ℕ) (entry known : Listed) (more : List Listed) (o : Ordering) → slice_cmp nat_cmp name entry.file ≡ Less → slice_cmp nat_cmp name known.file ≡ Less → IsBefore name (listed_names (put entry known more o))
before_put name entry known more Less less first = less
before_put name entry known more Equal less first = less
before_put name entry known more Greater less first = first

before_entered : (name : List ℕ) (entry : Listed) (entries : List Listed) → slice_cmp nat_cmp name entry.file ≡ Less → IsBefore name (listed_names entries) → IsBefore name (listed_names (entered entry entries))
before_entered name entry [] less first = less
before_entered name entry (known ∷ more) less first = before_put name entry known more (slice_cmp nat_cmp entry.file known.file) less first

ascending_put : (entry known : Listed) (more : List Listed) (o : Ordering) → slice_cmp nat_cmp entry.file known.file ≡ o → AreAscending (listed_names (known ∷ more)) → AreAscending (listed_names (entered entry more)) → AreAscending (listed_names (put entry known more o))
ascending_put entry known more Less is were later = (is, were)
ascending_put entry known more Equal is were later = (rw (same_names entry.file known.file is) (were.0), were.1)
ascending_put entry known more Greater is were later = (before_entered known.file entry more (less_back entry.file known.file is) (were.0), later)

entered_ascending : (entry : Listed) (entries : List Listed) → AreAscending (listed_names entries) → AreAscending (listed_names (entered entry entries))
entered_ascending entry [] were = (tt, tt)
entered_ascending entry (known ∷ more) were = ascending_put entry known more (slice_cmp nat_cmp entry.file known.file) refl were (entered_ascending entry more (were.1))

ascending_if : (entry : Listed) (entries : List Listed) (b : Bool) → AreAscending (listed_names entries) → AreAscending (listed_names (cond b (entered entry entries) entries))
ascending_if entry entries true were = entered_ascending entry entries were
ascending_if entry entries false were = were

pub listing_ascending : (dir : List ℕ) (files : List LandingFile) → AreAscending (listed_names (listing_of dir files))
listing_ascending dir [] = tt
listing_ascending dir (file ∷ files) = ascending_if (entry_of file) (listing_of dir files) (is_in dir file) (listing_ascending dir files)
