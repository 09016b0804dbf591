-- One more file of a listing.
use Rattle.std.proofs.Common.{◌≡◌, ℕ, ◌+◌, ◌<◌, List, ◌∷◌, ◌++◌, length, get_or, drop, sym, ap, ◌∙◌, append_assoc, None, arith}
use Rattle.std.proofs.lemmas.Bool.Decides.{nat_tests}
use Rattle.std.proofs.lemmas.Grind.{common_steps}
use Rattle.std.proofs.lemmas.List.{drop_more}
use Rattle.value_core.specs.declared.cursor.FilePlace.{FilePlace}
use Rattle.landing_core.specs.declared.landing.LandingFile.{LandingFile}
use Rattle.landing_core.specs.declared.landing.Listed.{Listed}
use Rattle.landing_core.specs.Places.{moved}
use Rattle.landing_core.specs.Fresh.{reach_of, reach_from, shrunk}

pub split_listing : (listing : List Listed) (k : ℕ) (listed : Listed) → k < length listing → listed ≡ get_or listing k listed → drop k listing ≡ listed ∷ drop (k + 1) listing
split_listing listing k listed within is = drop_more listing k listed within ∙ ap (λ (l : Listed). l ∷ drop (k + 1) listing) (sym is)

pub unshrunk_more : (places : List FilePlace) (listed : Listed) (more : List Listed) → shrunk places (listed ∷ more) ≡ None → shrunk places more ≡ None
unshrunk_more places listed more none = grind (arith, common_steps, nat_tests)

pub added : {A : Type 0} (kept kept' here behind all : List A) → kept' ≡ kept ++ here → kept ++ (here ++ behind) ≡ all → kept' ++ behind ≡ all
added kept kept' here behind all is so_far = rw (is, append_assoc) so_far

pub places_more : (dir : List ℕ) (files : List LandingFile) (cursor : List FilePlace) (listed : Listed) (more : List Listed) (places places' all : List FilePlace) → places' ≡ moved listed.file (reach_of dir files cursor listed) places → reach_from dir files cursor places (listed ∷ more) ≡ all → reach_from dir files cursor places' more ≡ all
places_more dir files cursor listed more places places' all is so_far = rw is so_far
