-- The files once one was set or taken away.
use Rattle.std.proofs.Common.{◌≡◌, ℕ, ◌+◌, ◌<◌, List, [], ◌∷◌, ◌++◌, length, get_or, take, drop, Bool, true, false, not, ◌&&◌, ◌||◌, cond, refl, sym, ap, ◌∙◌, add-one, Option, Some, None, Result, Ok, Err, OnOk, OnErr, IsOk, is_ok}
use Rattle.std.specs.Str.{bytes_eq}
use Rattle.std.proofs.lemmas.Slice.Eq.{bytes_eq-Decides}
use Rattle.std.proofs.lemmas.List.{drop_more, set_split}
use Rattle.std.proofs.Math.ListN.{set}
use Rattle.std.specs.List.{insert}
use Rattle.std.specs.Prelude.{if◌then◌else◌}
use Rattle.landing_core.specs.declared.landing.LandingFile.{LandingFile}
use Rattle.landing_core.specs.Folders.{is_at, bytes_of, has_file, are_distinct, with_file, without_file, found_file, SameFiles, HoldsPresent}
use Rattle.landing_core.proofs.FolderLemmas.{and_left, and_right}

abbrev named : List ℕ → List ℕ → List ℕ → LandingFile
named dir name bytes = record { dir = dir; file = name; bytes = bytes }

split_at : (files : List LandingFile) (i : ℕ) (known : LandingFile) → i < length files → known ≡ get_or files i known → drop i files ≡ known ∷ drop (i + 1) files
split_at files i known within is = drop_more files i known within ∙ ap (λ (k : LandingFile). k ∷ drop (i + 1) files) (sym is)

at_dir : (dir name : List ℕ) (file : LandingFile) → is_at dir name file ≡ true → file.dir ≡ dir
at_dir dir name file is = (bytes_eq-Decides file.dir dir).0 (and_left (bytes_eq file.dir dir) (bytes_eq file.file name) is)

at_name : (dir name : List ℕ) (file : LandingFile) → is_at dir name file ≡ true → file.file ≡ name
at_name dir name file is = (bytes_eq-Decides file.file name).0 (and_right (bytes_eq file.dir dir) (bytes_eq file.file name) is)

-- in a loop over the files
pub set_here : (dir name bytes : List ℕ) (files all : List LandingFile) (i : ℕ) (known : LandingFile) → i < length files → known ≡ get_or files i known → is_at dir name known ≡ true → take i files ++ with_file dir name bytes (drop i files) ≡ all → set files i (record known { bytes = bytes }) ≡ all
set_here dir name bytes files all i known within is here so_far =
    let split = split_at files i known within is in
    let put : with_file dir name bytes (known ∷ drop (i + 1) files) ≡ record known { bytes = bytes } ∷ drop (i + 1) files = rw (here, ← at_dir dir name known here, ← at_name dir name known here) refl in
    let whole : take i files ++ record known { bytes = bytes } ∷ drop (i + 1) files ≡ all = rw (split, put) at so_far in
    set_split files i (record known { bytes = bytes }) within ∙ rw (← add-one i) whole

pub taken_here : (dir name : List ℕ) (files all : List LandingFile) (i : ℕ) (known : LandingFile) → i < length files → known ≡ get_or files i known → is_at dir name known ≡ true → take i files ++ without_file dir name (drop i files) ≡ all → take i files ++ drop (i + 1) files ≡ all
taken_here dir name files all i known within is here so_far =
    let split = split_at files i known within is in
    let put : without_file dir name (known ∷ drop (i + 1) files) ≡ drop (i + 1) files = rw here refl in
    rw (split, put) at so_far

pub found_here : (dir name : List ℕ) (files : List LandingFile) (all : Option LandingFile) (i : ℕ) (known : LandingFile) → i < length files → known ≡ get_or files i known → is_at dir name known ≡ true → found_file dir name (drop i files) ≡ all → Some known ≡ all
found_here dir name files all i known within is here so_far =
    let split = split_at files i known within is in
    let found : found_file dir name (known ∷ drop (i + 1) files) ≡ Some known = rw here refl in
    sym found ∙ (rw split at so_far)

-- what is looked up in two lists, one behind the other
or_assoc : (a b c : Bool) → ((a || b) || c) ≡ (a || (b || c))
or_assoc true b c = refl
or_assoc false b c = refl

pub has_append : (dir name : List ℕ) (files others : List LandingFile) → has_file dir name (files ++ others) ≡ (has_file dir name files || has_file dir name others)
has_append dir name [] others = refl
has_append dir name (file ∷ files) others = ap (λ b. is_at dir name file || b) (has_append dir name files others) ∙ sym (or_assoc (is_at dir name file) (has_file dir name files) (has_file dir name others))

cond_or : (a b : Bool) (x y z : List ℕ) → cond a x (cond b y z) ≡ cond (a || b) (cond a x y) z
cond_or true b x y z = refl
cond_or false b x y z = refl

pub bytes_append : (dir name : List ℕ) (files others : List LandingFile) → bytes_of dir name (files ++ others) ≡ cond (has_file dir name files) (bytes_of dir name files) (bytes_of dir name others)
bytes_append dir name [] others = refl
bytes_append dir name (file ∷ files) others = ap (λ bs. cond (is_at dir name file) file.bytes bs) (bytes_append dir name files others) ∙ cond_or (is_at dir name file) (has_file dir name files) file.bytes (bytes_of dir name files) (bytes_of dir name others)

pub present_kept : (files removed : List LandingFile) → HoldsPresent files (files ++ removed)
present_kept files removed dir name has =
    (has_append dir name files removed ∙ rw has refl, bytes_append dir name files removed ∙ rw has refl)

same_trans : (a b c : List LandingFile) → SameFiles a b → SameFiles b c → SameFiles a c
same_trans a b c ab bc dir name = ((ab dir name).0 ∙ (bc dir name).0, (ab dir name).1 ∙ (bc dir name).1)

same_sym : (a b : List LandingFile) → SameFiles a b → SameFiles b a
same_sym a b ab dir name = (sym ((ab dir name).0), sym ((ab dir name).1))

pub same_refl : (a : List LandingFile) → SameFiles a a
same_refl a dir name = (refl, refl)

same_append : (a b rest : List LandingFile) → SameFiles a b → SameFiles (a ++ rest) (b ++ rest)
same_append a b rest ab dir name =
    let has = (ab dir name).0 in
    let bytes = (ab dir name).1 in
    (has_append dir name a rest ∙ rw has refl ∙ sym (has_append dir name b rest), bytes_append dir name a rest ∙ rw (has, bytes) refl ∙ sym (bytes_append dir name b rest))

same_cons : (file : LandingFile) (a b : List LandingFile) → SameFiles a b → SameFiles (file ∷ a) (file ∷ b)
same_cons file a b ab dir name = (ap (λ h. is_at dir name file || h) ((ab dir name).0), ap (λ bs. cond (is_at dir name file) file.bytes bs) ((ab dir name).1))

-- two files of different names may change places
or_swap : (a b c : Bool) → (a || (b || c)) ≡ (b || (a || c))
or_swap true true c = refl
or_swap true false c = refl
or_swap false b c = refl

cond_swap : (a b : Bool) (x y z : List ℕ) → (a ≡ true → b ≡ true → x ≡ y) → cond a x (cond b y z) ≡ cond b y (cond a x z)
cond_swap true true x y z both = both refl refl
cond_swap true false x y z both = refl
cond_swap false b x y z both = refl

at_both : (dir name : List ℕ) (x y : LandingFile) → is_at dir name x ≡ true → is_at dir name y ≡ true → is_at y.dir y.file x ≡ true
at_both dir name x y here there = rw (at_dir dir name y there, at_name dir name y there) here

not_true : (b : Bool) {A : Type 0} → b ≡ false → b ≡ true → A
not_true b f t = absurd (let e : true ≡ false = sym t ∙ f in cc)

swapped : (x y : LandingFile) (rest : List LandingFile) → is_at y.dir y.file x ≡ false → SameFiles (x ∷ y ∷ rest) (y ∷ x ∷ rest)
swapped x y rest apart dir name =
    let here = is_at dir name x in
    let there = is_at dir name y in
    (or_swap here there (has_file dir name rest), cond_swap here there x.bytes y.bytes (bytes_of dir name rest) (λ a b. not_true (is_at y.dir y.file x) apart (at_both dir name x y a b)))

-- a file that is set is found first, whether it stands in front or where it stood
or_twice : (a c : Bool) → (a || c) ≡ (a || (a || c))
or_twice true c = refl
or_twice false c = refl

cond_twice : (a : Bool) (x y z : List ℕ) → cond a x z ≡ cond a x (cond a y z)
cond_twice true x y z = refl
cond_twice false x y z = refl

set_over : (dir name bytes : List ℕ) (file : LandingFile) (files : List LandingFile) → is_at dir name file ≡ true → SameFiles (named dir name bytes ∷ files) (named dir name bytes ∷ file ∷ files)
set_over dir name bytes file files here d n =
    let same : is_at d n file ≡ is_at d n (named dir name bytes) = rw (at_dir dir name file here, at_name dir name file here) refl in
    let first = is_at d n (named dir name bytes) in
    (or_twice first (has_file d n files) ∙ ap (λ b. first || (b || has_file d n files)) (sym same), cond_twice first bytes file.bytes (bytes_of d n files) ∙ ap (λ b. cond first bytes (cond b file.bytes (bytes_of d n files))) (sym same))

set_if : (dir name bytes : List ℕ) (file : LandingFile) (files : List LandingFile) (b : Bool) → is_at dir name file ≡ b → SameFiles (with_file dir name bytes files) (named dir name bytes ∷ files) → SameFiles (cond b (named dir name bytes ∷ files) (file ∷ with_file dir name bytes files)) (named dir name bytes ∷ file ∷ files)
set_if dir name bytes file files true is front = set_over dir name bytes file files is
set_if dir name bytes file files false is front =
    same_trans (file ∷ with_file dir name bytes files) (file ∷ named dir name bytes ∷ files) (named dir name bytes ∷ file ∷ files)
    (same_cons file (with_file dir name bytes files) (named dir name bytes ∷ files) front)
    (swapped file (named dir name bytes) files is)

set_in_front : (dir name bytes : List ℕ) (files : List LandingFile) → SameFiles (with_file dir name bytes files) (named dir name bytes ∷ files)
set_in_front dir name bytes [] = same_refl (named dir name bytes ∷ [])
set_in_front dir name bytes (file ∷ files) = set_if dir name bytes file files (is_at dir name file) refl (set_in_front dir name bytes files)

pub set_ever : (dir name bytes : List ℕ) (files removed : List LandingFile) → SameFiles (with_file dir name bytes files ++ removed) (with_file dir name bytes (files ++ removed))
set_ever dir name bytes files removed =
    same_trans (with_file dir name bytes files ++ removed) (named dir name bytes ∷ (files ++ removed)) (with_file dir name bytes (files ++ removed))
    (same_append (with_file dir name bytes files) (named dir name bytes ∷ files) removed (set_in_front dir name bytes files))
    (same_sym (with_file dir name bytes (files ++ removed)) (named dir name bytes ∷ (files ++ removed)) (set_in_front dir name bytes (files ++ removed)))

-- a file that is taken away is found behind the others
or_false_left : (a b : Bool) → (a || b) ≡ false → a ≡ false
or_false_left true b e = e
or_false_left false b e = refl

or_false_right : (a b : Bool) → (a || b) ≡ false → b ≡ false
or_false_right true b e = absurd (cc e)
or_false_right false b e = e

moved_back : (file : LandingFile) (files rest : List LandingFile) → has_file file.dir file.file files ≡ false → SameFiles (files ++ file ∷ rest) (file ∷ (files ++ rest))
moved_back file [] rest none = same_refl (file ∷ rest)
moved_back file (first ∷ files) rest none =
    same_trans (first ∷ (files ++ file ∷ rest)) (first ∷ file ∷ (files ++ rest)) (file ∷ first ∷ (files ++ rest))
    (same_cons first (files ++ file ∷ rest) (file ∷ (files ++ rest)) (moved_back file files rest (or_false_right (is_at file.dir file.file first) (has_file file.dir file.file files) none)))
    (swapped first file (files ++ rest) (or_false_left (is_at file.dir file.file first) (has_file file.dir file.file files) none))

not_is : (b : Bool) → not b ≡ true → b ≡ false
not_is true e = absurd (cc e)
not_is false e = refl

is_not : (b : Bool) → b ≡ false → not b ≡ true
is_not true e = absurd (cc e)
is_not false e = refl

taken_if : (dir name : List ℕ) (file taken : LandingFile) (files removed : List LandingFile) (b : Bool) → are_distinct (file ∷ files) ≡ true → cond b (Some file) (found_file dir name files) ≡ Some taken → (found_file dir name files ≡ Some taken → SameFiles (without_file dir name files ++ taken ∷ removed) (files ++ removed)) → SameFiles (cond b files (file ∷ without_file dir name files) ++ taken ∷ removed) (file ∷ (files ++ removed))
taken_if dir name file taken files removed true distinct found later =
    let is : file ≡ taken = cc in
    rw (← is) (moved_back file files removed (not_is (has_file file.dir file.file files) (and_left (not (has_file file.dir file.file files)) (are_distinct files) distinct)))
taken_if dir name file taken files removed false distinct found later = same_cons file (without_file dir name files ++ taken ∷ removed) (files ++ removed) (later found)

pub taken_ever : (dir name : List ℕ) (taken : LandingFile) (files removed : List LandingFile) → are_distinct files ≡ true → found_file dir name files ≡ Some taken → SameFiles (without_file dir name files ++ taken ∷ removed) (files ++ removed)
taken_ever dir name taken [] removed distinct found = absurd (cc found)
taken_ever dir name taken (file ∷ files) removed distinct found =
    taken_if dir name file taken files removed (is_at dir name file) distinct found (taken_ever dir name taken files removed (and_right (not (has_file file.dir file.file files)) (are_distinct files) distinct))

none_if : (dir name : List ℕ) (file : LandingFile) (files : List LandingFile) (b : Bool) → cond b (Some file) (found_file dir name files) ≡ None → (found_file dir name files ≡ None → without_file dir name files ≡ files) → cond b files (file ∷ without_file dir name files) ≡ file ∷ files
none_if dir name file files true none later = absurd (cc none)
none_if dir name file files false none later = ap (λ (fs : List LandingFile). file ∷ fs) (later none)

pub none_taken : (dir name : List ℕ) (files : List LandingFile) → found_file dir name files ≡ None → without_file dir name files ≡ files
none_taken dir name [] none = refl
none_taken dir name (file ∷ files) none = none_if dir name file files (is_at dir name file) none (none_taken dir name files)

-- names stay different
both_true : (a b : Bool) → a ≡ true → b ≡ true → (a && b) ≡ true
both_true true b x y = y
both_true false b x y = absurd (cc x)

or_false : (a b : Bool) → a ≡ false → b ≡ false → (a || b) ≡ false
or_false true b x y = absurd (cc x)
or_false false b x y = y

false_unless : (a : Bool) → (a ≡ true → ⊥) → a ≡ false
false_unless true f = absurd (f refl)
false_unless false f = refl

own : (file : LandingFile) → is_at file.dir file.file file ≡ true
own file = rw ((bytes_eq-Decides file.dir file.dir).1 refl, (bytes_eq-Decides file.file file.file).1 refl) refl

set_distinct_if : (dir name bytes : List ℕ) (file : LandingFile) (files : List LandingFile) (b : Bool) → is_at dir name file ≡ b → are_distinct (file ∷ files) ≡ true → are_distinct (with_file dir name bytes files) ≡ true → are_distinct (cond b (named dir name bytes ∷ files) (file ∷ with_file dir name bytes files)) ≡ true
set_distinct_if dir name bytes file files true is distinct later = rw (← at_dir dir name file is, ← at_name dir name file is) distinct
set_distinct_if dir name bytes file files false is distinct later =
    let others : has_file file.dir file.file files ≡ false = not_is (has_file file.dir file.file files) (and_left (not (has_file file.dir file.file files)) (are_distinct files) distinct) in
    let new : is_at file.dir file.file (named dir name bytes) ≡ false = false_unless (is_at file.dir file.file (named dir name bytes)) (λ a. not_true (is_at dir name file) is (rw (at_dir file.dir file.file (named dir name bytes) a, at_name file.dir file.file (named dir name bytes) a) (own file))) in
    let apart : has_file file.dir file.file (with_file dir name bytes files) ≡ false = (set_in_front dir name bytes files file.dir file.file).0 ∙ or_false (is_at file.dir file.file (named dir name bytes)) (has_file file.dir file.file files) new others in
    both_true (not (has_file file.dir file.file (with_file dir name bytes files))) (are_distinct (with_file dir name bytes files)) (is_not (has_file file.dir file.file (with_file dir name bytes files)) apart) later

pub set_distinct : (dir name bytes : List ℕ) (files : List LandingFile) → are_distinct files ≡ true → are_distinct (with_file dir name bytes files) ≡ true
set_distinct dir name bytes [] distinct = refl
set_distinct dir name bytes (file ∷ files) distinct =
    set_distinct_if dir name bytes file files (is_at dir name file) refl distinct (set_distinct dir name bytes files (and_right (not (has_file file.dir file.file files)) (are_distinct files) distinct))

less_if : (dir name d n : List ℕ) (file : LandingFile) (files : List LandingFile) (b : Bool) → has_file d n (file ∷ files) ≡ false → has_file d n (without_file dir name files) ≡ false → has_file d n (cond b files (file ∷ without_file dir name files)) ≡ false
less_if dir name d n file files true none later = or_false_right (is_at d n file) (has_file d n files) none
less_if dir name d n file files false none later = or_false (is_at d n file) (has_file d n (without_file dir name files)) (or_false_left (is_at d n file) (has_file d n files) none) later

has_less : (dir name d n : List ℕ) (files : List LandingFile) → has_file d n files ≡ false → has_file d n (without_file dir name files) ≡ false
has_less dir name d n [] none = refl
has_less dir name d n (file ∷ files) none = less_if dir name d n file files (is_at dir name file) none (has_less dir name d n files (or_false_right (is_at d n file) (has_file d n files) none))

taken_distinct_if : (dir name : List ℕ) (file : LandingFile) (files : List LandingFile) (b : Bool) → are_distinct (file ∷ files) ≡ true → are_distinct (without_file dir name files) ≡ true → are_distinct (cond b files (file ∷ without_file dir name files)) ≡ true
taken_distinct_if dir name file files true distinct later = and_right (not (has_file file.dir file.file files)) (are_distinct files) distinct
taken_distinct_if dir name file files false distinct later =
    let others : has_file file.dir file.file files ≡ false = not_is (has_file file.dir file.file files) (and_left (not (has_file file.dir file.file files)) (are_distinct files) distinct) in
    both_true (not (has_file file.dir file.file (without_file dir name files))) (are_distinct (without_file dir name files)) (is_not (has_file file.dir file.file (without_file dir name files)) (has_less dir name file.dir file.file files others)) later

pub taken_distinct : (dir name : List ℕ) (files : List LandingFile) → are_distinct files ≡ true → are_distinct (without_file dir name files) ≡ true
taken_distinct dir name [] distinct = refl
taken_distinct dir name (file ∷ files) distinct =
    taken_distinct_if dir name file files (is_at dir name file) distinct (taken_distinct dir name files (and_right (not (has_file file.dir file.file files)) (are_distinct files) distinct))

-- after a call that sets a file or leaves all as it was
pub after_set : {T E : Type 0} (P : List LandingFile → Type 0) (r : Result T E) (now put was : List LandingFile) → OnOk r (now ≡ put) → OnErr r (now ≡ was) → P put → P was → P now
after_set P (Ok x) now put was ok err new old = rw ok new
after_set P (Err e) now put was ok err new old = rw err old

pub ever_set : {T E : Type 0} (r : Result T E) (dir name bytes : List ℕ) (now files removed removed' : List LandingFile) → OnOk r (now ≡ with_file dir name bytes files) → removed' ≡ removed → OnOk r (SameFiles (now ++ removed') (with_file dir name bytes (files ++ removed)))
ever_set (Ok x) dir name bytes now files removed removed' ok same = rw (ok, same) (set_ever dir name bytes files removed)
ever_set (Err e) dir name bytes now files removed removed' ok same = tt

pub insert_first : {T E : Type 0} (r : Result T E) (file : LandingFile) (removed removed' : List LandingFile) → removed' ≡ (if is_ok r then insert removed 0 file else removed) → IsOk r → removed' ≡ file ∷ removed
insert_first (Ok x) file removed removed' is ok = is
insert_first (Err e) file removed removed' is ok = absurd (cc ok)

pub insert_len : {T E : Type 0} (r : Result T E) (len len' : ℕ) → len' ≡ (if is_ok r then len + 1 else len) → IsOk r → len' ≡ len + 1
insert_len (Ok x) len len' is ok = is
insert_len (Err e) len len' is ok = absurd (cc ok)
