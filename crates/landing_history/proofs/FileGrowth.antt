-- How files may come to have grown.
use Rattle.std.proofs.Common.{◌≡◌, ℕ, ◌≤◌, List, [], ◌∷◌, ◌++◌, length, take, Bool, true, false, cond, refl, sym, ap, ◌∙◌, bytes_eq, take_all, take_at, take-take, length-take, arith}
use Rattle.std.proofs.lemmas.Slice.Eq.{bytes_eq-Decides}
use Rattle.landing_core.specs.declared.landing.LandingFile.{LandingFile}
use Rattle.landing_core.specs.Folders.{SameFiles, bytes_of, is_at, with_file}
use Rattle.landing_core.proofs.FolderLemmas.{and_left, and_right}
use Rattle.landing_history.specs.Taken.{HaveGrown}

all_of : (bytes : List ℕ) → take (length bytes) bytes ≡ bytes
all_of bytes = take_all (length bytes) bytes (omega arith)

pub same_grown : (was now : List LandingFile) → SameFiles was now → HaveGrown was now
same_grown was now same dir name = rw (same dir name).1 (all_of (bytes_of dir name now))

short : (was now : List ℕ) → take (length was) now ≡ was → length was ≤ length now
short was now grown = omega (arith, length-take (length was) now, ap length grown)

pub grown_twice : (first was now : List LandingFile) → HaveGrown first was → HaveGrown was now → HaveGrown first now
grown_twice first was now before later dir name =
    let a = bytes_of dir name first in
    let b = bytes_of dir name was in
    let c = bytes_of dir name now in
    sym (take-take (length a) (length b) c (short a b (before dir name))) ∙ ap (take (length a)) (later dir name) ∙ before dir name

-- ---- one file that gets more bytes, or appears

abbrev named : List ℕ → List ℕ → List ℕ → LandingFile
named dir name bytes = record { dir = dir; file = name; bytes = bytes }

at_dir : (dir name : List ℕ) (file : LandingFile) → is_at dir name file ≡ true → file.dir ≡ dir
at_dir dir name file is = (bytes_eq-Decides file.dir dir).0 (and_left (bytes_eq file.dir dir) (bytes_eq file.file name) is)

at_name : (dir name : List ℕ) (file : LandingFile) → is_at dir name file ≡ true → file.file ≡ name
at_name dir name file is = (bytes_eq-Decides file.file name).0 (and_right (bytes_eq file.dir dir) (bytes_eq file.file name) is)

twice : (a : Bool) (x y z : List ℕ) → cond a x z ≡ cond a x (cond a y z)
twice true x y z = refl
twice false x y z = refl

swapped : (a b : Bool) (x y z : List ℕ) → (a ≡ true → b ≡ true → x ≡ y) → cond a x (cond b y z) ≡ cond b y (cond a x z)
swapped true true x y z both = both refl refl
swapped true false x y z both = refl
swapped false b x y z both = refl

never_both : (dir name d n bytes other : List ℕ) (file : LandingFile) → is_at dir name file ≡ false → is_at d n file ≡ true → is_at d n (named dir name bytes) ≡ true → other ≡ bytes
never_both dir name d n bytes other file out here there =
    let same_dir : file.dir ≡ dir = at_dir d n file here ∙ sym (at_dir d n (named dir name bytes) there) in
    let same_name : file.file ≡ name = at_name d n file here ∙ sym (at_name d n (named dir name bytes) there) in
    let is : is_at dir name file ≡ true = rw ((bytes_eq-Decides file.dir dir).1 same_dir, (bytes_eq-Decides file.file name).1 same_name) refl in
    absurd (let never : true ≡ false = sym is ∙ out in cc)

set_by : (dir name bytes d n : List ℕ) (file : LandingFile) (files : List LandingFile) (test : Bool) → is_at dir name file ≡ test → bytes_of d n (with_file dir name bytes files) ≡ cond (is_at d n (named dir name bytes)) bytes (bytes_of d n files) → bytes_of d n (cond test (named dir name bytes ∷ files) (file ∷ with_file dir name bytes files)) ≡ cond (is_at d n (named dir name bytes)) bytes (bytes_of d n (file ∷ files))
set_by dir name bytes d n file files true is later =
    let same : is_at d n file ≡ is_at d n (named dir name bytes) = rw (at_dir dir name file is, at_name dir name file is) refl in
    twice (is_at d n (named dir name bytes)) bytes file.bytes (bytes_of d n files) ∙ ap (λ b. cond (is_at d n (named dir name bytes)) bytes (cond b file.bytes (bytes_of d n files))) (sym same)
set_by dir name bytes d n file files false is later =
    ap (λ bs. cond (is_at d n file) file.bytes bs) later ∙ swapped (is_at d n file) (is_at d n (named dir name bytes)) file.bytes bytes (bytes_of d n files) (never_both dir name d n bytes file.bytes file is)

set_bytes : (dir name bytes d n : List ℕ) (files : List LandingFile) → bytes_of d n (with_file dir name bytes files) ≡ cond (is_at d n (named dir name bytes)) bytes (bytes_of d n files)
set_bytes dir name bytes d n [] = refl
set_bytes dir name bytes d n (file ∷ files) = set_by dir name bytes d n file files (is_at dir name file) refl (set_bytes dir name bytes d n files)

grown_by : (dir name more d n : List ℕ) (files : List LandingFile) (test : Bool) → is_at d n (named dir name more) ≡ test → take (length (bytes_of d n files)) (cond test (bytes_of dir name files ++ more) (bytes_of d n files)) ≡ bytes_of d n files
grown_by dir name more d n files false is = all_of (bytes_of d n files)
grown_by dir name more d n files true is =
    let same_dir : dir ≡ d = at_dir d n (named dir name more) is in
    let same_name : name ≡ n = at_name d n (named dir name more) is in
    rw (same_dir, same_name) (take_at (bytes_of d n files) more (length (bytes_of d n files)) refl)

pub one_grown : (dir name more : List ℕ) (files : List LandingFile) → HaveGrown files (with_file dir name (bytes_of dir name files ++ more) files)
one_grown dir name more files d n =
    ap (take (length (bytes_of d n files))) (set_bytes dir name (bytes_of dir name files ++ more) d n files) ∙ grown_by dir name more d n files (is_at d n (named dir name more)) refl
