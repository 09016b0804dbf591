-- Parts of words, read from the front.
use Rattle.std.proofs.Common.{◌≡◌, ℕ, ◌+◌, ◌<◌, ◌≤◌, List, [], ◌∷◌, length, get_or, map, take, drop, Bool, true, false, refl, sym, ap, ◌∙◌, if◌then◌else◌, ◌++◌, Option, Some, None, arith, zero, suc, add-one, append_assoc}
use Rattle.std.proofs.lemmas.List.{drop_more, drop_all, take_all}
use Rattle.command_words.specs.declared.command.Command.{Command}
use Rattle.command_words.specs.Commands.{command_of}
use Rattle.command_words.specs.Parts.{and_then, before_part, each_command, parts, is_then}

-- these words before the first part
abbrev pub prefixed : List (List ℕ) → List (List (List ℕ)) → List (List (List ℕ))
prefixed [] parts = parts
prefixed (word ∷ words) parts = before_part word (prefixed words parts)

prefixed-begun : (words : List (List ℕ)) (others : List (List (List ℕ))) → prefixed words ([] ∷ others) ≡ words ∷ others
prefixed-begun [] others = refl
prefixed-begun (word ∷ words) others = ap (before_part word) (prefixed-begun words others)

prefixed-suc : {A : Type 0} (text : A → List ℕ) (words : List A) (i : ℕ) (word : A) (others : List (List (List ℕ))) → i < length words → word ≡ get_or words i word
    → prefixed (map text (take (suc i) words)) others ≡ prefixed (map text (take i words)) (before_part (text word) others)
prefixed-suc text [] i word others within is = absurd (omega arith)
prefixed-suc {A = A} text (first ∷ words) zero word others within is = ap (λ (w : A). before_part (text w) others) (sym is)
prefixed-suc text (first ∷ words) (suc i) word others within is = ap (before_part (text first)) (prefixed-suc text words i word others (omega arith) is)

prefixed-more : {A : Type 0} (text : A → List ℕ) (words : List A) (i : ℕ) (word : A) (others : List (List (List ℕ))) → i < length words → word ≡ get_or words i word
    → prefixed (map text (take (i + 1) words)) others ≡ prefixed (map text (take i words)) (before_part (text word) others)
prefixed-more text words i word others within is = rw add-one (prefixed-suc text words i word others within is)

-- the parts of all words, where those before a place are none of the words `then`
abbrev pub IsUncut : {A : Type 0} → (A → List ℕ) → List A → ℕ → Type 0
IsUncut text words i = parts (map text words) ≡ prefixed (map text (take i words)) (parts (map text (drop i words)))

by_test : (test : Bool) (word : List ℕ) (words : List (List ℕ)) → is_then word ≡ test → parts (word ∷ words) ≡ (if test then [] ∷ parts words else before_part word (parts words))
by_test test word words is = ap (λ (test : Bool). if test then [] ∷ parts words else before_part word (parts words)) is

pub goes_on : {A : Type 0} (text : A → List ℕ) (words : List A) (i : ℕ) (word : A) → i < length words → word ≡ get_or words i word → is_then (text word) ≡ false → IsUncut text words i → IsUncut text words (i + 1)
goes_on {A = A} text words i word within is other uncut =
    uncut
    ∙ ap (prefixed (map text (take i words))) (ap (λ (left : List A). parts (map text left)) (drop_more words i word within ∙ ap (λ (w : A). w ∷ drop (i + 1) words) (sym is)) ∙ by_test false (text word) (map text (drop (i + 1) words)) other)
    ∙ sym (prefixed-more text words i word (parts (map text (drop (i + 1) words))) within is)

pub is_cut : {A : Type 0} (text : A → List ℕ) (words : List A) (i : ℕ) (word : A) → i < length words → word ≡ get_or words i word → is_then (text word) ≡ true → IsUncut text words i
    → parts (map text words) ≡ map text (take i words) ∷ parts (map text (drop (i + 1) words))
is_cut {A = A} text words i word within is cut uncut =
    uncut
    ∙ ap (prefixed (map text (take i words))) (ap (λ (left : List A). parts (map text left)) (drop_more words i word within ∙ ap (λ (w : A). w ∷ drop (i + 1) words) (sym is)) ∙ by_test true (text word) (map text (drop (i + 1) words)) cut)
    ∙ prefixed-begun (map text (take i words)) (parts (map text (drop (i + 1) words)))

pub is_whole : {A : Type 0} (text : A → List ℕ) (words : List A) (i : ℕ) → length words ≤ i → IsUncut text words i → parts (map text words) ≡ map text words ∷ []
is_whole {A = A} text words i past uncut =
    uncut
    ∙ (λ k. prefixed (map text (take_all i words past k)) (parts (map text (drop_all i words past k))))
    ∙ prefixed-begun (map text words) []

-- ---- commands, part by part

-- these commands, and then others, if there are any
abbrev pub behind : List Command → Option (List Command) → Option (List Command)
behind commands None = None
behind commands (Some more) = Some (commands ++ more)

one_command : (list : List Command) (first : Command) (more : Option (List Command)) → behind list (and_then (Some first) more) ≡ behind (list ++ first ∷ []) more
one_command list first None = refl
one_command list first (Some more) = ap (λ all. Some all) (sym (append_assoc list (first ∷ []) more))

-- one more command of these parts was read
pub more_commands : (all : Option (List Command)) (list : List Command) (left part rest : List (List ℕ)) (first : Command) → all ≡ behind list (each_command (parts left)) → parts left ≡ part ∷ parts rest
    → Some first ≡ command_of part → all ≡ behind (list ++ first ∷ []) (each_command (parts rest))
more_commands all list left part rest first so cut is =
    so ∙ ap (λ p. behind list (each_command p)) cut ∙ ap (λ f. behind list (and_then f (each_command (parts rest)))) (sym is) ∙ one_command list first (each_command (parts rest))

behind_suc : {A : Type 0} (words : List A) (n : ℕ) (word : A) (rest : List A) → drop n words ≡ word ∷ rest → (n < length words) × (drop (suc n) words ≡ rest)
behind_suc [] zero word rest e = cc
behind_suc [] (suc n) word rest e = cc
behind_suc (first ∷ words) zero word rest e = (omega arith, ap (drop 1) e)
behind_suc (first ∷ words) (suc n) word rest e = let found = behind_suc words n word rest e in (omega (arith, found.0), found.1)

-- what stands at a place, and behind it
pub behind_place : {A : Type 0} (words : List A) (n : ℕ) (word : A) (rest : List A) → drop n words ≡ word ∷ rest → (n < length words) × (drop (n + 1) words ≡ rest)
behind_place words n word rest e = rw add-one (behind_suc words n word rest e)
