-- Arguments, one after another.
use Rattle.std.proofs.Common.{◌≡◌, ℕ, Bool, true, false, List, [], ◌∷◌, ◌++◌, drop, map, if◌then◌else◌, Option, Some, None, refl, ap, sym, ◌∙◌, append_assoc}
use Rattle.std.specs.Option.{is_some}
use Rattle.command_words.specs.declared.arguments.Argument.{Argument}
use Rattle.command_words.specs.Arguments.{argument, arguments, one_more, option_named}

-- these arguments, and then others, if there are any
abbrev pub behind : List Argument → Option (List Argument) → Option (List Argument)
behind list None = None
behind list (Some more) = Some (list ++ more)

step_by : (taken : Bool) (word : List ℕ) (words : List (List ℕ)) → is_some (option_named word) ≡ taken
    → arguments (word ∷ words) ≡ one_more (argument word words) (arguments (if taken then drop 1 words else words))
step_by true word [] e = refl
step_by false word [] e = refl
step_by true word (next ∷ words) e = ap (λ taken. one_more (argument word (next ∷ words)) (if taken then arguments words else arguments (next ∷ words))) e
step_by false word (next ∷ words) e = ap (λ taken. one_more (argument word (next ∷ words)) (if taken then arguments words else arguments (next ∷ words))) e

-- the argument that begins with a word, and then those of the words behind it
pub arguments_step : (word : List ℕ) (words : List (List ℕ)) → arguments (word ∷ words) ≡ one_more (argument word words) (arguments (if is_some (option_named word) then drop 1 words else words))
arguments_step word words = step_by (is_some (option_named word)) word words refl

pub one_behind : (list : List Argument) (first : Argument) (more : Option (List Argument)) → behind list (one_more (Some first) more) ≡ behind (list ++ first ∷ []) more
one_behind list first None = refl
one_behind list first (Some more) = ap (λ all. Some all) (sym (append_assoc list (first ∷ []) more))

pub map_rest : {A B : Type 0} (f : A → B) (taken : Bool) (words : List A) → map f (if taken then drop 1 words else words) ≡ (if taken then drop 1 (map f words) else map f words)
map_rest f true [] = refl
map_rest f true (word ∷ words) = refl
map_rest f false words = refl

-- one more argument of these words was read
pub more_arguments : (all : Option (List Argument)) (list : List Argument) (word : List ℕ) (words left rest : List (List ℕ)) (first : Argument) → all ≡ behind list (arguments left) → left ≡ word ∷ words
    → Some first ≡ argument word words → rest ≡ (if is_some (option_named word) then drop 1 words else words) → all ≡ behind (list ++ first ∷ []) (arguments rest)
more_arguments all list word words left rest first so begins is behind_it =
    so ∙ ap (λ l. behind list (arguments l)) begins ∙ ap (behind list) (arguments_step word words)
    ∙ ap (λ f. behind list (one_more f (arguments (if is_some (option_named word) then drop 1 words else words)))) (sym is)
    ∙ one_behind list first (arguments (if is_some (option_named word) then drop 1 words else words))
    ∙ ap (λ l. behind (list ++ first ∷ []) (arguments l)) (sym behind_it)
