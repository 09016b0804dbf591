-- Names that were seen, as keys of a table.
use Rattle.std.proofs.Common.{◌≡◌, ℕ, ◌+◌, ◌<◌, Bool, true, false, not, List, [], ◌∷◌, ◌++◌, length, map, take, drop, get_or, Option, Some, None, refl, sym, ◌∙◌, ap, subst, arith}
use Rattle.std.specs.Prelude.{if◌then◌else◌, ◌||◌}
use Rattle.std.specs.List.{list_any}
use Rattle.std.proofs.lemmas.List.{take_more, drop_more}
use Rattle.value_core.specs.NameFold.{same_name}
use Rattle.statement_checks.specs.declared.folded.Folded.{Folded}
use Rattle.statement_checks.specs.Repeats.{repeat_behind, first_repeat}

abbrev pub text : Folded → List ℕ
text key = key.text.now

-- a key is that of an earlier name
abbrev pub is_seen : List Folded → Folded → Bool
is_seen keys key = list_any (λ other. same_name (text key) (text other)) keys

any_text : (keys : List Folded) (name : List ℕ) → list_any (λ key. same_name name (text key)) keys ≡ list_any (same_name name) (map text keys)
any_text [] name = refl
any_text (key ∷ keys) name = ap (λ rest. same_name name (text key) || rest) (any_text keys name)

map_push : (keys : List Folded) (key : Folded) → map text (keys ++ key ∷ []) ≡ map text keys ++ text key ∷ []
map_push [] key = refl
map_push (first ∷ keys) key = ap (λ rest. text first ∷ rest) (map_push keys key)

-- the keys are those of the names so far, among which none repeats
pub record IsAlone (keys : List Folded) (names : List (List ℕ)) (at : ℕ) : Type 0 where
  pub seen : map text keys ≡ take at names
  pub left : repeat_behind same_name (take at names) (drop at names) ≡ first_repeat names

-- what is found from here on
abbrev found_by : Bool → List (List ℕ) → ℕ → List ℕ → Option (List ℕ)
found_by old names at d = if old then Some (get_or names at d) else repeat_behind same_name (take at names ++ get_or names at d ∷ []) (drop (at + 1) names)

here_is : (keys : List Folded) (names : List (List ℕ)) (at : ℕ) (d : List ℕ) (key : Folded) → at < length names → text key ≡ get_or names at d → IsAlone keys names at →
    found_by (is_seen keys key) names at d ≡ first_repeat names
here_is keys names at d key inside is so_far =
    let any : is_seen keys key ≡ list_any (same_name (get_or names at d)) (take at names) =
    any_text keys (text key) ∙ ap (λ (list : List (List ℕ)). list_any (same_name (text key)) list) so_far.seen ∙ ap (λ (name : List ℕ). list_any (same_name name) (take at names)) is in
    let whole : repeat_behind same_name (take at names) (get_or names at d ∷ drop (at + 1) names) ≡ first_repeat names =
    subst (λ rest. repeat_behind same_name (take at names) rest ≡ first_repeat names) (drop_more names at d inside) so_far.left in
    subst (λ (old : Bool). found_by old names at d ≡ first_repeat names) (sym any) whole

is_old : (added old : Bool) → added ≡ not old → added ≡ false → old ≡ true
is_old added true told never = refl
is_old added false told never = absurd (cc)

is_new : (added old : Bool) → added ≡ not old → added ≡ true → old ≡ false
is_new added true told new = absurd (cc)
is_new added false told new = refl

pushed : (old : Bool) (after before more : List Folded) → after ≡ (if old then before else more) → old ≡ false → after ≡ more
pushed true after before more is new = absurd (cc)
pushed false after before more is new = is

pub one_more : (keys after : List Folded) (names : List (List ℕ)) (at : ℕ) (d : List ℕ) (key : Folded) (added : Bool) → at < length names → text key ≡ get_or names at d →
    added ≡ not (is_seen keys key) → added ≡ true → after ≡ (if is_seen keys key then keys else keys ++ key ∷ []) → IsAlone keys names at → IsAlone after names (at + 1)
one_more keys after names at d key added inside is told put_in put so_far =
    let new : is_seen keys key ≡ false = is_new added (is_seen keys key) told put_in in
    let more : take (at + 1) names ≡ take at names ++ get_or names at d ∷ [] = take_more names at d inside in
    let skipped : found_by false names at d ≡ first_repeat names = subst (λ (old : Bool). found_by old names at d ≡ first_repeat names) new (here_is keys names at d key inside is so_far) in
    record {
      seen = ap (map text) (pushed (is_seen keys key) after keys (keys ++ key ∷ []) put new) ∙ map_push keys key ∙ ap (λ (list : List (List ℕ)). list ++ text key ∷ []) so_far.seen ∙ ap (λ (name : List ℕ). take at names ++ name ∷ []) is ∙ sym more;
      left = subst (λ before. repeat_behind same_name before (drop (at + 1) names) ≡ first_repeat names) (sym more) skipped;
    }

pub repeat_here : (keys : List Folded) (names : List (List ℕ)) (at : ℕ) (d : List ℕ) (key : Folded) (added : Bool) → at < length names → text key ≡ get_or names at d →
    added ≡ not (is_seen keys key) → added ≡ false → IsAlone keys names at → Some (get_or names at d) ≡ first_repeat names
repeat_here keys names at d key added inside is told never so_far =
    subst (λ (old : Bool). found_by old names at d ≡ first_repeat names) (is_old added (is_seen keys key) told never) (here_is keys names at d key inside is so_far)
