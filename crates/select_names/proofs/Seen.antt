-- Names that were seen, as keys of a table.
use Rattle.std.proofs.Common.{◌≡◌, ℕ, ◌+◌, ◌<◌, List, [], ◌∷◌, ◌++◌, map, length, drop, get_or, Bool, true, false, Option, Some, None, Bor, refl, sym, ap, subst, ◌∙◌}
use Rattle.std.specs.Prelude.{◌||◌, if◌then◌else◌, is_some}
use Rattle.std.specs.List.{list_any}
use Rattle.std.specs.Option.{option_copied, option_or}
use Rattle.std.proofs.lemmas.List.{append_assoc, append-nil, drop_more}
use Rattle.statement_checks.specs.Repeats.{repeat_behind}
use Rattle.value_core.specs.NameFold.{same_name}
use Rattle.sql_tree.specs.declared.statement.Out.{Out}
use Rattle.value_core.specs.declared.schema.Column.{Column}
use Rattle.select_names.specs.declared.folded.Folded.{Folded}
use Rattle.select_names.specs.SelectNames.{out_names, select_names}

abbrev pub text : Folded → List ℕ
text key = key.text.now

pub any_text : (keys : List Folded) (name : List ℕ) → list_any (λ key. same_name name (text key)) keys ≡ list_any (same_name name) (map text keys)
any_text [] name = refl
any_text (key ∷ keys) name = ap (λ rest. same_name name (text key) || rest) (any_text keys name)

by_seen : (before : List (List ℕ)) (name : List ℕ) (front back : List (List ℕ)) (old : Bool) →
    repeat_behind same_name (before ++ name ∷ []) (front ++ back) ≡ option_or (repeat_behind same_name (before ++ name ∷ []) front) (repeat_behind same_name ((before ++ name ∷ []) ++ front) back) →
    (if old then Some name else repeat_behind same_name (before ++ name ∷ []) (front ++ back)) ≡ option_or (if old then Some name else repeat_behind same_name (before ++ name ∷ []) front) (repeat_behind same_name (before ++ name ∷ front) back)
by_seen before name front back true others = refl
by_seen before name front back false others =
    others ∙ ap (λ (list : List (List ℕ)). option_or (repeat_behind same_name (before ++ name ∷ []) front) (repeat_behind same_name list back)) (append_assoc before (name ∷ []) front)

-- the first repeat in a list is the first in its front, or else the first in what is behind it
behind_append : (before front back : List (List ℕ)) → repeat_behind same_name before (front ++ back) ≡ option_or (repeat_behind same_name before front) (repeat_behind same_name (before ++ front) back)
behind_append before [] back = ap (λ (list : List (List ℕ)). repeat_behind same_name list back) (sym (append-nil before))
behind_append before (name ∷ front) back = by_seen before name front back (list_any (same_name name) before) (behind_append (before ++ name ∷ []) front back)

pub found_here : (seen names rest : List (List ℕ)) (found whole : Option (List ℕ)) → repeat_behind same_name seen (names ++ rest) ≡ whole → found ≡ repeat_behind same_name seen names → is_some found ≡ true → found ≡ whole
found_here seen names rest None whole left is there = absurd (cc there)
found_here seen names rest (Some name) whole left is there =
    ap (λ (front : Option (List ℕ)). option_or front (repeat_behind same_name (seen ++ names) rest)) is ∙ sym (behind_append seen names rest) ∙ left

pub none_here : (seen after names rest : List (List ℕ)) (found whole : Option (List ℕ)) → repeat_behind same_name seen (names ++ rest) ≡ whole → found ≡ repeat_behind same_name seen names → is_some found ≡ false →
    (found ≡ None → after ≡ seen ++ names) → repeat_behind same_name after rest ≡ whole
none_here seen after names rest (Some name) whole left is there more = absurd (cc there)
none_here seen after names rest None whole left is there more =
    ap (λ (list : List (List ℕ)). repeat_behind same_name list rest) (more refl)
    ∙ (ap (λ (front : Option (List ℕ)). option_or front (repeat_behind same_name (seen ++ names) rest)) is ∙ sym (behind_append seen names rest) ∙ left)

pub copied_there : {T : Type 0} (found : Option (Bor T)) (there : Bool) → there ≡ is_some found → is_some (option_copied found) ≡ there
copied_there None there is = sym is
copied_there (Some a) there is = sym is

-- the names of an output, and then those of the outputs that are left
pub output_left : (source : List Column) (seen : List (List ℕ)) (outs : List Out) (at : ℕ) (output : Out) (whole : Option (List ℕ)) → at < length outs → output ≡ get_or outs at output →
    repeat_behind same_name seen (select_names source (drop at outs)) ≡ whole → repeat_behind same_name seen (out_names source output ++ select_names source (drop (at + 1) outs)) ≡ whole
output_left source seen outs at output whole inside is left =
    subst (λ (first : Out). repeat_behind same_name seen (out_names source first ++ select_names source (drop (at + 1) outs)) ≡ whole) (sym is)
    (subst (λ (list : List Out). repeat_behind same_name seen (select_names source list) ≡ whole) (drop_more outs at output inside) left)
