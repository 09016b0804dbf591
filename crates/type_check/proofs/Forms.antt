-- Which statements are of the built form.
use Rattle.std.proofs.Common.{◌≡◌, ℕ, Bool, true, false, ◌&&◌, if◌then◌else◌, List, [], ◌∷◌, ◌++◌, map, Option, Some, None, option_and_then, refl, ap, ◌∙◌}
use Rattle.std.specs.List.{list_all}
use Rattle.sql_tree.specs.declared.statement.Select.{Select}
use Rattle.sql_tree.specs.declared.statement.SqlItem.{SqlItem}
use Rattle.sql_tree.specs.declared.statement.SqlOrigin.{SqlOrigin}
use Rattle.sql_tree.specs.declared.statement.SqlOrigin.TheVariants as origin
use Rattle.value_core.specs.declared.schema.Column.{Column}
use Rattle.expr_typing.specs.Typing.{all, all_from}
use Rattle.type_check.specs.Form.{is_there, declared_column, is_plain_select, form_over, form_with, reads_files}

one_there : {A B : Type 0} (make : A → Option B) (so_far : List B) (made : Option B) (more : List A) →
    ((so_far : List B) → is_there (all_from so_far (map make more)) ≡ list_all (λ a. is_there (make a)) more) →
    is_there (all_from so_far (made ∷ map make more)) ≡ (is_there made && list_all (λ a. is_there (make a)) more)
one_there make so_far None more others = refl
one_there make so_far (Some b) more others = others (so_far ++ b ∷ [])

there_from : {A B : Type 0} (make : A → Option B) (so_far : List B) (list : List A) → is_there (all_from so_far (map make list)) ≡ list_all (λ a. is_there (make a)) list
there_from make so_far [] = refl
there_from make so_far (a ∷ more) = one_there make so_far (make a) more (λ behind. there_from make behind more)

-- all are there where each is
pub all_there : {A B : Type 0} (make : A → Option B) (list : List A) → is_there (all (map make list)) ≡ list_all (λ a. is_there (make a)) list
all_there make list = there_from make [] list

with_there : (plain : Bool) (declared : Option (List Column)) (name : List ℕ) (select : Select) (from : SqlOrigin) →
    is_there (if plain then option_and_then (λ columns. form_over name columns select from) declared else None) ≡ (plain && is_there declared && reads_files from)
with_there false declared name select from = refl
with_there true None name select from = refl
with_there true (Some columns) name select (origin.Table stream table) = refl
with_there true (Some columns) name select (origin.Files stream path options) = refl

-- a table with AS is of the form where its query is plain, its items are columns and it reads files
pub form_there : (name : List ℕ) (items : List SqlItem) (select : Select) →
    is_there (form_with name items select) ≡ (is_plain_select select && list_all (λ item. is_there (declared_column item)) items && reads_files select.origin)
form_there name items select =
    with_there (is_plain_select select) (all (map declared_column items)) name select select.origin
    ∙ ap (λ columns. is_plain_select select && columns && reads_files select.origin) (all_there declared_column items)
