-- The items of a view have the kinds of its columns.
use Rattle.std.proofs.Common.{◌≡◌, ℕ, suc, arith, Bool, true, false, not, List, [], ◌∷◌, ◌++◌, map, length, Option, Some, None, Ok, refl, sym, ap, subst, ◌∙◌, nat_eq}
use Rattle.std.specs.Prelude.{IsTrue, ◌||◌, ◌==◌, flat_map, if◌then◌else◌, option_map, option_and_then, option_to_list}
use Rattle.std.specs.List.{AllByRecursion, list_any}
use Rattle.std.proofs.lemmas.Bool.Decides.{nat_tests}
use Rattle.sql_tree.specs.declared.expr.SqlArm.{SqlArm}
use Rattle.sql_tree.specs.declared.expr.SqlExpr.{SqlExpr}
use Rattle.sql_tree.specs.declared.expr.SqlExpr.TheOpen.{SqlExpr-F}
use Rattle.sql_tree.specs.declared.expr.SqlExpr.TheOpen as form
use Rattle.sql_tree.specs.declared.expr.SqlExpr.TheViews.{out-SqlExpr}
use Rattle.sql_tree.specs.declared.statement.Out.{Out}
use Rattle.sql_tree.specs.declared.statement.Out.TheVariants as out
use Rattle.sql_tree.specs.declared.statement.Select.{Select}
use Rattle.value_core.specs.declared.schema.Column.{Column}
use Rattle.value_core.specs.declared.value.Kind.{Kind}
use Rattle.row_expr.specs.declared.expr.Expr.{Expr}
use Rattle.plan_core.specs.declared.query.Item.{Item}
use Rattle.plan_core.specs.declared.query.Item.TheVariants as item
use Rattle.plan_core.specs.Sound.{kinds_of, kind_over, kinds_over, all_there, item_kind, is_plain, is_aggregate, is_empty, is_grouped, IsSoundQuery}
use Rattle.statement_checks.specs.Repeats.{first_of as first_check}
use Rattle.tree_equality.specs.TreeCodes.{equal_place}
use Rattle.select_names.specs.Aggregates.{is_aggregate_call, is_grouped_select, out_has_aggregate, filter_has_aggregate}
use Rattle.select_names.specs.SelectNames.{out_name}
use Rattle.select_checks.specs.declared.items.ItemOutput.{ItemOutput}
use Rattle.select_checks.specs.declared.items.KindedItem.{KindedItem}
use Rattle.select_checks.specs.declared.kinded.KindedExpr.{KindedExpr}
use Rattle.select_checks.specs.declared.outputs.SelectOutput.{SelectOutput}
use Rattle.select_checks.specs.declared.view.ViewSelect.{ViewSelect}
use Rattle.select_checks.specs.Kinded.{typed_tree, kinded_tree, filter_over}
use Rattle.select_checks.specs.Outputs.{select_outputs}
use Rattle.select_checks.specs.Parts.{query_of_select}
use Rattle.select_checks.specs.Views.{groups_over, group_exprs, group_kinds, aggregate_of, aggregate_item, of_item_kind, kinded_item, kinded_aggregate, kinded_key, grouped_item, item_output, named_item, grouped_output, grouped_outputs, plain_output, view_outputs, items_given, item_columns, view_checks, view_with, view_select}
use Rattle.select_checks.proofs.Givens.{given_is, filter_sound, HasKind, Where, tree_kind, all_append, one_all, flat_all}
use Rattle.select_checks.proofs.StreamSound.{Fits, outs_fit}

-- ---- groups

groups_kinds : (source : List Column) (groups : List KindedExpr) → AllByRecursion (HasKind source) groups → kinds_over (kinds_of source) (group_exprs groups) ≡ Some (group_kinds groups)
groups_kinds source [] f = refl
groups_kinds source (first ∷ more) f =
    ap (λ found. all_there (found ∷ map (kind_over (kinds_of source)) (group_exprs more))) f.0
    ∙ ap (option_map (λ others. first.kind ∷ others)) (groups_kinds source more f.1)

-- ---- items

-- an item is not plain and has its kind beside groups of these kinds
record Suits (source : List Column) (kinds : List Kind) (given : Item) (held : Kind) : Type 0 where
  kind : item_kind (kinds_of source) kinds given ≡ Some held
  grouped : is_plain given ≡ false

abbrev SuitsItem : List Column → List Kind → KindedItem → Type 0
SuitsItem source kinds given = Suits source kinds given.item given.kind

abbrev SuitsOutput : List Column → List Kind → ItemOutput → Type 0
SuitsOutput source kinds output = Suits source kinds output.item output.column.kind

-- no group counts for an aggregate
abbrev IsAggregateItem : Item → Type 0
IsAggregateItem given = (is_plain given ≡ false) × ((source : List Column) (kinds : List Kind) → item_kind (kinds_of source) [] given ≡ item_kind (kinds_of source) kinds given)

with_kind : (source : List Column) (kinds : List Kind) (given : Item) (held : Option Kind) → is_plain given ≡ false → item_kind (kinds_of source) kinds given ≡ held → Where (SuitsItem source kinds) (option_map (of_item_kind given) held)
with_kind source kinds given None plain is = tt
with_kind source kinds given (Some held) plain is = record { kind = is; grouped = plain }

aggregate_suits : (source : List Column) (kinds : List Kind) (given : Option Item) → Where IsAggregateItem given → Where (SuitsItem source kinds) (option_and_then (kinded_item source []) given)
aggregate_suits source kinds None is = tt
aggregate_suits source kinds (Some given) is = with_kind source kinds given (item_kind (kinds_of source) [] given) is.0 (sym (is.1 source kinds))

made_count : (made : Option Expr) → Where IsAggregateItem (option_map item.Count made)
made_count None = tt
made_count (Some made) = (refl, λ source kinds. refl)

made_sum : (made : Option Expr) → Where IsAggregateItem (option_map item.Sum made)
made_sum None = tt
made_sum (Some made) = (refl, λ source kinds. refl)

made_min : (made : Option Expr) → Where IsAggregateItem (option_map item.Min made)
made_min None = tt
made_min (Some made) = (refl, λ source kinds. refl)

made_max : (made : Option Expr) → Where IsAggregateItem (option_map item.Max made)
made_max None = tt
made_max (Some made) = (refl, λ source kinds. refl)

layer_aggregate : (source : List Column) (layer : SqlExpr-F SqlExpr SqlArm) → Where IsAggregateItem (aggregate_of source layer)
layer_aggregate source form.CountAll = (refl, λ from kinds. refl)
layer_aggregate source (form.Count a) = made_count (typed_tree source a)
layer_aggregate source (form.Sum a) = made_sum (typed_tree source a)
layer_aggregate source (form.Min a) = made_min (typed_tree source a)
layer_aggregate source (form.Max a) = made_max (typed_tree source a)
layer_aggregate source other = tt

key_suits : (source : List Column) (kinds : List Kind) (place : Option ℕ) → Where (SuitsItem source kinds) (option_and_then (kinded_key source kinds) place)
key_suits source kinds None = tt
key_suits source kinds (Some place) = with_kind source kinds (item.Key place) (item_kind (kinds_of source) kinds (item.Key place)) refl refl

if_suits : (source : List Column) (groups : List SqlExpr) (kinds : List Kind) (tree : SqlExpr) (call : Bool) →
    Where (SuitsItem source kinds) (if call then kinded_aggregate source tree else option_and_then (kinded_key source kinds) (equal_place groups tree))
if_suits source groups kinds tree true = aggregate_suits source kinds (aggregate_item source tree) (layer_aggregate source (out-SqlExpr tree))
if_suits source groups kinds tree false = key_suits source kinds (equal_place groups tree)

named_suits : (source : List Column) (kinds : List Kind) (given : KindedItem) (name : Option (List ℕ)) → SuitsItem source kinds given → Where (SuitsOutput source kinds) (option_map (item_output given) name)
named_suits source kinds given None is = tt
named_suits source kinds given (Some name) is = record { kind = is.kind; grouped = is.grouped }

item_suits : (source : List Column) (kinds : List Kind) (tree : SqlExpr) (own : Option (List ℕ)) (given : Option KindedItem) → Where (SuitsItem source kinds) given →
    Where (SuitsOutput source kinds) (option_and_then (named_item source tree own) given)
item_suits source kinds tree own None is = tt
item_suits source kinds tree own (Some given) is = named_suits source kinds given (out_name source tree own) is

out_suits : (source : List Column) (groups : List SqlExpr) (kinds : List Kind) (given : Out) → Where (SuitsOutput source kinds) (grouped_output source groups kinds given)
out_suits source groups kinds (out.Star except) = tt
out_suits source groups kinds (out.One tree own) = item_suits source kinds tree own (grouped_item source groups kinds tree) (if_suits source groups kinds tree (is_aggregate_call tree))

suits_all : (source : List Column) (groups : List SqlExpr) (kinds : List Kind) (outs : List Out) → AllByRecursion (SuitsOutput source kinds) (grouped_outputs source groups kinds outs)
suits_all source groups kinds outs = flat_all (SuitsOutput source kinds) (grouped_output source groups kinds) outs (out_suits source groups kinds)

-- ---- the kinds of items

abbrev HasItemKind : List Column → List Kind → ItemOutput → Type 0
HasItemKind source kinds output = item_kind (kinds_of source) kinds output.item ≡ Some output.column.kind

items_kinds : (source : List Column) (kinds : List Kind) (outputs : List ItemOutput) → AllByRecursion (HasItemKind source kinds) outputs →
    all_there (map (item_kind (kinds_of source) kinds) (items_given outputs)) ≡ Some (kinds_of (item_columns outputs))
items_kinds source kinds [] f = refl
items_kinds source kinds (first ∷ more) f =
    ap (λ found. all_there (found ∷ map (item_kind (kinds_of source) kinds) (items_given more))) f.0
    ∙ ap (option_map (λ others. first.column.kind ∷ others)) (items_kinds source kinds more f.1)

suits_kinds : (source : List Column) (kinds : List Kind) (outputs : List ItemOutput) → AllByRecursion (SuitsOutput source kinds) outputs → AllByRecursion (HasItemKind source kinds) outputs
suits_kinds source kinds [] f = tt
suits_kinds source kinds (first ∷ more) f = (f.0.kind, suits_kinds source kinds more f.1)

fits_kinds : (source : List Column) (kinds : List Kind) (outputs : List SelectOutput) → AllByRecursion (Fits source) outputs → AllByRecursion (HasItemKind source kinds) (map plain_output outputs)
fits_kinds source kinds [] f = tt
fits_kinds source kinds (first ∷ more) f = (f.0, fits_kinds source kinds more f.1)

-- ---- no plain item beside groups or aggregates

no_plain : (source : List Column) (kinds : List Kind) (outputs : List ItemOutput) → AllByRecursion (SuitsOutput source kinds) outputs → list_any is_plain (items_given outputs) ≡ false
no_plain source kinds [] f = refl
no_plain source kinds (first ∷ more) f = ap (λ plain. plain || list_any is_plain (items_given more)) f.0.grouped ∙ no_plain source kinds more f.1

no_aggregate : (outputs : List SelectOutput) → list_any is_aggregate (items_given (map plain_output outputs)) ≡ false
no_aggregate [] = refl
no_aggregate (first ∷ more) = no_aggregate more

false_true : true ≡ false → ⊥
false_true e = cc e

never_zero : (n : ℕ) → nat_eq (suc n) 0 ≡ false
never_zero n = grind (arith, nat_tests)

not_zero : (more : List SqlExpr) (rest : Bool) → (not (nat_eq (suc (length more)) 0) || rest) ≡ false → true ≡ false
not_zero more rest is = subst (λ (b : Bool). (not b || rest) ≡ false) (never_zero (length more)) is

no_groups : (source : List Column) (groups : List SqlExpr) (rest : Bool) → (not (length groups == 0) || rest) ≡ false → is_empty (group_exprs (groups_over source groups)) ≡ true
no_groups source [] rest is = refl
no_groups source (first ∷ more) rest is = absurd (false_true (not_zero more rest is))

-- ---- a sound query

abbrev Of : Select → List Column → List ItemOutput → ViewSelect
Of select source outputs = view_with (filter_over source select.filter) (groups_over source select.groups) outputs

query_sound : (select : Select) (source : List Column) (origin : List ℕ) (outputs : List ItemOutput) → AllByRecursion (HasItemKind source (group_kinds (groups_over source select.groups))) outputs →
    (IsTrue (is_grouped (query_of_select origin (Of select source outputs))) → IsTrue (not (list_any is_plain (items_given outputs)))) →
    IsSoundQuery (kinds_of source) (kinds_of (item_columns outputs)) (query_of_select origin (Of select source outputs))
query_sound select source origin outputs kinds plain = record {
  filter = filter_sound source select.filter;
  group_kinds = group_kinds (groups_over source select.groups);
  groups = groups_kinds source (groups_over source select.groups) (flat_all (HasKind source) (kinded_tree source) select.groups (tree_kind source));
  items = items_kinds source (group_kinds (groups_over source select.groups)) outputs kinds;
  no_plain = plain;
}

not_grouped : (groups : List Expr) (aggregate : Bool) → is_empty groups ≡ true → aggregate ≡ false → (not (is_empty groups) || aggregate) ≡ false
not_grouped [] aggregate none is = is
not_grouped (first ∷ more) aggregate none is = absurd (cc none)

by_grouping : (select : Select) (source : List Column) (origin : List ℕ) (grouped : Bool) → is_grouped_select select ≡ grouped →
    let kinds = group_kinds (groups_over source select.groups) in
    let outputs = if grouped then grouped_outputs source select.groups kinds select.outs else map plain_output (select_outputs source select.outs) in
    IsSoundQuery (kinds_of source) (kinds_of (item_columns outputs)) (query_of_select origin (Of select source outputs))
by_grouping select source origin true is =
    let kinds = group_kinds (groups_over source select.groups) in
    let outputs = grouped_outputs source select.groups kinds select.outs in
    let suits = suits_all source select.groups kinds select.outs in
    query_sound select source origin outputs (suits_kinds source kinds outputs suits) (λ grouped. ap not (no_plain source kinds outputs suits))
by_grouping select source origin false is =
    let kinds = group_kinds (groups_over source select.groups) in
    let outputs = map plain_output (select_outputs source select.outs) in
    let none : is_grouped (query_of_select origin (Of select source outputs)) ≡ false =
    not_grouped (group_exprs (groups_over source select.groups)) (list_any is_aggregate (items_given outputs))
    (no_groups source select.groups (list_any out_has_aggregate select.outs || filter_has_aggregate select.filter) is) (no_aggregate (select_outputs source select.outs)) in
    query_sound select source origin outputs (fits_kinds source kinds (select_outputs source select.outs) (outs_fit source select.outs)) (λ grouped. absurd (cc (sym grouped ∙ none)))

pub view_sound : (select : Select) (source : List Column) (given : ViewSelect) (origin : List ℕ) → view_select select source ≡ Ok given → IsSoundQuery (kinds_of source) (kinds_of given.columns) (query_of_select origin given)
view_sound select source given origin is =
    subst (λ (parts : ViewSelect). IsSoundQuery (kinds_of source) (kinds_of parts.columns) (query_of_select origin parts))
    (given_is (first_check (view_checks select source)) (Of select source (view_outputs source select)) given is)
    (by_grouping select source origin (is_grouped_select select) refl)
