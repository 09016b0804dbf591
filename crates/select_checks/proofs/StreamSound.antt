-- The outputs of a select have the kinds of its columns.
use Rattle.std.proofs.Common.{◌≡◌, ℕ, ◌+◌, Bool, true, false, cond, List, [], ◌∷◌, ◌++◌, map, length, Option, Some, None, Ok, refl, sym, ap, subst, ◌∙◌, length-append, arith}
use Rattle.std.specs.Prelude.{slice_get, if◌then◌else◌, option_map, option_and_then, option_to_list}
use Rattle.std.specs.List.{AllByRecursion}
use Rattle.std.proofs.lemmas.List.{append_assoc}
use Rattle.sql_tree.specs.declared.expr.SqlExpr.{SqlExpr}
use Rattle.sql_tree.specs.declared.statement.Out.{Out}
use Rattle.sql_tree.specs.declared.statement.Out.TheVariants as out
use Rattle.sql_tree.specs.declared.statement.Select.{Select}
use Rattle.value_core.specs.declared.schema.Column.{Column}
use Rattle.value_core.specs.declared.value.Kind.{Kind}
use Rattle.value_core.specs.declared.value.Kind.TheVariants as kind
use Rattle.row_expr.specs.declared.expr.Expr.{Expr, fold-roll-Expr}
use Rattle.row_expr.specs.declared.expr.Expr.TheOpen as form
use Rattle.row_expr.specs.declared.expr.Expr.TheVariants as expr
use Rattle.row_expr.specs.declared.expr.Expr.TheVariants.{rolls-Column}
use Rattle.row_expr.specs.declared.sort.Sort.{Sort}
use Rattle.row_expr.specs.declared.sort.Sort.TheVariants.{Of}
use Rattle.row_expr.specs.Columns.{is_kind, reads_at, arm_reads_at, reads_within}
use Rattle.row_expr.specs.Kinds.{arm_at, kind_in, same_kind, sort_at, sort_of}
use Rattle.plan_core.specs.declared.flow.Origin.{Origin}
use Rattle.plan_core.specs.Sound.{kinds_of, kind_over, kinds_over, all_there, IsSoundAppend}
use Rattle.statement_checks.specs.Repeats.{first_of}
use Rattle.select_names.specs.SelectNames.{is_left, out_name}
use Rattle.select_checks.specs.declared.kinded.KindedExpr.{KindedExpr}
use Rattle.select_checks.specs.declared.outputs.SelectOutput.{SelectOutput}
use Rattle.select_checks.specs.declared.stream.StreamSelect.{StreamSelect}
use Rattle.select_checks.specs.Kinded.{kinded_tree, filter_over}
use Rattle.select_checks.specs.Outputs.{column_of, select_output, columns_left, named_output, one_output, out_outputs, select_outputs, exprs_given, columns_given}
use Rattle.select_checks.specs.Streams.{stream_checks, stream_with, stream_select}
use Rattle.select_checks.specs.Parts.{flow_of_select}
use Rattle.select_checks.proofs.Givens.{given_is, filter_sound, HasKind, Where, tree_kind, all_append, one_all}

-- an output's expression has the kind of its column
abbrev pub Fits : List Column → SelectOutput → Type 0
Fits source output = kind_over (kinds_of source) output.expr ≡ Some output.column.kind

same_self : (k : Kind) → same_kind k k ≡ true
same_self kind.Bool = refl
same_self kind.Int = refl
same_self kind.Big = refl
same_self kind.Str = refl

column_kind : (kinds : List Kind) (place : ℕ) (k : Kind) → slice_get kinds place ≡ Some k → kind_over kinds (expr.Column place k) ≡ Some k
column_kind kinds place k reads =
    let within : reads_within kinds (expr.Column place k) ≡ is_kind k (slice_get kinds place) =
    ap (reads_within kinds) (sym (rolls-Column place k)) ∙ fold-roll-Expr Bool Bool (reads_at kinds) arm_reads_at (form.Column place k) in
    let sort : sort_of (expr.Column place k) ≡ Of k =
    ap sort_of (sym (rolls-Column place k)) ∙ fold-roll-Expr Sort (Sort × Sort) sort_at arm_at (form.Column place k) in
    ap (λ inside. cond inside (kind_in (sort_of (expr.Column place k))) None) (within ∙ (ap (is_kind k) reads ∙ same_self k)) ∙ ap kind_in sort

-- ---- `*`

at_place : (front : List Column) (first : Column) (more : List Column) → slice_get (kinds_of (front ++ first ∷ more)) (length front) ≡ Some first.kind
at_place [] first more = refl
at_place (before ∷ front) first more = at_place front first more

if_left : (P : SelectOutput → Type 0) (left : Bool) (first : SelectOutput) (more : List SelectOutput) → P first → AllByRecursion P more → AllByRecursion P (if left then first ∷ more else more)
if_left P true first more f g = (f, g)
if_left P false first more f g = g

left_fits : (except : List (List ℕ)) (front source : List Column) (place : ℕ) → place ≡ length front → AllByRecursion (Fits (front ++ source)) (columns_left except place source)
left_fits except front [] place is = tt
left_fits except front (first ∷ more) place is =
    let longer : place + 1 ≡ length (front ++ first ∷ []) = omega (arith, length-append front (first ∷ [])) in
    if_left (Fits (front ++ first ∷ more)) (is_left except first) (select_output first (expr.Column place first.kind)) (columns_left except (place + 1) more)
    (column_kind (kinds_of (front ++ first ∷ more)) place first.kind (ap (slice_get (kinds_of (front ++ first ∷ more))) is ∙ at_place front first more))
    (subst (λ columns. AllByRecursion (Fits columns) (columns_left except (place + 1) more)) (append_assoc front (first ∷ []) more) (left_fits except (front ++ first ∷ []) more (place + 1) longer))

-- ---- an expression

name_fits : (source : List Column) (made : KindedExpr) (name : Option (List ℕ)) → HasKind source made → Where (Fits source) (option_map (λ given. select_output (column_of made.kind given) made.expr) name)
name_fits source made None has = tt
name_fits source made (Some name) has = has

kinded_fits : (source : List Column) (tree : SqlExpr) (own : Option (List ℕ)) (made : Option KindedExpr) → Where (HasKind source) made → Where (Fits source) (option_and_then (named_output source tree own) made)
kinded_fits source tree own None has = tt
kinded_fits source tree own (Some made) has = name_fits source made (out_name source tree own) has

out_fits : (source : List Column) (given : Out) → AllByRecursion (Fits source) (out_outputs source given)
out_fits source (out.Star except) = left_fits except [] source 0 refl
out_fits source (out.One tree own) = one_all (Fits source) (one_output source tree own) (kinded_fits source tree own (kinded_tree source tree) (tree_kind source tree))

pub outs_fit : (source : List Column) (outs : List Out) → AllByRecursion (Fits source) (select_outputs source outs)
outs_fit source [] = tt
outs_fit source (first ∷ more) = all_append (Fits source) (out_outputs source first) (select_outputs source more) (out_fits source first) (outs_fit source more)

kinds_fit : (source : List Column) (outputs : List SelectOutput) → AllByRecursion (Fits source) outputs → kinds_over (kinds_of source) (exprs_given outputs) ≡ Some (kinds_of (columns_given outputs))
kinds_fit source [] f = refl
kinds_fit source (first ∷ more) f =
    ap (λ found. all_there (found ∷ map (kind_over (kinds_of source)) (exprs_given more))) f.0
    ∙ ap (option_map (λ others. first.column.kind ∷ others)) (kinds_fit source more f.1)

pub stream_sound : (select : Select) (source : List Column) (given : StreamSelect) (name : List ℕ) (origin : Origin) → stream_select select source ≡ Ok given →
    IsSoundAppend (kinds_of source) (kinds_of given.columns) (flow_of_select name origin given)
stream_sound select source given name origin is =
    let made = stream_with (filter_over source select.filter) (select_outputs source select.outs) in
    subst (λ (parts : StreamSelect). IsSoundAppend (kinds_of source) (kinds_of parts.columns) (flow_of_select name origin parts)) (given_is (first_of (stream_checks select source)) made given is)
    (record { filter = filter_sound source select.filter; outputs = kinds_fit source (select_outputs source select.outs) (outs_fit source select.outs) })
