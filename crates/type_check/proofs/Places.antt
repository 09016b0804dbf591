-- An output reads a column of its kind.
use Rattle.std.proofs.Common.{◌≡◌, ℕ, zero, suc, ◌+◌, Bool, true, cond, List, [], ◌∷◌, ◌++◌, map, length, take, Option, Some, None, refl, sym, ap, subst, ◌∙◌, length-append, arith}
use Rattle.std.specs.Prelude.{slice_get, option_map, option_and_then, option_to_list}
use Rattle.std.specs.List.{AllByRecursion}
use Rattle.std.proofs.lemmas.List.{append_assoc}
use Rattle.std.proofs.lemmas.Option.{slice_get-map}
use Rattle.sql_tree.specs.declared.statement.Out.{Out}
use Rattle.sql_tree.specs.declared.statement.Out.TheVariants as out
use Rattle.value_core.specs.declared.schema.Column.{Column}
use Rattle.value_core.specs.declared.value.Kind.{Kind}
use Rattle.value_core.specs.declared.value.Kind.TheVariants as kind
use Rattle.row_expr.specs.declared.expr.Expr.{fold-roll-Expr}
use Rattle.row_expr.specs.declared.expr.Expr.TheOpen as form
use Rattle.row_expr.specs.declared.expr.Expr.TheVariants.{rolls-Column}
use Rattle.row_expr.specs.declared.sort.Sort.{Sort}
use Rattle.row_expr.specs.Columns.{is_kind, reads_at, arm_reads_at, reads_within}
use Rattle.row_expr.specs.declared.sort.Sort.TheVariants.{Of}
use Rattle.row_expr.specs.Kinds.{arm_at, kind_in, same_kind, sort_at, sort_of}
use Rattle.plan_core.specs.Sound.{kinds_of, kind_over, kinds_over, all_there}
use Rattle.type_check.specs.declared.outputs.Output.{Output}
use Rattle.type_check.specs.Form.{column, plain_name}
use Rattle.type_check.specs.Outputs.{output, every_from, place_of, under, output_named, outputs_by, outputs_of, outputs_seen, columns_of, expr_of, exprs_of}

-- the column at its place has its kind
abbrev Reads : List Kind → Output → Type 0
Reads kinds each = slice_get kinds each.place ≡ Some each.column.kind

same_self : (k : Kind) → same_kind k k ≡ true
same_self kind.Bool = refl
same_self kind.Int = refl
same_self kind.Big = refl
same_self kind.Str = refl

kind_read : (kinds : List Kind) (each : Output) → Reads kinds each → kind_over kinds (expr_of each) ≡ Some each.column.kind
kind_read kinds each reads =
    let k = each.column.kind in
    let within : reads_within kinds (expr_of each) ≡ is_kind k (slice_get kinds each.place) =
    ap (reads_within kinds) (sym (rolls-Column each.place k)) ∙ fold-roll-Expr Bool Bool (reads_at kinds) arm_reads_at (form.Column each.place k) in
    let sort : sort_of (expr_of each) ≡ Of k =
    ap sort_of (sym (rolls-Column each.place k)) ∙ fold-roll-Expr Sort (Sort × Sort) sort_at arm_at (form.Column each.place k) in
    ap (λ inside. cond inside (kind_in (sort_of (expr_of each))) None) (within ∙ (ap (is_kind k) reads ∙ same_self k)) ∙ ap kind_in sort

kinds_read : (kinds : List Kind) (outputs : List Output) → AllByRecursion (Reads kinds) outputs → kinds_over kinds (exprs_of outputs) ≡ Some (kinds_of (columns_of outputs))
kinds_read kinds [] reads = refl
kinds_read kinds (each ∷ more) reads =
    ap (λ first. all_there (first ∷ map (kind_over kinds) (exprs_of more))) (kind_read kinds each reads.0)
    ∙ ap (option_map (λ others. each.column.kind ∷ others)) (kinds_read kinds more reads.1)

-- ---- `*`

at_place : (front : List Column) (first : Column) (more : List Column) → slice_get (kinds_of (front ++ first ∷ more)) (length front) ≡ Some first.kind
at_place [] first more = refl
at_place (before ∷ front) first more = at_place front first more

every_reads : (front source : List Column) (place : ℕ) → place ≡ length front → AllByRecursion (Reads (kinds_of (front ++ source))) (every_from place source)
every_reads front [] place is = tt
every_reads front (first ∷ more) place is =
    let longer : place + 1 ≡ length (front ++ first ∷ []) = omega (arith, length-append front (first ∷ [])) in (
      ap (slice_get (kinds_of (front ++ first ∷ more))) is ∙ at_place front first more,
      subst (λ columns. AllByRecursion (Reads (kinds_of columns)) (every_from (place + 1) more)) (append_assoc front (first ∷ []) more)
          (every_reads (front ++ first ∷ []) more (place + 1) longer),
    )

-- ---- a name

found_reads : (source : List Column) (own : Option (List ℕ)) (place : ℕ) (found : Option Column) → slice_get source place ≡ found →
    AllByRecursion (Reads (kinds_of source)) (option_to_list (option_map (λ column. output place (under own column)) found))
found_reads source own place None is = tt
found_reads source own place (Some column) is = (slice_get-map (λ each. each.kind) source place ∙ ap (option_map (λ each. each.kind)) is, tt)

place_reads : (source : List Column) (own : Option (List ℕ)) (at : Option ℕ) →
    AllByRecursion (Reads (kinds_of source)) (option_to_list (option_and_then (λ place. option_map (λ column. output place (under own column)) (slice_get source place)) at))
place_reads source own None = tt
place_reads source own (Some place) = found_reads source own place (slice_get source place) refl

name_reads : (source : List Column) (own : Option (List ℕ)) (name : Option (List ℕ)) →
    AllByRecursion (Reads (kinds_of source)) (option_to_list (option_and_then (output_named source own) name))
name_reads source own None = tt
name_reads source own (Some name) = place_reads source own (place_of source name)

-- ---- all outputs

both_read : (kinds : List Kind) (front back : List Output) → AllByRecursion (Reads kinds) front → AllByRecursion (Reads kinds) back → AllByRecursion (Reads kinds) (front ++ back)
both_read kinds [] back f g = g
both_read kinds (each ∷ front) back f g = (f.0, both_read kinds front back f.1 g)

out_reads : (source : List Column) (from : Out) → AllByRecursion (Reads (kinds_of source)) (outputs_by source from)
out_reads source (out.Star except) = every_reads [] source 0 refl
out_reads source (out.One tree own) = name_reads source own (plain_name tree)

outs_read : (source : List Column) (outs : List Out) → AllByRecursion (Reads (kinds_of source)) (outputs_of source outs)
outs_read source [] = tt
outs_read source (first ∷ more) = both_read (kinds_of source) (outputs_by source first) (outputs_of source more) (out_reads source first) (outs_read source more)

front_read : (kinds : List Kind) (n : ℕ) (list : List Output) → AllByRecursion (Reads kinds) list → AllByRecursion (Reads kinds) (take n list)
front_read kinds zero list f = tt
front_read kinds (suc n) [] f = tt
front_read kinds (suc n) (each ∷ more) f = (f.0, front_read kinds n more f.1)

-- the expressions of a table have the kinds of its columns
pub outputs_typed : (source : List Column) (outs : List Out) →
    kinds_over (kinds_of source) (exprs_of (outputs_seen source outs)) ≡ Some (kinds_of (columns_of (outputs_seen source outs)))
outputs_typed source outs = kinds_read (kinds_of source) (outputs_seen source outs) (front_read (kinds_of source) 257 (outputs_of source outs) (outs_read source outs))
