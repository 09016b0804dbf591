-- The print of each expression, one level down.
use Rattle.std.proofs.Common.{◌≡◌, ℕ, ℤ, Bool, true, false, List, [], ◌∷◌, ◌++◌, map, Option, Some, None, sym, ap, ◌∙◌, refl, append-nil, pos, negsuc, rules}
use Rattle.std.specs.Prelude.{codes, if◌then◌else◌}
use Rattle.sql_tree.specs.declared.expr.SqlArm.{SqlArm, out-SqlArm, fold_out-SqlArm}
use Rattle.sql_tree.specs.declared.expr.SqlOp.{SqlOp}
use Rattle.sql_tree.specs.declared.expr.SqlType.{SqlType}
use Rattle.sql_tree.specs.declared.expr.SqlExpr.{SqlExpr, fold-roll-SqlExpr}
use Rattle.sql_tree.specs.declared.expr.SqlExpr.TheVariants as tree
use Rattle.sql_tree.specs.declared.expr.SqlExpr.TheVariants.{rolls-Number, rolls-Str, rolls-Bool, rolls-Null, rolls-Name, rolls-Neg, rolls-Not, rolls-Binary, rolls-IsNull, rolls-InList, rolls-Between, rolls-Cast, rolls-Coalesce, rolls-CountAll, rolls-Count, rolls-Sum, rolls-Min, rolls-Max, rolls-Case}
use Rattle.sql_tree.specs.declared.expr.SqlExpr.TheOpen as layer
use Rattle.sql_tree.specs.declared.lexeme.LexemeKind.TheVariants as k
use Rattle.sql_tree.specs.Lexemes.{kind, same_kind}
use lib.Signed.{le_z}
use Rattle.sql_tree.specs.Print.{Print, token, word, string, name, literal, operator, type_word, in_parens, operand, not_if, separated, all_of, print_layer, print_arm, expr_print, arm_print}

pub print-Number : (n : ℤ) → expr_print (tree.Number n) ≡ literal n
unfolding expr_print
print-Number n = ap expr_print (sym (rolls-Number n)) ∙ fold-roll-SqlExpr Print Print print_layer print_arm (layer.Number n)

pub print-Str : (s : List ℕ) → expr_print (tree.Str s) ≡ string s ∷ []
unfolding expr_print
print-Str s = ap expr_print (sym (rolls-Str s)) ∙ fold-roll-SqlExpr Print Print print_layer print_arm (layer.Str s)

pub print-Bool : (b : Bool) → expr_print (tree.Bool b) ≡ token (if b then k.True else k.False) ∷ []
unfolding expr_print
print-Bool b = ap expr_print (sym (rolls-Bool b)) ∙ fold-roll-SqlExpr Print Print print_layer print_arm (layer.Bool b)

pub print-Null : expr_print tree.Null ≡ token k.Null ∷ []
unfolding expr_print
print-Null = ap expr_print (sym rolls-Null) ∙ fold-roll-SqlExpr Print Print print_layer print_arm layer.Null

pub print-Name : (s : List ℕ) → expr_print (tree.Name s) ≡ name s ∷ []
unfolding expr_print
print-Name s = ap expr_print (sym (rolls-Name s)) ∙ fold-roll-SqlExpr Print Print print_layer print_arm (layer.Name s)

pub print-Neg : (x : SqlExpr) → expr_print (tree.Neg x) ≡ in_parens (token k.Minus ∷ operand (expr_print x))
unfolding expr_print
print-Neg x = ap expr_print (sym (rolls-Neg x)) ∙ fold-roll-SqlExpr Print Print print_layer print_arm (layer.Neg x)

pub print-Not : (x : SqlExpr) → expr_print (tree.Not x) ≡ in_parens (token k.Not ∷ expr_print x)
unfolding expr_print
print-Not x = ap expr_print (sym (rolls-Not x)) ∙ fold-roll-SqlExpr Print Print print_layer print_arm (layer.Not x)

pub print-Binary : (op : SqlOp) (x y : SqlExpr) → expr_print (tree.Binary op x y) ≡ in_parens (expr_print x ++ token (operator op) ∷ expr_print y)
unfolding expr_print
print-Binary op x y = ap expr_print (sym (rolls-Binary op x y)) ∙ fold-roll-SqlExpr Print Print print_layer print_arm (layer.Binary op x y)

pub print-IsNull : (x : SqlExpr) (negated : Bool) → expr_print (tree.IsNull x negated) ≡ in_parens (expr_print x ++ token k.Is ∷ not_if negated ++ token k.Null ∷ [])
unfolding expr_print
print-IsNull x negated = ap expr_print (sym (rolls-IsNull x negated)) ∙ fold-roll-SqlExpr Print Print print_layer print_arm (layer.IsNull x negated)

pub print-InList : (x : SqlExpr) (ys : List SqlExpr) (negated : Bool) → expr_print (tree.InList x ys negated) ≡ in_parens (expr_print x ++ not_if negated ++ token k.In ∷ in_parens (separated (map expr_print ys)))
unfolding expr_print
print-InList x ys negated = ap expr_print (sym (rolls-InList x ys negated)) ∙ fold-roll-SqlExpr Print Print print_layer print_arm (layer.InList x ys negated)

pub print-Between : (x y z : SqlExpr) (negated : Bool) → expr_print (tree.Between x y z negated) ≡ in_parens (expr_print x ++ not_if negated ++ token k.Between ∷ expr_print y ++ token k.And ∷ expr_print z)
unfolding expr_print
print-Between x y z negated = ap expr_print (sym (rolls-Between x y z negated)) ∙ fold-roll-SqlExpr Print Print print_layer print_arm (layer.Between x y z negated)

pub print-Cast : (x : SqlExpr) (type : SqlType) (trying : Bool) → expr_print (tree.Cast x type trying) ≡ token (if trying then k.TryCast else k.Cast) ∷ in_parens (expr_print x ++ token k.As ∷ type_word type ∷ [])
unfolding expr_print
print-Cast x type trying = ap expr_print (sym (rolls-Cast x type trying)) ∙ fold-roll-SqlExpr Print Print print_layer print_arm (layer.Cast x type trying)

pub print-Coalesce : (xs : List SqlExpr) → expr_print (tree.Coalesce xs) ≡ word (codes "coalesce") ∷ in_parens (separated (map expr_print xs))
unfolding expr_print
print-Coalesce xs = ap expr_print (sym (rolls-Coalesce xs)) ∙ fold-roll-SqlExpr Print Print print_layer print_arm (layer.Coalesce xs)

pub print-CountAll : expr_print tree.CountAll ≡ word (codes "count") ∷ in_parens (token k.Star ∷ [])
unfolding expr_print
print-CountAll = ap expr_print (sym rolls-CountAll) ∙ fold-roll-SqlExpr Print Print print_layer print_arm layer.CountAll

pub print-Count : (x : SqlExpr) → expr_print (tree.Count x) ≡ word (codes "count") ∷ in_parens (expr_print x)
unfolding expr_print
print-Count x = ap expr_print (sym (rolls-Count x)) ∙ fold-roll-SqlExpr Print Print print_layer print_arm (layer.Count x)

pub print-Sum : (x : SqlExpr) → expr_print (tree.Sum x) ≡ word (codes "sum") ∷ in_parens (expr_print x)
unfolding expr_print
print-Sum x = ap expr_print (sym (rolls-Sum x)) ∙ fold-roll-SqlExpr Print Print print_layer print_arm (layer.Sum x)

pub print-Min : (x : SqlExpr) → expr_print (tree.Min x) ≡ word (codes "min") ∷ in_parens (expr_print x)
unfolding expr_print
print-Min x = ap expr_print (sym (rolls-Min x)) ∙ fold-roll-SqlExpr Print Print print_layer print_arm (layer.Min x)

pub print-Max : (x : SqlExpr) → expr_print (tree.Max x) ≡ word (codes "max") ∷ in_parens (expr_print x)
unfolding expr_print
print-Max x = ap expr_print (sym (rolls-Max x)) ∙ fold-roll-SqlExpr Print Print print_layer print_arm (layer.Max x)

pub print-Case_none : (arms : List SqlArm) → expr_print (tree.Case arms None) ≡ token k.Case ∷ all_of (map arm_print arms) ++ token k.EndWord ∷ []
unfolding expr_print arm_print
print-Case_none arms = ap expr_print (sym (rolls-Case arms None)) ∙ fold-roll-SqlExpr Print Print print_layer print_arm (layer.Case arms None) ∙
    ap (λ ts. token k.Case ∷ ts ++ token k.EndWord ∷ []) (append-nil (all_of (map arm_print arms)))

pub print-Case_some : (arms : List SqlArm) (x : SqlExpr) → expr_print (tree.Case arms (Some x)) ≡ token k.Case ∷ all_of (map arm_print arms) ++ (token k.Else ∷ expr_print x) ++ token k.EndWord ∷ []
unfolding expr_print arm_print
print-Case_some arms x = ap expr_print (sym (rolls-Case arms (Some x))) ∙ fold-roll-SqlExpr Print Print print_layer print_arm (layer.Case arms (Some x))

pub print-arm : (a : SqlArm) → arm_print a ≡ token k.When ∷ expr_print (out-SqlArm a).when ++ token k.Then ∷ expr_print (out-SqlArm a).then
unfolding expr_print arm_print
print-arm a = fold_out-SqlArm Print Print print_layer print_arm a

-- ---- which prints are a number alone

pub plain-literal : (n : ℤ) → le_z (pos 0) n ≡ same_kind (kind (literal n)) k.Number
unfolding same_kind
plain-literal (pos n) = search rules
plain-literal (negsuc n) = refl

pub plain-truth : (b : Bool) → false ≡ same_kind (if b then k.True else k.False) k.Number
unfolding same_kind
plain-truth true = refl
plain-truth false = refl

pub plain-name : (b : Bool) → false ≡ same_kind (if b then k.Word else k.Quoted) k.Number
unfolding same_kind
plain-name true = refl
plain-name false = refl

pub plain-cast : (b : Bool) → false ≡ same_kind (if b then k.TryCast else k.Cast) k.Number
unfolding same_kind
plain-cast true = refl
plain-cast false = refl

pub plain-case : (arms : List SqlArm) (other : Option SqlExpr) → false ≡ same_kind (kind (expr_print (tree.Case arms other))) k.Number
unfolding same_kind
plain-case arms None = sym (ap (λ ts. same_kind (kind ts) k.Number) (print-Case_none arms))
plain-case arms (Some x) = sym (ap (λ ts. same_kind (kind ts) k.Number) (print-Case_some arms x))
