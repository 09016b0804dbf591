-- What is printed is read again.
use Rattle.std.proofs.Common.{◌≡◌, ◌≢◌, ℕ, zero, suc, ◌+◌, ◌≤◌, ◌<◌, ◌^◌, Bool, true, false, if◌then◌else◌, cond, List, [], ◌∷◌, ◌++◌, length, map, Option, Some, None, refl, sym, ap, ◌∙◌, subst, append_assoc, append-nil, arith, ℤ, pos, negsuc}
use Rattle.std.specs.Prelude.{codes, option_map}
use Rattle.sql_tree.specs.declared.expr.SqlArm.{SqlArm, fold-roll-SqlArm}
use Rattle.sql_tree.specs.declared.expr.SqlOp.{SqlOp}
use Rattle.sql_tree.specs.declared.expr.SqlOp.TheVariants as op
use Rattle.sql_tree.specs.declared.expr.SqlType.{SqlType}
use Rattle.sql_tree.specs.declared.expr.SqlType.TheVariants as type
use Rattle.sql_tree.specs.declared.expr.SqlExpr.{SqlExpr, fold-roll-SqlExpr}
use Rattle.sql_tree.specs.declared.expr.SqlExpr.TheVariants as tree
use Rattle.sql_tree.specs.declared.expr.SqlExpr.TheVariants.{rolls-Number, rolls-Str, rolls-Bool, rolls-Null, rolls-Name, rolls-Neg, rolls-Not, rolls-Binary, rolls-IsNull, rolls-InList, rolls-Between, rolls-Cast, rolls-Coalesce, rolls-CountAll, rolls-Count, rolls-Sum, rolls-Min, rolls-Max, rolls-Case}
use Rattle.sql_tree.specs.declared.expr.SqlExpr.TheOpen as layer
use Rattle.sql_tree.specs.declared.lexeme.Lexeme.{Lexeme}
use Rattle.sql_tree.specs.declared.lexeme.LexemeKind.TheVariants as k
use Rattle.sql_tree.specs.Lexemes.{kind, same_kind, is_bare, type_of}
use Rattle.sql_expr.specs.declared.operators.Function.{Function}
use Rattle.sql_expr.specs.declared.operators.Function.TheVariants as f
use Rattle.sql_expr.specs.Operators.{binds, operator, made, negated, function_of, function_at, call_at, call_of, cast_kind}
use Rattle.sql_expr.specs.Grammar.{IsNegation, absent, present, Reads, looser, number, negative, string, truth, falsity, null, word as bare_word, quoted, parens, minus, plus, not, binary, is_null, in_list, between, cast, coalesce, count_all, aggregate, case, ReadsList, one, more, ReadsArms, last_arm, next_arm, ReadsElse, no_else, else_of, arm, IsExpr}
use Rattle.sql_tree.specs.Print.{expr_print, arm_print, exprs_print, print_layer, print_arm, all_of, clause, literal, numeral, string as string_token, name as name_token, in_parens, operator as operator_kind, type_word, operand, not_if, separated, token, word}
use Rattle.sql_tree.specs.Spelling.{is_bare_name}
use Rattle.sql_phrases.proofs.Terminals.{alike}
use Rattle.sql_expr.proofs.Reading.{same_some}
use Rattle.sql_expr.proofs.Meeting.{lower}
use Rattle.sql_expr.proofs.Laws.{one_tree}

-- ---- the print of each tree

pub print-Number : (n : ℤ) → expr_print (tree.Number n) ≡ literal n
unfolding expr_print
print-Number n = ap expr_print (sym (rolls-Number n)) ∙ fold-roll-SqlExpr (List Lexeme) (List Lexeme) print_layer print_arm (layer.Number n)

pub print-Str : (s : List ℕ) → expr_print (tree.Str s) ≡ string_token s ∷ []
unfolding expr_print
print-Str s = ap expr_print (sym (rolls-Str s)) ∙ fold-roll-SqlExpr (List Lexeme) (List Lexeme) print_layer print_arm (layer.Str s)

pub print-Bool : (b : Bool) → expr_print (tree.Bool b) ≡ token (if b then k.True else k.False) ∷ []
unfolding expr_print
print-Bool b = ap expr_print (sym (rolls-Bool b)) ∙ fold-roll-SqlExpr (List Lexeme) (List Lexeme) print_layer print_arm (layer.Bool b)

pub print-Null : expr_print tree.Null ≡ token k.Null ∷ []
unfolding expr_print
print-Null = ap expr_print (sym rolls-Null) ∙ fold-roll-SqlExpr (List Lexeme) (List Lexeme) print_layer print_arm layer.Null

pub print-Name : (s : List ℕ) → expr_print (tree.Name s) ≡ name_token s ∷ []
unfolding expr_print
print-Name s = ap expr_print (sym (rolls-Name s)) ∙ fold-roll-SqlExpr (List Lexeme) (List Lexeme) print_layer print_arm (layer.Name s)

pub print-Neg : (x : SqlExpr) → expr_print (tree.Neg x) ≡ in_parens (token k.Minus ∷ operand (expr_print x))
unfolding expr_print
print-Neg x = ap expr_print (sym (rolls-Neg x)) ∙ fold-roll-SqlExpr (List Lexeme) (List Lexeme) print_layer print_arm (layer.Neg x)

pub print-Not : (x : SqlExpr) → expr_print (tree.Not x) ≡ in_parens (token k.Not ∷ expr_print x)
unfolding expr_print
print-Not x = ap expr_print (sym (rolls-Not x)) ∙ fold-roll-SqlExpr (List Lexeme) (List Lexeme) print_layer print_arm (layer.Not x)

pub print-Binary : (op : SqlOp) (x y : SqlExpr) → expr_print (tree.Binary op x y) ≡ in_parens (expr_print x ++ token (operator_kind op) ∷ expr_print y)
unfolding expr_print
print-Binary op x y = ap expr_print (sym (rolls-Binary op x y)) ∙ fold-roll-SqlExpr (List Lexeme) (List Lexeme) print_layer print_arm (layer.Binary op x y)

pub print-IsNull : (x : SqlExpr) (negated : Bool) → expr_print (tree.IsNull x negated) ≡ in_parens (expr_print x ++ token k.Is ∷ not_if negated ++ token k.Null ∷ [])
unfolding expr_print
print-IsNull x negated = ap expr_print (sym (rolls-IsNull x negated)) ∙ fold-roll-SqlExpr (List Lexeme) (List Lexeme) print_layer print_arm (layer.IsNull x negated)

pub print-InList : (x : SqlExpr) (ys : List SqlExpr) (negated : Bool) → expr_print (tree.InList x ys negated) ≡ in_parens (expr_print x ++ not_if negated ++ token k.In ∷ in_parens (separated (map expr_print ys)))
unfolding expr_print
print-InList x ys negated = ap expr_print (sym (rolls-InList x ys negated)) ∙ fold-roll-SqlExpr (List Lexeme) (List Lexeme) print_layer print_arm (layer.InList x ys negated)

pub print-Between : (x y z : SqlExpr) (negated : Bool) → expr_print (tree.Between x y z negated) ≡ in_parens (expr_print x ++ not_if negated ++ token k.Between ∷ expr_print y ++ token k.And ∷ expr_print z)
unfolding expr_print
print-Between x y z negated = ap expr_print (sym (rolls-Between x y z negated)) ∙ fold-roll-SqlExpr (List Lexeme) (List Lexeme) print_layer print_arm (layer.Between x y z negated)

pub print-Cast : (x : SqlExpr) (type : SqlType) (trying : Bool) → expr_print (tree.Cast x type trying) ≡ token (if trying then k.TryCast else k.Cast) ∷ in_parens (expr_print x ++ token k.As ∷ type_word type ∷ [])
unfolding expr_print
print-Cast x type trying = ap expr_print (sym (rolls-Cast x type trying)) ∙ fold-roll-SqlExpr (List Lexeme) (List Lexeme) print_layer print_arm (layer.Cast x type trying)

pub print-Coalesce : (xs : List SqlExpr) → expr_print (tree.Coalesce xs) ≡ word (codes "coalesce") ∷ in_parens (separated (map expr_print xs))
unfolding expr_print
print-Coalesce xs = ap expr_print (sym (rolls-Coalesce xs)) ∙ fold-roll-SqlExpr (List Lexeme) (List Lexeme) print_layer print_arm (layer.Coalesce xs)

pub print-CountAll : expr_print tree.CountAll ≡ word (codes "count") ∷ in_parens (token k.Star ∷ [])
unfolding expr_print
print-CountAll = ap expr_print (sym rolls-CountAll) ∙ fold-roll-SqlExpr (List Lexeme) (List Lexeme) print_layer print_arm layer.CountAll

pub print-Count : (x : SqlExpr) → expr_print (tree.Count x) ≡ word (codes "count") ∷ in_parens (expr_print x)
unfolding expr_print
print-Count x = ap expr_print (sym (rolls-Count x)) ∙ fold-roll-SqlExpr (List Lexeme) (List Lexeme) print_layer print_arm (layer.Count x)

pub print-Sum : (x : SqlExpr) → expr_print (tree.Sum x) ≡ word (codes "sum") ∷ in_parens (expr_print x)
unfolding expr_print
print-Sum x = ap expr_print (sym (rolls-Sum x)) ∙ fold-roll-SqlExpr (List Lexeme) (List Lexeme) print_layer print_arm (layer.Sum x)

pub print-Min : (x : SqlExpr) → expr_print (tree.Min x) ≡ word (codes "min") ∷ in_parens (expr_print x)
unfolding expr_print
print-Min x = ap expr_print (sym (rolls-Min x)) ∙ fold-roll-SqlExpr (List Lexeme) (List Lexeme) print_layer print_arm (layer.Min x)

pub print-Max : (x : SqlExpr) → expr_print (tree.Max x) ≡ word (codes "max") ∷ in_parens (expr_print x)
unfolding expr_print
print-Max x = ap expr_print (sym (rolls-Max x)) ∙ fold-roll-SqlExpr (List Lexeme) (List Lexeme) print_layer print_arm (layer.Max x)

pub print-Case : (arms : List SqlArm) (other : Option SqlExpr) →
    expr_print (tree.Case arms other) ≡ token k.Case ∷ all_of (map arm_print arms) ++ clause (token k.Else ∷ []) (option_map expr_print other) ++ token k.EndWord ∷ []
unfolding expr_print arm_print
print-Case arms None = ap expr_print (sym (rolls-Case arms None)) ∙ fold-roll-SqlExpr (List Lexeme) (List Lexeme) print_layer print_arm (layer.Case arms None)
print-Case arms (Some x) = ap expr_print (sym (rolls-Case arms (Some x))) ∙ fold-roll-SqlExpr (List Lexeme) (List Lexeme) print_layer print_arm (layer.Case arms (Some x))

pub arm_print-arm : (x y : SqlExpr) → arm_print (arm x y) ≡ token k.When ∷ expr_print x ++ token k.Then ∷ expr_print y
unfolding expr_print arm_print
arm_print-arm x y = fold-roll-SqlArm (List Lexeme) (List Lexeme) print_layer print_arm (record { when = x; then = y })

-- ---- each printed tree is read as itself

-- as it is printed
shown : {ts : List Lexeme} (x : SqlExpr) → expr_print x ≡ ts → Reads 8 ts x → Reads 8 (expr_print x) x
shown {ts} x e r = subst (λ z. Reads 8 z x) (sym e) r

enclosed : {ts : List Lexeme} {x : SqlExpr} (l : ℕ) → 1 ≤ l → Reads l ts x → Reads 8 (in_parens ts) x
enclosed l h r = parens (token k.LParen) (token k.RParen) refl (lower 1 l h r) refl

literal_reads : (v : ℕ) → v ≤ 2 ^ 63 → Reads 8 (literal (negated v)) (tree.Number (negated v))
literal_reads zero h = number (numeral 0) refl (omega arith)
literal_reads (suc n) h = negative (token k.Minus) (numeral (suc n)) refl refl h

operand_reads : (ts : List Lexeme) (x : SqlExpr) → Reads 8 ts x → Reads 8 (token k.Minus ∷ operand ts) (tree.Neg x)
operand_reads ts x r = by_test (same_kind (kind ts) k.Number) refl
  where
    by_test : (b : Bool) → same_kind (kind ts) k.Number ≡ b → Reads 8 (token k.Minus ∷ (cond b (in_parens ts) ts)) (tree.Neg x)
    by_test true h = minus (token k.Minus) refl (λ same. cc) (enclosed 8 (omega arith) r)
    by_test false h = minus (token k.Minus) refl (λ same. let yes = alike (kind ts) k.Number same in absurd (cc)) r

operator_is : (o : SqlOp) → operator (operator_kind o) ≡ Some o
operator_is op.Or = refl
operator_is _ = refl

operator_low : (o : SqlOp) → (binds (operator_kind o) ≤ 7) × (1 ≤ made (binds (operator_kind o)))
operator_low op.Or = (omega arith, omega arith)
operator_low _ = (omega arith, omega arith)

type_is : (t : SqlType) → type_of (type_word t) ≡ Some t
unfolding same_kind
type_is type.Bool = refl
type_is _ = refl

negation_reads : (negated : Bool) → IsNegation (not_if negated) negated
negation_reads true = present (token k.Not) refl
negation_reads false = absent

separated-more : {w : List Lexeme} {xs : List SqlExpr} (ts : List Lexeme) → ReadsList w xs → separated (ts ∷ map expr_print xs) ≡ ts ++ token k.Comma ∷ separated (map expr_print xs)
separated-more ts (one r) = refl
separated-more ts (more c r h others) = refl

coalesce_is : function_of (word (codes "coalesce")) ≡ Some f.Coalesce
unfolding same_kind
coalesce_is = refl

count_is : function_of (word (codes "count")) ≡ Some f.Count
unfolding same_kind
count_is = refl

sum_is : function_of (word (codes "sum")) ≡ Some f.Sum
unfolding same_kind
sum_is = refl

min_is : function_of (word (codes "min")) ≡ Some f.Min
unfolding same_kind
min_is = refl

max_is : function_of (word (codes "max")) ≡ Some f.Max
unfolding same_kind
max_is = refl

-- a call of one expression as it is printed
call_printed : (g : Function) (x y : SqlExpr) → call_of g x ≡ Some y → Reads 8 (expr_print x) x → Reads 8 (expr_print y) y
call_printed f.Coalesce x y same r = absurd (cc)
call_printed f.Count x y same r =
    subst (λ z. Reads 8 (expr_print z) z) (same_some same)
    (shown _ (print-Count x) (aggregate (word (codes "count")) (token k.LParen) (token k.RParen) count_is refl (lower 1 8 (omega arith) r) refl refl))
call_printed f.Sum x y same r =
    subst (λ z. Reads 8 (expr_print z) z) (same_some same)
    (shown _ (print-Sum x) (aggregate (word (codes "sum")) (token k.LParen) (token k.RParen) sum_is refl (lower 1 8 (omega arith) r) refl refl))
call_printed f.Min x y same r =
    subst (λ z. Reads 8 (expr_print z) z) (same_some same)
    (shown _ (print-Min x) (aggregate (word (codes "min")) (token k.LParen) (token k.RParen) min_is refl (lower 1 8 (omega arith) r) refl refl))
call_printed f.Max x y same r =
    subst (λ z. Reads 8 (expr_print z) z) (same_some same)
    (shown _ (print-Max x) (aggregate (word (codes "max")) (token k.LParen) (token k.RParen) max_is refl (lower 1 8 (omega arith) r) refl refl))

-- a name, bare or in backquotes
name_reads : (s : List ℕ) → Reads 8 (name_token s ∷ []) (tree.Name s)
name_reads s = by_test (is_bare_name s) refl
  where
    by_test : (b : Bool) → is_bare_name s ≡ b → Reads 8 (record { kind = cond b k.Word k.Quoted; text = s; value = 0 } ∷ []) (tree.Name s)
    by_test true h = bare_word _ refl
    by_test false h = quoted _ refl

cast_is : (trying : Bool) → (token (if trying then k.TryCast else k.Cast)).kind ≡ cast_kind trying
cast_is trying = refl

mutual
  printed : {l : ℕ} {w : List Lexeme} {x : SqlExpr} → Reads l w x → Reads 8 (expr_print x) x
  printed (looser r) = printed r
  printed (number t h f) = shown _ (print-Number (pos t.value)) (number (numeral t.value) refl f)
  printed (negative m t hm h f) = shown _ (print-Number (negated t.value)) (literal_reads t.value f)
  printed (string t h) = shown _ (print-Str t.text) (string _ refl)
  printed (truth t h) = shown _ (print-Bool true) (truth (token k.True) refl)
  printed (falsity t h) = shown _ (print-Bool false) (falsity (token k.False) refl)
  printed (null t h) = shown _ print-Null (null (token k.Null) refl)
  printed (bare_word t h) = shown _ (print-Name t.text) (name_reads t.text)
  printed (quoted t h) = shown _ (print-Name t.text) (name_reads t.text)
  printed (parens p q hp r hq) = printed r
  printed (minus m {x = x} hm other r) = shown _ (print-Neg x) (enclosed 8 (omega arith) (operand_reads (expr_print x) x (printed r)))
  printed (plus p h r) = printed r
  printed (not n {x = x} h r) = shown _ (print-Not x) (enclosed 3 (omega arith) (not (token k.Not) refl (lower 3 8 (omega arith) (printed r))))
  printed (binary {op = o} t {x = x} {y = y} r h s) =
      let n = binds (operator_kind o) in
      let low = operator_low o in
      shown _ (print-Binary o x y)
      (enclosed (made n) low.1 (binary (token (operator_kind o)) (lower n 8 (omega (arith, low.0)) (printed r)) (operator_is o) (lower (suc n) 8 (omega (arith, low.0)) (printed s))))
  printed (is_null i n {x = x} {negated = negated} r hi hs hn) =
      shown _ (print-IsNull x negated) (enclosed 4 (omega arith) (is_null (token k.Is) (token k.Null) (lower 5 8 (omega arith) (printed r)) refl (negation_reads negated) refl))
  printed (in_list i p q {x = x} {ys = ys} {negated = negated} r hs hi hp list hq) =
      shown _ (print-InList x ys negated)
      (enclosed 4 (omega arith)
      (subst (λ z. Reads 4 z (tree.InList x ys negated)) (append_assoc (expr_print x ++ not_if negated) (token k.In ∷ token k.LParen ∷ separated (map expr_print ys)) (token k.RParen ∷ []))
      (in_list (token k.In) (token k.LParen) (token k.RParen) (lower 5 8 (omega arith) (printed r)) (negation_reads negated) refl refl (printed_list list) refl)))
  printed (between b a {x = x} {y = y} {z = z} {negated = negated} r hs hb ry ha rz) =
      shown _ (print-Between x y z negated)
      (enclosed 4 (omega arith)
      (between (token k.Between) (token k.And) (lower 5 8 (omega arith) (printed r)) (negation_reads negated) refl (lower 6 8 (omega arith) (printed ry)) refl (lower 6 8 (omega arith) (printed rz))))
  printed (cast c p a t q {x = x} {type = type} {trying = trying} hc hp r ha ht hq) =
      shown _ (print-Cast x type trying)
      (subst (λ z. Reads 8 (token (if trying then k.TryCast else k.Cast) ∷ token k.LParen ∷ z) (tree.Cast x type trying)) (sym (append_assoc (expr_print x) (token k.As ∷ type_word type ∷ []) (token k.RParen ∷ [])))
      (cast (token (if trying then k.TryCast else k.Cast)) (token k.LParen) (token k.As) (type_word type) (token k.RParen) (cast_is trying) refl (lower 1 8 (omega arith) (printed r)) refl (type_is type) refl))
  printed (coalesce c p q {xs = xs} hc hp list hq) =
      shown _ (print-Coalesce xs) (coalesce (word (codes "coalesce")) (token k.LParen) (token k.RParen) coalesce_is refl (printed_list list) refl)
  printed (count_all c p s q hc hp hs hq) =
      shown _ print-CountAll (count_all (word (codes "count")) (token k.LParen) (token k.Star) (token k.RParen) count_is refl refl refl)
  printed (aggregate c p q {x = x} {y = y} {g = g} hc hp r hq same) = call_printed g x y same (printed r)
  printed (case c n {arms = arms} {other = other} hc all rest hn) =
      shown _ (print-Case arms other) (case (token k.Case) (token k.EndWord) refl (printed_arms all) (printed_else rest) refl)

  printed_arms : {w : List Lexeme} {xs : List SqlArm} → ReadsArms w xs → ReadsArms (all_of (map arm_print xs)) xs
  printed_arms (last_arm w t {x = x} {y = y} hw r ht s) =
      subst (λ z. ReadsArms z (arm x y ∷ [])) (sym (append-nil (arm_print (arm x y)) ∙ arm_print-arm x y))
      (last_arm (token k.When) (token k.Then) refl (lower 1 8 (omega arith) (printed r)) refl (lower 1 8 (omega arith) (printed s)))
  printed_arms (next_arm w t {x = x} {y = y} {arms = xs} hw r ht s others) =
      subst (λ z. ReadsArms (z ++ all_of (map arm_print xs)) (arm x y ∷ xs)) (sym (arm_print-arm x y))
      (next_arm (token k.When) (token k.Then) refl (lower 1 8 (omega arith) (printed r)) refl (lower 1 8 (omega arith) (printed s)) (printed_arms others))

  printed_else : {s : List Lexeme} {other : Option SqlExpr} → ReadsElse s other → ReadsElse (clause (token k.Else ∷ []) (option_map expr_print other)) other
  printed_else no_else = no_else
  printed_else (else_of l hl r) = else_of (token k.Else) refl (lower 1 8 (omega arith) (printed r))

  printed_list : {w : List Lexeme} {xs : List SqlExpr} → ReadsList w xs → ReadsList (separated (map expr_print xs)) xs
  printed_list (one r) = one (lower 1 8 (omega arith) (printed r))
  printed_list (more c {x = x} {xs = xs} r hc others) =
      subst (λ z. ReadsList z (x ∷ xs)) (sym (separated-more (expr_print x) others)) (more (token k.Comma) (lower 1 8 (omega arith) (printed r)) refl (printed_list others))

pub print_reads : (w : List Lexeme) (x : SqlExpr) → IsExpr w x → IsExpr (expr_print x) x
print_reads w x r = lower 1 8 (omega arith) (printed r)

pub print_apart : (v w : List Lexeme) (x y : SqlExpr) → IsExpr v x → IsExpr w y → expr_print x ≡ expr_print y → x ≡ y
print_apart v w x y r s same = one_tree (expr_print x) x y (print_reads v x r) (subst (λ z. IsExpr z y) (sym same) (print_reads w y s))
