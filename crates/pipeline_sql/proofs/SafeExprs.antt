-- The print of an expression of a text can stand in a text.
use Rattle.std.proofs.Common.{◌≡◌, ℕ, zero, suc, ◌-◌, ◌≤◌, ◌^◌, Bool, true, false, cond, if◌then◌else◌, List, [], ◌∷◌, ◌++◌, map, Option, Some, refl, sym, subst, arith, pos}
use Rattle.std.specs.Prelude.{codes, option_map}
use Rattle.sql_tree.specs.declared.expr.SqlArm.{SqlArm}
use Rattle.sql_tree.specs.declared.expr.SqlOp.{SqlOp}
use Rattle.sql_tree.specs.declared.expr.SqlOp.TheVariants as op
use Rattle.sql_tree.specs.declared.expr.SqlType.{SqlType}
use Rattle.sql_tree.specs.declared.expr.SqlType.TheVariants as type
use Rattle.sql_tree.specs.declared.expr.SqlExpr.{SqlExpr}
use Rattle.sql_tree.specs.declared.lexeme.LexemeKind.TheVariants as k
use Rattle.sql_tree.specs.declared.lexeme.Lexeme.{Lexeme}
use Rattle.sql_tree.specs.Lexemes.{kind, same_kind}
use Rattle.sql_tree.specs.Spelling.{ends_operand}
use Rattle.sql_tree.specs.Print.{expr_print, arm_print, literal, token, in_parens, operand, not_if, all_of, clause, type_word, operator}
use Rattle.sql_expr.specs.declared.operators.Function.{Function}
use Rattle.sql_expr.specs.declared.operators.Function.TheVariants as f
use Rattle.sql_expr.specs.Operators.{negated, call_of}
use Rattle.sql_expr.specs.Grammar.{Reads, looser, number, negative, string, truth, falsity, null, word as bare_word, quoted, parens, minus, plus, not, binary, is_null, in_list, between, cast, coalesce, count_all, aggregate, case, ReadsList, one, more, ReadsArms, last_arm, next_arm, ReadsElse, no_else, else_of, arm}
use Rattle.sql_expr.proofs.Reading.{same_some}
use Rattle.sql_expr.proofs.Printing.{print-Number, print-Str, print-Bool, print-Null, print-Name, print-Neg, print-Not, print-Binary, print-IsNull, print-InList, print-Between, print-Cast, print-Coalesce, print-CountAll, print-Count, print-Sum, print-Min, print-Max, print-Case, arm_print-arm}
use Rattle.pipeline_sql.proofs.Safe.{Safe, Open, is_printed, safe_is_open, safe_nil, safe_append, open_append, token_safe, token_open, safe_parens, word_safe, small_safe, negative_open, string_safe, name_safe, AllOpen, separated_open, Spells, spells_before, spells_behind, spells_head, spells_tail, word_named, quoted_named, string_meant}

-- ---- parts

shown : {ts : List Lexeme} (x : SqlExpr) → expr_print x ≡ ts → Open ts → Open (expr_print x)
shown x e h = subst Open (sym e) h

shown_safe : {ts : List Lexeme} (x : SqlExpr) → expr_print x ≡ ts → Safe ts → Open (expr_print x)
shown_safe x e h = subst Open (sym e) (safe_is_open h)

literal_open : (n : ℕ) → n ≤ 2 ^ 63 → Open (literal (negated n))
literal_open zero le = safe_is_open (small_safe 0 (omega arith) safe_nil)
literal_open (suc n) le = negative_open (suc n) le

operand_open : (ts : List Lexeme) → Open ts → Open (operand ts)
operand_open ts h = by_test (same_kind (kind ts) k.Number)
  where
    by_test : (b : Bool) → Open (cond b (in_parens ts) ts)
    by_test true = safe_is_open (safe_parens h)
    by_test false = h

operator_printed : (o : SqlOp) → (is_printed (operator o) ≡ true) × (ends_operand (operator o) ≡ false)
operator_printed op.Or = (refl, refl)
operator_printed _ = (refl, refl)

not_if_safe : (negated : Bool) → Safe (not_if negated)
not_if_safe true = token_safe k.Not refl safe_nil
not_if_safe false = safe_nil

pub type_safe : {ts : List Lexeme} (t : SqlType) → Safe ts → Safe (type_word t ∷ ts)
type_safe type.Bool safe = word_safe (codes "BOOLEAN") refl safe
type_safe type.Int safe = word_safe (codes "INT") refl safe
type_safe type.Big safe = word_safe (codes "BIGINT") refl safe
type_safe type.Str safe = word_safe (codes "STRING") refl safe

cast_safe : {ts : List Lexeme} (trying : Bool) → Safe ts → Safe (token (if trying then k.TryCast else k.Cast) ∷ ts)
cast_safe true safe = token_safe k.TryCast refl safe
cast_safe false safe = token_safe k.Cast refl safe

-- a call of one expression
call_open : (g : Function) (x y : SqlExpr) → call_of g x ≡ Some y → Open (expr_print x) → Open (expr_print y)
call_open f.Coalesce x y same h = absurd (cc)
call_open f.Count x y same h = subst (λ z. Open (expr_print z)) (same_some same) (shown_safe _ (print-Count x) (word_safe (codes "count") refl (safe_parens h)))
call_open f.Sum x y same h = subst (λ z. Open (expr_print z)) (same_some same) (shown_safe _ (print-Sum x) (word_safe (codes "sum") refl (safe_parens h)))
call_open f.Min x y same h = subst (λ z. Open (expr_print z)) (same_some same) (shown_safe _ (print-Min x) (word_safe (codes "min") refl (safe_parens h)))
call_open f.Max x y same h = subst (λ z. Open (expr_print z)) (same_some same) (shown_safe _ (print-Max x) (word_safe (codes "max") refl (safe_parens h)))

arm_safe : (x y : SqlExpr) → Open (expr_print x) → Open (expr_print y) → Safe (arm_print (arm x y))
arm_safe x y g h = subst Safe (sym (arm_print-arm x y)) (safe_append (token_open k.When refl refl g) (token_open k.Then refl refl h))

-- ---- each expression of a text

mutual
  pub expr_open : {l : ℕ} {w : List Lexeme} {x : SqlExpr} → Reads l w x → Spells w → Open (expr_print x)
  expr_open (looser r) s = expr_open r s
  expr_open (number t h f) s = shown_safe _ (print-Number (pos t.value)) (small_safe t.value (omega arith) safe_nil)
  expr_open (negative m t hm h f) s = shown _ (print-Number (negated t.value)) (literal_open t.value f)
  expr_open (string t h) s = shown_safe _ (print-Str t.text) (string_safe t.text (string_meant t h (spells_head t [] s)) safe_nil)
  expr_open (truth t h) s = shown_safe _ (print-Bool true) (token_safe k.True refl safe_nil)
  expr_open (falsity t h) s = shown_safe _ (print-Bool false) (token_safe k.False refl safe_nil)
  expr_open (null t h) s = shown_safe _ print-Null (token_safe k.Null refl safe_nil)
  expr_open (bare_word t h) s = shown_safe _ (print-Name t.text) (name_safe t.text (word_named t h (spells_head t [] s)) safe_nil)
  expr_open (quoted t h) s = shown_safe _ (print-Name t.text) (name_safe t.text (quoted_named t h (spells_head t [] s)) safe_nil)
  expr_open (parens p q {w = w} hp r hq) s = expr_open r (spells_before w (q ∷ []) (spells_tail p (w ++ q ∷ []) s))
  expr_open (minus m {w = w} {x = x} hm other r) s =
      shown_safe _ (print-Neg x) (safe_parens (safe_is_open (token_open k.Minus refl refl (operand_open (expr_print x) (expr_open r (spells_tail m w s))))))
  expr_open (plus p {w = w} h r) s = expr_open r (spells_tail p w s)
  expr_open (not n {w = w} {x = x} h r) s = shown_safe _ (print-Not x) (safe_parens (safe_is_open (token_open k.Not refl refl (expr_open r (spells_tail n w s)))))
  expr_open (binary {op = o} t {v = v} {w = w} {x = x} {y = y} r h rest) s =
      let printed = operator_printed o in
      shown_safe _ (print-Binary o x y)
      (safe_parens (open_append (expr_open r (spells_before v (t ∷ w) s)) (token_open (operator o) printed.0 printed.1 (expr_open rest (spells_tail t w (spells_behind v (t ∷ w) s))))))
  expr_open (is_null i n {v = v} {s = g} {x = x} {negated = negated} r hi hs hn) s =
      shown_safe _ (print-IsNull x negated)
      (safe_parens
      (open_append (open_append (expr_open r (spells_before v (i ∷ g) (spells_before (v ++ i ∷ g) (n ∷ []) s))) (token_safe k.Is refl (not_if_safe negated)))
      (token_safe k.Null refl safe_nil)))
  expr_open (in_list i p q {v = v} {s = g} {w = w} {x = x} {ys = ys} {negated = negated} r hs hi hp list hq) s =
      let front = spells_before (v ++ g ++ i ∷ p ∷ w) (q ∷ []) s in
      shown_safe _ (print-InList x ys negated)
      (safe_parens
      (open_append (open_append (expr_open r (spells_before v g (spells_before (v ++ g) (i ∷ p ∷ w) front))) (not_if_safe negated))
      (token_safe k.In refl (safe_parens (separated_open expr_print ys (list_open list (spells_tail p w (spells_tail i (p ∷ w) (spells_behind (v ++ g) (i ∷ p ∷ w) front)))))))))
  expr_open (between b a {v = v} {s = g} {w = w} {u = u} {x = x} {y = y} {z = z} {negated = negated} r hs hb ry ha rz) s =
      let front = spells_before (v ++ g ++ b ∷ w) (a ∷ u) s in
      shown_safe _ (print-Between x y z negated)
      (safe_parens
      (open_append
      (open_append (open_append (expr_open r (spells_before v g (spells_before (v ++ g) (b ∷ w) front))) (not_if_safe negated))
      (token_open k.Between refl refl (expr_open ry (spells_tail b w (spells_behind (v ++ g) (b ∷ w) front)))))
      (token_open k.And refl refl (expr_open rz (spells_tail a u (spells_behind (v ++ g ++ b ∷ w) (a ∷ u) s))))))
  expr_open (cast c p a t q {w = w} {x = x} {type = type} {trying = trying} hc hp r ha ht hq) s =
      shown_safe _ (print-Cast x type trying)
      (cast_safe trying
      (safe_parens
      (open_append (expr_open r (spells_before w (a ∷ t ∷ q ∷ []) (spells_tail p (w ++ a ∷ t ∷ q ∷ []) (spells_tail c (p ∷ w ++ a ∷ t ∷ q ∷ []) s))))
      (token_safe k.As refl (type_safe type safe_nil)))))
  expr_open (coalesce c p q {w = w} {xs = xs} hc hp list hq) s =
      shown_safe _ (print-Coalesce xs)
      (word_safe (codes "coalesce") refl
      (safe_parens (separated_open expr_print xs (list_open list (spells_before w (q ∷ []) (spells_tail p (w ++ q ∷ []) (spells_tail c (p ∷ w ++ q ∷ []) s)))))))
  expr_open (count_all c p star q hc hp hs hq) s = shown_safe _ print-CountAll (word_safe (codes "count") refl (safe_parens (safe_is_open (token_safe k.Star refl safe_nil))))
  expr_open (aggregate c p q {w = w} {x = x} {y = y} {g = g} hc hp r hq same) s =
      call_open g x y same (expr_open r (spells_before w (q ∷ []) (spells_tail p (w ++ q ∷ []) (spells_tail c (p ∷ w ++ q ∷ []) s))))
  expr_open (case c n {w = w} {s = g} {arms = arms} {other = other} hc all rest hn) s =
      let inside = spells_before (w ++ g) (n ∷ []) (spells_tail c (w ++ g ++ n ∷ []) s) in
      shown_safe _ (print-Case arms other)
      (safe_append (safe_append (token_safe k.Case refl (arms_safe all (spells_before w g inside))) (else_safe rest (spells_behind w g inside)))
      (token_safe k.EndWord refl safe_nil))

  list_open : {w : List Lexeme} {xs : List SqlExpr} → ReadsList w xs → Spells w → AllOpen expr_print xs
  list_open (one r) s = (expr_open r s, tt)
  list_open (more c {v = v} {w = w} r hc others) s = (expr_open r (spells_before v (c ∷ w) s), list_open others (spells_tail c w (spells_behind v (c ∷ w) s)))

  arms_safe : {w : List Lexeme} {arms : List SqlArm} → ReadsArms w arms → Spells w → Safe (all_of (map arm_print arms))
  arms_safe (last_arm w t {u = u} {v = v} {x = x} {y = y} hw r ht rest) s =
      let inside = spells_tail w (u ++ t ∷ v) s in
      safe_append (arm_safe x y (expr_open r (spells_before u (t ∷ v) inside)) (expr_open rest (spells_tail t v (spells_behind u (t ∷ v) inside)))) safe_nil
  arms_safe (next_arm w t {u = u} {v = v} {r = behind} {x = x} {y = y} hw r ht rest others) s =
      let inside = spells_tail w ((u ++ t ∷ v) ++ behind) s in
      let here = spells_before (u ++ t ∷ v) behind inside in
      safe_append (arm_safe x y (expr_open r (spells_before u (t ∷ v) here)) (expr_open rest (spells_tail t v (spells_behind u (t ∷ v) here))))
      (arms_safe others (spells_behind (u ++ t ∷ v) behind inside))

  else_safe : {g : List Lexeme} {other : Option SqlExpr} → ReadsElse g other → Spells g → Safe (clause (token k.Else ∷ []) (option_map expr_print other))
  else_safe no_else s = safe_nil
  else_safe (else_of l {u = u} hl r) s = token_open k.Else refl refl (expr_open r (spells_tail l u s))
