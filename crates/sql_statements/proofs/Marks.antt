-- Where a mark stands among tokens, and that no expression has one.
use Rattle.std.proofs.Common.{◌≡◌, ◌≢◌, ℕ, ◌+◌, ◌<◌, Bool, true, false, cond, List, [], ◌∷◌, ◌++◌, length, take, Option, Some, None, refl, sym, ap, ap₂, ◌∙◌, arith, length-append, ◌⊎◌, inl, inr, ⊎_elim}
use Rattle.std.proofs.Math.Seq.{take-append_seam}
use Rattle.sql_tree.specs.declared.expr.SqlExpr.{SqlExpr}
use Rattle.sql_tree.specs.declared.expr.SqlArm.{SqlArm}
use Rattle.sql_tree.specs.declared.expr.SqlType.{SqlType}
use Rattle.sql_tree.specs.declared.lexeme.LexemeKind.{LexemeKind}
use Rattle.sql_tree.specs.declared.lexeme.LexemeKind.TheVariants as k
use Rattle.sql_tree.specs.declared.lexeme.Lexeme.{Lexeme}
use Rattle.sql_tree.specs.Lexemes.{same_kind, type_named, type_of}
use Rattle.sql_phrases.specs.Tokens.{if_so, the}
use Rattle.sql_phrases.proofs.Phrases.{front}
use Rattle.sql_phrases.proofs.Terminals.{kinds_alike}
use Rattle.sql_expr.specs.declared.operators.Function.{Function}
use Rattle.sql_expr.specs.declared.operators.Function.TheVariants as f
use Rattle.sql_expr.specs.Operators.{operator, function_of, cast_kind}
use Rattle.sql_expr.specs.Grammar.{IsNegation, absent, present, Reads, looser, number, negative, string, truth, falsity, null, word, quoted, parens, minus, plus, not, binary, is_null, in_list, between, cast, coalesce, count_all, aggregate, case, ReadsList, one, more as next_one, ReadsArms, last_arm, next_arm, ReadsElse, no_else, else_of}
use Rattle.sql_statements.specs.Limits.{mark, AreTokens}

-- ---- tokens, of which none is the end

pub tokens_append : (u v : List Lexeme) → AreTokens u → AreTokens v → AreTokens (u ++ v)
tokens_append [] v g h = h
tokens_append (t ∷ u) v g h = (g.0, tokens_append u v g.1 h)

pub tokens_before : (u v : List Lexeme) → AreTokens (u ++ v) → AreTokens u
tokens_before [] v h = tt
tokens_before (t ∷ u) v h = (h.0, tokens_before u v h.1)

pub tokens_behind : (u v : List Lexeme) → AreTokens (u ++ v) → AreTokens v
tokens_behind [] v h = h
tokens_behind (t ∷ u) v h = tokens_behind u v h.1

pub no_mark : (u more : List Lexeme) → AreTokens (u ++ mark ∷ more) → ⊥
no_mark u more h = (tokens_behind u (mark ∷ more) h).0 refl

abbrev pub is_end : LexemeKind → Bool
is_end k.End = true
is_end _ = false

-- the mark is no symbol and no reserved word
pub the_mark : (wanted : LexemeKind) → is_end wanted ≡ false → the wanted mark ≡ None
the_mark wanted other = by_test (same_kind k.End wanted) refl
  where
    by_test : (b : Bool) → same_kind k.End wanted ≡ b → if_so {A = Unit {0}} b tt ≡ None
    by_test true h = let end = ap is_end (kinds_alike k.End wanted h) in absurd (cc)
    by_test false h = refl

-- ---- the place of a mark

pub only_mark : (u more : List Lexeme) (t : Lexeme) → u ++ mark ∷ more ≡ t ∷ [] → (u ≡ []) × (t ≡ mark) × (more ≡ [])
only_mark [] more t e = (refl, cc, cc)
only_mark (s ∷ u) more t e = absurd (omega (arith, ap length e, length-append u (mark ∷ more)))

pub not_empty : (u more : List Lexeme) → u ++ mark ∷ more ≡ [] → ⊥
not_empty u more e = omega (arith, ap length e, length-append u (mark ∷ more))

-- it is among the first tokens or among the last
pub place : (u more p q : List Lexeme) (m : Lexeme) → u ++ m ∷ more ≡ p ++ q →
    ((r : List Lexeme) × (p ≡ u ++ m ∷ r) × (more ≡ r ++ q)) ⊎ ((r : List Lexeme) × (u ≡ p ++ r) × (q ≡ r ++ m ∷ more))
place u more [] q m e = inr (u, refl, sym e)
place [] more (t ∷ p) q m e = let same : t ≡ m = cc in inl (p, ap (λ z. z ∷ p) same, cc)
place (s ∷ u) more (t ∷ p) q m e =
    let same : s ≡ t = cc in
    ⊎_elim (λ g. inl (g.0, ap₂ (λ a b. a ∷ b) (sym same) g.1, g.2)) (λ g. inr (g.0, ap₂ (λ a b. a ∷ b) same g.1, g.2)) (place u more p q m (cc))

-- where the tokens behind are the same, so are those before
pub same_before : (p w c : List Lexeme) → p ++ c ≡ w ++ c → w ≡ p
same_before p w c e =
    let size : length w ≡ length p = omega (arith, ap length e, length-append p c, length-append w c) in
    sym (take-append_seam w c) ∙ ap₂ take size (sym e) ∙ take-append_seam p c

pub front_more : (o c : List Lexeme) → 0 < length o → front (o ++ c) ≡ front o
front_more [] c h = absurd (omega arith)
front_more (t ∷ o) c h = refl

-- ---- the tokens of an expression

negation_tokens : {s : List Lexeme} {negated : Bool} → IsNegation s negated → AreTokens s
negation_tokens absent = tt
negation_tokens (present n h) = ((λ same. cc), tt)

function_token : (t : Lexeme) (g : Function) → function_of t ≡ Some g → t.kind ≡ k.Word
function_token t g h = by_test (same_kind t.kind k.Word) refl h
  where
    by_test : (b : Bool) → same_kind t.kind k.Word ≡ b → function_of t ≡ Some g → t.kind ≡ k.Word
    by_test true same h = kinds_alike t.kind k.Word same
    by_test false same h =
        let none : function_of t ≡ None = rw same in
        absurd (cc)

type_token : (t : Lexeme) (type : SqlType) → type_of t ≡ Some type → t.kind ≡ k.Word
type_token t type h = by_test (same_kind t.kind k.Word) refl h
  where
    by_test : (b : Bool) → same_kind t.kind k.Word ≡ b → cond b (type_named t.text) None ≡ Some type → t.kind ≡ k.Word
    by_test true same h = kinds_alike t.kind k.Word same
    by_test false same h = absurd (cc)

cast_token : (c : Lexeme) (trying : Bool) → c.kind ≡ cast_kind trying → c.kind ≢ k.End
cast_token c true h same = cc
cast_token c false h same = cc

mutual
  pub expr_tokens : {l : ℕ} {w : List Lexeme} {x : SqlExpr} → Reads l w x → AreTokens w
  expr_tokens (looser r) = expr_tokens r
  expr_tokens (number t h f) = ((λ same. cc), tt)
  expr_tokens (negative m t h g f) = ((λ same. cc), ((λ same. cc), tt))
  expr_tokens (string t h) = ((λ same. cc), tt)
  expr_tokens (truth t h) = ((λ same. cc), tt)
  expr_tokens (falsity t h) = ((λ same. cc), tt)
  expr_tokens (null t h) = ((λ same. cc), tt)
  expr_tokens (word t h) = ((λ same. cc), tt)
  expr_tokens (quoted t h) = ((λ same. cc), tt)
  expr_tokens (parens p q {w = w} hp r hq) = ((λ same. cc), tokens_append w (q ∷ []) (expr_tokens r) ((λ same. cc), tt))
  expr_tokens (minus m h other r) = ((λ same. cc), expr_tokens r)
  expr_tokens (plus p h r) = ((λ same. cc), expr_tokens r)
  expr_tokens (not n h r) = ((λ same. cc), expr_tokens r)
  expr_tokens (binary t {v = v} {w = w} r ho s) = tokens_append v (t ∷ w) (expr_tokens r) ((λ same. let none = ap operator same in cc), expr_tokens s)
  expr_tokens (is_null i n {v = v} {s = s} r hi hs hn) =
      tokens_append (v ++ i ∷ s) (n ∷ []) (tokens_append v (i ∷ s) (expr_tokens r) ((λ same. cc), negation_tokens hs)) ((λ same. cc), tt)
  expr_tokens (in_list i p q {v = v} {s = s} {w = w} r hs hi hp ys hq) =
      tokens_append (v ++ s ++ i ∷ p ∷ w) (q ∷ [])
      (tokens_append (v ++ s) (i ∷ p ∷ w) (tokens_append v s (expr_tokens r) (negation_tokens hs)) ((λ same. cc), ((λ same. cc), list_tokens ys))) ((λ same. cc), tt)
  expr_tokens (between b a {v = v} {s = s} {w = w} {u = u} r hs hb y ha z) =
      tokens_append (v ++ s ++ b ∷ w) (a ∷ u)
      (tokens_append (v ++ s) (b ∷ w) (tokens_append v s (expr_tokens r) (negation_tokens hs)) ((λ same. cc), expr_tokens y)) ((λ same. cc), expr_tokens z)
  expr_tokens (cast c p a t q {w = w} {type = type} {trying = trying} hc hp r ha ht hq) =
      (cast_token c trying hc, ((λ same. cc), tokens_append w (a ∷ t ∷ q ∷ []) (expr_tokens r) ((λ same. cc), ((λ same. let word = type_token t type ht in cc), ((λ same. cc), tt)))))
  expr_tokens (coalesce c p q {w = w} hc hp xs hq) =
      ((λ same. let word = function_token c f.Coalesce hc in cc), ((λ same. cc), tokens_append w (q ∷ []) (list_tokens xs) ((λ same. cc), tt)))
  expr_tokens (count_all c p s q hc hp hs hq) = ((λ same. let word = function_token c f.Count hc in cc), ((λ same. cc), ((λ same. cc), ((λ same. cc), tt))))
  expr_tokens (aggregate c p q {w = w} {g = g} hc hp r hq same_call) =
      ((λ same. let word = function_token c g hc in cc), ((λ same. cc), tokens_append w (q ∷ []) (expr_tokens r) ((λ same. cc), tt)))
  expr_tokens (case c n {w = w} {s = s} hc arms other hn) =
      ((λ same. cc), tokens_append (w ++ s) (n ∷ []) (tokens_append w s (arms_tokens arms) (else_tokens other)) ((λ same. cc), tt))

  list_tokens : {w : List Lexeme} {xs : List SqlExpr} → ReadsList w xs → AreTokens w
  list_tokens (one r) = expr_tokens r
  list_tokens (next_one c {v = v} {w = w} r hc rs) = tokens_append v (c ∷ w) (expr_tokens r) ((λ same. cc), list_tokens rs)

  arms_tokens : {w : List Lexeme} {arms : List SqlArm} → ReadsArms w arms → AreTokens w
  arms_tokens (last_arm w t {u = u} {v = v} hw r ht s) = ((λ same. cc), tokens_append u (t ∷ v) (expr_tokens r) ((λ same. cc), expr_tokens s))
  arms_tokens (next_arm w t {u = u} {v = v} {r = rest} hw r ht s arms) =
      ((λ same. cc), tokens_append (u ++ t ∷ v) rest (tokens_append u (t ∷ v) (expr_tokens r) ((λ same. cc), expr_tokens s)) (arms_tokens arms))

  else_tokens : {w : List Lexeme} {other : Option SqlExpr} → ReadsElse w other → AreTokens w
  else_tokens no_else = tt
  else_tokens (else_of l hl r) = ((λ same. cc), expr_tokens r)
