-- Whole pipelines: their reader is good.
use Rattle.std.proofs.Common.{◌≡◌, ℕ, zero, suc, ◌+◌, ◌-◌, ◌≤◌, le_refl, Bool, true, false, cond, List, [], ◌∷◌, ◌++◌, length, Ok, Err, refl, sym, ap, ◌∙◌, subst, append_assoc, append-nil, arith, length-append, ◌⊎◌, inl, inr, ⊎_elim}
use Rattle.sql_tree.specs.declared.expr.SqlExpr.{SqlExpr}
use Rattle.sql_tree.specs.declared.statement.Statement.{Statement}
use Rattle.sql_tree.specs.declared.lexeme.LexemeKind.TheVariants as k
use Rattle.sql_tree.specs.declared.lexeme.Lexeme.{Lexeme}
use Rattle.sql_tree.specs.Lexemes.{kind, same_kind}
use Rattle.sql_phrases.specs.Parsers.{next, sees}
use Rattle.sql_phrases.proofs.Phrases.{front, front_append, same_kinds}
use Rattle.sql_phrases.proofs.Terminals.{kinds_alike, alike}
use Rattle.sql_expr.specs.Grammar.{IsExpr}
use Rattle.sql_expr.proofs.Reading.{unlike, nonempty}
use Rattle.sql_statements.specs.declared.error.ParseError.{ParseError}
use Rattle.sql_statements.specs.declared.error.ParseError.TheVariants.{Unexpected}
use Rattle.sql_statements.specs.Languages.{Language, ◌>>=◌ as ◌⨾◌}
use Rattle.sql_statements.specs.Parsers.{Outcome, Parser, and_then, ◌>>=◌}
use Rattle.sql_statements.specs.Grammar as grammar
use Rattle.sql_statements.specs.Descent.{statement_of, statements_from, first_statements, pipeline}
use Rattle.sql_statements.specs.Limits.{IsShort, IsMarked, mark, AreTokens, unlimited, limited}
use Rattle.sql_statements.proofs.Marks.{tokens_before, tokens_behind, only_mark, not_empty, place}
use Rattle.sql_statements.proofs.Good.{Wider, Echoes, Meets, why_inside, meets_bind, meets_alike, meets_weaker, Agrees, agrees_bind, Completes, short_in, ahead, Plain, Filled, Fills, Reaches, reaches_bind, Good, good_bind}
use Rattle.sql_statements.proofs.Lists.{meets_turns, first_token}
use Rattle.sql_statements.proofs.Statements.{StatementEnds, good_statement, statement_starts}

-- what goes on with these statements
abbrev More : List Statement → Language SqlExpr → Language (List Statement)
More found X w all = (xs : List Statement) × grammar.more_statements X w xs × (found ++ xs ≡ all)

last : (X : Language SqlExpr) (found : List Statement) → More found X [] found
last X found = ([], inl refl, append-nil found)

-- ---- the turns

stops : (E : Parser SqlExpr) (n : ℕ) (found : List Statement) (i : List Lexeme) → sees k.Semicolon i ≡ false → statements_from E n found i ≡ Ok (found, i)
unfolding statements_from
stops E zero found i h = refl
stops E (suc n) found i h =
    ap (λ b. cond b (cond (sees k.End (next i)) (Ok (found, next i)) ((statement_of E >>= (λ s. statements_from E n (found ++ s ∷ []))) (next i))) (Ok (found, i))) h

closes : (E : Parser SqlExpr) (n : ℕ) (found : List Statement) (i : List Lexeme) → sees k.Semicolon i ≡ true → sees k.End (next i) ≡ true → statements_from E (suc n) found i ≡ Ok (found, next i)
unfolding statements_from
closes E n found i h e =
    ap (λ b. cond b (cond (sees k.End (next i)) (Ok (found, next i)) ((statement_of E >>= (λ s. statements_from E n (found ++ s ∷ []))) (next i))) (Ok (found, i))) h
    ∙ ap (λ b. cond b (Ok (found, next i)) ((statement_of E >>= (λ s. statements_from E n (found ++ s ∷ []))) (next i))) e

goes : (E : Parser SqlExpr) (n : ℕ) (found : List Statement) (i : List Lexeme) → sees k.Semicolon i ≡ true → sees k.End (next i) ≡ false →
    statements_from E (suc n) found i ≡ (statement_of E >>= (λ s. statements_from E n (found ++ s ∷ []))) (next i)
unfolding statements_from
goes E n found i h e =
    ap (λ b. cond b (cond (sees k.End (next i)) (Ok (found, next i)) ((statement_of E >>= (λ s. statements_from E n (found ++ s ∷ []))) (next i))) (Ok (found, i))) h
    ∙ ap (λ b. cond b (Ok (found, next i)) ((statement_of E >>= (λ s. statements_from E n (found ++ s ∷ []))) (next i))) e

meets_stop : (n : ℕ) (found : List Statement) (i : List Lexeme) → sees k.Semicolon i ≡ false → Meets (λ m. statements_from limited m found) (More found) i (statements_from limited n found i)
meets_stop n found i h =
    subst (λ r. Meets (λ m. statements_from limited m found) (More found) i r) (sym (stops limited n found i h))
    (record { word = []; split = refl; holds = last IsShort found; echoes = λ m c f fits. stops limited m found c (ap (λ a. same_kind a k.Semicolon) (same_kinds c i f) ∙ h) })

meets_close : (n : ℕ) (found : List Statement) (c : Lexeme) (ts : List Lexeme) → c.kind ≡ k.Semicolon → sees k.End ts ≡ true →
    Meets (λ m. statements_from limited m found) (More found) (c ∷ ts) (statements_from limited (suc n) found (c ∷ ts))
meets_close n found c ts hc e =
    subst (λ r. Meets (λ m. statements_from limited m found) (More found) (c ∷ ts) r) (sym (closes limited n found (c ∷ ts) (alike c.kind k.Semicolon hc) e))
    (record { word = c ∷ []; split = refl; holds = ([], inr (c, refl, hc), append-nil found); echoes = by_turns })
  where
    by_turns : Echoes (λ m. statements_from limited m found) (c ∷ []) (λ o. Ok (found, o)) ts
    by_turns zero o f fits = absurd (omega arith)
    by_turns (suc m) o f fits = closes limited m found (c ∷ o) (alike c.kind k.Semicolon hc) (ap (λ a. same_kind a k.End) (same_kinds o ts f) ∙ e)

turned : (found : List Statement) (c : Lexeme) → c.kind ≡ k.Semicolon → (X : Language SqlExpr) (w : List Lexeme) (all : List Statement) →
    (grammar.statement_of X ⨾ (λ s. More (found ++ s ∷ []) X)) w all → More found X (c ∷ w) all
turned found c hc X w all g = (g.2 ∷ g.5.0, (c, g.0, g.1, ap (λ z. c ∷ z) g.3, hc, g.4, g.5.1), sym (append_assoc found (g.2 ∷ []) g.5.0) ∙ g.5.2)

meets_turn : (found : List Statement) (c : Lexeme) (ts : List Lexeme) (r : Outcome (List Statement)) → c.kind ≡ k.Semicolon → sees k.End ts ≡ false →
    Meets (λ m. statement_of limited >>= (λ s. statements_from limited m (found ++ s ∷ []))) (λ X. grammar.statement_of X ⨾ (λ s. More (found ++ s ∷ []) X)) ts r →
    Meets (λ m. statements_from limited m found) (More found) (c ∷ ts) r
meets_turn found c ts (Ok q) hc e h = record {
  word = c ∷ h.word;
  split = ap (λ z. c ∷ z) h.split;
  holds = turned found c hc IsShort h.word q.0 h.holds;
  echoes = by_turns;
}
  where
    by_turns : Echoes (λ m. statements_from limited m found) (c ∷ h.word) (λ o. Ok (q.0, o)) q.1
    by_turns zero o f fits = absurd (omega arith)
    by_turns (suc m) o f fits =
        goes limited m found (c ∷ (h.word ++ o)) (alike c.kind k.Semicolon hc) (ap (λ a. same_kind a k.End) (same_kinds (h.word ++ o) ts (front_append h.word o q.1 f ∙ sym (ap front h.split))) ∙ e) ∙ h.echoes m o f (omega (arith, fits))
meets_turn found c ts (Err q) hc e h = record {
  word = c ∷ h.word;
  split = ap (λ z. c ∷ z) h.split;
  why = why_inside q.0 (λ X. grammar.statement_of X ⨾ (λ s. More (found ++ s ∷ []) X)) (More found) (c ∷ []) h.word q.1
      (λ Y wide w all held. ([], all, subst (λ z. More found Y (c ∷ z) all) (sym (append-nil w)) (turned found c hc Y w all held))) h.why;
  echoes = by_turns;
}
  where
    by_turns : q.0 ≡ Unexpected → Echoes (λ m. statements_from limited m found) (c ∷ h.word) (λ o. Err (Unexpected, o)) q.1
    by_turns is zero o f fits = absurd (omega arith)
    by_turns is (suc m) o f fits =
        goes limited m found (c ∷ (h.word ++ o)) (alike c.kind k.Semicolon hc) (ap (λ a. same_kind a k.End) (same_kinds (h.word ++ o) ts (front_append h.word o q.1 f ∙ sym (ap front h.split))) ∙ e) ∙ h.echoes is m o f (omega (arith, fits))

more_wider : (X Y : Language SqlExpr) → Wider X Y → (w : List Lexeme) (xs : List Statement) → grammar.more_statements X w xs → grammar.more_statements Y w xs
more_wider X Y wide w [] h = h
more_wider X Y wide w (x ∷ xs) h = (h.0, h.1, h.2, h.3, h.4, good_statement.wider X Y wide h.1 x h.5, more_wider X Y wide h.2 xs h.6)

never : same_kind k.End k.Semicolon ≡ false
unfolding same_kind
never = refl

meets_more : (n : ℕ) (found : List Statement) (i : List Lexeme) → length i ≤ n → Meets (λ m. statements_from limited m found) (More found) i (statements_from limited n found i)
meets_more n found [] fits = meets_stop n found [] never
meets_more zero found (c ∷ ts) fits = absurd (omega arith)
meets_more (suc n) found (c ∷ ts) fits =
    by_test (same_kind c.kind k.Semicolon) (sees k.End ts) refl refl (λ s u o e. meets_more n (found ++ s ∷ []) o (omega (arith, ap length e, length-append u o)))
  where
    by_test : (a b : Bool) → same_kind c.kind k.Semicolon ≡ a → sees k.End ts ≡ b →
        ((s : Statement) (u o : List Lexeme) → ts ≡ u ++ o → Meets (λ m. statements_from limited m (found ++ s ∷ [])) (More (found ++ s ∷ [])) o (statements_from limited n (found ++ s ∷ []) o)) →
        Meets (λ m. statements_from limited m found) (More found) (c ∷ ts) (statements_from limited (suc n) found (c ∷ ts))
    by_test false b h e others = meets_stop (suc n) found (c ∷ ts) h
    by_test true true h e others = meets_close n found c ts (kinds_alike c.kind k.Semicolon h) e
    by_test true false h e others =
        subst (λ r. Meets (λ m. statements_from limited m found) (More found) (c ∷ ts) r) (sym (goes limited n found (c ∷ ts) h e))
        (meets_turn found c ts _ (kinds_alike c.kind k.Semicolon h) e
        (meets_bind (λ m. statement_of limited) (λ s m. statements_from limited m (found ++ s ∷ [])) grammar.statement_of (λ s. More (found ++ s ∷ [])) ts (statement_of limited ts)
        (λ s. statements_from limited n (found ++ s ∷ [])) good_statement.wider (λ s Y wide. ([], found ++ s ∷ [], last Y (found ++ s ∷ []))) (good_statement.meets ts)
        (λ s u o e held. others s u o e)))

agrees_more : (n : ℕ) (found : List Statement) (i : List Lexeme) → Agrees (statements_from limited n found i) (statements_from unlimited n found i)
unfolding statements_from
agrees_more zero found i = inl refl
agrees_more (suc n) found i = by_test (sees k.Semicolon i) (sees k.End (next i)) (λ s o. agrees_more n (found ++ s ∷ []) o)
  where
    by_test : (a b : Bool) → ((s : Statement) (o : List Lexeme) → Agrees (statements_from limited n (found ++ s ∷ []) o) (statements_from unlimited n (found ++ s ∷ []) o)) →
        Agrees (cond a (cond b (Ok (found, next i)) ((statement_of limited >>= (λ s. statements_from limited n (found ++ s ∷ []))) (next i))) (Ok (found, i))) (cond a (cond b (Ok (found, next i)) ((statement_of unlimited >>= (λ s. statements_from unlimited n (found ++ s ∷ []))) (next i))) (Ok (found, i)))
    by_test false b others = inl refl
    by_test true true others = inl refl
    by_test true false others = agrees_bind (statement_of limited (next i)) (statement_of unlimited (next i)) (λ s. statements_from limited n (found ++ s ∷ [])) (λ s. statements_from unlimited n (found ++ s ∷ [])) (good_statement.agrees (next i)) others

-- ---- completeness: at the end of the tokens

abbrev pub AtEnd : List Lexeme → Type 0
AtEnd o = kind o ≡ k.End

more_ends : (X : Language SqlExpr) (v o : List Lexeme) (xs : List Statement) → grammar.more_statements X v xs → AtEnd o → StatementEnds (v ++ o)
more_ends X v o [] (inl h) f = inl (ap (λ z. kind (z ++ o)) h ∙ f)
more_ends X v o [] (inr h) f = inr (ap (λ z. kind (z ++ o)) h.1 ∙ h.2)
more_ends X v o (x ∷ xs) h f = inr (ap (λ z. kind (z ++ o)) h.3 ∙ h.4)

more_completes : (E : Parser SqlExpr) (X : Language SqlExpr) → Completes E X → (xs found : List Statement) (v o : List Lexeme) (n : ℕ) → grammar.more_statements X v xs → AtEnd o → length (v ++ o) ≤ n →
    statements_from E n found (v ++ o) ≡ Ok (found ++ xs, o)
more_completes E X e [] found v o n (inl h) f fits =
    ap (λ z. statements_from E n found (z ++ o)) h ∙ stops E n found o (ap (λ a. same_kind a k.Semicolon) f ∙ never) ∙ ap (λ z. Ok (z, o)) (sym (append-nil found))
more_completes E X e [] found v o zero (inr h) f fits = absurd (omega (arith, ap length (ap (λ z. z ++ o) h.1)))
more_completes E X e [] found v o (suc n) (inr h) f fits =
    ap (λ z. statements_from E (suc n) found (z ++ o)) h.1 ∙ closes E n found (h.0 ∷ o) (alike h.0.kind k.Semicolon h.2) (alike (kind o) k.End f) ∙ ap (λ z. Ok (z, o)) (sym (append-nil found))
more_completes E X e (x ∷ xs) found v o zero h f fits = absurd (omega (arith, ap length (ap (λ z. z ++ o) h.3)))
more_completes E X e (x ∷ xs) found v o (suc n) h f fits =
    let whole : v ++ o ≡ h.0 ∷ (h.1 ++ (h.2 ++ o)) = ap (λ z. z ++ o) h.3 ∙ ap (λ z. h.0 ∷ z) (append_assoc h.1 h.2 o) in
    ap (statements_from E (suc n) found) whole
    ∙ goes E n found (h.0 ∷ (h.1 ++ (h.2 ++ o))) (alike h.0.kind k.Semicolon h.4) (unlike (kind (h.1 ++ (h.2 ++ o))) k.End (statement_starts X h.1 (h.2 ++ o) x h.5))
    ∙ ap (λ r. and_then r (λ s. statements_from E n (found ++ s ∷ []))) (good_statement.completes E X e h.1 (h.2 ++ o) x h.5 (more_ends X h.2 o xs h.6 f))
    ∙ more_completes E X e xs (found ++ x ∷ []) h.2 o n h.6 f (omega (arith, ap length whole, length-append h.1 (h.2 ++ o)))
    ∙ ap (λ z. Ok (z, o)) (append_assoc found (x ∷ []) xs)

-- ---- the first mark

more_plain : (w : List Lexeme) (xs : List Statement) → AreTokens w → grammar.more_statements IsMarked w xs → grammar.more_statements IsShort w xs
more_plain w [] tokens h = h
more_plain w (x ∷ xs) tokens h =
    let all : AreTokens (h.0 ∷ (h.1 ++ h.2)) = subst AreTokens h.3 tokens in
    (h.0, h.1, h.2, h.3, h.4, good_statement.plain h.1 x (tokens_before h.1 h.2 all.1) h.5, more_plain h.2 xs (tokens_behind h.1 h.2 all.1) h.6)

-- the mark is no semicolon
no_last : (u more : List Lexeme) (c : Lexeme) → u ++ mark ∷ more ≡ c ∷ [] → c.kind ≡ k.Semicolon → ⊥
no_last u more c e is = let same = ap (λ t. t.kind) (only_mark u more c e).1 in absurd (cc)

more_fills : (xs : List Statement) (u more : List Lexeme) → AreTokens u → grammar.more_statements IsMarked (u ++ mark ∷ more) xs → (e : List Lexeme) (t : SqlExpr) → IsExpr e t → Filled grammar.more_statements u e
more_fills [] u more tokens (inl h) e t is = absurd (not_empty u more h)
more_fills [] u more tokens (inr h) e t is = absurd (no_last u more h.0 h.1 h.2)
more_fills (x ∷ xs) u more tokens h e t is =
    ⊎_elim inside (behind (λ r later held. more_fills xs r more later held e t is)) (place front_is.1 more h.1 h.2 mark front_is.4)
  where
    front_is : (s : Lexeme) × (rest : List Lexeme) × (u ≡ s ∷ rest) × (s.kind ≡ k.Semicolon) × (rest ++ mark ∷ more ≡ h.1 ++ h.2)
    front_is = first_token k.Semicolon u more (h.1 ++ h.2) h.0 never h.4 h.3

    all : AreTokens (front_is.0 ∷ front_is.1)
    all = subst AreTokens front_is.2 tokens

    inside : ((r : List Lexeme) × (h.1 ≡ front_is.1 ++ mark ∷ r) × (more ≡ r ++ h.2)) → Filled grammar.more_statements u e
    inside (r, p_is, more_is) =
        let f = good_statement.fills front_is.1 r x all.1 (subst (λ z. grammar.statement_of IsMarked z x) p_is h.5) e t is in
        let split : u ++ (e ++ f.0) ≡ front_is.0 ∷ ((front_is.1 ++ (e ++ f.0)) ++ []) = ap (λ z. z ++ (e ++ f.0)) front_is.2 ∙ ap (λ z. front_is.0 ∷ z) (sym (append-nil (front_is.1 ++ (e ++ f.0)))) in
        (f.0, f.1 ∷ [], (front_is.0, front_is.1 ++ (e ++ f.0), [], split, front_is.3, f.2, inl refl))

    behind : ((r : List Lexeme) → AreTokens r → grammar.more_statements IsMarked (r ++ mark ∷ more) xs → Filled grammar.more_statements r e) →
        ((r : List Lexeme) × (front_is.1 ≡ h.1 ++ r) × (h.2 ≡ r ++ mark ∷ more)) → Filled grammar.more_statements u e
    behind others (r, u_is, q_is) =
        let parts : AreTokens (h.1 ++ r) = subst AreTokens u_is all.1 in
        let f = others r (tokens_behind h.1 r parts) (subst (λ z. grammar.more_statements IsMarked z xs) q_is h.6) in
        let split : u ++ (e ++ f.0) ≡ front_is.0 ∷ (h.1 ++ (r ++ (e ++ f.0))) = ap (λ z. z ++ (e ++ f.0)) front_is.2 ∙ ap (λ z. front_is.0 ∷ (z ++ (e ++ f.0))) u_is ∙ ap (λ z. front_is.0 ∷ z) (append_assoc h.1 r (e ++ f.0)) in
        (f.0, x ∷ f.1, (front_is.0, h.1, r ++ (e ++ f.0), split, front_is.3, good_statement.wider IsShort IsExpr short_in h.1 x (good_statement.plain h.1 x (tokens_before h.1 r parts) h.5), f.2))

found_fills : (found : List Statement) → Fills (More found)
found_fills found u more all tokens held e t is =
    let f = more_fills held.0 u more tokens held.1 e t is in
    (f.0, found ++ f.1, (f.1, f.2, refl))

-- a turn, from what was read
unturned : (found : List Statement) (X : Language SqlExpr) (w : List Lexeme) (all : List Statement) → More found X w all →
    (w ≡ []) ⊎ (((c : Lexeme) × (w ≡ c ∷ []) × (c.kind ≡ k.Semicolon)) ⊎
    ((c : Lexeme) × (v : List Lexeme) × (w ≡ c ∷ v) × (c.kind ≡ k.Semicolon) × (grammar.statement_of X ⨾ (λ s. More (found ++ s ∷ []) X)) v all))
unturned found X w all ([], inl h, same) = inl h
unturned found X w all ([], inr h, same) = inr (inl h)
unturned found X w all (x ∷ xs, h, same) = inr (inr (h.0, h.1 ++ h.2, h.3, h.4, (h.1, h.2, x, refl, h.5, (xs, h.6, append_assoc found (x ∷ []) xs ∙ same))))

-- the tokens are not at the end where a statement begins
begun_not_end : (M : Statement → Language SqlExpr → Language (List Statement)) (u more : List Lexeme) (all : List Statement) → AreTokens u → (grammar.statement_of IsMarked ⨾ (λ s. M s IsMarked)) (u ++ mark ∷ more) all →
    (i e : List Lexeme) (t : SqlExpr) → IsExpr e t → front i ≡ front e → sees k.End (u ++ i) ≡ false
begun_not_end M u more all tokens held i e t is f = ⊎_elim inside behind (place u more held.0 held.1 mark held.3)
  where
    inside : ((r : List Lexeme) × (held.0 ≡ u ++ mark ∷ r) × (more ≡ r ++ held.1)) → sees k.End (u ++ i) ≡ false
    inside (r, p_is, more_is) =
        let w = good_statement.fills u r held.2 tokens (subst (λ z. grammar.statement_of IsMarked z held.2) p_is held.4) e t is in
        ap (λ a. same_kind a k.End) (same_kinds (u ++ i) ((u ++ (e ++ w.0)) ++ []) (ahead u i e w.0 [] (nonempty is) f)) ∙ unlike (kind ((u ++ (e ++ w.0)) ++ [])) k.End (statement_starts IsExpr (u ++ (e ++ w.0)) [] w.1 w.2)

    behind : ((r : List Lexeme) × (u ≡ held.0 ++ r) × (held.1 ≡ r ++ mark ∷ more)) → sees k.End (u ++ i) ≡ false
    behind (r, u_is, q_is) =
        ap (sees k.End) (ap (λ z. z ++ i) u_is ∙ append_assoc held.0 r i) ∙ unlike (kind (held.0 ++ (r ++ i))) k.End (statement_starts IsMarked held.0 (r ++ i) held.2 held.4)

more_reaches : Completes limited IsShort → (n : ℕ) (found : List Statement) (u more : List Lexeme) (all : List Statement) → AreTokens u → More found IsMarked (u ++ mark ∷ more) all → (o : List Lexeme) → AtEnd o →
    (i e : List Lexeme) (t : SqlExpr) → IsExpr e t → front i ≡ front e → (q : ParseError × List Lexeme) → limited i ≡ Err q → length (u ++ i) ≤ n → statements_from limited n found (u ++ i) ≡ Err q
more_reaches whole zero found u more all tokens held o fits i e t is f q stops room =
    ⊎_elim (λ none. absurd (not_empty u more none))
    (λ h. ⊎_elim (λ end. absurd (no_last u more end.0 end.1 end.2))
    (λ h. let a = first_token k.Semicolon u more h.1 h.0 never h.3 h.2 in absurd (omega (arith, ap (λ z. length (z ++ i)) a.2))) h)
    (unturned found IsMarked (u ++ mark ∷ more) all held)
more_reaches whole (suc n) found u more all tokens held o fits i e t is f q stops room =
    ⊎_elim (λ none. absurd (not_empty u more none))
    (λ h. ⊎_elim (λ end. absurd (no_last u more end.0 end.1 end.2))
    (turn (λ s r later inside fewer. more_reaches whole n (found ++ s ∷ []) r more all later inside o fits i e t is f q stops fewer)) h)
    (unturned found IsMarked (u ++ mark ∷ more) all held)
  where
    turn : ((s : Statement) (r : List Lexeme) → AreTokens r → More (found ++ s ∷ []) IsMarked (r ++ mark ∷ more) all → length (r ++ i) ≤ n → statements_from limited n (found ++ s ∷ []) (r ++ i) ≡ Err q) →
        ((c : Lexeme) × (v : List Lexeme) × (u ++ mark ∷ more ≡ c ∷ v) × (c.kind ≡ k.Semicolon) × (grammar.statement_of IsMarked ⨾ (λ s. More (found ++ s ∷ []) IsMarked)) v all) →
        statements_from limited (suc n) found (u ++ i) ≡ Err q
    turn others (c, v, split, is_last, begun) =
        let a = first_token k.Semicolon u more v c never is_last split in
        let later : AreTokens a.1 = (subst AreTokens a.2 tokens).1 in
        let inside = subst (λ z. (grammar.statement_of IsMarked ⨾ (λ s. More (found ++ s ∷ []) IsMarked)) z all) (sym a.4) begun in
        ap (λ z. statements_from limited (suc n) found (z ++ i)) a.2
        ∙ goes limited n found (a.0 ∷ (a.1 ++ i)) (alike a.0.kind k.Semicolon a.3) (begun_not_end (λ s. More (found ++ s ∷ [])) a.1 more all later inside i e t is f)
        ∙ reaches_bind statement_of (λ s. statements_from limited n (found ++ s ∷ [])) grammar.statement_of (λ s. More (found ++ s ∷ [])) StatementEnds AtEnd good_statement
        (λ s. found_fills (found ++ s ∷ [])) (λ X s o fits v all held. more_ends X v o held.0 held.1 fits) whole
        a.1 more all later inside o fits i e t is f q stops
        (λ s p r apart inner. others s r (tokens_behind p r (subst AreTokens apart later)) inner
        (omega (arith, room, ap (λ z. length (z ++ i)) a.2, ap (λ z. length (z ++ i)) apart, length-append (p ++ r) i, length-append p r, length-append r i)))

good_more : (found : List Statement) → Good (λ E i. statements_from E (length i) found i) (More found) AtEnd
good_more found = record {
  completes = λ E X e w o all held fits. more_completes E X e held.0 found w o (length (w ++ o)) held.1 fits (le_refl (length (w ++ o))) ∙ ap (λ z. Ok (z, o)) held.2;
  meets = λ i. meets_turns (λ m. statements_from limited m found) (More found) i _ (meets_more (length i) found i (le_refl (length i)));
  agrees = λ i. agrees_more (length i) found i;
  some = ([], found, last IsShort found);
  wider = λ X Y wide w all held. (held.0, more_wider X Y wide w held.0 held.1, held.2);
  plain = λ w all tokens held. (held.0, more_plain w held.0 tokens held.1, held.2);
  fills = found_fills found;
  reaches = λ whole u more all tokens held o fits i e t is f q stops.
      more_reaches whole (length (u ++ i)) found u more all tokens held o fits i e t is f q stops (le_refl (length (u ++ i)));
}

-- one statement or more
abbrev Some_statements : Language SqlExpr → Language (List Statement)
Some_statements X = grammar.statement_of X ⨾ (λ s. More (s ∷ []) X)

good_first : Good first_statements Some_statements AtEnd
unfolding first_statements
good_first =
    good_bind statement_of (λ s E i. statements_from E (length i) (s ∷ []) i) grammar.statement_of (λ s. More (s ∷ [])) StatementEnds AtEnd good_statement (λ s. good_more (s ∷ []))
    (λ X s o fits v all held. more_ends X v o held.0 held.1 fits)

pipeline_to : (X : Language SqlExpr) (w : List Lexeme) (all : List Statement) → Some_statements X w all → grammar.pipeline X w all
pipeline_to X w all h = subst (λ z. grammar.pipeline X w z) h.5.2 (h.0, h.1, h.3, h.4, h.5.1)

pipeline_cases : (X : Language SqlExpr) (w : List Lexeme) (all : List Statement) → grammar.pipeline X w all → ((w ≡ []) × (all ≡ [])) ⊎ Some_statements X w all
pipeline_cases X w [] h = inl (h, refl)
pipeline_cases X w (s ∷ more) h = inr (h.0, h.1, s, h.2, h.3, (more, h.4, refl))

pipeline_is : (E : Parser SqlExpr) (i : List Lexeme) (b : Bool) → sees k.End i ≡ b → pipeline E i ≡ cond b (Ok ([], i)) (first_statements E i)
unfolding pipeline
pipeline_is E i b h = ap (λ b. cond b (Ok ([], i)) (first_statements E i)) h

plain_pipeline : Plain grammar.pipeline
plain_pipeline w [] tokens h = h
plain_pipeline w (s ∷ more) tokens h =
    let parts : AreTokens (h.0 ++ h.1) = subst AreTokens h.2 tokens in
    (h.0, h.1, h.2, good_statement.plain h.0 s (tokens_before h.0 h.1 parts) h.3, more_plain h.1 more (tokens_behind h.0 h.1 parts) h.4)

fills_pipeline : Fills grammar.pipeline
fills_pipeline u more all tokens held e t is = ⊎_elim (λ none. absurd (not_empty u more none.0))
    (λ first. let w = good_first.fills u more all tokens first e t is in (w.0, w.1, pipeline_to IsExpr (u ++ (e ++ w.0)) w.1 w.2)) (pipeline_cases IsMarked (u ++ mark ∷ more) all held)

reaches_pipeline : Reaches (pipeline limited) grammar.pipeline AtEnd
reaches_pipeline whole u more all tokens held o fits i e t is f q stops = ⊎_elim (λ none. absurd (not_empty u more none.0))
    (λ first. pipeline_is limited (u ++ i) false (begun_not_end (λ s. More (s ∷ [])) u more all tokens first i e t is f) ∙ good_first.reaches whole u more all tokens first o fits i e t is f q stops)
    (pipeline_cases IsMarked (u ++ mark ∷ more) all held)

pub good_pipeline : Good pipeline grammar.pipeline AtEnd
good_pipeline = record {
  completes = completes;
  meets = λ i. by_test i (sees k.End i) refl;
  agrees = λ i. agrees_by i (sees k.End i) refl;
  some = ([], [], refl);
  wider = wider;
  plain = plain_pipeline;
  fills = fills_pipeline;
  reaches = reaches_pipeline;
}
  where
    completes : (E : Parser SqlExpr) (X : Language SqlExpr) → Completes E X → (w o : List Lexeme) (all : List Statement) → grammar.pipeline X w all → AtEnd o → pipeline E (w ++ o) ≡ Ok (all, o)
    completes E X e w o all held fits = ⊎_elim
        (λ none. ap (λ z. pipeline E (z ++ o)) none.0 ∙ pipeline_is E o true (alike (kind o) k.End fits) ∙ ap (λ z. Ok (z, o)) (sym none.1))
        (λ some_first. pipeline_is E (w ++ o) false (unlike (kind (w ++ o)) k.End (λ same. statement_starts X some_first.0 (some_first.1 ++ o) some_first.2 some_first.4 (ap kind (sym (ap (λ z. z ++ o) some_first.3 ∙ append_assoc some_first.0 some_first.1 o)) ∙ same)))
        ∙ good_first.completes E X e w o all some_first fits) (pipeline_cases X w all held)

    by_test : (i : List Lexeme) (b : Bool) → sees k.End i ≡ b → Meets (λ m. pipeline limited) grammar.pipeline i (pipeline limited i)
    by_test i true h =
        subst (λ r. Meets (λ m. pipeline limited) grammar.pipeline i r) (sym (pipeline_is limited i true h))
        (record { word = []; split = refl; holds = refl; echoes = λ m c f fits. pipeline_is limited c true (ap (λ a. same_kind a k.End) (same_kinds c i f) ∙ h) })
    by_test i false h =
        subst (λ r. Meets (λ m. pipeline limited) grammar.pipeline i r) (sym (pipeline_is limited i false h))
        (meets_alike (λ m. first_statements limited) (λ m. pipeline limited) grammar.pipeline i _ (λ m j f fits. pipeline_is limited j false (ap (λ a. same_kind a k.End) (same_kinds j i f) ∙ h))
        (meets_weaker (λ m. first_statements limited) Some_statements grammar.pipeline i _ pipeline_to (good_first.meets i)))

    agrees_by : (i : List Lexeme) (b : Bool) → sees k.End i ≡ b → Agrees (pipeline limited i) (pipeline unlimited i)
    agrees_by i true h = inl (pipeline_is limited i true h ∙ sym (pipeline_is unlimited i true h))
    agrees_by i false h = subst (λ r. Agrees r (pipeline unlimited i)) (sym (pipeline_is limited i false h)) (subst (λ r. Agrees (first_statements limited i) r) (sym (pipeline_is unlimited i false h)) (good_first.agrees i))

    wider : (X Y : Language SqlExpr) → Wider X Y → (w : List Lexeme) (all : List Statement) → grammar.pipeline X w all → grammar.pipeline Y w all
    wider X Y wide w [] h = h
    wider X Y wide w (s ∷ more) h = (h.0, h.1, h.2, good_statement.wider X Y wide h.0 s h.3, more_wider X Y wide h.1 more h.4)
