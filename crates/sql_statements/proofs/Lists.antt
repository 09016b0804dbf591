-- Lists with a token between two of their items.
use Rattle.std.proofs.Common.{◌≡◌, ◌≢◌, ℕ, zero, suc, ◌+◌, ◌-◌, ◌≤◌, le_refl, Bool, true, false, cond, List, [], ◌∷◌, ◌++◌, length, Ok, Err, refl, sym, ap, ◌∙◌, subst, append_assoc, append-nil, arith, length-append, ◌⊎◌, inl, inr, ⊎_elim}
use Rattle.sql_tree.specs.declared.expr.SqlExpr.{SqlExpr}
use Rattle.sql_tree.specs.declared.lexeme.LexemeKind.{LexemeKind}
use Rattle.sql_tree.specs.declared.lexeme.LexemeKind.TheVariants as k
use Rattle.sql_tree.specs.declared.lexeme.Lexeme.{Lexeme}
use Rattle.sql_tree.specs.Lexemes.{kind, same_kind}
use Rattle.sql_phrases.specs.Parsers.{next, sees}
use Rattle.sql_phrases.proofs.Phrases.{front, same_kinds}
use Rattle.sql_phrases.proofs.Terminals.{kinds_alike, alike}
use Rattle.sql_expr.proofs.Reading.{unlike}
use Rattle.sql_statements.specs.declared.error.ParseError.{ParseError}
use Rattle.sql_statements.specs.declared.error.ParseError.TheVariants.{Unexpected}
use Rattle.sql_statements.specs.Languages.{Language, followed, separated as Separated, ◌>>=◌ as ◌⨾◌}
use Rattle.sql_statements.specs.Parsers.{Outcome, Parser, and_then, ◌>>=◌, rest_from, separated}
use Rattle.sql_expr.specs.Grammar.{IsExpr}
use Rattle.sql_statements.specs.Limits.{IsShort, IsMarked, mark, AreTokens, unlimited, limited}
use Rattle.sql_statements.proofs.Marks.{tokens_before, tokens_behind, not_empty, place}
use Rattle.sql_statements.proofs.Good.{Over, Wider, Echoes, Meets, why_inside, meets_bind, Agrees, agrees_bind, Completes, short_in, Plain, Filled, Fills, reaches_bind, Good, good_bind, good_as}

-- what goes on with these items
abbrev pub Rest : {A : Type 0} → LexemeKind → Language A → List A → Language (List A)
Rest {A} sep L found w all = (xs : List A) × followed sep L w xs × (found ++ xs ≡ all)

rest_stops : {A : Type 0} (sep : LexemeKind) (p : Parser A) (n : ℕ) (found : List A) (i : List Lexeme) → sees sep i ≡ false → rest_from sep p n found i ≡ Ok (found, i)
unfolding rest_from
rest_stops sep p zero found i h = refl
rest_stops sep p (suc n) found i h = ap (λ b. cond b ((p >>= (λ x. rest_from sep p n (found ++ x ∷ []))) (next i)) (Ok (found, i))) h

rest_goes : {A : Type 0} (sep : LexemeKind) (p : Parser A) (n : ℕ) (found : List A) (i : List Lexeme) → sees sep i ≡ true →
    rest_from sep p (suc n) found i ≡ (p >>= (λ x. rest_from sep p n (found ++ x ∷ []))) (next i)
unfolding rest_from
rest_goes sep p n found i h = ap (λ b. cond b ((p >>= (λ x. rest_from sep p n (found ++ x ∷ []))) (next i)) (Ok (found, i))) h

meets_stop : {A : Type 0} (sep : LexemeKind) (p : Parser A) (L : Over A) (n : ℕ) (found : List A) (i : List Lexeme) → sees sep i ≡ false →
    Meets (λ m. rest_from sep p m found) (λ X. Rest sep (L X) found) i (rest_from sep p n found i)
meets_stop sep p L n found i h =
    subst (λ r. Meets (λ m. rest_from sep p m found) (λ X. Rest sep (L X) found) i r) (sym (rest_stops sep p n found i h))
    (record {
      word = [];
      split = refl;
      holds = ([], refl, append-nil found);
      echoes = λ m c f fits. rest_stops sep p m found c (ap (λ a. same_kind a sep) (same_kinds c i f) ∙ h);
    })

-- a turn: the token between, and then the next item
turned : {A : Type 0} (sep : LexemeKind) (L : Over A) (found : List A) (c : Lexeme) → c.kind ≡ sep → (X : Language SqlExpr) (w : List Lexeme) (all : List A) →
    (L X ⨾ (λ x. Rest sep (L X) (found ++ x ∷ []))) w all → Rest sep (L X) found (c ∷ w) all
turned sep L found c hc X w all g =
    (g.2 ∷ g.5.0, (c, g.0, g.1, ap (λ z. c ∷ z) g.3, hc, g.4, g.5.1), sym (append_assoc found (g.2 ∷ []) g.5.0) ∙ g.5.2)

meets_turn : {A : Type 0} (sep : LexemeKind) (p : Parser A) (L : Over A) (found : List A) (c : Lexeme) (ts : List Lexeme) (r : Outcome (List A)) → c.kind ≡ sep →
    Meets (λ m. p >>= (λ x. rest_from sep p m (found ++ x ∷ []))) (λ X. L X ⨾ (λ x. Rest sep (L X) (found ++ x ∷ []))) ts r →
    Meets (λ m. rest_from sep p m found) (λ X. Rest sep (L X) found) (c ∷ ts) r
meets_turn {A} sep p L found c ts (Ok q) hc h = record {
  word = c ∷ h.word;
  split = ap (λ z. c ∷ z) h.split;
  holds = turned sep L found c hc IsShort h.word q.0 h.holds;
  echoes = by_turns;
}
  where
    by_turns : Echoes (λ m. rest_from sep p m found) (c ∷ h.word) (λ o. Ok (q.0, o)) q.1
    by_turns zero o f fits = absurd (omega arith)
    by_turns (suc m) o f fits = rest_goes sep p m found (c ∷ (h.word ++ o)) (alike c.kind sep hc) ∙ h.echoes m o f (omega (arith, fits))
meets_turn {A} sep p L found c ts (Err q) hc h = record {
  word = c ∷ h.word;
  split = ap (λ z. c ∷ z) h.split;
  why = why_inside q.0 (λ X. L X ⨾ (λ x. Rest sep (L X) (found ++ x ∷ []))) (λ X. Rest sep (L X) found) (c ∷ []) h.word q.1
      (λ Y wide w all held. ([], all, subst (λ z. Rest sep (L Y) found (c ∷ z) all) (sym (append-nil w)) (turned sep L found c hc Y w all held))) h.why;
  echoes = by_turns;
}
  where
    by_turns : q.0 ≡ Unexpected → Echoes (λ m. rest_from sep p m found) (c ∷ h.word) (λ o. Err (Unexpected, o)) q.1
    by_turns is zero o f fits = absurd (omega arith)
    by_turns is (suc m) o f fits = rest_goes sep p m found (c ∷ (h.word ++ o)) (alike c.kind sep hc) ∙ h.echoes is m o f (omega (arith, fits))

followed_wider : {A : Type 0} (sep : LexemeKind) (L : Over A) → ((X Y : Language SqlExpr) → Wider X Y → (w : List Lexeme) (x : A) → L X w x → L Y w x) →
    (X Y : Language SqlExpr) → Wider X Y → (w : List Lexeme) (xs : List A) → followed sep (L X) w xs → followed sep (L Y) w xs
followed_wider sep L wider X Y wide w [] h = h
followed_wider sep L wider X Y wide w (x ∷ xs) h = (h.0, h.1, h.2, h.3, h.4, wider X Y wide h.1 x h.5, followed_wider sep L wider X Y wide h.2 xs h.6)

meets_rest : {A : Type 0} (sep : LexemeKind) (P : Parser SqlExpr → Parser A) (L : Over A) (F : List Lexeme → Type 0) → Good P L F → same_kind k.End sep ≡ false →
    (n : ℕ) (found : List A) (i : List Lexeme) → length i ≤ n → Meets (λ m. rest_from sep (P limited) m found) (λ X. Rest sep (L X) found) i (rest_from sep (P limited) n found i)
meets_rest sep P L F g never n found [] fits = meets_stop sep (P limited) L n found [] never
meets_rest sep P L F g never zero found (c ∷ ts) fits = absurd (omega arith)
meets_rest {A} sep P L F g never (suc n) found (c ∷ ts) fits =
    by_test (same_kind c.kind sep) refl (λ x u o e. meets_rest sep P L F g never n (found ++ x ∷ []) o (omega (arith, ap length e, length-append u o)))
  where
    by_test : (b : Bool) → same_kind c.kind sep ≡ b →
        ((x : A) (u o : List Lexeme) → ts ≡ u ++ o → Meets (λ m. rest_from sep (P limited) m (found ++ x ∷ [])) (λ X. Rest sep (L X) (found ++ x ∷ [])) o (rest_from sep (P limited) n (found ++ x ∷ []) o)) →
        Meets (λ m. rest_from sep (P limited) m found) (λ X. Rest sep (L X) found) (c ∷ ts) (rest_from sep (P limited) (suc n) found (c ∷ ts))
    by_test false h others = meets_stop sep (P limited) L (suc n) found (c ∷ ts) h
    by_test true h others =
        subst (λ r. Meets (λ m. rest_from sep (P limited) m found) (λ X. Rest sep (L X) found) (c ∷ ts) r) (sym (rest_goes sep (P limited) n found (c ∷ ts) h))
        (meets_turn sep (P limited) L found c ts _ (kinds_alike c.kind sep h)
        (meets_bind (λ m. P limited) (λ x m. rest_from sep (P limited) m (found ++ x ∷ [])) L (λ x X. Rest sep (L X) (found ++ x ∷ [])) ts (P limited ts)
        (λ x. rest_from sep (P limited) n (found ++ x ∷ [])) g.wider (λ x Y wide. ([], found ++ x ∷ [], ([], refl, append-nil (found ++ x ∷ [])))) (g.meets ts)
        (λ x u o e held. others x u o e)))

agrees_rest : {A : Type 0} (sep : LexemeKind) (P : Parser SqlExpr → Parser A) (L : Over A) (F : List Lexeme → Type 0) → Good P L F →
    (n : ℕ) (found : List A) (i : List Lexeme) → Agrees (rest_from sep (P limited) n found i) (rest_from sep (P unlimited) n found i)
unfolding rest_from
agrees_rest sep P L F g zero found i = inl refl
agrees_rest {A} sep P L F g (suc n) found i = by_test (sees sep i) (λ x o. agrees_rest sep P L F g n (found ++ x ∷ []) o)
  where
    by_test : (b : Bool) → ((x : A) (o : List Lexeme) → Agrees (rest_from sep (P limited) n (found ++ x ∷ []) o) (rest_from sep (P unlimited) n (found ++ x ∷ []) o)) → Agrees (cond b ((P limited >>= (λ x. rest_from sep (P limited) n (found ++ x ∷ []))) (next i)) (Ok (found, i))) (cond b ((P unlimited >>= (λ x. rest_from sep (P unlimited) n (found ++ x ∷ []))) (next i)) (Ok (found, i)))
    by_test true others = agrees_bind (P limited (next i)) (P unlimited (next i)) (λ x. rest_from sep (P limited) n (found ++ x ∷ [])) (λ x. rest_from sep (P unlimited) n (found ++ x ∷ [])) (g.agrees (next i))
        others
    by_test false others = inl refl

-- what may follow an item of a list
follows_item : {A : Type 0} (sep : LexemeKind) (L : Language A) (F : List Lexeme → Type 0) → ((o : List Lexeme) → kind o ≡ sep → F o) → (v o : List Lexeme) (xs : List A) →
    followed sep L v xs → F o → F (v ++ o)
follows_item sep L F joins v o [] h f = subst (λ z. F (z ++ o)) (sym h) f
follows_item sep L F joins v o (x ∷ xs) h f = joins (v ++ o) (ap (λ z. kind (z ++ o)) h.3 ∙ h.4)

rest_completes : {A : Type 0} (sep : LexemeKind) (P : Parser SqlExpr → Parser A) (L : Over A) (F : List Lexeme → Type 0) → Good P L F → ((o : List Lexeme) → kind o ≡ sep → F o) →
    (E : Parser SqlExpr) (X : Language SqlExpr) → Completes E X → (xs found : List A) (v o : List Lexeme) (n : ℕ) → followed sep (L X) v xs → F o → kind o ≢ sep → length (v ++ o) ≤ n →
    rest_from sep (P E) n found (v ++ o) ≡ Ok (found ++ xs, o)
rest_completes sep P L F g joins E X e [] found v o n h f other fits =
    ap (λ z. rest_from sep (P E) n found (z ++ o)) h ∙ rest_stops sep (P E) n found o (unlike (kind o) sep other) ∙ ap (λ z. Ok (z, o)) (sym (append-nil found))
rest_completes sep P L F g joins E X e (x ∷ xs) found v o zero h f other fits = absurd (omega (arith, ap length (ap (λ z. z ++ o) h.3)))
rest_completes sep P L F g joins E X e (x ∷ xs) found v o (suc n) h f other fits =
    let whole : v ++ o ≡ h.0 ∷ (h.1 ++ (h.2 ++ o)) = ap (λ z. z ++ o) h.3 ∙ ap (λ z. h.0 ∷ z) (append_assoc h.1 h.2 o) in
    ap (rest_from sep (P E) (suc n) found) whole
    ∙ rest_goes sep (P E) n found (h.0 ∷ (h.1 ++ (h.2 ++ o))) (alike h.0.kind sep h.4)
    ∙ ap (λ r. and_then r (λ x. rest_from sep (P E) n (found ++ x ∷ []))) (g.completes E X e h.1 (h.2 ++ o) x h.5 (follows_item sep (L X) F joins h.2 o xs h.6 f))
    ∙ rest_completes sep P L F g joins E X e xs (found ++ x ∷ []) h.2 o n h.6 f other (omega (arith, ap length whole, length-append h.1 (h.2 ++ o)))
    ∙ ap (λ z. Ok (z, o)) (append_assoc found (x ∷ []) xs)

-- as many turns as tokens
pub meets_turns : {A : Type 0} (P : ℕ → Parser A) (L : Over A) (i : List Lexeme) (r : Outcome A) → Meets P L i r → Meets (λ m j. P (length j) j) L i r
meets_turns P L i (Ok p) h = record { word = h.word; split = h.split; holds = h.holds; echoes = λ m c f fits. h.echoes (length (h.word ++ c)) c f (le_refl (length (h.word ++ c))) }
meets_turns P L i (Err q) h = record { word = h.word; split = h.split; why = h.why; echoes = λ is m c f fits. h.echoes is (length (h.word ++ c)) c f (le_refl (length (h.word ++ c))) }

-- what may follow a list
abbrev pub After : LexemeKind → (List Lexeme → Type 0) → List Lexeme → Type 0
After sep F o = F o × (kind o ≢ sep)

-- ---- the first mark

followed_plain : {A : Type 0} (sep : LexemeKind) (L : Over A) → Plain L → (w : List Lexeme) (xs : List A) → AreTokens w → followed sep (L IsMarked) w xs → followed sep (L IsShort) w xs
followed_plain sep L plain w [] tokens h = h
followed_plain sep L plain w (x ∷ xs) tokens h =
    let all : AreTokens (h.0 ∷ (h.1 ++ h.2)) = subst AreTokens h.3 tokens in
    (h.0, h.1, h.2, h.3, h.4, plain h.1 x (tokens_before h.1 h.2 all.1) h.5, followed_plain sep L plain h.2 xs (tokens_behind h.1 h.2 all.1) h.6)

-- the first token of what goes on is before the mark
pub first_token : (sep : LexemeKind) (u more v : List Lexeme) (c : Lexeme) → same_kind k.End sep ≡ false → c.kind ≡ sep → u ++ mark ∷ more ≡ c ∷ v →
    (s : Lexeme) × (rest : List Lexeme) × (u ≡ s ∷ rest) × (s.kind ≡ sep) × (rest ++ mark ∷ more ≡ v)
first_token sep [] more v c never is e =
    let same : mark ≡ c = cc in
    let test = alike k.End sep (ap (λ t. t.kind) same ∙ is) in
    absurd (cc)
first_token sep (s ∷ u) more v c never is e = let same : s ≡ c = cc in (s, u, refl, ap (λ t. t.kind) same ∙ is, cc)

followed_fills : {A : Type 0} (sep : LexemeKind) (L : Over A) → same_kind k.End sep ≡ false → ((X Y : Language SqlExpr) → Wider X Y → (w : List Lexeme) (x : A) → L X w x → L Y w x) → Plain L → Fills L →
    (xs : List A) (u more : List Lexeme) → AreTokens u → followed sep (L IsMarked) (u ++ mark ∷ more) xs → (e : List Lexeme) (t : SqlExpr) → IsExpr e t → Filled (λ X. followed sep (L X)) u e
followed_fills sep L never wider plain fills [] u more tokens h e t is = absurd (not_empty u more h)
followed_fills {A} sep L never wider plain fills (x ∷ xs) u more tokens h e t is =
    ⊎_elim inside (behind (λ r later held. followed_fills sep L never wider plain fills xs r more later held e t is)) (place front_is.1 more h.1 h.2 mark front_is.4)
  where
    front_is : (s : Lexeme) × (rest : List Lexeme) × (u ≡ s ∷ rest) × (s.kind ≡ sep) × (rest ++ mark ∷ more ≡ h.1 ++ h.2)
    front_is = first_token sep u more (h.1 ++ h.2) h.0 never h.4 h.3

    all : AreTokens (front_is.0 ∷ front_is.1)
    all = subst AreTokens front_is.2 tokens

    inside : ((r : List Lexeme) × (h.1 ≡ front_is.1 ++ mark ∷ r) × (more ≡ r ++ h.2)) → Filled (λ X. followed sep (L X)) u e
    inside (r, p_is, more_is) =
        let f = fills front_is.1 r x all.1 (subst (λ z. L IsMarked z x) p_is h.5) e t is in
        let split : u ++ (e ++ f.0) ≡ front_is.0 ∷ ((front_is.1 ++ (e ++ f.0)) ++ []) = ap (λ z. z ++ (e ++ f.0)) front_is.2 ∙ ap (λ z. front_is.0 ∷ z) (sym (append-nil (front_is.1 ++ (e ++ f.0)))) in
        (f.0, f.1 ∷ [], (front_is.0, front_is.1 ++ (e ++ f.0), [], split, front_is.3, f.2, refl))

    behind : ((r : List Lexeme) → AreTokens r → followed sep (L IsMarked) (r ++ mark ∷ more) xs → Filled (λ X. followed sep (L X)) r e) →
        ((r : List Lexeme) × (front_is.1 ≡ h.1 ++ r) × (h.2 ≡ r ++ mark ∷ more)) → Filled (λ X. followed sep (L X)) u e
    behind others (r, u_is, q_is) =
        let parts : AreTokens (h.1 ++ r) = subst AreTokens u_is all.1 in
        let f = others r (tokens_behind h.1 r parts) (subst (λ z. followed sep (L IsMarked) z xs) q_is h.6) in
        let split : u ++ (e ++ f.0) ≡ front_is.0 ∷ (h.1 ++ (r ++ (e ++ f.0))) = ap (λ z. z ++ (e ++ f.0)) front_is.2 ∙ ap (λ z. front_is.0 ∷ (z ++ (e ++ f.0))) u_is ∙ ap (λ z. front_is.0 ∷ z) (append_assoc h.1 r (e ++ f.0)) in
        (f.0, x ∷ f.1, (front_is.0, h.1, r ++ (e ++ f.0), split, front_is.3, wider IsShort IsExpr short_in h.1 x (plain h.1 x (tokens_before h.1 r parts) h.5), f.2))

rest_fills : {A : Type 0} (sep : LexemeKind) (L : Over A) → same_kind k.End sep ≡ false → ((X Y : Language SqlExpr) → Wider X Y → (w : List Lexeme) (x : A) → L X w x → L Y w x) → Plain L → Fills L →
    (found : List A) → Fills (λ X. Rest sep (L X) found)
rest_fills sep L never wider plain fills found u more all tokens held e t is =
    let f = followed_fills sep L never wider plain fills held.0 u more tokens held.1 e t is in
    (f.0, found ++ f.1, (f.1, f.2, refl))

-- a turn, from what was read
unturned : {A : Type 0} (sep : LexemeKind) (L : Over A) (found : List A) (X : Language SqlExpr) (w : List Lexeme) (all : List A) → Rest sep (L X) found w all →
    (w ≡ []) ⊎ ((c : Lexeme) × (v : List Lexeme) × (w ≡ c ∷ v) × (c.kind ≡ sep) × (L X ⨾ (λ x. Rest sep (L X) (found ++ x ∷ []))) v all)
unturned sep L found X w all ([], h, same) = inl h
unturned sep L found X w all (x ∷ xs, h, same) = inr (h.0, h.1 ++ h.2, h.3, h.4, (h.1, h.2, x, refl, h.5, (xs, h.6, append_assoc found (x ∷ []) xs ∙ same)))

rest_reaches : {A : Type 0} (sep : LexemeKind) (P : Parser SqlExpr → Parser A) (L : Over A) (F : List Lexeme → Type 0) → Good P L F → same_kind k.End sep ≡ false → ((o : List Lexeme) → kind o ≡ sep → F o) →
    Completes limited IsShort → (n : ℕ) (found : List A) (u more : List Lexeme) (all : List A) → AreTokens u → Rest sep (L IsMarked) found (u ++ mark ∷ more) all → (o : List Lexeme) → After sep F o →
    (i e : List Lexeme) (t : SqlExpr) → IsExpr e t → front i ≡ front e → (q : ParseError × List Lexeme) → limited i ≡ Err q → length (u ++ i) ≤ n → rest_from sep (P limited) n found (u ++ i) ≡ Err q
rest_reaches sep P L F g never joins whole zero found u more all tokens held o fits i e t is f q stops room =
    ⊎_elim (λ none. absurd (not_empty u more none))
    (λ h. let a = first_token sep u more h.1 h.0 never h.3 h.2 in absurd (omega (arith, ap (λ z. length (z ++ i)) a.2))) (unturned sep L found IsMarked (u ++ mark ∷ more) all held)
rest_reaches {A} sep P L F g never joins whole (suc n) found u more all tokens held o fits i e t is f q stops room =
    ⊎_elim (λ none. absurd (not_empty u more none))
    (turn (λ x r later inside fewer. rest_reaches sep P L F g never joins whole n (found ++ x ∷ []) r more all later inside o fits i e t is f q stops fewer)) (unturned sep L found IsMarked (u ++ mark ∷ more) all held)
  where
    turn : ((x : A) (r : List Lexeme) → AreTokens r → Rest sep (L IsMarked) (found ++ x ∷ []) (r ++ mark ∷ more) all → length (r ++ i) ≤ n → rest_from sep (P limited) n (found ++ x ∷ []) (r ++ i) ≡ Err q) →
        ((c : Lexeme) × (v : List Lexeme) × (u ++ mark ∷ more ≡ c ∷ v) × (c.kind ≡ sep) × (L IsMarked ⨾ (λ x. Rest sep (L IsMarked) (found ++ x ∷ []))) v all) → rest_from sep (P limited) (suc n) found (u ++ i) ≡ Err q
    turn others (c, v, split, is_sep, inside) =
        let a = first_token sep u more v c never is_sep split in
        let later : AreTokens a.1 = (subst AreTokens a.2 tokens).1 in
        ap (λ z. rest_from sep (P limited) (suc n) found (z ++ i)) a.2
        ∙ rest_goes sep (P limited) n found (a.0 ∷ (a.1 ++ i)) (alike a.0.kind sep a.3)
        ∙ reaches_bind P (λ x. rest_from sep (P limited) n (found ++ x ∷ [])) L (λ x X. Rest sep (L X) (found ++ x ∷ [])) F (After sep F) g
        (λ x. rest_fills sep L never g.wider g.plain g.fills (found ++ x ∷ [])) (λ X x o fits v all held. follows_item sep (L X) F joins v o held.0 held.1 fits.0) whole
        a.1 more all later (subst (λ z. (L IsMarked ⨾ (λ x. Rest sep (L IsMarked) (found ++ x ∷ []))) z all) (sym a.4) inside) o fits i e t is f q stops
        (λ x p r apart inner. others x r (tokens_behind p r (subst AreTokens apart later)) inner
        (omega (arith, room, ap (λ z. length (z ++ i)) a.2, ap (λ z. length (z ++ i)) apart, length-append (p ++ r) i, length-append p r, length-append r i)))

pub good_rest : {A : Type 0} (sep : LexemeKind) (P : Parser SqlExpr → Parser A) (L : Over A) (F : List Lexeme → Type 0) → Good P L F → same_kind k.End sep ≡ false →
    ((o : List Lexeme) → kind o ≡ sep → F o) → (found : List A) → Good (λ E i. rest_from sep (P E) (length i) found i) (λ X. Rest sep (L X) found) (After sep F)
good_rest sep P L F g never joins found = record {
  completes = λ E X e w o all held fits. rest_completes sep P L F g joins E X e held.0 found w o (length (w ++ o)) held.1 fits.0 fits.1 (le_refl (length (w ++ o))) ∙ ap (λ z. Ok (z, o)) held.2;
  meets = λ i. meets_turns (λ m. rest_from sep (P limited) m found) (λ X. Rest sep (L X) found) i _ (meets_rest sep P L F g never (length i) found i (le_refl (length i)));
  agrees = λ i. agrees_rest sep P L F g (length i) found i;
  some = ([], found, ([], refl, append-nil found));
  wider = λ X Y wide w all held. (held.0, followed_wider sep L g.wider X Y wide w held.0 held.1, held.2);
  plain = λ w all tokens held. (held.0, followed_plain sep L g.plain w held.0 tokens held.1, held.2);
  fills = rest_fills sep L never g.wider g.plain g.fills found;
  reaches = λ whole u more all tokens held o fits i e t is f q stops.
      rest_reaches sep P L F g never joins whole (length (u ++ i)) found u more all tokens held o fits i e t is f q stops (le_refl (length (u ++ i)));
}

separated_is : {A : Type 0} (sep : LexemeKind) (p : Parser A) (i : List Lexeme) → separated sep p i ≡ (p >>= (λ x i. rest_from sep p (length i) (x ∷ []) i)) i
unfolding separated
separated_is sep p i = refl

pub good_separated : {A : Type 0} (sep : LexemeKind) (P : Parser SqlExpr → Parser A) (L : Over A) (F : List Lexeme → Type 0) → Good P L F → same_kind k.End sep ≡ false →
    ((o : List Lexeme) → kind o ≡ sep → F o) → Good (λ E. separated sep (P E)) (λ X. Separated sep (L X)) (After sep F)
good_separated sep P L F g never joins =
    good_as (λ E. P E >>= (λ x i. rest_from sep (P E) (length i) (x ∷ []) i)) (λ E. separated sep (P E)) (λ X. L X ⨾ (λ x. Rest sep (L X) (x ∷ []))) (λ X. Separated sep (L X)) (After sep F) (After sep F)
    (good_bind P (λ x E i. rest_from sep (P E) (length i) (x ∷ []) i) L (λ x X. Rest sep (L X) (x ∷ [])) F (After sep F) g (λ x. good_rest sep P L F g never joins (x ∷ []))
    (λ X x o fits v all held. follows_item sep (L X) F joins v o held.0 held.1 fits.0))
    (λ E i. separated_is sep (P E) i)
    (λ X w all h. (h.0, h.1, h.2, h.3, h.4, (h.1, [], h.5.0, sym (append-nil h.1), h.5.1, (refl, h.5.2))))
    (λ X w all h. (h.0, h.1, h.2, h.3, h.4, (h.5.2, subst (λ z. followed sep (L X) z h.5.2) (sym (h.5.3 ∙ ap (λ z. h.5.0 ++ z) h.5.5.0 ∙ append-nil h.5.0)) h.5.4, h.5.5.1)))
    (λ o h. h)
