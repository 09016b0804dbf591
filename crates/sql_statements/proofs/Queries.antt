-- The parts of a statement that have expressions: their readers are good.
use Rattle.std.proofs.Common.{◌≡◌, ◌≢◌, ℕ, ◌<◌, Bool, true, false, List, [], ◌∷◌, ◌++◌, length, Option, Some, None, refl, sym, ap, ◌∙◌, subst, append-nil, append_assoc, arith, ◌⊎◌, ⊎_elim}
use Rattle.std.specs.Prelude.{codes, ◌||◌}
use Rattle.sql_tree.specs.declared.expr.SqlExpr.{SqlExpr}
use Rattle.sql_tree.specs.declared.expr.SqlType.TheVariants as type
use Rattle.sql_tree.specs.declared.statement.SqlItem.{SqlItem}
use Rattle.sql_tree.specs.declared.statement.SqlItem.TheVariants as item
use Rattle.sql_tree.specs.declared.statement.Select.{Select}
use Rattle.sql_tree.specs.declared.statement.Out.TheVariants as out
use Rattle.sql_tree.specs.declared.lexeme.LexemeKind.{LexemeKind}
use Rattle.sql_tree.specs.declared.lexeme.LexemeKind.TheVariants as k
use Rattle.sql_tree.specs.declared.lexeme.Lexeme.{Lexeme}
use Rattle.sql_tree.specs.Lexemes.{kind, same_kind, is_bare, type_of}
use Rattle.sql_tree.specs.Print.{word as word_token}
use Rattle.sql_phrases.proofs.Terminals.{kinds_alike}
use Rattle.sql_expr.specs.Operators.{binds}
use Rattle.sql_expr.proofs.Reading.{unlike}
use Rattle.sql_phrases.specs.Tokens.{is, is_name, if_so, the, the_word, name_of}
use Rattle.sql_statements.specs.Languages.{Language, one, nothing, either, ◌>>=◌ as ◌⨾◌}
use Rattle.sql_statements.specs.Languages as language
use Rattle.sql_statements.specs.Parsers.{begins, separated}
use Rattle.sql_statements.specs.Grammar as grammar
use Rattle.sql_statements.specs.Descent.{in_parens, maybe, comment, origin_of, violation, alias, except, expectation, column, item_of, item_list, items, out_of, outs, exprs, groups, filter_of, select}
use Rattle.sql_statements.proofs.Good.{Any, Proper, Good, good_bind, good_pure, good_choose, good_choose_by}
use Rattle.sql_statements.proofs.Lists.{After, good_separated}
use Rattle.sql_statements.proofs.Window.{Ends, good_expr}
use Rattle.sql_statements.proofs.Firsts.{opens_kind, opens_word, starts_kind, not_kind, no_word, nothing_then}
use Rattle.sql_statements.proofs.Parts.{good_the, good_word, good_value, good_map, good_less, good_maybe, good_in_parens, good_name_then, Not, NoWord, good_comment, good_violation, good_origin, good_except, NoAlias, good_alias, name_not_kind}

-- ---- what follows an option

pub either_then : {A B : Type 0} (F : List Lexeme → Type 0) (P : Language A) (a : A) (M : A → Language B) (o : List Lexeme) → ((w r : List Lexeme) (x : A) → P w x → F (w ++ r)) →
    ((x : A) (v : List Lexeme) (y : B) → M x v y → F (v ++ o)) → (v : List Lexeme) (y : B) → (either P (nothing a) ⨾ M) v y → F (v ++ o)
either_then F P a M o first second v y held = subst F (sym (ap (λ z. z ++ o) held.3 ∙ append_assoc held.0 held.1 o)) (⊎_elim
    (λ there. first held.0 (held.1 ++ o) held.2 there)
    (λ none. subst (λ z. F (z ++ (held.1 ++ o))) (sym none.0) (second held.2 held.1 y held.5)) held.4)

-- behind what is there
pub front_of : {A B : Type 0} (F : List Lexeme → Type 0) (L : Language A) (M : A → Language B) → ((w r : List Lexeme) (x : A) → L w x → F (w ++ r)) → (w r : List Lexeme) (y : B) → (L ⨾ M) w y → F (w ++ r)
front_of F L M first w r y held = subst F (sym (ap (λ z. z ++ r) held.3 ∙ append_assoc held.0 held.1 r)) (first held.0 (held.1 ++ r) held.2 held.4)

pub maybe_then : {A B : Type 0} (F : List Lexeme → Type 0) (L : Language A) (M : Option A → Language B) (o : List Lexeme) → ((w r : List Lexeme) (x : A) → L w x → F (w ++ r)) →
    ((x : Option A) (v : List Lexeme) (y : B) → M x v y → F (v ++ o)) → (v : List Lexeme) (y : B) → (grammar.maybe L ⨾ M) v y → F (v ++ o)
maybe_then F L M o first second v y held = either_then F (L ⨾ (λ x. nothing (Some x))) None M o (front_of F L (λ x. nothing (Some x)) first) second v y held

-- a language whose words go on with nothing
pub mapped_then : {A B : Type 0} (F : List Lexeme → Type 0) (P : Language A) (a : A) (f : A → B) (o : List Lexeme) → ((w r : List Lexeme) (x : A) → P w x → F (w ++ r)) → F o →
    (v : List Lexeme) (y : B) → (either P (nothing a) ⨾ (λ x. nothing (f x))) v y → F (v ++ o)
mapped_then F P a f o first last v y held = either_then F P a (λ x. nothing (f x)) o first (λ x v y none. subst (λ z. F (z ++ o)) (sym none.0) last) v y held

-- a fact of the next token's kind
pub by_kind : {B : Type 0} (F : List Lexeme → Type 0) (wanted : LexemeKind) → ((o : List Lexeme) → kind o ≡ wanted → F o) → (M : Language B) (w r : List Lexeme) (y : B) → (one (the wanted) ⨾ (λ _. M)) w y → F (w ++ r)
by_kind F wanted fact M w r y held = fact (w ++ r) (opens_kind wanted M w r y held)

pub by_word : {B : Type 0} (F : List Lexeme → Type 0) (w : List ℕ) → ((o : List Lexeme) → begins (is_bare w) o ≡ true → F o) → (M : Language B) (u r : List Lexeme) (y : B) → (one (the_word w) ⨾ (λ _. M)) u y → F (u ++ r)
by_word F w fact M u r y held = fact (u ++ r) (opens_word w M u r y held)

pub by_kind_at : {B : Type 0} (F : List Lexeme → Type 0) (wanted : LexemeKind) → ((o : List Lexeme) → kind o ≡ wanted → F o) → (M : Language B) (o v : List Lexeme) (y : B) → (one (the wanted) ⨾ (λ _. M)) v y → F (v ++ o)
by_kind_at F wanted fact M o v y held = fact (v ++ o) (opens_kind wanted M v o y held)

pub by_word_at : {B : Type 0} (F : List Lexeme → Type 0) (w : List ℕ) → ((o : List Lexeme) → begins (is_bare w) o ≡ true → F o) → (M : Language B) (o v : List Lexeme) (y : B) → (one (the_word w) ⨾ (λ _. M)) v y → F (v ++ o)
by_word_at F w fact M o v y held = fact (v ++ o) (opens_word w M v o y held)

pub ends_at : (o : List Lexeme) (a : LexemeKind) → kind o ≡ a → binds a ≡ 0 → Ends o
ends_at o a h none = omega (arith, ap binds h, none)

pub no_name : (o : List Lexeme) → kind o ≢ k.Word → kind o ≢ k.Quoted → begins is_name o ≡ false
no_name [] a b = refl
no_name (t ∷ ts) a b = ap (λ z. z || is k.Quoted t) (unlike t.kind k.Word a) ∙ unlike t.kind k.Quoted b

-- ---- items

abbrev pub NoItem : List Lexeme → Type 0
NoItem o = Not k.On o × NoWord (codes "COMMENT") o

good_expectation : Good expectation grammar.expectation (Not k.On)
unfolding expectation
good_expectation =
    good_the k.Constraint refl _ _ (Not k.On) (good_name_then _ _ (Not k.On) (λ n. good_word (codes "EXPECT") _ _ (Not k.On) refl
    (good_bind (λ E. in_parens E) _ (λ X. grammar.in_parens X) _ Any (Not k.On) (good_in_parens (λ E. E) (λ X. X) Ends good_expr (λ o h. ends_at o k.RParen h refl) Any)
    (λ test. good_map (item.Expect n test) (λ E. violation) (λ X. grammar.violation) (Not k.On) good_violation) (λ X x o fits v y held. tt))))

abbrev Column : Language SqlItem
Column = grammar.name ⨾ (λ n. one type_of ⨾ (λ type. grammar.comment ⨾ (λ _. nothing (item.Column n type))))

good_column : Good column (λ X. Column) (NoWord (codes "COMMENT"))
unfolding column same_kind
good_column =
    good_name_then _ _ (NoWord (codes "COMMENT")) (λ n. good_value type_of (word_token (codes "INT")) type.Int _ _ (NoWord (codes "COMMENT")) refl refl
    (λ type. good_map (λ _. item.Column n type) (λ E. comment) (λ X. grammar.comment) (NoWord (codes "COMMENT")) good_comment))

good_item : Good item_of grammar.item_of NoItem
unfolding item_of
good_item =
    good_choose (is k.Constraint) expectation column grammar.expectation (λ X. Column) (Not k.On) (NoWord (codes "COMMENT")) NoItem good_expectation good_column
    (λ X. starts_kind k.Constraint _) (λ X. name_not_kind k.Constraint (λ h. cc) (λ h. cc) _ NoItem) (λ o h. h.0) (λ o h. h.1)

item_ends : (o : List Lexeme) (a : LexemeKind) → kind o ≡ a → a ≢ k.On → a ≢ k.Word → NoItem o
item_ends o a h no_on no_bare = (λ same. no_on (sym h ∙ same), no_word (codes "COMMENT") o (λ same. no_bare (sym h ∙ same)))

good_item_list : Good item_list (λ X. language.separated k.Comma (grammar.item_of X)) (After k.Comma NoItem)
unfolding item_list same_kind
good_item_list = good_separated k.Comma item_of grammar.item_of NoItem good_item refl (λ o h. item_ends o k.Comma h (λ h. cc) (λ h. cc))

pub good_items : Good items grammar.items (Not k.LParen)
unfolding items
good_items =
    good_choose (is k.LParen) _ _ _ _ Any Any (Not k.LParen)
    (good_in_parens item_list (λ X. language.separated k.Comma (grammar.item_of X)) (After k.Comma NoItem) good_item_list (λ o h. (item_ends o k.RParen h (λ h. cc) (λ h. cc), λ same. cc)) Any) (good_pure [] Any)
    (λ X. starts_kind k.LParen _) (λ X. nothing_then (is k.LParen) [] (Not k.LParen) (not_kind k.LParen)) (λ o h. tt) (λ o h. tt)

-- ---- queries

abbrev pub NoOut : List Lexeme → Type 0
NoOut o = Not k.Except o × NoAlias o × Ends o

name_ends : {B : Type 0} (M : List ℕ → Language B) (w r : List Lexeme) (x : B) → (one name_of ⨾ M) w x → Ends (w ++ r)
name_ends M w r x h = by_test (is k.Word h.4.0) (is k.Quoted h.4.0) refl refl
  where
    at : kind (w ++ r) ≡ h.4.0.kind
    at = ap (λ z. kind (z ++ r)) (h.3 ∙ ap (λ z. z ++ h.1) h.4.1)

    by_test : (a b : Bool) → is k.Word h.4.0 ≡ a → is k.Quoted h.4.0 ≡ b → Ends (w ++ r)
    by_test true b e f = ends_at (w ++ r) k.Word (at ∙ kinds_alike h.4.0.kind k.Word e) refl
    by_test false true e f = ends_at (w ++ r) k.Quoted (at ∙ kinds_alike h.4.0.kind k.Quoted f) refl
    by_test false false e f =
        let none : name_of h.4.0 ≡ None = ap (λ b. if_so (b || is k.Quoted h.4.0) h.4.0.text) e ∙ ap (λ b. if_so b h.4.0.text) f in
        let some_one = h.4.2 in
        absurd (cc)

alias_ends : (w o : List Lexeme) (x : Option (List ℕ)) → grammar.alias w x → Ends o → Ends (w ++ o)
alias_ends w o x held last =
    ⊎_elim (λ as_name. ends_at (w ++ o) k.As (opens_kind k.As (grammar.name ⨾ (λ n. nothing (Some n))) w o x as_name) refl) (λ bare. ⊎_elim (λ name. name_ends (λ n. nothing (Some n)) w o x name) (λ none. subst (λ z. Ends (z ++ o)) (sym none.0) last) bare) held

starless : {B : Type 0} (X : Language SqlExpr) (M : SqlExpr → Language B) (H : List Lexeme → Type 0) → Proper X → (w o : List Lexeme) (x : B) → (X ⨾ M) w x → H o → begins (is k.Star) (w ++ o) ≡ false
starless X M H proper w o x held fits = not_kind k.Star (w ++ o) (λ same. (proper held.0 held.2 held.4).1 (sym (more held.0 (held.1 ++ o) (proper held.0 held.2 held.4).0) ∙ ap kind (sym (ap (λ z. z ++ o) held.3 ∙ append_assoc held.0 held.1 o)) ∙ same))
  where
    more : (w o : List Lexeme) → 0 < length w → kind (w ++ o) ≡ kind w
    more [] o h = absurd (omega arith)
    more (t ∷ w) o h = refl

good_out : Good out_of grammar.out_of NoOut
unfolding out_of
good_out =
    good_choose_by (is k.Star) _ _ _ _ (Not k.Except) (λ o. NoAlias o × Ends o) NoOut
    (good_the k.Star refl _ _ (Not k.Except) (good_map out.Star (λ E. except) (λ X. grammar.except) (Not k.Except) good_except))
    (good_bind (λ E. E) _ (λ X. X) _ Ends (λ o. NoAlias o × Ends o) good_expr
    (λ x. good_less _ _ NoAlias (λ o. NoAlias o × Ends o) (good_map (out.One x) (λ E. alias) (λ X. grammar.alias) NoAlias good_alias) (λ o h. h.0))
    (λ X x o fits v y held. subst (λ z. Ends (z ++ o)) (sym (held.3 ∙ ap (λ z. held.0 ++ z) held.5.0 ∙ append-nil held.0)) (alias_ends held.0 o held.2 held.4 fits.1)))
    (λ X. starts_kind k.Star _) (λ X. starless X _ NoOut) (λ o h. h.0) (λ o h. (h.1, h.2))

out_ends : (o : List Lexeme) (a : LexemeKind) → kind o ≡ a → a ≢ k.Except → a ≢ k.As → a ≢ k.Word → a ≢ k.Quoted → binds a ≡ 0 → NoOut o
out_ends o a h no_except no_as no_bare no_quoted low = (
  λ same. no_except (sym h ∙ same),
  (not_kind k.As o (λ same. no_as (sym h ∙ same)), no_name o (λ same. no_bare (sym h ∙ same)) (λ same. no_quoted (sym h ∙ same))),
  ends_at o a h low,
)

good_outs : Good outs (λ X. language.separated k.Comma (grammar.out_of X)) (After k.Comma NoOut)
unfolding outs same_kind
good_outs = good_separated k.Comma out_of grammar.out_of NoOut good_out refl (λ o h. out_ends o k.Comma h (λ h. cc) (λ h. cc) (λ h. cc) (λ h. cc) refl)

good_exprs : Good exprs (λ X. language.separated k.Comma X) (After k.Comma Ends)
unfolding exprs same_kind
good_exprs = good_separated k.Comma (λ E. E) (λ X. X) Ends good_expr refl (λ o h. ends_at o k.Comma h refl)

abbrev pub NoGroups : List Lexeme → Type 0
NoGroups o = Not k.Group o × After k.Comma Ends o

good_groups : Good groups grammar.groups NoGroups
unfolding groups
good_groups =
    good_choose (is k.Group) _ _ _ _ (After k.Comma Ends) Any NoGroups (good_the k.Group refl _ _ (After k.Comma Ends) (good_the k.By refl _ _ (After k.Comma Ends) good_exprs)) (good_pure [] Any)
    (λ X. starts_kind k.Group _) (λ X. nothing_then (is k.Group) [] NoGroups (λ o h. not_kind k.Group o h.0)) (λ o h. h.1) (λ o h. tt)

abbrev pub NoFilter : List Lexeme → Type 0
NoFilter o = Not k.Where o × Ends o

good_filter : Good filter_of (λ X. grammar.maybe (one (the k.Where) ⨾ (λ _. X))) NoFilter
unfolding filter_of
good_filter = good_maybe (is k.Where) _ _ Ends NoFilter (good_the k.Where refl _ _ Ends good_expr) (λ X. starts_kind k.Where _) (λ o h. not_kind k.Where o h.0) (λ o h. h.1)

-- what may follow a query
abbrev pub NoSelect : List Lexeme → Type 0
NoSelect o = Not k.LParen o × NoFilter o × NoGroups o

pub good_select : Good select grammar.select NoSelect
unfolding select
good_select =
    good_the k.Select refl _ _ NoSelect
    (good_bind outs _ (λ X. language.separated k.Comma (grammar.out_of X)) _ (After k.Comma NoOut) NoSelect good_outs
    (λ found. good_the k.From refl _ _ NoSelect
    (good_bind (λ E. origin_of) _ (λ X. grammar.origin_of) _ (Not k.LParen) NoSelect good_origin
    (λ from. good_bind filter_of _ (λ X. grammar.maybe (one (the k.Where) ⨾ (λ _. X))) _ NoFilter NoSelect good_filter
    (λ filter. good_less _ _ NoGroups NoSelect (good_map (grammar.a_select found from filter) groups grammar.groups NoGroups good_groups) (λ o h. h.2))
    (λ X filter o fits. mapped_then NoFilter _ [] _ o (by_kind NoFilter k.Group (λ o h. (λ same. cc, ends_at o k.Group h refl)) _) fits.1))
    (λ X from o fits. maybe_then (Not k.LParen) _ _ o (by_kind (Not k.LParen) k.Where (λ o h same. cc) _) (λ filter. mapped_then (Not k.LParen) _ [] _ o (by_kind (Not k.LParen) k.Group (λ o h same. cc) _) fits.0))))
    (λ X found o fits. by_kind_at (After k.Comma NoOut) k.From (λ o h. (out_ends o k.From h (λ h. cc) (λ h. cc) (λ h. cc) (λ h. cc) refl, λ same. cc)) _ o))
