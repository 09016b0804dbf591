-- Change feeds, statements and pipelines: their readers are good.
use Rattle.std.proofs.Common.{◌≡◌, ◌≢◌, ℕ, true, false, List, [], ◌++◌, Option, Some, None, refl, sym, ap, ◌∙◌, subst, append-nil, append_assoc, ◌⊎◌, inl, inr, ⊎_elim}
use Rattle.std.specs.Prelude.{codes}
use Rattle.sql_tree.specs.declared.expr.SqlExpr.{SqlExpr}
use Rattle.sql_tree.specs.declared.expr.SqlType.TheVariants as type
use Rattle.sql_tree.specs.declared.statement.Statement.{Statement}
use Rattle.sql_tree.specs.declared.statement.Statement.TheVariants as statement
use Rattle.sql_tree.specs.declared.lexeme.LexemeKind.{LexemeKind}
use Rattle.sql_tree.specs.declared.lexeme.LexemeKind.TheVariants as k
use Rattle.sql_tree.specs.declared.lexeme.Lexeme.{Lexeme}
use Rattle.sql_tree.specs.Lexemes.{kind, is_bare}
use Rattle.sql_tree.specs.Print.{word as word_token}
use Rattle.std.specs.Str.{str_eq_ignore_ascii_case}
use Rattle.sql_phrases.specs.Tokens.{is, the, the_word}
use Rattle.sql_statements.specs.Languages.{Language, one, nothing, either, ◌>>=◌ as ◌⨾◌}
use Rattle.sql_statements.specs.Parsers.{begins}
use Rattle.sql_statements.specs.Grammar as grammar
use Rattle.sql_statements.specs.Descent.{in_parens, maybe, comment, origin_of, names, ignoring, sequence_of, columns_of, scd, track, items, select, truncation, truncation_part, first_condition, conditions, cdc, query_part, table, view, dataset, insert, feed_words, feed, flow_of, created, apply, statement_of}
use Rattle.sql_statements.proofs.Good.{Any, Good, good_bind, good_pure, good_as, good_token, good_choose}
use Rattle.sql_statements.proofs.Window.{Ends, good_expr}
use Rattle.sql_statements.proofs.Firsts.{if_so_true, the_kind, opens_word, starts_kind, starts_word, not_kind, no_word, word_kind, word_self, other_word, opens_other, nothing_then}
use Rattle.sql_statements.proofs.Parts.{word_mark, good_the, good_word, good_map, good_less, good_maybe, good_name_then, good_names_in_parens, Not, NoWord, good_comment, good_origin, good_sequence, good_ignoring, NoColumns, good_columns, good_scd, NoTrack, good_track}
use Rattle.sql_statements.proofs.Queries.{either_then, front_of, maybe_then, mapped_then, by_kind, by_word, by_kind_at, by_word_at, ends_at, good_items, NoSelect, good_select}

-- ---- languages one after the other

pub inside : {A B : Type 0} (L : Language A) (M N : A → Language B) → ((x : A) (v : List Lexeme) (y : B) → M x v y → N x v y) → (w : List Lexeme) (y : B) → (L ⨾ M) w y → (L ⨾ N) w y
inside L M N f w y h = (h.0, h.1, h.2, h.3, h.4, f h.2 h.1 y h.5)

pub outside : {A B : Type 0} (L K : Language A) (M : A → Language B) → ((w : List Lexeme) (x : A) → L w x → K w x) → (w : List Lexeme) (y : B) → (L ⨾ M) w y → (K ⨾ M) w y
outside L K M f w y h = (h.0, h.1, h.2, h.3, f h.0 h.2 h.4, h.5)

pub left : {A B C : Type 0} (L : Language A) (M : A → Language B) (N : B → Language C) (w : List Lexeme) (z : C) → (L ⨾ (λ x. M x ⨾ N)) w z → ((L ⨾ M) ⨾ N) w z
left L M N w z h = (h.0 ++ h.5.0, h.5.1, h.5.2, h.3 ∙ ap (λ v. h.0 ++ v) h.5.3 ∙ sym (append_assoc h.0 h.5.0 h.5.1), (h.0, h.5.0, h.2, refl, h.4, h.5.4), h.5.5)

pub right : {A B C : Type 0} (L : Language A) (M : A → Language B) (N : B → Language C) (w : List Lexeme) (z : C) → ((L ⨾ M) ⨾ N) w z → (L ⨾ (λ x. M x ⨾ N)) w z
right L M N w z h = (h.4.0, h.4.1 ++ h.1, h.4.2, h.3 ∙ ap (λ v. v ++ h.1) h.4.3 ∙ append_assoc h.4.0 h.4.1 h.1, h.4.4, (h.4.1, h.1, h.2, refl, h.4.5, h.5))

-- nothing in front
pub after_nothing : {A B : Type 0} (a : A) (N : A → Language B) (w : List Lexeme) (z : B) → (nothing a ⨾ N) w z → N a w z
after_nothing a N w z h = subst (λ x. N x w z) (sym h.4.1) (subst (λ v. N h.2 v z) (sym (h.3 ∙ ap (λ v. v ++ h.1) h.4.0)) h.5)

pub before_nothing : {A B : Type 0} (a : A) (N : A → Language B) (w : List Lexeme) (z : B) → N a w z → (nothing a ⨾ N) w z
before_nothing a N w z h = ([], w, a, refl, (refl, refl), h)

-- ---- conditions

module _ (X : Language SqlExpr) where
  -- WHEN expr
  abbrev When : Language SqlExpr
  When = one (the k.When) ⨾ (λ _. X)

  abbrev Truncation : Language SqlExpr
  Truncation = one (the_word (codes "TRUNCATE")) ⨾ (λ _. When)

  -- APPLY AS ..
  abbrev Applied : {A : Type 0} → Language A → Language A
  Applied L = one (the_word (codes "APPLY")) ⨾ (λ _. one (the k.As) ⨾ (λ _. L))

  abbrev First : Language (Option SqlExpr × Option SqlExpr)
  First =
      either (one (the_word (codes "DELETE")) ⨾ (λ _. one (the k.When) ⨾ (λ _. X ⨾ (λ x. grammar.maybe (Applied Truncation) ⨾ (λ y. nothing (Some x, y))))))
      (Truncation ⨾ (λ y. nothing (None, Some y)))

  abbrev Conditions : Language (Option SqlExpr × Option SqlExpr)
  Conditions = either (Applied First) (nothing (None, None))

  abbrev Deletion : Language SqlExpr
  Deletion = one (the_word (codes "DELETE")) ⨾ (λ _. When)

  -- the second condition
  abbrev Second : Option SqlExpr → Language (Option SqlExpr × Option SqlExpr)
  Second delete = grammar.maybe (Applied Truncation) ⨾ (λ truncate. nothing (delete, truncate))

  -- APPLY AS and DELETE WHEN expr, and then the rest
  deletion_left : (w : List Lexeme) (z : Option SqlExpr × Option SqlExpr) → (one (the_word (codes "DELETE")) ⨾ (λ _. one (the k.When) ⨾ (λ _. X ⨾ (λ x. Second (Some x))))) w z → (Deletion ⨾ (λ x. Second (Some x))) w z
  deletion_left w z h = left (one (the_word (codes "DELETE"))) (λ _. When) (λ x. Second (Some x)) w z (inside (one (the_word (codes "DELETE"))) _ (λ _. When ⨾ (λ x. Second (Some x))) (λ u v y g. left (one (the k.When)) (λ _. X) (λ x. Second (Some x)) v y g) w z h)

  deletion_right : (w : List Lexeme) (z : Option SqlExpr × Option SqlExpr) → (Deletion ⨾ (λ x. Second (Some x))) w z → (one (the_word (codes "DELETE")) ⨾ (λ _. one (the k.When) ⨾ (λ _. X ⨾ (λ x. Second (Some x))))) w z
  deletion_right w z h = inside (one (the_word (codes "DELETE"))) (λ _. When ⨾ (λ x. Second (Some x))) _ (λ u v y g. right (one (the k.When)) (λ _. X) (λ x. Second (Some x)) v y g) w z (right (one (the_word (codes "DELETE"))) (λ _. When) (λ x. Second (Some x)) w z h)

  applied_left : {A B : Type 0} (L : Language A) (N : A → Language B) (w : List Lexeme) (z : B) → Applied (L ⨾ N) w z → (Applied L ⨾ N) w z
  applied_left L N w z h = left (one (the_word (codes "APPLY"))) (λ _. one (the k.As) ⨾ (λ _. L)) N w z (inside (one (the_word (codes "APPLY"))) _ (λ _. (one (the k.As) ⨾ (λ _. L)) ⨾ N) (λ u v y g. left (one (the k.As)) (λ _. L) N v y g) w z h)

  applied_right : {A B : Type 0} (L : Language A) (N : A → Language B) (w : List Lexeme) (z : B) → (Applied L ⨾ N) w z → Applied (L ⨾ N) w z
  applied_right L N w z h = inside (one (the_word (codes "APPLY"))) (λ _. (one (the k.As) ⨾ (λ _. L)) ⨾ N) _ (λ u v y g. right (one (the k.As)) (λ _. L) N v y g) w z (right (one (the_word (codes "APPLY"))) (λ _. one (the k.As) ⨾ (λ _. L)) N w z h)

  applied_inside : {A : Type 0} (L K : Language A) → ((w : List Lexeme) (x : A) → L w x → K w x) → (w : List Lexeme) (x : A) → Applied L w x → Applied K w x
  applied_inside L K f w x h = inside (one (the_word (codes "APPLY"))) _ (λ _. one (the k.As) ⨾ (λ _. K)) (λ u v y g. inside (one (the k.As)) _ (λ _. K) (λ u' v' y' g'. f v' y' g') v y g) w x h

  -- of an option that is there
  there : {A B : Type 0} (L : Language A) (N : Option A → Language B) (w : List Lexeme) (z : B) → (L ⨾ (λ x. N (Some x))) w z → (grammar.maybe L ⨾ N) w z
  there L N w z h = (h.0, h.1, Some h.2, h.3, inl (h.0, [], h.2, sym (append-nil h.0), h.4, (refl, refl)), h.5)

  not_there : {A B : Type 0} (L : Language A) (N : Option A → Language B) (w : List Lexeme) (z : B) → N None w z → (grammar.maybe L ⨾ N) w z
  not_there L N w z h = ([], w, None, refl, inr (refl, refl), h)

  by_option : {A B : Type 0} (C : Type 0) (L : Language A) (N : Option A → Language B) (w : List Lexeme) (z : B) → ((L ⨾ (λ x. N (Some x))) w z → C) → (N None w z → C) → (grammar.maybe L ⨾ N) w z → C
  by_option C L N w z some none h = ⊎_elim
      (λ g. some (h.0, h.1, g.2, h.3, subst (λ v. L v g.2) (sym (g.3 ∙ ap (λ v. g.0 ++ v) g.5.0 ∙ append-nil g.0)) g.4, subst (λ x. N x h.1 z) (sym g.5.1) h.5))
      (λ g. none (subst (λ x. N x w z) (sym g.1) (subst (λ v. N h.2 v z) (sym (h.3 ∙ ap (λ v. v ++ h.1) g.0)) h.5))) h.4

  conditions_to : (w : List Lexeme) (z : Option SqlExpr × Option SqlExpr) → Conditions w z → grammar.conditions X w z
  conditions_to w z (inl h) =
      by_first (inside (one (the_word (codes "APPLY"))) _ (λ _. one (the k.As) ⨾ (λ _. First)) (λ u v y g. g) w z h)
    where
      by_first : Applied First w z → grammar.conditions X w z
      by_first h = ⊎_elim
          (λ delete. there (Applied Deletion) Second w z (applied_left Deletion (λ x. Second (Some x)) w z (h.0, h.1, h.2, h.3, h.4, (h.5.0, h.5.1, h.5.2, h.5.3, h.5.4, deletion_left h.5.1 z delete))))
          (λ truncate. not_there (Applied Deletion) Second w z (there (Applied Truncation) (λ t. nothing (None, t)) w z (applied_left Truncation (λ y. nothing (None, Some y)) w z (h.0, h.1, h.2, h.3, h.4, (h.5.0, h.5.1, h.5.2, h.5.3, h.5.4, truncate))))) h.5.5
  conditions_to w z (inr h) = not_there (Applied Deletion) Second w z (not_there (Applied Truncation) (λ t. nothing (None, t)) w z h)

  conditions_from : (w : List Lexeme) (z : Option SqlExpr × Option SqlExpr) → grammar.conditions X w z → Conditions w z
  conditions_from w z h = by_option (Conditions w z) (Applied Deletion) Second w z
      (λ delete. inl (applied_inside (Deletion ⨾ (λ x. Second (Some x))) First (λ v y g. inl (deletion_right v y g)) w z (applied_right Deletion (λ x. Second (Some x)) w z delete)))
      (λ rest. by_option (Conditions w z) (Applied Truncation) (λ t. nothing (None, t)) w z
      (λ truncate. inl (applied_inside (Truncation ⨾ (λ y. nothing (None, Some y))) First (λ v y g. inr g) w z (applied_right Truncation (λ y. nothing (None, Some y)) w z truncate)))
      (λ none. inr none) rest) h

-- what may follow the conditions
abbrev pub NoCondition : List Lexeme → Type 0
NoCondition o = NoWord (codes "APPLY") o × Ends o

good_truncation : Good truncation (λ X. Truncation X) Ends
unfolding truncation
good_truncation = good_word (codes "TRUNCATE") _ _ Ends refl (good_the k.When refl _ _ Ends good_expr)

good_truncation_part : Good truncation_part (λ X. grammar.maybe (Applied X (Truncation X))) NoCondition
unfolding truncation_part
good_truncation_part =
    good_maybe (is_bare (codes "APPLY")) _ _ Ends NoCondition (good_word (codes "APPLY") _ _ Ends refl (good_the k.As refl _ _ Ends good_truncation)) (λ X. starts_word (codes "APPLY") _) (λ o h. h.0) (λ o h. h.1)

word_ends_it : (w : List ℕ) (o : List Lexeme) → begins (is_bare w) o ≡ true → Ends o
word_ends_it w o h = ends_at o k.Word (word_kind w o h) refl

good_first : Good first_condition (λ X. First X) NoCondition
unfolding first_condition
good_first =
    good_choose (is_bare (codes "DELETE")) _ _ _ _ NoCondition Ends NoCondition
    (good_word (codes "DELETE") _ _ NoCondition refl (good_the k.When refl _ _ NoCondition
    (good_bind (λ E. E) _ (λ X. X) _ Ends NoCondition good_expr
    (λ x. good_map (λ y. (Some x, y)) truncation_part (λ X. grammar.maybe (Applied X (Truncation X))) NoCondition good_truncation_part)
    (λ X x o fits. mapped_then Ends _ None _ o (front_of Ends _ _ (by_word Ends (codes "APPLY") (word_ends_it (codes "APPLY")) _)) fits.1))))
    (good_map (λ y. (None, Some y)) truncation (λ X. Truncation X) Ends good_truncation)
    (λ X. starts_word (codes "DELETE") _)
    (λ X w o x held fits. ap (λ z. begins (is_bare (codes "DELETE")) (z ++ o)) (held.3) ∙ ap (begins (is_bare (codes "DELETE"))) (append_assoc held.0 held.1 o) ∙ other_word (codes "TRUNCATE") (codes "DELETE") (held.0 ++ (held.1 ++ o)) refl (opens_word (codes "TRUNCATE") (When X) held.0 (held.1 ++ o) held.2 held.4))
    (λ o h. h) (λ o h. h.1)

pub good_conditions : Good conditions grammar.conditions NoCondition
unfolding conditions
good_conditions =
    good_as conditions conditions (λ X. Conditions X) grammar.conditions NoCondition NoCondition
    (good_choose (is_bare (codes "APPLY")) _ _ _ _ NoCondition Any NoCondition (good_word (codes "APPLY") _ _ NoCondition refl (good_the k.As refl _ _ NoCondition good_first)) (good_pure (None, None) Any)
    (λ X. starts_word (codes "APPLY") _) (λ X. nothing_then (is_bare (codes "APPLY")) (None, None) NoCondition (λ o h. h.0)) (λ o h. h) (λ o h. tt))
    (λ E i. refl) conditions_to conditions_from (λ o h. h)

conditions_then : {B : Type 0} (F : List Lexeme → Type 0) (X : Language SqlExpr) (M : Option SqlExpr × Option SqlExpr → Language B) (o : List Lexeme) → ((o : List Lexeme) → begins (is_bare (codes "APPLY")) o ≡ true → F o) →
    ((x : Option SqlExpr × Option SqlExpr) (v : List Lexeme) (y : B) → M x v y → F (v ++ o)) → (v : List Lexeme) (y : B) → (grammar.conditions X ⨾ M) v y → F (v ++ o)
conditions_then F X M o fact second v y held =
    either_then F (Applied X (First X)) (None, None) M o (by_word F (codes "APPLY") fact _) second v y (outside (grammar.conditions X) (Conditions X) M (conditions_from X) v y held)

-- ---- change feeds

abbrev pub NoCdc : List Lexeme → Type 0
NoCdc o = NoColumns o × NoWord (codes "STORED") o × NoTrack o

word_is_none : (v w : List ℕ) (o : List Lexeme) → str_eq_ignore_ascii_case v w ≡ false → begins (is_bare v) o ≡ true → NoWord w o
word_is_none v w o apart h = other_word v w o apart h

word_no_comma : (v : List ℕ) (o : List Lexeme) → begins (is_bare v) o ≡ true → Not k.Comma o
word_no_comma v o h same = let at = word_kind v o h in absurd (cc)

pub good_cdc : Good cdc grammar.cdc NoCdc
unfolding cdc
good_cdc =
    good_word (codes "INTO") _ _ NoCdc refl (good_name_then _ _ NoCdc (λ target. good_the k.From refl _ _ NoCdc
    (good_bind (λ E. origin_of) _ (λ X. grammar.origin_of) _ (Not k.LParen) NoCdc good_origin
    (λ from. good_word (codes "KEYS") _ _ NoCdc refl
    (good_bind (λ E. in_parens names) _ (λ X. grammar.in_parens grammar.names) _ Any NoCdc (good_names_in_parens Any)
    (λ keys. good_bind (λ E. ignoring) _ (λ X. grammar.ignoring) _ (NoWord (codes "IGNORE")) NoCdc good_ignoring
    (λ ignore_null. good_bind conditions _ grammar.conditions _ NoCondition NoCdc good_conditions
    (λ when. good_word (codes "SEQUENCE") _ _ NoCdc refl (good_the k.By refl _ _ NoCdc
    (good_bind (λ E. sequence_of) _ (λ X. grammar.sequence_of) _ Any NoCdc (good_sequence Any)
    (λ order. good_bind (λ E. columns_of) _ (λ X. grammar.columns_of) _ NoColumns NoCdc good_columns
    (λ columns. good_bind (λ E. scd) _ (λ X. grammar.scd) _ (NoWord (codes "STORED")) NoCdc good_scd
    (λ type. good_less _ _ NoTrack NoCdc (good_map (grammar.a_cdc target from keys ignore_null when.0 when.1 order columns type) (λ E. track) (λ X. grammar.track) NoTrack good_track) (λ o h. h.2))
    (λ X type o fits. mapped_then (NoWord (codes "STORED")) _ None _ o (front_of (NoWord (codes "STORED")) _ _ (by_word (NoWord (codes "STORED")) (codes "TRACK") (λ o h. word_is_none (codes "TRACK") (codes "STORED") o refl h) _)) fits.1))
    (λ X columns o fits. maybe_then NoColumns _ _ o (by_word NoColumns (codes "STORED") (λ o h. (word_is_none (codes "STORED") (codes "COLUMNS") o refl h, word_no_comma (codes "STORED") o h)) _)
    (λ type. mapped_then NoColumns _ None _ o (front_of NoColumns _ _ (by_word NoColumns (codes "TRACK") (λ o h. (word_is_none (codes "TRACK") (codes "COLUMNS") o refl h, word_no_comma (codes "TRACK") o h)) _)) fits.0)))
    (λ X order o fits v y held. tt))))
    (λ X when o fits. by_word_at NoCondition (codes "SEQUENCE") (λ o h. (word_is_none (codes "SEQUENCE") (codes "APPLY") o refl h, word_ends_it (codes "SEQUENCE") o h)) _ o))
    (λ X ignore_null o fits. conditions_then (NoWord (codes "IGNORE")) X _ o (λ o h. word_is_none (codes "APPLY") (codes "IGNORE") o refl h)
    (λ when. by_word_at (NoWord (codes "IGNORE")) (codes "SEQUENCE") (λ o h. word_is_none (codes "SEQUENCE") (codes "IGNORE") o refl h) _ o)))
    (λ X keys o fits v y held. tt)))
    (λ X from o fits. by_word_at (Not k.LParen) (codes "KEYS") (λ o h same. let at = word_kind (codes "KEYS") o h in absurd (cc)) _ o))))

-- ---- statements

abbrev pub NoQuery : List Lexeme → Type 0
NoQuery o = Not k.As o × NoSelect o

good_query_part : Good query_part (λ X. grammar.maybe (one (the k.As) ⨾ (λ _. grammar.select X))) NoQuery
unfolding query_part
good_query_part = good_maybe (is k.As) _ _ NoSelect NoQuery (good_the k.As refl _ _ NoSelect good_select) (λ X. starts_kind k.As _) (λ o h. not_kind k.As o h.0) (λ o h. h.1)

abbrev pub NoTable : List Lexeme → Type 0
NoTable o = NoWord (codes "COMMENT") o × NoQuery o

good_table : Good table grammar.table NoTable
unfolding table
good_table =
    good_word (codes "STREAMING") _ _ NoTable refl (good_word (codes "TABLE") _ _ NoTable refl (good_name_then _ _ NoTable
    (λ n. good_bind items _ grammar.items _ (Not k.LParen) NoTable good_items
    (λ declared. good_bind (λ E. comment) _ (λ X. grammar.comment) _ (NoWord (codes "COMMENT")) NoTable good_comment
    (λ _. good_less _ _ NoQuery NoTable (good_map (statement.Table n declared) query_part (λ X. grammar.maybe (one (the k.As) ⨾ (λ _. grammar.select X))) NoQuery good_query_part) (λ o h. h.1))
    (λ X _ o fits. mapped_then (NoWord (codes "COMMENT")) _ None _ o (front_of (NoWord (codes "COMMENT")) _ _ (by_kind (NoWord (codes "COMMENT")) k.As (λ o h. no_word (codes "COMMENT") o (λ same. cc)) _)) fits.0))
    (λ X declared o fits. either_then (Not k.LParen) _ tt _ o (by_word (Not k.LParen) (codes "COMMENT") (λ o h same. let at = word_kind (codes "COMMENT") o h in absurd (cc)) _)
    (λ _. mapped_then (Not k.LParen) _ None _ o (front_of (Not k.LParen) _ _ (by_kind (Not k.LParen) k.As (λ o h same. cc) _)) fits.1.1.0)))))

good_view : Good view grammar.view NoSelect
unfolding view
good_view =
    good_word (codes "MATERIALIZED") _ _ NoSelect refl (good_word (codes "VIEW") _ _ NoSelect refl (good_name_then _ _ NoSelect
    (λ n. good_bind items _ grammar.items _ (Not k.LParen) NoSelect good_items
    (λ declared. good_bind (λ E. comment) _ (λ X. grammar.comment) _ (NoWord (codes "COMMENT")) NoSelect good_comment
    (λ _. good_the k.As refl _ _ NoSelect (good_map (statement.View n declared) select grammar.select NoSelect good_select))
    (λ X _ o fits. by_kind_at (NoWord (codes "COMMENT")) k.As (λ o h. no_word (codes "COMMENT") o (λ same. cc)) _ o))
    (λ X declared o fits. either_then (Not k.LParen) _ tt _ o (by_word (Not k.LParen) (codes "COMMENT") (λ o h same. let at = word_kind (codes "COMMENT") o h in absurd (cc)) _)
    (λ _. by_kind_at (Not k.LParen) k.As (λ o h same. cc) _ o)))))

good_insert : (flow : List ℕ) → Good (λ E. insert E flow) (λ X. grammar.insert X flow) NoSelect
unfolding insert
good_insert flow =
    good_word (codes "INSERT") _ _ NoSelect refl (good_word (codes "INTO") _ _ NoSelect refl (good_name_then _ _ NoSelect
    (λ target. good_the k.By refl _ _ NoSelect (good_word (codes "NAME") _ _ NoSelect refl (good_map (statement.Insert flow target) select grammar.select NoSelect good_select)))))

abbrev Feed_words : Language (Unit {0})
Feed_words = either (one (the_word (codes "AUTO")) ⨾ (λ _. one (the_word (codes "CDC")))) (one (the_word (codes "APPLY")) ⨾ (λ _. one (the_word (codes "CHANGES"))))

good_feed_words : Good feed_words (λ X. Feed_words) Any
unfolding feed_words
good_feed_words =
    good_choose (is_bare (codes "AUTO")) _ _ _ _ Any Any Any
    (good_word (codes "AUTO") _ _ Any refl (good_token (the_word (codes "CDC")) (word_token (codes "CDC")) tt (word_self (codes "CDC") refl) (word_mark (codes "CDC")) Any))
    (good_word (codes "APPLY") _ _ Any refl (good_token (the_word (codes "CHANGES")) (word_token (codes "CHANGES")) tt (word_self (codes "CHANGES") refl) (word_mark (codes "CHANGES")) Any))
    (λ X. starts_word (codes "AUTO") _) (λ X. opens_other (codes "APPLY") (codes "AUTO") refl _ Any) (λ o h. tt) (λ o h. tt)

good_feed : (flow : List ℕ) → Good (λ E. feed E flow) (λ X. grammar.feed X flow) NoCdc
unfolding feed
good_feed flow =
    good_bind feed_words _ (λ X. Feed_words) _ Any NoCdc good_feed_words (λ _. good_map (statement.Cdc flow) cdc grammar.cdc NoCdc good_cdc) (λ X _ o fits v y held. tt)

-- what may follow a statement
abbrev pub StatementEnds : List Lexeme → Type 0
StatementEnds o = (kind o ≡ k.End) ⊎ (kind o ≡ k.Semicolon)

ends_select : (o : List Lexeme) → StatementEnds o → NoSelect o
ends_select o (inl h) = (λ same. cc, (λ same. cc, ends_at o k.End h refl), (λ same. cc, (ends_at o k.End h refl, λ same. cc)))
ends_select o (inr h) = (λ same. cc, (λ same. cc, ends_at o k.Semicolon h refl), (λ same. cc, (ends_at o k.Semicolon h refl, λ same. cc)))

ends_word : (w : List ℕ) (o : List Lexeme) → StatementEnds o → NoWord w o
ends_word w o (inl h) = no_word w o (λ same. cc)
ends_word w o (inr h) = no_word w o (λ same. cc)

ends_not : (a : LexemeKind) (o : List Lexeme) → k.End ≢ a → k.Semicolon ≢ a → StatementEnds o → Not a o
ends_not a o no_end no_semicolon (inl h) same = no_end (sym h ∙ same)
ends_not a o no_end no_semicolon (inr h) same = no_semicolon (sym h ∙ same)

ends_cdc : (o : List Lexeme) → StatementEnds o → NoCdc o
ends_cdc o h =
    let no_comma = ends_not k.Comma o (λ h. cc) (λ h. cc) h in
    ((ends_word (codes "COLUMNS") o h, no_comma), ends_word (codes "STORED") o h, (ends_word (codes "TRACK") o h, no_comma))

ends_table : (o : List Lexeme) → StatementEnds o → NoTable o
ends_table o h = (ends_word (codes "COMMENT") o h, (ends_not k.As o (λ h. cc) (λ h. cc) h, ends_select o h))

good_flow : Good flow_of grammar.flow_of StatementEnds
unfolding flow_of
good_flow =
    good_word (codes "FLOW") _ _ StatementEnds refl (good_name_then _ _ StatementEnds (λ n. good_the k.As refl _ _ StatementEnds
    (good_choose (is_bare (codes "INSERT")) (λ E. insert E n) (λ E. feed E n) (λ X. grammar.insert X n) (λ X. grammar.feed X n) NoSelect NoCdc StatementEnds (good_insert n) (good_feed n)
    (λ X. starts_word (codes "INSERT") _)
    (λ X w o x held fits. ap (λ z. begins (is_bare (codes "INSERT")) (z ++ o)) held.3 ∙ ap (begins (is_bare (codes "INSERT"))) (append_assoc held.0 held.1 o) ∙ feed_no_insert held.0 (held.1 ++ o) held.2 held.4)
    ends_select ends_cdc)))
  where
    feed_no_insert : (w o : List Lexeme) (x : Unit {0}) → Feed_words w x → begins (is_bare (codes "INSERT")) (w ++ o) ≡ false
    feed_no_insert w o x (inl h) = opens_other (codes "AUTO") (codes "INSERT") refl (one (the_word (codes "CDC"))) Any w o x h tt
    feed_no_insert w o x (inr h) = opens_other (codes "APPLY") (codes "INSERT") refl (one (the_word (codes "CHANGES"))) Any w o x h tt

first_word : (v : List ℕ) (u r o w : List Lexeme) (x : Unit {0}) → w ≡ u ++ r → one (the_word v) u x → begins (is_bare v) (w ++ o) ≡ true
first_word v u r o w x split h = ap (λ z. begins (is_bare v) (z ++ o)) (split ∙ ap (λ z. z ++ r) h.1) ∙ if_so_true (is_bare v h.0) tt x h.2

abbrev Dataset : Language SqlExpr → Language Statement
Dataset X = either (grammar.table X) (grammar.view X)

good_dataset : Good dataset Dataset StatementEnds
unfolding dataset
good_dataset =
    good_choose (is_bare (codes "STREAMING")) table view grammar.table grammar.view NoTable NoSelect StatementEnds good_table good_view
    (λ X. starts_word (codes "STREAMING") _) (λ X. opens_other (codes "MATERIALIZED") (codes "STREAMING") refl _ StatementEnds) ends_table ends_select

abbrev Replaced : Language SqlExpr → Language Statement
Replaced X = one (the k.Or) ⨾ (λ _. one (the_word (codes "REFRESH")) ⨾ (λ _. Dataset X))

abbrev Created : Language SqlExpr → Language Statement
Created X = either (Replaced X) (either (grammar.flow_of X) (Dataset X))

bare_no_or : (v : List ℕ) (o : List Lexeme) → begins (is_bare v) o ≡ true → begins (is k.Or) o ≡ false
bare_no_or v o h = not_kind k.Or o (λ same. let at = word_kind v o h in absurd (cc))

-- what a dataset begins with
dataset_starts : (X : Language SqlExpr) (w o : List Lexeme) (x : Statement) → Dataset X w x → (begins (is_bare (codes "STREAMING")) (w ++ o) ≡ true) ⊎ (begins (is_bare (codes "MATERIALIZED")) (w ++ o) ≡ true)
dataset_starts X w o x (inl h) = inl (first_word (codes "STREAMING") h.0 h.1 o w h.2 h.3 h.4)
dataset_starts X w o x (inr h) = inr (first_word (codes "MATERIALIZED") h.0 h.1 o w h.2 h.3 h.4)

flow_starts : (X : Language SqlExpr) (w o : List Lexeme) (x : Statement) → grammar.flow_of X w x → begins (is_bare (codes "FLOW")) (w ++ o) ≡ true
flow_starts X w o x h = first_word (codes "FLOW") h.0 h.1 o w h.2 h.3 h.4

unreplaced_no_or : (X : Language SqlExpr) (w o : List Lexeme) (x : Statement) → either (grammar.flow_of X) (Dataset X) w x → StatementEnds o → begins (is k.Or) (w ++ o) ≡ false
unreplaced_no_or X w o x (inl h) fits = bare_no_or (codes "FLOW") (w ++ o) (flow_starts X w o x h)
unreplaced_no_or X w o x (inr h) fits = ⊎_elim (bare_no_or (codes "STREAMING") (w ++ o)) (bare_no_or (codes "MATERIALIZED") (w ++ o)) (dataset_starts X w o x h)

dataset_no_flow : (X : Language SqlExpr) (w o : List Lexeme) (x : Statement) → Dataset X w x → StatementEnds o → begins (is_bare (codes "FLOW")) (w ++ o) ≡ false
dataset_no_flow X w o x h fits = ⊎_elim (word_is_none (codes "STREAMING") (codes "FLOW") (w ++ o) refl) (word_is_none (codes "MATERIALIZED") (codes "FLOW") (w ++ o) refl) (dataset_starts X w o x h)

good_created : Good created Created StatementEnds
unfolding created
good_created =
    good_choose (is k.Or) _ _ Replaced (λ X. either (grammar.flow_of X) (Dataset X)) StatementEnds StatementEnds StatementEnds
    (good_the k.Or refl _ _ StatementEnds (good_word (codes "REFRESH") _ _ StatementEnds refl good_dataset))
    (good_choose (is_bare (codes "FLOW")) flow_of dataset grammar.flow_of Dataset StatementEnds StatementEnds StatementEnds good_flow good_dataset
    (λ X. starts_word (codes "FLOW") _) dataset_no_flow (λ o h. h) (λ o h. h))
    (λ X. starts_kind k.Or _) unreplaced_no_or (λ o h. h) (λ o h. h)

good_apply : Good apply grammar.apply StatementEnds
unfolding apply
good_apply =
    good_word (codes "APPLY") _ _ StatementEnds refl (good_word (codes "CHANGES") _ _ StatementEnds refl
    (good_less _ _ NoCdc StatementEnds (good_map (λ rest. statement.Cdc rest.target rest) cdc grammar.cdc NoCdc good_cdc) ends_cdc))

abbrev Statements : Language SqlExpr → Language Statement
Statements X = either (one (the k.Create) ⨾ (λ _. Created X)) (grammar.apply X)

-- [OR REFRESH]
abbrev Replacing : Language (Unit {0})
Replacing = either (one (the k.Or) ⨾ (λ _. one (the_word (codes "REFRESH")) ⨾ (λ _. nothing tt))) (nothing tt)

-- CREATE [OR REFRESH], and then the rest
created_left : (K : Language Statement) (w : List Lexeme) (x : Statement) → (one (the k.Create) ⨾ (λ _. either (one (the k.Or) ⨾ (λ _. one (the_word (codes "REFRESH")) ⨾ (λ _. K))) K)) w x → (grammar.create ⨾ (λ _. K)) w x
created_left K w x h = left (one (the k.Create)) (λ _. Replacing) (λ _. K) w x (inside (one (the k.Create)) _ (λ _. Replacing ⨾ (λ _. K)) (λ u v y g. ⊎_elim
    (λ replaced. outside (one (the k.Or) ⨾ (λ _. one (the_word (codes "REFRESH")) ⨾ (λ _. nothing tt))) Replacing (λ _. K) (λ w x h. inl h) v y
    (left (one (the k.Or)) (λ _. one (the_word (codes "REFRESH")) ⨾ (λ _. nothing tt)) (λ _. K) v y
    (inside (one (the k.Or)) _ (λ _. (one (the_word (codes "REFRESH")) ⨾ (λ _. nothing tt)) ⨾ (λ _. K)) (λ u v y g. left (one (the_word (codes "REFRESH"))) (λ _. nothing tt) (λ _. K) v y
    (inside (one (the_word (codes "REFRESH"))) _ (λ _. nothing tt ⨾ (λ _. K)) (λ u v y g. before_nothing tt (λ _. K) v y g) v y g)) v y replaced)))
    (λ bare. outside (nothing tt) Replacing (λ _. K) (λ w x h. inr h) v y (before_nothing tt (λ _. K) v y bare)) g) w x h)

created_right : (K : Language Statement) (w : List Lexeme) (x : Statement) → (grammar.create ⨾ (λ _. K)) w x → (one (the k.Create) ⨾ (λ _. either (one (the k.Or) ⨾ (λ _. one (the_word (codes "REFRESH")) ⨾ (λ _. K))) K)) w x
created_right K w x h = inside (one (the k.Create)) (λ _. Replacing ⨾ (λ _. K)) (λ _. either (one (the k.Or) ⨾ (λ _. one (the_word (codes "REFRESH")) ⨾ (λ _. K))) K) (λ u v y g. ⊎_elim
    (λ replaced. inl (inside (one (the k.Or)) (λ _. (one (the_word (codes "REFRESH")) ⨾ (λ _. nothing tt)) ⨾ (λ _. K)) (λ _. one (the_word (codes "REFRESH")) ⨾ (λ _. K))
    (λ u v y g. inside (one (the_word (codes "REFRESH"))) (λ _. nothing tt ⨾ (λ _. K)) (λ _. K) (λ u v y g. after_nothing tt (λ _. K) v y g) v y (right (one (the_word (codes "REFRESH"))) (λ _. nothing tt) (λ _. K) v y g)) v y
    (right (one (the k.Or)) (λ _. one (the_word (codes "REFRESH")) ⨾ (λ _. nothing tt)) (λ _. K) v y (g.0, g.1, g.2, g.3, replaced, g.5))))
    (λ bare. inr (after_nothing tt (λ _. K) v y (g.0, g.1, g.2, g.3, bare, g.5))) g.4) w x (right (one (the k.Create)) (λ _. Replacing) (λ _. K) w x h)

-- a created thing of one sort
created_as : (X : Language SqlExpr) (K : Language Statement) → ((w : List Lexeme) (x : Statement) → K w x → Dataset X w x) → (v : List Lexeme) (y : Statement) → either (one (the k.Or) ⨾ (λ _. one (the_word (codes "REFRESH")) ⨾ (λ _. K))) K v y → Created X v y
created_as X K f v y (inl g) = inl (inside (one (the k.Or)) _ (λ _. one (the_word (codes "REFRESH")) ⨾ (λ _. Dataset X)) (λ u v y g. inside (one (the_word (codes "REFRESH"))) _ (λ _. Dataset X) (λ u v y g. f v y g) v y g) v y g)
created_as X K f v y (inr g) = inr (inr (f v y g))

statement_from : (X : Language SqlExpr) (w : List Lexeme) (x : Statement) → grammar.statement_of X w x → Statements X w x
statement_from X w x (inl h) = inl (inside (one (the k.Create)) _ (λ _. Created X) (λ u v y g. created_as X (grammar.table X) (λ w x h. inl h) v y g) w x (created_right (grammar.table X) w x h))
statement_from X w x (inr (inl h)) = inl (inside (one (the k.Create)) _ (λ _. Created X) (λ u v y g. created_as X (grammar.view X) (λ w x h. inr h) v y g) w x (created_right (grammar.view X) w x h))
statement_from X w x (inr (inr (inl h))) = inl (inside (one (the k.Create)) _ (λ _. Created X) (λ u v y g. inr (inl g)) w x h)
statement_from X w x (inr (inr (inr h))) = inr h

-- behind CREATE
statement_created : (X : Language SqlExpr) (w : List Lexeme) (x : Statement) → (one (the k.Create) ⨾ (λ _. Created X)) w x → grammar.statement_of X w x
statement_created X w x h = by_sort h.5
  where
    with_front : (K : Language Statement) → either (one (the k.Or) ⨾ (λ _. one (the_word (codes "REFRESH")) ⨾ (λ _. K))) K h.1 x → (grammar.create ⨾ (λ _. K)) w x
    with_front K g = created_left K w x (h.0, h.1, h.2, h.3, h.4, g)

    by_dataset : Dataset X h.1 x → grammar.statement_of X w x
    by_dataset (inl g) = inl (with_front (grammar.table X) (inr g))
    by_dataset (inr g) = inr (inl (with_front (grammar.view X) (inr g)))

    by_replaced : Replaced X h.1 x → grammar.statement_of X w x
    by_replaced g = ⊎_elim
        (λ table. inl (with_front (grammar.table X) (inl (g.0, g.1, g.2, g.3, g.4, (g.5.0, g.5.1, g.5.2, g.5.3, g.5.4, table)))))
        (λ view. inr (inl (with_front (grammar.view X) (inl (g.0, g.1, g.2, g.3, g.4, (g.5.0, g.5.1, g.5.2, g.5.3, g.5.4, view)))))) g.5.5

    by_sort : Created X h.1 x → grammar.statement_of X w x
    by_sort (inl g) = by_replaced g
    by_sort (inr (inl g)) = inr (inr (inl (h.0, h.1, h.2, h.3, h.4, g)))
    by_sort (inr (inr g)) = by_dataset g

statement_to : (X : Language SqlExpr) (w : List Lexeme) (x : Statement) → Statements X w x → grammar.statement_of X w x
statement_to X w x (inl h) = statement_created X w x h
statement_to X w x (inr h) = inr (inr (inr h))

pub good_statement : Good statement_of grammar.statement_of StatementEnds
unfolding statement_of
good_statement =
    good_as statement_of statement_of Statements grammar.statement_of StatementEnds StatementEnds
    (good_choose (is k.Create) _ _ (λ X. one (the k.Create) ⨾ (λ _. Created X)) grammar.apply StatementEnds StatementEnds StatementEnds (good_the k.Create refl _ _ StatementEnds good_created) good_apply
    (λ X. starts_kind k.Create _) (λ X w o x h fits. not_kind k.Create (w ++ o) (λ same. let at = word_kind (codes "APPLY") (w ++ o) (first_word (codes "APPLY") h.0 h.1 o w h.2 h.3 h.4) in absurd (cc))) (λ o h. h) (λ o h. h))
    (λ E i. refl) statement_to statement_from (λ o h. h)

-- a statement begins with CREATE or a word
pub statement_starts : (X : Language SqlExpr) (w o : List Lexeme) (x : Statement) → grammar.statement_of X w x → kind (w ++ o) ≢ k.End
statement_starts X w o x h same = ⊎_elim
    (λ g. let at = ap (λ z. kind (z ++ o)) (g.3 ∙ ap (λ z. z ++ g.1) g.4.1) ∙ the_kind k.Create g.4.0 g.2 g.4.2 in absurd (cc))
    (λ g. let at = word_kind (codes "APPLY") (w ++ o) (first_word (codes "APPLY") g.0 g.1 o w g.2 g.3 g.4) in absurd (cc)) (statement_from X w x h)
