-- The parts of a statement that have no expressions: their readers are good.
use Rattle.std.proofs.Common.{◌≡◌, ◌≢◌, ℕ, Bool, true, false, cond, List, [], ◌∷◌, ◌++◌, length, Option, Some, None, refl, sym, ap, ◌∙◌, subst, append_assoc, ◌⊎◌, inl, inr, ⊎_elim}
use Rattle.std.specs.Prelude.{codes, ◌||◌}
use Rattle.std.specs.Str.{str_eq_ignore_ascii_case}
use Rattle.sql_tree.specs.declared.expr.SqlExpr.{SqlExpr}
use Rattle.sql_tree.specs.declared.statement.SqlAction.TheVariants as action
use Rattle.sql_tree.specs.declared.statement.SqlOrigin.{SqlOrigin}
use Rattle.sql_tree.specs.declared.statement.SqlOrigin.TheVariants as origin
use Rattle.sql_tree.specs.declared.statement.OptionValue.TheVariants as value
use Rattle.sql_tree.specs.declared.statement.SqlSequence.TheVariants as sequence
use Rattle.sql_tree.specs.declared.statement.SqlSome.TheVariants as some
use Rattle.sql_tree.specs.declared.lexeme.LexemeKind.{LexemeKind}
use Rattle.sql_tree.specs.declared.lexeme.LexemeKind.TheVariants as k
use Rattle.sql_tree.specs.declared.lexeme.Lexeme.{Lexeme}
use Rattle.sql_tree.specs.Lexemes.{kind, same_kind, is_bare, is_any_word}
use Rattle.sql_tree.specs.Print.{word as word_token, string as string_token, numeral}
use Rattle.sql_phrases.proofs.Terminals.{kinds_alike, alike, plain}
use Rattle.sql_phrases.specs.Tokens.{is, is_name, if_so, the, the_word, name_of, string_of, option_word_of, value_of, scd_of, read_files_of, other_name_of}
use Rattle.sql_statements.specs.Languages.{Language, one, nothing, either, followed, ◌>>=◌ as ◌⨾◌}
use Rattle.sql_statements.specs.Languages as language
use Rattle.sql_statements.specs.Parsers.{Parser, and_then, ◌>>=◌, pure, some_token, of_next, token, begins, choose, separated, rest_from}
use Rattle.sql_statements.specs.Grammar as grammar
use Rattle.sql_statements.specs.Descent.{in_parens, maybe, names, comment, option, options, files, files_or_table, source, streamed, origin_of, some_of, sequence_of, except, alias, reaction, violation, ignoring, columns_of, scd, track}
use Rattle.sql_statements.specs.Limits.{mark}
use Rattle.sql_statements.proofs.Marks.{is_end, the_mark}
use Rattle.sql_statements.proofs.Good.{Over, Any, Good, good_bind, good_pure, good_as, good_token, good_choose}
use Rattle.sql_statements.proofs.Lists.{Rest, After, good_rest, good_separated}
use Rattle.sql_statements.proofs.Firsts.{if_so_true, the_self, word_self, bare_kind, opens_kind, starts_kind, starts_word, not_kind, word_kind, opens_other, maybe_start}

-- ---- helpers

pub good_the : {B : Type 0} (wanted : LexemeKind) → is_end wanted ≡ false → (Q : Parser SqlExpr → Parser B) (M : Over B) (G : List Lexeme → Type 0) → Good Q M G →
    Good (λ E. token (the wanted) >>= (λ _. Q E)) (λ X. one (the wanted) ⨾ (λ _. M X)) G
good_the wanted other Q M G g =
    good_bind (λ E. token (the wanted)) (λ _. Q) (λ X. one (the wanted)) (λ _. M) Any G (good_token (the wanted) (plain wanted) tt (the_self wanted) (the_mark wanted other) Any) (λ _. g) (λ X x o fits v y held. tt)

pub word_mark : (w : List ℕ) → the_word w mark ≡ None
unfolding same_kind
word_mark w = refl

pub good_word : {B : Type 0} (w : List ℕ) (Q : Parser SqlExpr → Parser B) (M : Over B) (G : List Lexeme → Type 0) → str_eq_ignore_ascii_case w w ≡ true → Good Q M G →
    Good (λ E. token (the_word w) >>= (λ _. Q E)) (λ X. one (the_word w) ⨾ (λ _. M X)) G
good_word w Q M G h g =
    good_bind (λ E. token (the_word w)) (λ _. Q) (λ X. one (the_word w)) (λ _. M) Any G (good_token (the_word w) (word_token w) tt (word_self w h) (word_mark w) Any) (λ _. g) (λ X x o fits v y held. tt)

pub good_value : {A B : Type 0} (f : Lexeme → Option A) (s : Lexeme) (a : A) (Q : A → Parser SqlExpr → Parser B) (M : A → Over B) (G : List Lexeme → Type 0) → f s ≡ Some a → f mark ≡ None → ((x : A) → Good (Q x) (M x) G) →
    Good (λ E. token f >>= (λ x. Q x E)) (λ X. one f ⨾ (λ x. M x X)) G
good_value f s a Q M G h never g = good_bind (λ E. token f) Q (λ X. one f) M Any G (good_token f s a h never Any) g (λ X x o fits v y held. tt)

-- what is read, behind a function
pub good_map : {A B : Type 0} (f : A → B) (P : Parser SqlExpr → Parser A) (L : Over A) (F : List Lexeme → Type 0) → Good P L F → Good (λ E. P E >>= (λ x. pure (f x))) (λ X. L X ⨾ (λ x. nothing (f x))) F
good_map f P L F g = good_bind P (λ x E. pure (f x)) L (λ x X. nothing (f x)) F F g (λ x. good_pure (f x) F) (λ X x o fits v y held. subst (λ z. F (z ++ o)) (sym held.0) fits)

-- where fewer tokens may follow
pub good_less : {A : Type 0} (P : Parser SqlExpr → Parser A) (L : Over A) (F G : List Lexeme → Type 0) → Good P L F → ((o : List Lexeme) → G o → F o) → Good P L G
good_less P L F G g less = good_as P P L L F G g (λ E i. refl) (λ X w x h. h) (λ X w x h. h) less

pub good_maybe : {A : Type 0} (test : Lexeme → Bool) (P : Parser SqlExpr → Parser A) (L : Over A) (F H : List Lexeme → Type 0) → Good P L F →
    ((X : Language SqlExpr) (w : List Lexeme) (x : A) → L X w x → begins test w ≡ true) → ((o : List Lexeme) → H o → begins test o ≡ false) → ((o : List Lexeme) → H o → F o) →
    Good (λ E. maybe test (P E)) (λ X. grammar.maybe (L X)) H
unfolding maybe
good_maybe test P L F H g starts others less =
    good_choose test (λ E. P E >>= (λ x. pure (Some x))) (λ E. pure None) (λ X. L X ⨾ (λ x. nothing (Some x))) (λ X. nothing None) F Any H (good_map Some P L F g) (good_pure None Any)
    (λ X. maybe_start test (L X) (starts X)) (λ X w o x held fits. ap (λ z. begins test (z ++ o)) held.0 ∙ others o fits) less (λ o fits. tt)

pub good_in_parens : {A : Type 0} (P : Parser SqlExpr → Parser A) (L : Over A) (F : List Lexeme → Type 0) → Good P L F → ((o : List Lexeme) → kind o ≡ k.RParen → F o) → (G : List Lexeme → Type 0) →
    Good (λ E. in_parens (P E)) (λ X. grammar.in_parens (L X)) G
unfolding in_parens
good_in_parens P L F g closes G =
    good_the k.LParen refl (λ E. P E >>= (λ x. token (the k.RParen) >>= (λ _. pure x))) (λ X. L X ⨾ (λ x. one (the k.RParen) ⨾ (λ _. nothing x))) G
    (good_bind P (λ x E. token (the k.RParen) >>= (λ _. pure x)) L (λ x X. one (the k.RParen) ⨾ (λ _. nothing x)) F G g
    (λ x. good_the k.RParen refl (λ E. pure x) (λ X. nothing x) G (good_pure x G)) (λ X x o fits v y held. closes (v ++ o) (opens_kind k.RParen (nothing x) v o y held)))

-- ---- names

sample_name : Lexeme
sample_name = word_token (codes "x")

pub good_name_then : {B : Type 0} (Q : List ℕ → Parser SqlExpr → Parser B) (M : List ℕ → Over B) (G : List Lexeme → Type 0) → ((x : List ℕ) → Good (Q x) (M x) G) →
    Good (λ E. token name_of >>= (λ x. Q x E)) (λ X. one name_of ⨾ (λ x. M x X)) G
unfolding same_kind
good_name_then Q M G g = good_value name_of (word_token (codes "x")) (codes "x") Q M G refl refl g

good_name : (F : List Lexeme → Type 0) → Good (λ E. token name_of) (λ X. one name_of) F
unfolding same_kind
good_name F = good_token name_of (word_token (codes "x")) (codes "x") refl refl F

pub good_string_then : {B : Type 0} (Q : List ℕ → Parser SqlExpr → Parser B) (M : List ℕ → Over B) (G : List Lexeme → Type 0) → ((x : List ℕ) → Good (Q x) (M x) G) →
    Good (λ E. token string_of >>= (λ x. Q x E)) (λ X. one string_of ⨾ (λ x. M x X)) G
unfolding same_kind
good_string_then Q M G g = good_value string_of (string_token []) [] Q M G refl refl g

-- no token of this kind follows
abbrev pub Not : LexemeKind → List Lexeme → Type 0
Not wanted o = kind o ≢ wanted

-- this word does not follow
abbrev pub NoWord : List ℕ → List Lexeme → Type 0
NoWord w o = begins (is_bare w) o ≡ false

pub good_names : Good (λ E. names) (λ X. grammar.names) (Not k.Comma)
unfolding names same_kind
good_names =
    good_less (λ E. separated k.Comma (token name_of)) (λ X. language.separated k.Comma (one name_of)) (After k.Comma Any) (Not k.Comma)
    (good_separated k.Comma (λ E. token name_of) (λ X. one name_of) Any (good_name Any) refl (λ o h. tt)) (λ o h. (tt, h))

pub good_names_in_parens : (G : List Lexeme → Type 0) → Good (λ E. in_parens names) (λ X. grammar.in_parens grammar.names) G
good_names_in_parens G = good_in_parens (λ E. names) (λ X. grammar.names) (Not k.Comma) good_names (λ o h same. cc) G

-- ---- COMMENT, and what an item has

pub good_comment : Good (λ E. comment) (λ X. grammar.comment) (NoWord (codes "COMMENT"))
unfolding comment
good_comment =
    good_choose (is_bare (codes "COMMENT")) _ _ _ _ Any Any (NoWord (codes "COMMENT"))
    (good_word (codes "COMMENT") _ _ Any refl (good_string_then _ _ Any (λ s. good_pure tt Any))) (good_pure tt Any)
    (λ X. starts_word (codes "COMMENT") _) (λ X w o x held fits. ap (λ z. begins (is_bare (codes "COMMENT")) (z ++ o)) held.0 ∙ fits) (λ o h. tt) (λ o h. tt)

good_reaction : (G : List Lexeme → Type 0) → Good (λ E. reaction) (λ X. either (one (the_word (codes "DROP")) ⨾ (λ _. one (the_word (codes "ROW")) ⨾ (λ _. nothing action.DropRow))) (one (the_word (codes "FAIL")) ⨾ (λ _. one (the_word (codes "UPDATE")) ⨾ (λ _. nothing action.FailUpdate)))) G
unfolding reaction
good_reaction G =
    good_choose (is_bare (codes "DROP")) _ _ _ _ G G G
    (good_word (codes "DROP") _ _ G refl (good_word (codes "ROW") _ _ G refl (good_pure action.DropRow G))) (good_word (codes "FAIL") _ _ G refl (good_word (codes "UPDATE") _ _ G refl (good_pure action.FailUpdate G)))
    (λ X. starts_word (codes "DROP") _) (λ X. opens_other (codes "FAIL") (codes "DROP") refl _ G) (λ o h. h) (λ o h. h)

pub good_violation : Good (λ E. violation) (λ X. grammar.violation) (Not k.On)
unfolding violation
good_violation =
    good_choose (is k.On) _ _ _ _ Any Any (Not k.On) (good_the k.On refl _ _ Any (good_word (codes "VIOLATION") _ _ Any refl (good_reaction Any))) (good_pure action.Warn Any)
    (λ X. starts_kind k.On _) (λ X w o x held fits. ap (λ z. begins (is k.On) (z ++ o)) held.0 ∙ not_kind k.On o fits) (λ o h. tt) (λ o h. tt)

-- ---- what a query reads

good_option : (G : List Lexeme → Type 0) → Good (λ E. option) (λ X. grammar.option) G
unfolding option same_kind is_any_word
good_option G =
    good_value option_word_of (word_token (codes "x")) (codes "x") _ _ G refl refl (λ w. good_the k.Arrow refl _ _ G (good_value value_of (string_token []) (value.Str []) _ _ G refl refl (λ v. good_pure (grammar.an_option w v) G)))

good_options : Good (λ E. options) (λ X. followed k.Comma grammar.option) (Not k.Comma)
unfolding options same_kind
good_options =
    good_as (λ E i. rest_from k.Comma option (length i) [] i) (λ E. options) (λ X. Rest k.Comma grammar.option []) (λ X. followed k.Comma grammar.option) (After k.Comma Any) (Not k.Comma)
    (good_rest k.Comma (λ E. option) (λ X. grammar.option) Any (good_option Any) refl (λ o h. tt) []) (λ E i. refl) (λ X w all h. subst (λ z. followed k.Comma grammar.option w z) h.2 h.1) (λ X w all h. (all, h, refl)) (λ o h. (tt, h))

good_files : (stream : Bool) → Good (λ E. files stream) (λ X. grammar.files stream) (Not k.Comma)
unfolding files
good_files stream =
    good_string_then _ _ (Not k.Comma) (λ path. good_map (origin.Files stream path) (λ E. options) (λ X. followed k.Comma grammar.option) (Not k.Comma) good_options)

abbrev Files_or_table : Bool → List ℕ → Language SqlOrigin
Files_or_table stream n = either (grammar.in_parens (grammar.files stream)) (nothing (origin.Table stream n))

good_files_or_table : (stream : Bool) (n : List ℕ) → Good (λ E. files_or_table stream n) (λ X. Files_or_table stream n) (Not k.LParen)
unfolding files_or_table
good_files_or_table stream n =
    good_choose (is k.LParen) _ _ _ _ Any Any (Not k.LParen) (good_in_parens (λ E. files stream) (λ X. grammar.files stream) (Not k.Comma) (good_files stream) (λ o h same. cc) Any) (good_pure (origin.Table stream n) Any)
    (λ X. starts_kind k.LParen _) (λ X w o x held fits. ap (λ z. begins (is k.LParen) (z ++ o)) held.0 ∙ not_kind k.LParen o fits) (λ o h. tt) (λ o h. tt)

-- a name by its first word
abbrev Source_by_word : Bool → Language SqlOrigin
Source_by_word stream = either (one read_files_of ⨾ (λ n. Files_or_table stream n)) (one other_name_of ⨾ (λ n. nothing (origin.Table stream n)))

name_of_files : (t : Lexeme) (n : List ℕ) → read_files_of t ≡ Some n → name_of t ≡ Some n
name_of_files t n h =
    let word : t.kind ≡ k.Word = bare_kind (codes "read_files") t (if_so_true (is_bare (codes "read_files") t) t.text n h) in
    let bare : is_bare (codes "read_files") t ≡ true = if_so_true (is_bare (codes "read_files") t) t.text n h in
    ap (λ b. if_so (b || is k.Quoted t) t.text) (alike t.kind k.Word word) ∙ sym (ap (λ b. if_so b t.text) bare) ∙ h

name_of_other : (t : Lexeme) (n : List ℕ) → other_name_of t ≡ Some n → name_of t ≡ Some n
name_of_other t n h = by_test (is_bare (codes "read_files") t) refl h
  where
    by_test : (b : Bool) → is_bare (codes "read_files") t ≡ b → other_name_of t ≡ Some n → name_of t ≡ Some n
    by_test true e h =
        let none : other_name_of t ≡ None = ap (λ b. cond b None (name_of t)) e in
        absurd (cc)
    by_test false e h = sym (ap (λ b. cond b None (name_of t)) e) ∙ h

split_name : (stream : Bool) (w : List Lexeme) (x : SqlOrigin) → (one name_of ⨾ (λ n. nothing (origin.Table stream n))) w x → Source_by_word stream w x
split_name stream w x held = by_test (is_bare (codes "read_files") held.4.0) refl
  where
    by_test : (b : Bool) → is_bare (codes "read_files") held.4.0 ≡ b → Source_by_word stream w x
    by_test true e =
        let t = held.4.0 in
        let word = bare_kind (codes "read_files") t e in
        let text : held.4.0.text ≡ held.2 = same_text (sym (ap (λ b. if_so (b || is k.Quoted t) t.text) (alike t.kind k.Word word)) ∙ held.4.2) in
        inl (held.0, held.1, held.2, held.3, (t, held.4.1, ap (λ b. if_so b t.text) e ∙ ap Some text), inr held.5)
      where
        same_text : {a b : List ℕ} → ◌≡◌ {A = Option (List ℕ)} (Some a) (Some b) → a ≡ b
        same_text {a} {b} h = cc
    by_test false e = inr (held.0, held.1, held.2, held.3, (held.4.0, held.4.1, ap (λ b. cond b None (name_of held.4.0)) e ∙ held.4.2), held.5)

joined_source : (stream : Bool) (w : List Lexeme) (x : SqlOrigin) → Source_by_word stream w x → grammar.source stream w x
joined_source stream w x (inl held) =
    ⊎_elim (λ files. inl (held.0, held.1, held.2, held.3, held.4, files)) (λ table. inr (held.0, held.1, held.2, held.3, (held.4.0, held.4.1, name_of_files held.4.0 held.2 held.4.2), table)) held.5
joined_source stream w x (inr held) = inr (held.0, held.1, held.2, held.3, (held.4.0, held.4.1, name_of_other held.4.0 held.2 held.4.2), held.5)

split_source : (stream : Bool) (w : List Lexeme) (x : SqlOrigin) → grammar.source stream w x → Source_by_word stream w x
split_source stream w x (inl held) = inl (held.0, held.1, held.2, held.3, held.4, inl held.5)
split_source stream w x (inr held) = split_name stream w x held

starts_files : {B : Type 0} (M : List ℕ → Language B) (w : List Lexeme) (x : B) → (one read_files_of ⨾ M) w x → begins (is_bare (codes "read_files")) w ≡ true
starts_files M w x h = ap (begins (is_bare (codes "read_files"))) (h.3 ∙ ap (λ z. z ++ h.1) h.4.1) ∙ if_so_true (is_bare (codes "read_files") h.4.0) h.4.0.text h.2 h.4.2

no_files : {B : Type 0} (M : List ℕ → Language B) (w o : List Lexeme) (x : B) → (one other_name_of ⨾ M) w x → begins (is_bare (codes "read_files")) (w ++ o) ≡ false
no_files M w o x h = ap (λ z. begins (is_bare (codes "read_files")) (z ++ o)) (h.3 ∙ ap (λ z. z ++ h.1) h.4.1) ∙ by_test (is_bare (codes "read_files") h.4.0) refl
  where
    by_test : (b : Bool) → is_bare (codes "read_files") h.4.0 ≡ b → is_bare (codes "read_files") h.4.0 ≡ false
    by_test true e =
        let none : other_name_of h.4.0 ≡ None = ap (λ b. cond b None (name_of h.4.0)) e in
        let some_one = h.4.2 in
        absurd (cc)
    by_test false e = e

-- the reader by the first word, whose two names are the one name
abbrev Source_reader : Bool → Parser SqlOrigin
Source_reader stream =
    choose (is_bare (codes "read_files")) (token read_files_of >>= (λ n. files_or_table stream n)) (token other_name_of >>= (λ table. pure (origin.Table stream table)))

next_files : (i : List Lexeme) → begins (is_bare (codes "read_files")) i ≡ true → of_next name_of i ≡ of_next read_files_of i
next_files [] h = absurd (cc)
next_files (t ∷ ts) h = ap (λ b. if_so (b || is k.Quoted t) t.text) (alike t.kind k.Word (bare_kind (codes "read_files") t h)) ∙ sym (ap (λ b. if_so b t.text) h)

next_other : (i : List Lexeme) → begins (is_bare (codes "read_files")) i ≡ false → of_next name_of i ≡ of_next other_name_of i
next_other [] h = refl
next_other (t ∷ ts) h = sym (ap (λ b. cond b None (name_of t)) h)

token_same : (f g : Lexeme → Option (List ℕ)) (i : List Lexeme) → of_next f i ≡ of_next g i → token f i ≡ token g i
unfolding token
token_same f g i h = ap (λ z. some_token z i) h

source_same : (stream : Bool) (i : List Lexeme) → source stream i ≡ Source_reader stream i
unfolding source
source_same stream i = by_test (begins (is_bare (codes "read_files")) i) refl
  where
    by_test : (b : Bool) → begins (is_bare (codes "read_files")) i ≡ b →
        cond b ((token name_of >>= (λ n. files_or_table stream n)) i) ((token name_of >>= (λ table. pure (origin.Table stream table))) i)
        ≡ cond b ((token read_files_of >>= (λ n. files_or_table stream n)) i) ((token other_name_of >>= (λ table. pure (origin.Table stream table))) i)
    by_test true h = ap (λ r. and_then r (λ n. files_or_table stream n)) (token_same name_of read_files_of i (next_files i h))
    by_test false h = ap (λ r. and_then r (λ table. pure (origin.Table stream table))) (token_same name_of other_name_of i (next_other i h))

good_source : (stream : Bool) → Good (λ E. source stream) (λ X. grammar.source stream) (Not k.LParen)
unfolding same_kind
good_source stream =
    good_as (λ E. Source_reader stream) (λ E. source stream) (λ X. Source_by_word stream) (λ X. grammar.source stream) (Not k.LParen) (Not k.LParen)
    (good_choose (is_bare (codes "read_files")) _ _ _ _ (Not k.LParen) Any (Not k.LParen)
    (good_value read_files_of (word_token (codes "read_files")) (codes "read_files") _ _ (Not k.LParen) refl refl (λ n. good_files_or_table stream n))
    (good_value other_name_of (word_token (codes "x")) (codes "x") _ _ Any refl refl (λ n. good_pure (origin.Table stream n) Any))
    (λ X. starts_files _) (λ X w o x held fits. no_files (λ n. nothing (origin.Table stream n)) w o x held) (λ o h. h) (λ o h. tt))
    (λ E i. source_same stream i) (λ X. joined_source stream) (λ X. split_source stream) (λ o h. h)

-- what begins with a name begins with a word or with backquotes
pub name_kind : {B : Type 0} (M : List ℕ → Language B) (w o : List Lexeme) (x : B) (other : LexemeKind) → (one name_of ⨾ M) w x → k.Word ≢ other → k.Quoted ≢ other → kind (w ++ o) ≢ other
name_kind M w o x other h no_bare no_quoted same = by_test (is k.Word h.4.0) (is k.Quoted h.4.0) refl refl
  where
    at : kind (w ++ o) ≡ h.4.0.kind
    at = ap (λ z. kind (z ++ o)) (h.3 ∙ ap (λ z. z ++ h.1) h.4.1)

    by_test : (a b : Bool) → is k.Word h.4.0 ≡ a → is k.Quoted h.4.0 ≡ b → ⊥
    by_test true b e f = no_bare (sym (kinds_alike h.4.0.kind k.Word e) ∙ sym at ∙ same)
    by_test false true e f = no_quoted (sym (kinds_alike h.4.0.kind k.Quoted f) ∙ sym at ∙ same)
    by_test false false e f =
        let none : name_of h.4.0 ≡ None = ap (λ b. if_so (b || is k.Quoted h.4.0) h.4.0.text) e ∙ ap (λ b. if_so b h.4.0.text) f in
        let some_one = h.4.2 in
        absurd (cc)

pub name_not_kind : {B : Type 0} (other : LexemeKind) → k.Word ≢ other → k.Quoted ≢ other → (M : List ℕ → Language B) (H : List Lexeme → Type 0) (w o : List Lexeme) (x : B) → (one name_of ⨾ M) w x → H o → begins (is other) (w ++ o) ≡ false
name_not_kind other no_bare no_quoted M H w o x held fits = not_kind other (w ++ o) (name_kind M w o x other held no_bare no_quoted)

source_kind : (stream : Bool) (w o : List Lexeme) (x : SqlOrigin) (other : LexemeKind) → grammar.source stream w x → k.Word ≢ other → k.Quoted ≢ other → kind (w ++ o) ≢ other
source_kind stream w o x other (inl h) no_bare no_quoted same =
    no_bare (sym (word_kind (codes "read_files") (w ++ o) (starts_more w o (starts_files (λ n. grammar.in_parens (grammar.files stream)) w x h))) ∙ same)
  where
    starts_more : (w o : List Lexeme) → begins (is_bare (codes "read_files")) w ≡ true → begins (is_bare (codes "read_files")) (w ++ o) ≡ true
    starts_more [] o h = absurd (cc)
    starts_more (t ∷ w) o h = h
source_kind stream w o x other (inr h) no_bare no_quoted same = name_kind (λ n. nothing (origin.Table stream n)) w o x other h no_bare no_quoted same

abbrev Streamed : Language SqlOrigin
Streamed = either (grammar.in_parens grammar.name ⨾ (λ table. nothing (origin.Table true table))) (grammar.source true)

-- what stands in parentheses begins with one
parens_start : {A B : Type 0} (L : Language A) (M : A → Language B) (w : List Lexeme) (x : B) → (grammar.in_parens L ⨾ M) w x → begins (is k.LParen) w ≡ true
parens_start L M w x h = ap (begins (is k.LParen)) h.3 ∙ more h.0 h.1 (starts_kind k.LParen (L ⨾ (λ x. one (the k.RParen) ⨾ (λ _. nothing x))) h.0 h.2 h.4)
  where
    more : (w o : List Lexeme) → begins (is k.LParen) w ≡ true → begins (is k.LParen) (w ++ o) ≡ true
    more [] o h = absurd (cc)
    more (t ∷ w) o h = h

good_streamed : Good (λ E. streamed) (λ X. Streamed) (Not k.LParen)
unfolding streamed
good_streamed =
    good_choose (is k.LParen) _ _ _ _ Any (Not k.LParen) (Not k.LParen)
    (good_map (origin.Table true) (λ E. in_parens (token name_of)) (λ X. grammar.in_parens grammar.name) Any (good_in_parens (λ E. token name_of) (λ X. grammar.name) Any (good_name Any) (λ o h. tt) Any)) (good_source true)
    (λ X. parens_start grammar.name _) (λ X w o x held fits. not_kind k.LParen (w ++ o) (source_kind true w o x k.LParen held (λ h. cc) (λ h. cc))) (λ o h. tt) (λ o h. h)

pub good_origin : Good (λ E. origin_of) (λ X. grammar.origin_of) (Not k.LParen)
unfolding origin_of
good_origin =
    good_choose (is k.Stream) _ _ _ _ (Not k.LParen) (Not k.LParen) (Not k.LParen) (good_the k.Stream refl _ _ (Not k.LParen) good_streamed) (good_source false)
    (λ X. starts_kind k.Stream _) (λ X w o x held fits. not_kind k.Stream (w ++ o) (source_kind false w o x k.Stream held (λ h. cc) (λ h. cc))) (λ o h. h) (λ o h. h)

-- ---- columns

names_kind : {B : Type 0} (M : List (List ℕ) → Language B) (w o : List Lexeme) (x : B) (other : LexemeKind) → (grammar.names ⨾ M) w x → k.Word ≢ other → k.Quoted ≢ other → kind (w ++ o) ≢ other
names_kind M w o x other h no_bare no_quoted same =
    name_kind (λ x. followed k.Comma grammar.name ⨾ (λ xs. nothing (x ∷ xs))) h.0 (h.1 ++ o) h.2 other h.4 no_bare no_quoted (ap kind (sym (append_assoc h.0 h.1 o)) ∙ sym (ap (λ z. kind (z ++ o)) h.3) ∙ same)

names_not_kind : {B : Type 0} (other : LexemeKind) → k.Word ≢ other → k.Quoted ≢ other → (M : List (List ℕ) → Language B) (H : List Lexeme → Type 0) (w o : List Lexeme) (x : B) → (grammar.names ⨾ M) w x → H o → begins (is other) (w ++ o) ≡ false
names_not_kind other no_bare no_quoted M H w o x held fits = not_kind other (w ++ o) (names_kind M w o x other held no_bare no_quoted)

good_some_parens : Good (λ E. choose (is k.LParen) (in_parens names >>= (λ columns. pure (some.Only columns))) (names >>= (λ columns. pure (some.Only columns))))
    (λ X. either (grammar.in_parens grammar.names ⨾ (λ columns. nothing (some.Only columns))) (grammar.names ⨾ (λ columns. nothing (some.Only columns)))) (Not k.Comma)
good_some_parens =
    good_choose (is k.LParen) _ _ _ _ Any (Not k.Comma) (Not k.Comma) (good_map some.Only (λ E. in_parens names) (λ X. grammar.in_parens grammar.names) Any (good_names_in_parens Any))
    (good_map some.Only (λ E. names) (λ X. grammar.names) (Not k.Comma) good_names)
    (λ X. parens_start grammar.names _) (λ X. names_not_kind k.LParen (λ h. cc) (λ h. cc) _ (Not k.Comma)) (λ o h. tt) (λ o h. h)

kind_of_begin : (wanted : LexemeKind) (w o : List Lexeme) → begins (is wanted) w ≡ true → kind (w ++ o) ≡ wanted
kind_of_begin wanted [] o h = absurd (cc)
kind_of_begin wanted (t ∷ w) o h = kinds_alike t.kind wanted h

pub good_some : Good (λ E. some_of) (λ X. grammar.some_of) (Not k.Comma)
unfolding some_of
good_some =
    good_choose (is k.Star) _ _ _ _ Any (Not k.Comma) (Not k.Comma)
    (good_the k.Star refl _ _ Any (good_the k.Except refl _ _ Any (good_map some.Except (λ E. in_parens names) (λ X. grammar.in_parens grammar.names) Any (good_names_in_parens Any)))) good_some_parens
    (λ X. starts_kind k.Star _)
    (λ X w o x held fits. not_kind k.Star (w ++ o) (λ same. ⊎_elim
    (λ parens. let at = kind_of_begin k.LParen w o (parens_start grammar.names (λ columns. nothing (some.Only columns)) w x parens) in absurd (cc))
    (λ bare. names_kind (λ columns. nothing (some.Only columns)) w o x k.Star bare (λ h. cc) (λ h. cc) same) held))
    (λ o h. tt) (λ o h. h)

pub good_sequence : (G : List Lexeme → Type 0) → Good (λ E. sequence_of) (λ X. grammar.sequence_of) G
unfolding sequence_of
good_sequence G =
    good_choose (is k.Struct) _ _ _ _ G G G (good_the k.Struct refl _ _ G (good_map sequence.Struct (λ E. in_parens names) (λ X. grammar.in_parens grammar.names) G (good_names_in_parens G)))
    (good_name_then _ _ G (λ column. good_pure (sequence.One column) G))
    (λ X. starts_kind k.Struct _) (λ X. name_not_kind k.Struct (λ h. cc) (λ h. cc) _ G) (λ o h. h) (λ o h. h)

pub good_except : Good (λ E. except) (λ X. grammar.except) (Not k.Except)
unfolding except
good_except =
    good_choose (is k.Except) _ _ _ _ Any Any (Not k.Except) (good_the k.Except refl _ _ Any (good_names_in_parens Any)) (good_pure [] Any)
    (λ X. starts_kind k.Except _) (λ X w o x held fits. ap (λ z. begins (is k.Except) (z ++ o)) held.0 ∙ not_kind k.Except o fits) (λ o h. tt) (λ o h. tt)

-- neither AS nor a name follows
abbrev pub NoAlias : List Lexeme → Type 0
NoAlias o = (begins (is k.As) o ≡ false) × (begins is_name o ≡ false)

name_start : {B : Type 0} (M : List ℕ → Language B) (w : List Lexeme) (x : B) → (one name_of ⨾ M) w x → begins is_name w ≡ true
name_start M w x h = ap (begins is_name) (h.3 ∙ ap (λ z. z ++ h.1) h.4.1) ∙ if_so_true (is_name h.4.0) h.4.0.text h.2 h.4.2

good_bare_alias : Good (λ E. choose is_name (token name_of >>= (λ n. pure (Some n))) (pure None)) (λ X. either (grammar.name ⨾ (λ n. nothing (Some n))) (nothing None)) NoAlias
good_bare_alias =
    good_choose is_name _ _ _ _ Any Any NoAlias (good_name_then _ _ Any (λ n. good_pure (Some n) Any)) (good_pure None Any)
    (λ X. name_start _) (λ X w o x held fits. ap (λ z. begins is_name (z ++ o)) held.0 ∙ fits.1) (λ o h. tt) (λ o h. tt)

pub good_alias : Good (λ E. alias) (λ X. grammar.alias) NoAlias
unfolding alias
good_alias =
    good_choose (is k.As) _ _ _ _ Any NoAlias NoAlias (good_the k.As refl _ _ Any (good_name_then _ _ Any (λ n. good_pure (Some n) Any))) good_bare_alias
    (λ X. starts_kind k.As _)
    (λ X w o x held fits. ⊎_elim (λ bare. not_kind k.As (w ++ o) (name_kind (λ n. nothing (Some n)) w o x k.As bare (λ h. cc) (λ h. cc))) (λ none. ap (λ z. begins (is k.As) (z ++ o)) none.0 ∙ fits.0) held)
    (λ o h. tt) (λ o h. h)

-- ---- clauses of a change feed

pub good_ignoring : Good (λ E. ignoring) (λ X. grammar.ignoring) (NoWord (codes "IGNORE"))
unfolding ignoring
good_ignoring =
    good_choose (is_bare (codes "IGNORE")) _ _ _ _ Any Any (NoWord (codes "IGNORE")) (good_word (codes "IGNORE") _ _ Any refl (good_the k.Null refl _ _ Any (good_word (codes "UPDATES") _ _ Any refl (good_pure true Any)))) (good_pure false Any)
    (λ X. starts_word (codes "IGNORE") _) (λ X w o x held fits. ap (λ z. begins (is_bare (codes "IGNORE")) (z ++ o)) held.0 ∙ fits) (λ o h. tt) (λ o h. tt)

abbrev pub NoColumns : List Lexeme → Type 0
NoColumns o = NoWord (codes "COLUMNS") o × Not k.Comma o

pub good_columns : Good (λ E. columns_of) (λ X. grammar.columns_of) NoColumns
unfolding columns_of
good_columns =
    good_maybe (is_bare (codes "COLUMNS")) _ _ (Not k.Comma) NoColumns (good_word (codes "COLUMNS") _ _ (Not k.Comma) refl good_some)
    (λ X. starts_word (codes "COLUMNS") _) (λ o h. h.0) (λ o h. h.1)

pub good_scd : Good (λ E. scd) (λ X. grammar.scd) (NoWord (codes "STORED"))
unfolding scd same_kind
good_scd =
    good_maybe (is_bare (codes "STORED")) _ _ Any (NoWord (codes "STORED"))
    (good_word (codes "STORED") _ _ Any refl (good_the k.As refl _ _ Any (good_word (codes "SCD") _ _ Any refl (good_word (codes "TYPE") _ _ Any refl (good_token scd_of (numeral 1) 1 refl refl Any)))))
    (λ X. starts_word (codes "STORED") _) (λ o h. h) (λ o h. tt)

abbrev pub NoTrack : List Lexeme → Type 0
NoTrack o = NoWord (codes "TRACK") o × Not k.Comma o

pub good_track : Good (λ E. track) (λ X. grammar.track) NoTrack
unfolding track
good_track =
    good_maybe (is_bare (codes "TRACK")) _ _ (Not k.Comma) NoTrack (good_word (codes "TRACK") _ _ (Not k.Comma) refl (good_word (codes "HISTORY") _ _ (Not k.Comma) refl (good_the k.On refl _ _ (Not k.Comma) good_some)))
    (λ X. starts_word (codes "TRACK") _) (λ o h. h.0) (λ o h. h.1)
