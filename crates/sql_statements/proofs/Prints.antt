-- What is printed is read again.
use Rattle.std.proofs.Common.{◌≡◌, ℕ, Bool, true, false, cond, if◌then◌else◌, List, [], ◌∷◌, ◌++◌, map, Option, Some, None, refl, sym, ap, ◌∙◌, subst, append_assoc, append-nil, ◌⊎◌, inl, inr, ⊎_elim}
use Rattle.std.specs.Prelude.{codes, ◌&&◌, ◌||◌, ◌==◌}
use Rattle.std.specs.List.{list_all}
use Rattle.std.specs.Str.{str_eq_ignore_ascii_case}
use Rattle.sql_tree.specs.declared.expr.SqlExpr.{SqlExpr}
use Rattle.sql_tree.specs.declared.expr.SqlType.{SqlType}
use Rattle.sql_tree.specs.declared.expr.SqlType.TheVariants as type
use Rattle.sql_tree.specs.declared.statement.Statement.{Statement}
use Rattle.sql_tree.specs.declared.statement.Statement.TheVariants as statement
use Rattle.sql_tree.specs.declared.statement.SqlAction.{SqlAction}
use Rattle.sql_tree.specs.declared.statement.SqlAction.TheVariants as action
use Rattle.sql_tree.specs.declared.statement.SqlItem.{SqlItem}
use Rattle.sql_tree.specs.declared.statement.SqlItem.TheVariants as item
use Rattle.sql_tree.specs.declared.statement.Select.{Select}
use Rattle.sql_tree.specs.declared.statement.Out.{Out}
use Rattle.sql_tree.specs.declared.statement.Out.TheVariants as out
use Rattle.sql_tree.specs.declared.statement.SqlOrigin.{SqlOrigin}
use Rattle.sql_tree.specs.declared.statement.SqlOrigin.TheVariants as origin
use Rattle.sql_tree.specs.declared.statement.OptionValue.{OptionValue}
use Rattle.sql_tree.specs.declared.statement.OptionValue.TheVariants as value
use Rattle.sql_tree.specs.declared.statement.SqlOption.{SqlOption}
use Rattle.sql_tree.specs.declared.statement.SqlSequence.{SqlSequence}
use Rattle.sql_tree.specs.declared.statement.SqlSequence.TheVariants as sequence
use Rattle.sql_tree.specs.declared.statement.SqlSome.{SqlSome}
use Rattle.sql_tree.specs.declared.statement.SqlSome.TheVariants as some
use Rattle.sql_tree.specs.declared.statement.CdcTree.{CdcTree}
use Rattle.sql_tree.specs.declared.lexeme.LexemeKind.{LexemeKind}
use Rattle.sql_tree.specs.declared.lexeme.LexemeKind.TheVariants as k
use Rattle.sql_tree.specs.declared.lexeme.Lexeme.{Lexeme}
use Rattle.sql_tree.specs.Lexemes.{kind, same_kind, type_of, word_kind, kind_among, reserved_kinds, keyword}
use Rattle.sql_tree.specs.Spelling.{is_bare_name}
use Rattle.sql_tree.specs.Print as print
use Rattle.sql_tree.specs.Print.{Print, token, word, numeral, string, name, option_word, type_word, in_parens, separated, names, one_name, if_some, expr_print, exprs_print}
use Rattle.sql_phrases.proofs.Terminals.{alike_self}
use Rattle.sql_expr.specs.Grammar.{IsExpr}
use Rattle.sql_expr.proofs.Printing.{print_reads}
use Rattle.sql_phrases.specs.Tokens.{is, is_worded, if_so, the, the_word, name_of, string_of, option_word_of, value_of, scd_of, read_files_of}
use Rattle.sql_statements.specs.Languages.{Language, one, nothing, either, followed, ◌>>=◌ as ◌⨾◌}
use Rattle.sql_statements.specs.Languages as language
use Rattle.sql_statements.specs.Grammar as grammar
use Rattle.sql_statements.specs.Pipelines.{IsPipeline}
use Rattle.sql_statements.proofs.Firsts.{word_self}
use Rattle.sql_statements.proofs.Answers.{one_pipeline}

-- ---- writing words of languages

-- in another way to write the tokens
written : {A : Type 0} (L : Language A) (v w : List Lexeme) (x : A) → v ≡ w → L v x → L w x
written L v w x e h = subst (λ z. L z x) e h

one_then : {A B : Type 0} (f : Lexeme → Option A) (t : Lexeme) (x : A) (M : A → Language B) (w : List Lexeme) (y : B) → f t ≡ Some x → M x w y → (one f ⨾ M) (t ∷ w) y
one_then f t x M w y e h = (t ∷ [], w, x, refl, (t, refl, e), h)

the_token : (wanted : LexemeKind) → the wanted (token wanted) ≡ Some tt
the_token wanted = ap (λ b. if_so b tt) (alike_self wanted)

the_then : {B : Type 0} (wanted : LexemeKind) (M : Language B) (w : List Lexeme) (y : B) → M w y → (one (the wanted) ⨾ (λ _. M)) (token wanted ∷ w) y
the_then wanted M w y h = one_then (the wanted) (token wanted) tt (λ _. M) w y (the_token wanted) h

word_then : {B : Type 0} (v : List ℕ) (M : Language B) (w : List Lexeme) (y : B) → str_eq_ignore_ascii_case v v ≡ true → M w y → (one (the_word v) ⨾ (λ _. M)) (word v ∷ w) y
word_then v M w y e h = one_then (the_word v) (word v) tt (λ _. M) w y (word_self v e) h

name_is : (n : List ℕ) → name_of (name n) ≡ Some n
unfolding same_kind
name_is n = by_test (is_bare_name n)
  where
    by_test : (b : Bool) → name_of (record { kind = cond b k.Word k.Quoted; text = n; value = 0 }) ≡ Some n
    by_test true = refl
    by_test false = refl

name_then : {B : Type 0} (n : List ℕ) (M : List ℕ → Language B) (w : List Lexeme) (y : B) → M n w y → (one name_of ⨾ M) (name n ∷ w) y
name_then n M w y h = one_then name_of (name n) n M w y (name_is n) h

string_is : (s : List ℕ) → string_of (string s) ≡ Some s
unfolding same_kind
string_is s = refl

parts : {A B : Type 0} (L : Language A) (M : A → Language B) (u v : List Lexeme) (x : A) (y : B) → L u x → M x v y → (L ⨾ M) (u ++ v) y
parts L M u v x y g h = (u, v, x, refl, g, h)

-- the last part, behind a function
whole : {A B : Type 0} (f : A → B) (L : Language A) (u : List Lexeme) (x : A) → L u x → (L ⨾ (λ x. nothing (f x))) u (f x)
whole f L u x g = (u, [], x, sym (append-nil u), g, (refl, refl))

parens : {A : Type 0} (L : Language A) (w : List Lexeme) (x : A) → L w x → grammar.in_parens L (in_parens w) x
parens L w x h = the_then k.LParen (L ⨾ (λ x. one (the k.RParen) ⨾ (λ _. nothing x))) (w ++ token k.RParen ∷ []) x
    (parts L (λ x. one (the k.RParen) ⨾ (λ _. nothing x)) w (token k.RParen ∷ []) x x h (the_then k.RParen (nothing x) [] x (refl, refl)))

-- ---- lists

abbrev behind : {A : Type 0} → (A → Print) → List A → Print
behind print [] = []
behind print (x ∷ xs) = token k.Comma ∷ (print x ++ behind print xs)

separated_front : {A : Type 0} (ts : Print) (print : A → Print) (xs : List A) → separated (ts ∷ map print xs) ≡ ts ++ behind print xs
separated_front ts print [] = sym (append-nil ts)
separated_front ts print (y ∷ ys) = ap (λ z. ts ++ token k.Comma ∷ z) (separated_front (print y) print ys)

separated_is : {A : Type 0} (print : A → Print) (x : A) (xs : List A) → separated (map print (x ∷ xs)) ≡ print x ++ behind print xs
separated_is print x xs = separated_front (print x) print xs

behind_reads : {A : Type 0} (L : Language A) (print : A → Print) → ((w : List Lexeme) (x : A) → L w x → L (print x) x) → (w : List Lexeme) (xs : List A) → followed k.Comma L w xs → followed k.Comma L (behind print xs) xs
behind_reads L print each w [] h = refl
behind_reads L print each w (x ∷ xs) h = (token k.Comma, print x, behind print xs, refl, refl, each h.1 x h.5, behind_reads L print each h.2 xs h.6)

list_reads : {A : Type 0} (L : Language A) (print : A → Print) → ((w : List Lexeme) (x : A) → L w x → L (print x) x) → (w : List Lexeme) (xs : List A) → language.separated k.Comma L w xs →
    language.separated k.Comma L (separated (map print xs)) xs
list_reads L print each w xs h =
    let x = h.2 in
    let rest = h.5.2 in
    let all : language.separated k.Comma L (separated (map print (x ∷ rest))) (x ∷ rest) =
    written (language.separated k.Comma L) (print x ++ behind print rest) (separated (map print (x ∷ rest))) (x ∷ rest) (sym (separated_is print x rest))
    (parts L (λ x. followed k.Comma L ⨾ (λ xs. nothing (x ∷ xs))) (print x) (behind print rest) x (x ∷ rest) (each h.0 x h.4) (whole (λ xs. x ∷ xs) (followed k.Comma L) (behind print rest) rest (behind_reads L print each h.5.0 rest h.5.4))) in
    subst (λ z. language.separated k.Comma L (separated (map print z)) z) h.5.5.1 all

one_name_reads : (w : List Lexeme) (n : List ℕ) → grammar.name w n → grammar.name (one_name n) n
one_name_reads w n h = (name n, refl, name_is n)

names_read : (w : List Lexeme) (ns : List (List ℕ)) → grammar.names w ns → grammar.names (separated (map one_name ns)) ns
names_read = list_reads grammar.name one_name one_name_reads

names_in_parens_read : (w : List Lexeme) (ns : List (List ℕ)) → grammar.in_parens grammar.names w ns → grammar.in_parens grammar.names (names ns) ns
names_in_parens_read w ns h = parens grammar.names (separated (map one_name ns)) ns (inner w ns h)
  where
    inner : (w : List Lexeme) (ns : List (List ℕ)) → grammar.in_parens grammar.names w ns → grammar.names (separated (map one_name ns)) ns
    inner w ns h = let list = h.5.5.5 in subst (λ z. grammar.names (separated (map one_name z)) z) list.1 (names_read h.5.0 h.5.2 h.5.4)

-- names in parentheses are one or more
some_names : (w : List Lexeme) (ns : List (List ℕ)) → grammar.in_parens grammar.names w ns → (n : List ℕ) × (rest : List (List ℕ)) × (ns ≡ n ∷ rest)
some_names w ns h = let list = h.5.4 in (list.2, list.5.2, sym h.5.5.5.1 ∙ sym list.5.5.1)

-- ---- what a query reads

worded_among : (kinds : List LexemeKind) → list_all is_worded kinds ≡ true → (w : List ℕ) → is_worded (kind_among kinds w) ≡ true
worded_among [] h w = refl
worded_among (kind ∷ kinds) h w = by_test (str_eq_ignore_ascii_case w (keyword kind)) (is_worded kind) refl h (λ f. worded_among kinds f w)
  where
    by_test : (a b : Bool) → is_worded kind ≡ b → (b && list_all is_worded kinds) ≡ true → (list_all is_worded kinds ≡ true → is_worded (kind_among kinds w) ≡ true) → is_worded (cond a kind (kind_among kinds w)) ≡ true
    by_test true true e f others = e
    by_test true false e f others = absurd (cc)
    by_test false true e f others = others f
    by_test false false e f others = absurd (cc)

pub option_word_is : (w : List ℕ) → option_word_of (option_word w) ≡ Some w
unfolding word_kind
option_word_is w = ap (λ b. if_so b w) (worded_among reserved_kinds refl w)

value_is : (v : OptionValue) → value_of (print.option_value v) ≡ Some v
unfolding same_kind
value_is (value.Str s) = refl
value_is (value.Bool true) = refl
value_is (value.Bool false) = refl

option_reads : (w : List Lexeme) (o : SqlOption) → grammar.option w o → grammar.option (print.option_print o) o
option_reads w o h = subst (λ z. grammar.option (print.option_print z) z) h.5.5.5.1
    (one_then option_word_of (option_word h.2) h.2 (λ w. one (the k.Arrow) ⨾ (λ _. one value_of ⨾ (λ v. nothing (grammar.an_option w v)))) _ _ (option_word_is h.2)
    (the_then k.Arrow (one value_of ⨾ (λ v. nothing (grammar.an_option h.2 v))) _ _
    (one_then value_of (print.option_value h.5.5.2) h.5.5.2 (λ v. nothing (grammar.an_option h.2 v)) [] _ (value_is h.5.5.2) (refl, refl))))

options_read : (w : List Lexeme) (os : List SqlOption) → followed k.Comma grammar.option w os → followed k.Comma grammar.option (behind print.option_print os) os
options_read = behind_reads grammar.option print.option_print option_reads

-- without STREAM
abbrev source_print : SqlOrigin → Print
source_print (origin.Table stream table) = name table ∷ []
source_print (origin.Files stream path options) = word (codes "read_files") ∷ in_parens (separated ((string path ∷ []) ∷ map print.option_print options))

abbrev Source : Bool → SqlOrigin → Type 0
Source stream x = grammar.source stream (source_print x) x × (print.origin_print x ≡ print.stream_if stream ++ source_print x)

files_reads : (stream : Bool) (w : List Lexeme) (x : SqlOrigin) → grammar.files stream w x → Source stream x
unfolding same_kind
files_reads stream w x f =
    let inner = separated ((string f.2 ∷ []) ∷ map print.option_print f.5.2) in
    subst (Source stream) f.5.5.1 (
      inl
          (one_then read_files_of (word (codes "read_files")) (codes "read_files") (λ _. grammar.in_parens (grammar.files stream)) (in_parens inner) (origin.Files stream f.2 f.5.2) refl
          (parens (grammar.files stream) inner (origin.Files stream f.2 f.5.2)
          (written (grammar.files stream) ((string f.2 ∷ []) ++ behind print.option_print f.5.2) inner (origin.Files stream f.2 f.5.2) (sym (separated_front (string f.2 ∷ []) print.option_print f.5.2))
          (one_then string_of (string f.2) f.2 (λ path. followed k.Comma grammar.option ⨾ (λ options. nothing (origin.Files stream path options))) (behind print.option_print f.5.2) (origin.Files stream f.2 f.5.2) (string_is f.2)
          (whole (origin.Files stream f.2) (followed k.Comma grammar.option) (behind print.option_print f.5.2) f.5.2 (options_read f.5.0 f.5.2 f.5.4)))))),
      refl,
    )

table_reads : (stream : Bool) (n : List ℕ) → Source stream (origin.Table stream n)
table_reads stream n = (inr (name_then n (λ table. nothing (origin.Table stream table)) [] (origin.Table stream n) (refl, refl)), refl)

source_reads : (stream : Bool) (w : List Lexeme) (x : SqlOrigin) → grammar.source stream w x → Source stream x
source_reads stream w x (inl h) = let inside = h.5.5 in subst (Source stream) inside.5.5.1 (files_reads stream inside.0 inside.2 inside.4)
source_reads stream w x (inr h) = subst (Source stream) h.5.1 (table_reads stream h.2)

streamed : (x : SqlOrigin) → Source true x → grammar.origin_of (print.origin_print x) x
streamed x s = written grammar.origin_of (token k.Stream ∷ source_print x) (print.origin_print x) x (sym s.1) (inl (the_then k.Stream (either (grammar.in_parens grammar.name ⨾ (λ table. nothing (origin.Table true table))) (grammar.source true)) (source_print x) x (inr s.0)))

origin_reads : (w : List Lexeme) (x : SqlOrigin) → grammar.origin_of w x → grammar.origin_of (print.origin_print x) x
origin_reads w x (inl h) = streamed x (⊎_elim (λ table. subst (Source true) table.5.1 (table_reads true table.2)) (source_reads true h.1 x) h.5)
origin_reads w x (inr h) = let s = source_reads false w x h in written grammar.origin_of (source_print x) (print.origin_print x) x (sym s.1) (inr s.0)

-- ---- columns

abbrev Only : Language SqlSome
Only = either (grammar.in_parens grammar.names ⨾ (λ columns. nothing (some.Only columns))) (grammar.names ⨾ (λ columns. nothing (some.Only columns)))

only_reads : (ns : List (List ℕ)) → grammar.in_parens grammar.names (names ns) ns → grammar.some_of (names ns) (some.Only ns)
only_reads ns h = inr (inl (whole some.Only (grammar.in_parens grammar.names) (names ns) ns h))

some_reads : (w : List Lexeme) (x : SqlSome) → grammar.some_of w x → grammar.some_of (print.some_print x) x
some_reads w x (inl h) =
    let columns = h.5.5 in
    subst (λ z. grammar.some_of (print.some_print z) z) columns.5.1
    (inl (the_then k.Star (one (the k.Except) ⨾ (λ _. grammar.in_parens grammar.names ⨾ (λ columns. nothing (some.Except columns)))) _ _
    (the_then k.Except (grammar.in_parens grammar.names ⨾ (λ columns. nothing (some.Except columns))) _ _ (whole some.Except (grammar.in_parens grammar.names) (names columns.2) columns.2 (names_in_parens_read columns.0 columns.2 columns.4)))))
some_reads w x (inr (inl h)) = subst (λ z. grammar.some_of (print.some_print z) z) h.5.1 (only_reads h.2 (names_in_parens_read h.0 h.2 h.4))
some_reads w x (inr (inr h)) = subst (λ z. grammar.some_of (print.some_print z) z) h.5.1 (only_reads h.2 (parens grammar.names (separated (map one_name h.2)) h.2 (names_read h.0 h.2 h.4)))

sequence_reads : (w : List Lexeme) (x : SqlSequence) → grammar.sequence_of w x → grammar.sequence_of (print.sequence_print x) x
sequence_reads w x (inl h) =
    subst (λ z. grammar.sequence_of (print.sequence_print z) z) h.5.5.1
    (inl (the_then k.Struct (grammar.in_parens grammar.names ⨾ (λ columns. nothing (sequence.Struct columns))) _ _ (whole sequence.Struct (grammar.in_parens grammar.names) (names h.5.2) h.5.2 (names_in_parens_read h.5.0 h.5.2 h.5.4))))
sequence_reads w x (inr h) = subst (λ z. grammar.sequence_of (print.sequence_print z) z) h.5.1 (inr (name_then h.2 (λ column. nothing (sequence.One column)) [] (sequence.One h.2) (refl, refl)))

except_reads : (w : List Lexeme) (ns : List (List ℕ)) → grammar.except w ns → grammar.except (print.except_print ns) ns
except_reads w ns (inl h) =
    let some_one = some_names h.1 ns h.5 in
    let read = names_in_parens_read h.1 ns h.5 in
    subst (λ z. grammar.except (print.except_print z) z) (sym some_one.2)
    (inl (the_then k.Except (grammar.in_parens grammar.names) (names (some_one.0 ∷ some_one.1)) (some_one.0 ∷ some_one.1) (subst (λ z. grammar.in_parens grammar.names (names z) z) some_one.2 read)))
except_reads w ns (inr h) = subst (λ z. grammar.except (print.except_print z) z) h.1 (inr (refl, refl))

abbrev alias_print : Option (List ℕ) → Print
alias_print = if_some (λ n. token k.As ∷ name n ∷ [])

alias_of : (n : List ℕ) → grammar.alias (alias_print (Some n)) (Some n)
alias_of n = inl (the_then k.As (grammar.name ⨾ (λ n. nothing (Some n))) (name n ∷ []) (Some n) (name_then n (λ n. nothing (Some n)) [] (Some n) (refl, refl)))

alias_reads : (w : List Lexeme) (x : Option (List ℕ)) → grammar.alias w x → grammar.alias (alias_print x) x
alias_reads w x (inl h) = subst (λ z. grammar.alias (alias_print z) z) h.5.5.1 (alias_of h.5.2)
alias_reads w x (inr (inl h)) = subst (λ z. grammar.alias (alias_print z) z) h.5.1 (alias_of h.2)
alias_reads w x (inr (inr h)) = subst (λ z. grammar.alias (alias_print z) z) h.1 (inr (inr (refl, refl)))

abbrev Dropping : Language SqlAction
Dropping = one (the_word (codes "DROP")) ⨾ (λ _. one (the_word (codes "ROW")) ⨾ (λ _. nothing action.DropRow))

abbrev Failing : Language SqlAction
Failing = one (the_word (codes "FAIL")) ⨾ (λ _. one (the_word (codes "UPDATE")) ⨾ (λ _. nothing action.FailUpdate))

abbrev Violation : Language SqlAction
Violation = one (the_word (codes "VIOLATION")) ⨾ (λ _. either Dropping Failing)

violation_reads : (w : List Lexeme) (x : SqlAction) → grammar.violation w x → grammar.violation (print.action_print x) x
violation_reads w x (inl h) = ⊎_elim
    (λ dropped. subst (λ z. grammar.violation (print.action_print z) z) dropped.5.5.1
    (inl (the_then k.On Violation _ action.DropRow (word_then (codes "VIOLATION") (either Dropping Failing) _ action.DropRow refl (inl (word_then (codes "DROP") (one (the_word (codes "ROW")) ⨾ (λ _. nothing action.DropRow)) _ action.DropRow refl (word_then (codes "ROW") (nothing action.DropRow) [] action.DropRow refl (refl, refl))))))))
    (λ failed. subst (λ z. grammar.violation (print.action_print z) z) failed.5.5.1
    (inl (the_then k.On Violation _ action.FailUpdate (word_then (codes "VIOLATION") (either Dropping Failing) _ action.FailUpdate refl (inr (word_then (codes "FAIL") (one (the_word (codes "UPDATE")) ⨾ (λ _. nothing action.FailUpdate)) _ action.FailUpdate refl (word_then (codes "UPDATE") (nothing action.FailUpdate) [] action.FailUpdate refl (refl, refl)))))))) h.5.5
violation_reads w x (inr h) = subst (λ z. grammar.violation (print.action_print z) z) h.1 (inr (refl, refl))

abbrev ignoring_print : Bool → Print
ignoring_print b = if b then word (codes "IGNORE") ∷ token k.Null ∷ word (codes "UPDATES") ∷ [] else []

ignoring_reads : (b : Bool) → grammar.ignoring (ignoring_print b) b
ignoring_reads true =
    inl (word_then (codes "IGNORE") (one (the k.Null) ⨾ (λ _. one (the_word (codes "UPDATES")) ⨾ (λ _. nothing true))) _ true refl (the_then k.Null (one (the_word (codes "UPDATES")) ⨾ (λ _. nothing true)) _ true (word_then (codes "UPDATES") (nothing true) [] true refl (refl, refl))))
ignoring_reads false = inr (refl, refl)

maybe_reads : {A : Type 0} (L : Language A) (print : A → Print) → ((w : List Lexeme) (x : A) → L w x → L (print x) x) → (w : List Lexeme) (x : Option A) → grammar.maybe L w x → grammar.maybe L (if_some print x) x
maybe_reads L print each w x (inl h) = subst (λ z. grammar.maybe L (if_some print z) z) h.5.1 (inl (whole Some L (print h.2) h.2 (each h.0 h.2 h.4)))
maybe_reads L print each w x (inr h) = subst (λ z. grammar.maybe L (if_some print z) z) h.1 (inr (refl, refl))

abbrev columns_print : SqlSome → Print
columns_print s = word (codes "COLUMNS") ∷ print.some_print s

columns_read : (w : List Lexeme) (x : Option SqlSome) → grammar.columns_of w x → grammar.columns_of (if_some columns_print x) x
columns_read = maybe_reads (one (the_word (codes "COLUMNS")) ⨾ (λ _. grammar.some_of)) columns_print (λ w x h. word_then (codes "COLUMNS") grammar.some_of (print.some_print x) x refl (some_reads h.1 x h.5))

abbrev scd_print : ℕ → Print
scd_print n = word (codes "STORED") ∷ token k.As ∷ word (codes "SCD") ∷ word (codes "TYPE") ∷ numeral n ∷ []

scd_is : (t : Lexeme) (n : ℕ) → scd_of t ≡ Some n → scd_of (numeral n) ≡ Some n
unfolding same_kind
scd_is t n h = by_test (is k.Number t) (t.value == 1 || t.value == 2) refl refl
  where
    same_number : {a b : ℕ} → ◌≡◌ {A = Option ℕ} (Some a) (Some b) → a ≡ b
    same_number {a} {b} h = cc

    by_test : (a b : Bool) → is k.Number t ≡ a → (t.value == 1 || t.value == 2) ≡ b → scd_of (numeral n) ≡ Some n
    by_test true true e f =
        let value : t.value ≡ n = same_number (sym (ap (λ a. if_so (a && (t.value == 1 || t.value == 2)) t.value) e ∙ ap (λ b. if_so b t.value) f) ∙ h) in
        ap (λ b. if_so b n) (ap (λ v. v == 1 || v == 2) (sym value) ∙ f)
    by_test true false e f =
        let none : scd_of t ≡ None = ap (λ a. if_so (a && (t.value == 1 || t.value == 2)) t.value) e ∙ ap (λ b. if_so b t.value) f in
        absurd (cc)
    by_test false b e f =
        let none : scd_of t ≡ None = ap (λ a. if_so (a && (t.value == 1 || t.value == 2)) t.value) e in
        absurd (cc)

scd_reads : (w : List Lexeme) (x : Option ℕ) → grammar.scd w x → grammar.scd (if_some scd_print x) x
scd_reads = maybe_reads (one (the_word (codes "STORED")) ⨾ (λ _. one (the k.As) ⨾ (λ _. one (the_word (codes "SCD")) ⨾ (λ _. one (the_word (codes "TYPE")) ⨾ (λ _. one scd_of))))) scd_print
    (λ w x h. word_then (codes "STORED") (one (the k.As) ⨾ (λ _. one (the_word (codes "SCD")) ⨾ (λ _. one (the_word (codes "TYPE")) ⨾ (λ _. one scd_of)))) _ x refl (the_then k.As (one (the_word (codes "SCD")) ⨾ (λ _. one (the_word (codes "TYPE")) ⨾ (λ _. one scd_of))) _ x
    (word_then (codes "SCD") (one (the_word (codes "TYPE")) ⨾ (λ _. one scd_of)) _ x refl (word_then (codes "TYPE") (one scd_of) (numeral x ∷ []) x refl (numeral x, refl, scd_is h.5.5.5.5.0 x h.5.5.5.5.2)))))

abbrev track_print : SqlSome → Print
track_print s = word (codes "TRACK") ∷ word (codes "HISTORY") ∷ token k.On ∷ print.some_print s

track_reads : (w : List Lexeme) (x : Option SqlSome) → grammar.track w x → grammar.track (if_some track_print x) x
track_reads = maybe_reads (one (the_word (codes "TRACK")) ⨾ (λ _. one (the_word (codes "HISTORY")) ⨾ (λ _. one (the k.On) ⨾ (λ _. grammar.some_of)))) track_print
    (λ w x h. word_then (codes "TRACK") (one (the_word (codes "HISTORY")) ⨾ (λ _. one (the k.On) ⨾ (λ _. grammar.some_of))) _ x refl
    (word_then (codes "HISTORY") (one (the k.On) ⨾ (λ _. grammar.some_of)) _ x refl (the_then k.On grammar.some_of (print.some_print x) x (some_reads h.5.5.1 x h.5.5.5))))

-- ---- items and queries

type_is : (t : SqlType) → type_of (type_word t) ≡ Some t
unfolding same_kind
type_is type.Bool = refl
type_is _ = refl

abbrev Behind_name : Language SqlItem
Behind_name = grammar.name ⨾ (λ n. one type_of ⨾ (λ type. grammar.comment ⨾ (λ _. nothing (item.Column n type))))

column_reads : (n : List ℕ) (t : SqlType) → Behind_name (print.item_print (item.Column n t)) (item.Column n t)
column_reads n t =
    name_then n (λ n. one type_of ⨾ (λ type. grammar.comment ⨾ (λ _. nothing (item.Column n type)))) (type_word t ∷ []) (item.Column n t)
    (one_then type_of (type_word t) t (λ type. grammar.comment ⨾ (λ _. nothing (item.Column n type))) [] (item.Column n t) (type_is t) (parts grammar.comment (λ _. nothing (item.Column n t)) [] [] tt (item.Column n t) (inr (refl, refl)) (refl, refl)))

expectation_reads : (w : List Lexeme) (x : SqlItem) → grammar.expectation IsExpr w x → grammar.expectation IsExpr (print.item_print x) x
expectation_reads w x h =
    let n = h.5.2 in
    let inside = h.5.5.5 in
    let test = inside.4.5 in
    let act = inside.5 in
    let tree = item.Expect n inside.2 act.2 in
    subst (λ z. grammar.expectation IsExpr (print.item_print z) z) act.5.1
    (the_then k.Constraint (grammar.name ⨾ (λ n. one (the_word (codes "EXPECT")) ⨾ (λ _. grammar.in_parens IsExpr ⨾ (λ test. grammar.violation ⨾ (λ act. nothing (item.Expect n test act)))))) _ tree
    (name_then n (λ n. one (the_word (codes "EXPECT")) ⨾ (λ _. grammar.in_parens IsExpr ⨾ (λ test. grammar.violation ⨾ (λ act. nothing (item.Expect n test act))))) _ tree
    (word_then (codes "EXPECT") (grammar.in_parens IsExpr ⨾ (λ test. grammar.violation ⨾ (λ act. nothing (item.Expect n test act)))) _ tree refl
    (parts (grammar.in_parens IsExpr) (λ test. grammar.violation ⨾ (λ act. nothing (item.Expect n test act))) (in_parens (expr_print inside.2)) (print.action_print act.2) inside.2 tree
    (parens IsExpr (expr_print inside.2) inside.2 (subst (λ z. IsExpr (expr_print z) z) test.5.5.1 (print_reads test.0 test.2 test.4)))
    (whole (item.Expect n inside.2) grammar.violation (print.action_print act.2) act.2 (violation_reads act.0 act.2 act.4))))))

item_reads : (w : List Lexeme) (x : SqlItem) → grammar.item_of IsExpr w x → grammar.item_of IsExpr (print.item_print x) x
item_reads w x (inl h) = inl (expectation_reads w x h)
item_reads w x (inr h) = subst (λ z. grammar.item_of IsExpr (print.item_print z) z) h.5.5.5.1 (inr (column_reads h.2 h.5.2))

items_read : (w : List Lexeme) (xs : List SqlItem) → grammar.items IsExpr w xs → grammar.items IsExpr (print.items_print xs) xs
items_read w xs (inl h) =
    let list = h.5.4 in
    let all = list_reads (grammar.item_of IsExpr) print.item_print item_reads h.5.0 h.5.2 list in
    let front : list.2 ∷ list.5.2 ≡ xs = list.5.5.1 ∙ h.5.5.5.1 in
    subst (λ z. grammar.items IsExpr (print.items_print z) z) front
    (inl (parens (language.separated k.Comma (grammar.item_of IsExpr)) (separated (map print.item_print (list.2 ∷ list.5.2))) (list.2 ∷ list.5.2) (subst (λ z. language.separated k.Comma (grammar.item_of IsExpr) (separated (map print.item_print z)) z) (sym list.5.5.1) all)))
items_read w xs (inr h) = subst (λ z. grammar.items IsExpr (print.items_print z) z) h.1 (inr (refl, refl))

out_reads : (w : List Lexeme) (x : Out) → grammar.out_of IsExpr w x → grammar.out_of IsExpr (print.out_print x) x
out_reads w x (inl h) =
    subst (λ z. grammar.out_of IsExpr (print.out_print z) z) h.5.5.1
    (inl (the_then k.Star (grammar.except ⨾ (λ columns. nothing (out.Star columns))) (print.except_print h.5.2) (out.Star h.5.2) (whole out.Star grammar.except (print.except_print h.5.2) h.5.2 (except_reads h.5.0 h.5.2 h.5.4))))
out_reads w x (inr h) =
    subst (λ z. grammar.out_of IsExpr (print.out_print z) z) h.5.5.1
    (inr (parts IsExpr (λ x. grammar.alias ⨾ (λ n. nothing (out.One x n))) (expr_print h.2) (alias_print h.5.2) h.2 (out.One h.2 h.5.2) (print_reads h.0 h.2 h.4) (whole (out.One h.2) grammar.alias (alias_print h.5.2) h.5.2 (alias_reads h.5.0 h.5.2 h.5.4))))

groups_read : (w : List Lexeme) (xs : List SqlExpr) → grammar.groups IsExpr w xs → grammar.groups IsExpr (print.group_print xs) xs
groups_read w xs (inl h) =
    let list = h.5.5 in
    let all = list_reads IsExpr expr_print print_reads h.5.1 xs list in
    subst (λ z. grammar.groups IsExpr (print.group_print z) z) list.5.5.1
    (inl (the_then k.Group (one (the k.By) ⨾ (λ _. language.separated k.Comma IsExpr)) _ (list.2 ∷ list.5.2)
    (the_then k.By (language.separated k.Comma IsExpr) (exprs_print (list.2 ∷ list.5.2)) (list.2 ∷ list.5.2) (subst (λ z. language.separated k.Comma IsExpr (separated (map expr_print z)) z) (sym list.5.5.1) all))))
groups_read w xs (inr h) = subst (λ z. grammar.groups IsExpr (print.group_print z) z) h.1 (inr (refl, refl))

abbrev filter_print : SqlExpr → Print
filter_print x = token k.Where ∷ expr_print x

filter_reads : (w : List Lexeme) (x : Option SqlExpr) → grammar.maybe (one (the k.Where) ⨾ (λ _. IsExpr)) w x → grammar.maybe (one (the k.Where) ⨾ (λ _. IsExpr)) (if_some filter_print x) x
filter_reads = maybe_reads (one (the k.Where) ⨾ (λ _. IsExpr)) filter_print (λ w x h. the_then k.Where IsExpr (expr_print x) x (print_reads h.1 x h.5))

select_reads : (w : List Lexeme) (x : Select) → grammar.select IsExpr w x → grammar.select IsExpr (print.select_print x) x
select_reads w x h =
    let outs = h.5 in
    let from = outs.5.5 in
    let filter = from.5 in
    let groups = filter.5 in
    let tree = grammar.a_select outs.2 from.2 filter.2 groups.2 in
    let shown = token k.Select ∷ (separated (map print.out_print outs.2) ++ (token k.From ∷ (print.origin_print from.2 ++ (if_some filter_print filter.2 ++ print.group_print groups.2)))) in
    let same : shown ≡ print.select_print tree = simp append_assoc in
    subst (λ z. grammar.select IsExpr (print.select_print z) z) groups.5.1
    (written (grammar.select IsExpr) shown (print.select_print tree) tree same
    (the_then k.Select (language.separated k.Comma (grammar.out_of IsExpr) ⨾ (λ outs. one (the k.From) ⨾ (λ _. grammar.origin_of ⨾ (λ from. grammar.maybe (one (the k.Where) ⨾ (λ _. IsExpr)) ⨾ (λ filter. grammar.groups IsExpr ⨾ (λ by. nothing (grammar.a_select outs from filter by))))))) _ tree
    (parts (language.separated k.Comma (grammar.out_of IsExpr)) (λ outs. one (the k.From) ⨾ (λ _. grammar.origin_of ⨾ (λ from. grammar.maybe (one (the k.Where) ⨾ (λ _. IsExpr)) ⨾ (λ filter. grammar.groups IsExpr ⨾ (λ by. nothing (grammar.a_select outs from filter by)))))) (separated (map print.out_print outs.2)) _ outs.2 tree
    (list_reads (grammar.out_of IsExpr) print.out_print out_reads outs.0 outs.2 outs.4)
    (the_then k.From (grammar.origin_of ⨾ (λ from. grammar.maybe (one (the k.Where) ⨾ (λ _. IsExpr)) ⨾ (λ filter. grammar.groups IsExpr ⨾ (λ by. nothing (grammar.a_select outs.2 from filter by))))) _ tree
    (parts grammar.origin_of (λ from. grammar.maybe (one (the k.Where) ⨾ (λ _. IsExpr)) ⨾ (λ filter. grammar.groups IsExpr ⨾ (λ by. nothing (grammar.a_select outs.2 from filter by)))) (print.origin_print from.2) _ from.2 tree (origin_reads from.0 from.2 from.4)
    (parts (grammar.maybe (one (the k.Where) ⨾ (λ _. IsExpr))) (λ filter. grammar.groups IsExpr ⨾ (λ by. nothing (grammar.a_select outs.2 from.2 filter by))) (if_some filter_print filter.2) (print.group_print groups.2) filter.2 tree (filter_reads filter.0 filter.2 filter.4)
    (whole (grammar.a_select outs.2 from.2 filter.2) (grammar.groups IsExpr) (print.group_print groups.2) groups.2 (groups_read groups.0 groups.2 groups.4))))))))

-- ---- change feeds

abbrev applied_print : List ℕ → SqlExpr → Print
applied_print what x = word (codes "APPLY") ∷ token k.As ∷ word what ∷ token k.When ∷ expr_print x

applied_reads : (what : List ℕ) → str_eq_ignore_ascii_case what what ≡ true → (w : List Lexeme) (x : Option SqlExpr) → grammar.applied IsExpr what w x → grammar.applied IsExpr what (if_some (applied_print what) x) x
applied_reads what same = maybe_reads (one (the_word (codes "APPLY")) ⨾ (λ _. one (the k.As) ⨾ (λ _. one (the_word what) ⨾ (λ _. one (the k.When) ⨾ (λ _. IsExpr))))) (applied_print what)
    (λ w x h. word_then (codes "APPLY") (one (the k.As) ⨾ (λ _. one (the_word what) ⨾ (λ _. one (the k.When) ⨾ (λ _. IsExpr)))) _ x refl (the_then k.As (one (the_word what) ⨾ (λ _. one (the k.When) ⨾ (λ _. IsExpr))) _ x
    (word_then what (one (the k.When) ⨾ (λ _. IsExpr)) _ x same (the_then k.When IsExpr (expr_print x) x (print_reads h.5.5.5.1 x h.5.5.5.5)))))

abbrev conditions_print : Option SqlExpr × Option SqlExpr → Print
conditions_print p = if_some (applied_print (codes "DELETE")) p.0 ++ if_some (applied_print (codes "TRUNCATE")) p.1

conditions_read : (w : List Lexeme) (p : Option SqlExpr × Option SqlExpr) → grammar.conditions IsExpr w p → grammar.conditions IsExpr (conditions_print p) p
conditions_read w p h =
    subst (λ z. grammar.conditions IsExpr (conditions_print z) z) h.5.5.1
    (parts (grammar.applied IsExpr (codes "DELETE")) (λ d. grammar.applied IsExpr (codes "TRUNCATE") ⨾ (λ t. nothing (d, t))) (if_some (applied_print (codes "DELETE")) h.2) (if_some (applied_print (codes "TRUNCATE")) h.5.2) h.2 (h.2, h.5.2)
    (applied_reads (codes "DELETE") refl h.0 h.2 h.4) (whole (λ t. (h.2, t)) (grammar.applied IsExpr (codes "TRUNCATE")) (if_some (applied_print (codes "TRUNCATE")) h.5.2) h.5.2 (applied_reads (codes "TRUNCATE") refl h.5.0 h.5.2 h.5.4)))

cdc_shape : (t1 t2 t3 t4 t5 t6 : Lexeme) (from keys ign del trunc seq cols type track : List Lexeme) →
    t1 ∷ t2 ∷ t3 ∷ (from ++ (t4 ∷ (keys ++ (ign ++ ((del ++ trunc) ++ (t5 ∷ t6 ∷ (seq ++ (cols ++ (type ++ track)))))))))
    ≡ (t1 ∷ t2 ∷ t3 ∷ from) ++ t4 ∷ keys ++ ign ++ del ++ trunc ++ t5 ∷ t6 ∷ seq ++ cols ++ type ++ track
cdc_shape t1 t2 t3 t4 t5 t6 from keys ign del trunc seq cols type track = simp append_assoc

cdc_reads : (w : List Lexeme) (y : CdcTree) → grammar.cdc IsExpr w y → grammar.cdc IsExpr (print.cdc_print y) y
cdc_reads w y h =
    let n = h.5 in
    let f = n.5.5 in
    let g = f.5.5 in
    let i = g.5 in
    let c = i.5 in
    let s = c.5.5.5 in
    let o = s.5 in
    let d = o.5 in
    let t = d.5 in
    let tree = grammar.a_cdc n.2 f.2 g.2 i.2 c.2.0 c.2.1 s.2 o.2 d.2 t.2 in
    let behind_scd = if_some track_print t.2 in
    let behind_columns = if_some scd_print d.2 ++ behind_scd in
    let behind_order = if_some columns_print o.2 ++ behind_columns in
    let behind_by = print.sequence_print s.2 ++ behind_order in
    let behind_conditions = word (codes "SEQUENCE") ∷ token k.By ∷ behind_by in
    let behind_ignoring = conditions_print c.2 ++ behind_conditions in
    let behind_keys = ignoring_print i.2 ++ behind_ignoring in
    let keys = names g.2 ++ behind_keys in
    let behind_from = print.origin_print f.2 ++ (word (codes "KEYS") ∷ keys) in
    let shown = word (codes "INTO") ∷ name n.2 ∷ token k.From ∷ behind_from in
    let same : shown ≡ print.cdc_print tree =
    cdc_shape (word (codes "INTO")) (name n.2) (token k.From) (word (codes "KEYS")) (word (codes "SEQUENCE")) (token k.By) (print.origin_print f.2) (names g.2) (ignoring_print i.2)
    (if_some (applied_print (codes "DELETE")) c.2.0) (if_some (applied_print (codes "TRUNCATE")) c.2.1) (print.sequence_print s.2) (if_some columns_print o.2) (if_some scd_print d.2) behind_scd in
    subst (λ z. grammar.cdc IsExpr (print.cdc_print z) z) t.5.1
    (written (grammar.cdc IsExpr) shown (print.cdc_print tree) tree same (
      word (codes "INTO") ∷ [],
      name n.2 ∷ token k.From ∷ behind_from,
      tt,
      refl,
      (word (codes "INTO"), refl, word_self (codes "INTO") refl),
      (
        name n.2 ∷ [],
        token k.From ∷ behind_from,
        n.2,
        refl,
        (name n.2, refl, name_is n.2),
        (
          token k.From ∷ [],
          behind_from,
          tt,
          refl,
          (token k.From, refl, the_token k.From),
          (
            print.origin_print f.2,
            word (codes "KEYS") ∷ keys,
            f.2,
            refl,
            origin_reads f.0 f.2 f.4,
            (
              word (codes "KEYS") ∷ [],
              keys,
              tt,
              refl,
              (word (codes "KEYS"), refl, word_self (codes "KEYS") refl),
              (
                names g.2,
                behind_keys,
                g.2,
                refl,
                names_in_parens_read g.0 g.2 g.4,
                (
                  ignoring_print i.2,
                  behind_ignoring,
                  i.2,
                  refl,
                  ignoring_reads i.2,
                  (
                    conditions_print c.2,
                    behind_conditions,
                    c.2,
                    refl,
                    conditions_read c.0 c.2 c.4,
                    (
                      word (codes "SEQUENCE") ∷ [],
                      token k.By ∷ behind_by,
                      tt,
                      refl,
                      (word (codes "SEQUENCE"), refl, word_self (codes "SEQUENCE") refl),
                      (
                        token k.By ∷ [],
                        behind_by,
                        tt,
                        refl,
                        (token k.By, refl, the_token k.By),
                        (
                          print.sequence_print s.2,
                          behind_order,
                          s.2,
                          refl,
                          sequence_reads s.0 s.2 s.4,
                          (
                            if_some columns_print o.2,
                            behind_columns,
                            o.2,
                            refl,
                            columns_read o.0 o.2 o.4,
                            (
                              if_some scd_print d.2,
                              behind_scd,
                              d.2,
                              refl,
                              scd_reads d.0 d.2 d.4,
                              (if_some track_print t.2, [], t.2, sym (append-nil (if_some track_print t.2)), track_reads t.0 t.2 t.4, (refl, refl)),
                            ),
                          ),
                        ),
                      ),
                    ),
                  ),
                ),
              ),
            ),
          ),
        ),
      ),
    ))

-- ---- statements

abbrev query_print : Select → Print
query_print s = token k.As ∷ print.select_print s

-- behind CREATE OR REFRESH
abbrev dataset_print : Statement → Print
dataset_print (statement.Table n items select) = word (codes "STREAMING") ∷ word (codes "TABLE") ∷ name n ∷ (print.items_print items ++ if_some query_print select)
dataset_print (statement.View n items select) = word (codes "MATERIALIZED") ∷ word (codes "VIEW") ∷ name n ∷ (print.items_print items ++ query_print select)
dataset_print (statement.Insert flow target select) = []
dataset_print (statement.Cdc flow rest) = []

abbrev Created : Language Statement → Statement → Type 0
Created L x = L (dataset_print x) x × (print.statement_print x ≡ print.create ++ dataset_print x)

query_reads : (w : List Lexeme) (x : Option Select) → grammar.maybe (one (the k.As) ⨾ (λ _. grammar.select IsExpr)) w x → grammar.maybe (one (the k.As) ⨾ (λ _. grammar.select IsExpr)) (if_some query_print x) x
query_reads = maybe_reads (one (the k.As) ⨾ (λ _. grammar.select IsExpr)) query_print (λ w x h. the_then k.As (grammar.select IsExpr) (print.select_print x) x (select_reads h.1 x h.5))

table_created : (w : List Lexeme) (x : Statement) → grammar.table IsExpr w x → Created (grammar.table IsExpr) x
table_created w x h =
    let n = h.5.5 in
    let i = n.5 in
    let q = i.5.5 in
    let rest = print.items_print i.2 ++ if_some query_print q.2 in
    subst (Created (grammar.table IsExpr)) q.5.1 (
      (
        word (codes "STREAMING") ∷ [],
        word (codes "TABLE") ∷ name n.2 ∷ rest,
        tt,
        refl,
        (word (codes "STREAMING"), refl, word_self (codes "STREAMING") refl),
        (
          word (codes "TABLE") ∷ [],
          name n.2 ∷ rest,
          tt,
          refl,
          (word (codes "TABLE"), refl, word_self (codes "TABLE") refl),
          (
            name n.2 ∷ [],
            rest,
            n.2,
            refl,
            (name n.2, refl, name_is n.2),
            (
              print.items_print i.2,
              if_some query_print q.2,
              i.2,
              refl,
              items_read i.0 i.2 i.4,
              (
                [],
                if_some query_print q.2,
                tt,
                refl,
                inr (refl, refl),
                (if_some query_print q.2, [], q.2, sym (append-nil (if_some query_print q.2)), query_reads q.0 q.2 q.4, (refl, refl)),
              ),
            ),
          ),
        ),
      ),
      refl,
    )

view_created : (w : List Lexeme) (x : Statement) → grammar.view IsExpr w x → Created (grammar.view IsExpr) x
view_created w x h =
    let n = h.5.5 in
    let i = n.5 in
    let q = i.5.5.5 in
    let rest = print.items_print i.2 ++ query_print q.2 in
    subst (Created (grammar.view IsExpr)) q.5.1 (
      (
        word (codes "MATERIALIZED") ∷ [],
        word (codes "VIEW") ∷ name n.2 ∷ rest,
        tt,
        refl,
        (word (codes "MATERIALIZED"), refl, word_self (codes "MATERIALIZED") refl),
        (
          word (codes "VIEW") ∷ [],
          name n.2 ∷ rest,
          tt,
          refl,
          (word (codes "VIEW"), refl, word_self (codes "VIEW") refl),
          (
            name n.2 ∷ [],
            rest,
            n.2,
            refl,
            (name n.2, refl, name_is n.2),
            (
              print.items_print i.2,
              query_print q.2,
              i.2,
              refl,
              items_read i.0 i.2 i.4,
              (
                [],
                query_print q.2,
                tt,
                refl,
                inr (refl, refl),
                (
                  token k.As ∷ [],
                  print.select_print q.2,
                  tt,
                  refl,
                  (token k.As, refl, the_token k.As),
                  (print.select_print q.2, [], q.2, sym (append-nil (print.select_print q.2)), select_reads q.0 q.2 q.4, (refl, refl)),
                ),
              ),
            ),
          ),
        ),
      ),
      refl,
    )

created : grammar.create print.create tt
created = the_then k.Create (either (one (the k.Or) ⨾ (λ _. one (the_word (codes "REFRESH")) ⨾ (λ _. nothing tt))) (nothing tt)) _ tt
    (inl (the_then k.Or (one (the_word (codes "REFRESH")) ⨾ (λ _. nothing tt)) _ tt (word_then (codes "REFRESH") (nothing tt) [] tt refl (refl, refl))))

create_reads : (L : Language Statement) (x : Statement) → Created L x → (grammar.create ⨾ (λ _. L)) (print.statement_print x) x
create_reads L x c = written (grammar.create ⨾ (λ _. L)) (print.create ++ dataset_print x) (print.statement_print x) x (sym c.1) (parts grammar.create (λ _. L) print.create (dataset_print x) tt x created c.0)

insert_reads : (flow : List ℕ) (w : List Lexeme) (x : Statement) → grammar.insert IsExpr flow w x → grammar.statement_of IsExpr (print.statement_print x) x
insert_reads flow w x h =
    let t = h.5.5 in
    let s = t.5.5.5 in
    let select = print.select_print s.2 in
    let behind_target = token k.By ∷ word (codes "NAME") ∷ select in
    let behind_as = word (codes "INSERT") ∷ word (codes "INTO") ∷ name t.2 ∷ behind_target in
    subst (λ z. grammar.statement_of IsExpr (print.statement_print z) z) s.5.1
    (inr (inr (inl (
      token k.Create ∷ [],
      word (codes "FLOW") ∷ name flow ∷ token k.As ∷ behind_as,
      tt,
      refl,
      (token k.Create, refl, the_token k.Create),
      (
        word (codes "FLOW") ∷ [],
        name flow ∷ token k.As ∷ behind_as,
        tt,
        refl,
        (word (codes "FLOW"), refl, word_self (codes "FLOW") refl),
        (
          name flow ∷ [],
          token k.As ∷ behind_as,
          flow,
          refl,
          (name flow, refl, name_is flow),
          (
            token k.As ∷ [],
            behind_as,
            tt,
            refl,
            (token k.As, refl, the_token k.As),
            inl (
              word (codes "INSERT") ∷ [],
              word (codes "INTO") ∷ name t.2 ∷ behind_target,
              tt,
              refl,
              (word (codes "INSERT"), refl, word_self (codes "INSERT") refl),
              (
                word (codes "INTO") ∷ [],
                name t.2 ∷ behind_target,
                tt,
                refl,
                (word (codes "INTO"), refl, word_self (codes "INTO") refl),
                (
                  name t.2 ∷ [],
                  behind_target,
                  t.2,
                  refl,
                  (name t.2, refl, name_is t.2),
                  (
                    token k.By ∷ [],
                    word (codes "NAME") ∷ select,
                    tt,
                    refl,
                    (token k.By, refl, the_token k.By),
                    (
                      word (codes "NAME") ∷ [],
                      select,
                      tt,
                      refl,
                      (word (codes "NAME"), refl, word_self (codes "NAME") refl),
                      (select, [], s.2, sym (append-nil select), select_reads s.0 s.2 s.4, (refl, refl)),
                    ),
                  ),
                ),
              ),
            ),
          ),
        ),
      ),
    ))))

cdc_flow : (flow : List ℕ) (rest : CdcTree) → grammar.cdc IsExpr (print.cdc_print rest) rest → grammar.statement_of IsExpr (print.statement_print (statement.Cdc flow rest)) (statement.Cdc flow rest)
cdc_flow flow rest h =
    let behind_as = word (codes "AUTO") ∷ word (codes "CDC") ∷ print.cdc_print rest in
    inr (inr (inl (
      token k.Create ∷ [],
      word (codes "FLOW") ∷ name flow ∷ token k.As ∷ behind_as,
      tt,
      refl,
      (token k.Create, refl, the_token k.Create),
      (
        word (codes "FLOW") ∷ [],
        name flow ∷ token k.As ∷ behind_as,
        tt,
        refl,
        (word (codes "FLOW"), refl, word_self (codes "FLOW") refl),
        (
          name flow ∷ [],
          token k.As ∷ behind_as,
          flow,
          refl,
          (name flow, refl, name_is flow),
          (
            token k.As ∷ [],
            behind_as,
            tt,
            refl,
            (token k.As, refl, the_token k.As),
            inr (
              word (codes "AUTO") ∷ word (codes "CDC") ∷ [],
              print.cdc_print rest,
              tt,
              refl,
              inl (word (codes "AUTO") ∷ [], word (codes "CDC") ∷ [], tt, refl, (word (codes "AUTO"), refl, word_self (codes "AUTO") refl), (word (codes "CDC"), refl, word_self (codes "CDC") refl)),
              whole (statement.Cdc flow) (grammar.cdc IsExpr) (print.cdc_print rest) rest h,
            ),
          ),
        ),
      ),
    )))

statement_reads : (w : List Lexeme) (x : Statement) → grammar.statement_of IsExpr w x → grammar.statement_of IsExpr (print.statement_print x) x
statement_reads w x (inl h) = inl (create_reads (grammar.table IsExpr) x (table_created h.1 x h.5))
statement_reads w x (inr (inl h)) = inr (inl (create_reads (grammar.view IsExpr) x (view_created h.1 x h.5)))
statement_reads w x (inr (inr (inl h))) =
    let n = h.5.5 in
    ⊎_elim (λ insert. insert_reads n.2 n.5.1 x insert)
    (λ feed. let rest = feed.5 in subst (λ z. grammar.statement_of IsExpr (print.statement_print z) z) rest.5.1 (cdc_flow n.2 rest.2 (cdc_reads rest.0 rest.2 rest.4))) n.5.5
statement_reads w x (inr (inr (inr h))) =
    let rest = h.5.5 in
    subst (λ z. grammar.statement_of IsExpr (print.statement_print z) z) rest.5.1 (cdc_flow rest.2.target rest.2 (cdc_reads rest.0 rest.2 rest.4))

-- ---- pipelines

abbrev more_print : List Statement → Print
more_print [] = []
more_print (s ∷ more) = token k.Semicolon ∷ (print.statement_print s ++ more_print more)

print_is : (s : Statement) (more : List Statement) → print.print (s ∷ more) ≡ print.statement_print s ++ more_print more
print_is s [] = sym (append-nil (print.statement_print s))
print_is s (next ∷ more) = ap (λ z. print.statement_print s ++ token k.Semicolon ∷ z) (print_is next more)

more_read : (w : List Lexeme) (xs : List Statement) → grammar.more_statements IsExpr w xs → grammar.more_statements IsExpr (more_print xs) xs
more_read w [] h = inl refl
more_read w (s ∷ more) h = (token k.Semicolon, print.statement_print s, more_print more, refl, refl, statement_reads h.1 s h.5, more_read h.2 more h.6)

pub pipeline_reads : (w : List Lexeme) (p : List Statement) → IsPipeline w p → IsPipeline (print.print p) p
pipeline_reads w [] h = refl
pipeline_reads w (s ∷ more) h = (print.statement_print s, more_print more, print_is s more, statement_reads h.0 s h.3, more_read h.1 more h.4)

pub prints_apart : (v w : List Lexeme) (p q : List Statement) → IsPipeline v p → IsPipeline w q → print.print p ≡ print.print q → p ≡ q
prints_apart v w p q g h same = one_pipeline (print.print p) p q (pipeline_reads v p g) (subst (λ z. IsPipeline z q) (sym same) (pipeline_reads w q h))
