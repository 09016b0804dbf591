-- The print of a part of a text's statement can stand in a text.
use Rattle.std.proofs.Common.{◌≡◌, ℕ, ◌-◌, ◌≤◌, Bool, true, false, if◌then◌else◌, List, [], ◌∷◌, ◌++◌, map, Option, Some, refl, subst, arith, ◌⊎◌, inl, inr, ⊎_elim}
use Rattle.std.specs.Prelude.{codes, ◌&&◌, ◌||◌, ◌==◌}
use Rattle.std.specs.Str.{is_utf8}
use Rattle.std.proofs.lemmas.Bool.{and_parts, and_from, or_cases, eqb-true}
use Rattle.sql_tree.specs.declared.statement.SqlAction.{SqlAction}
use Rattle.sql_tree.specs.declared.statement.SqlAction.TheVariants as action
use Rattle.sql_tree.specs.declared.statement.SqlOrigin.TheVariants as origin
use Rattle.sql_tree.specs.declared.statement.OptionValue.{OptionValue}
use Rattle.sql_tree.specs.declared.statement.OptionValue.TheVariants as value
use Rattle.sql_tree.specs.declared.statement.SqlOption.{SqlOption}
use Rattle.sql_tree.specs.declared.statement.SqlSome.{SqlSome}
use Rattle.sql_tree.specs.declared.statement.SqlSome.TheVariants as some
use Rattle.sql_tree.specs.declared.lexeme.LexemeKind.{LexemeKind}
use Rattle.sql_tree.specs.declared.lexeme.LexemeKind.TheVariants as k
use Rattle.sql_tree.specs.declared.lexeme.Lexeme.{Lexeme}
use Rattle.sql_tree.specs.Lexemes.{same_kind, word_kind, is_any_word}
use Rattle.sql_tree.specs.Spelling.{is_word}
use Rattle.sql_tree.specs.Print as print
use Rattle.sql_tree.specs.Print.{Print, token, word, numeral, string, name, option_word, in_parens, separated, names, one_name, if_some}
use Rattle.sql_phrases.specs.Tokens.{is, is_name, is_worded, if_so, the, the_word, value_of, scd_of}
use Rattle.sql_phrases.proofs.Terminals.{kinds_alike, alike_self}
use Rattle.sql_lexemes.specs.Spellable.{is_spellable}
use Rattle.sql_statements.specs.Languages.{Language, one, followed, ◌>>=◌ as ◌⨾◌}
use Rattle.sql_statements.specs.Languages as language
use Rattle.sql_statements.specs.Grammar as grammar
use Rattle.sql_statements.proofs.Prints.{option_word_is}
use Rattle.pipeline_sql.proofs.Safe.{Safe, Open, is_plain, safe_is_open, safe_nil, safe_cons, token_safe, token_open, safe_parens, word_safe, small_safe, string_safe, name_safe, IsNameText, AllOpen, separated_open, Spells, spells_before, spells_behind, spells_head, spells_tail, halves, word_named, quoted_named, string_meant}

-- what a language gives is printed so that it can stand in any place, or where no operand stands before
abbrev pub Saves : {A : Type 0} → Language A → (A → Print) → Type 0
Saves {A} L print = (w : List Lexeme) (x : A) → Spells w → L w x → Safe (print x)

abbrev pub Opens : {A : Type 0} → Language A → (A → Print) → Type 0
Opens {A} L print = (w : List Lexeme) (x : A) → Spells w → L w x → Open (print x)

same_some : {A : Type 0} {a b : A} → ◌≡◌ {A = Option A} (Some a) (Some b) → a ≡ b
same_some {A} {a} {b} h = cc

-- ---- single tokens

so_value : {A : Type 0} (b : Bool) (a x : A) → if_so b a ≡ Some x → (b ≡ true) × (a ≡ x)
so_value true a x h = (refl, cc)
so_value false a x h = absurd (cc)

one_spelled : (t : Lexeme) (w : List Lexeme) → w ≡ t ∷ [] → Spells w → is_spellable t ≡ true
one_spelled t w e s = spells_head t [] (subst Spells e s)

pub name_text : (w : List Lexeme) (n : List ℕ) → Spells w → grammar.name w n → IsNameText n
name_text w n s h =
    let t = h.0 in
    let found = so_value (is_name t) t.text n h.2 in
    let spelled = one_spelled t w h.1 s in
    subst IsNameText found.1
    (⊎_elim (λ bare. word_named t (kinds_alike t.kind k.Word bare) spelled) (λ other. quoted_named t (kinds_alike t.kind k.Quoted other) spelled) (or_cases (is k.Word t) (is k.Quoted t) found.0))

pub names_open : Opens grammar.name one_name
names_open w n s h = safe_is_open (name_safe n (name_text w n s h) safe_nil)

pub string_text : (w : List Lexeme) (n : List ℕ) → Spells w → grammar.string w n → is_utf8 n ≡ true
string_text w n s h =
    let t = h.0 in
    let found = so_value (is k.Str t) t.text n h.2 in
    subst (λ z. is_utf8 z ≡ true) found.1 (string_meant t (kinds_alike t.kind k.Str found.0) (one_spelled t w h.1 s))

-- ---- lists

followed_open : {A : Type 0} (L : Language A) (print : A → Print) → Opens L print → (w : List Lexeme) (xs : List A) → Spells w → followed k.Comma L w xs → AllOpen print xs
followed_open L print each w [] s h = tt
followed_open L print each w (x ∷ xs) s h =
    let behind = spells_tail h.0 (h.1 ++ h.2) (subst Spells h.3 s) in
    (each h.1 x (spells_before h.1 h.2 behind) h.5, followed_open L print each h.2 xs (spells_behind h.1 h.2 behind) h.6)

pub list_open : {A : Type 0} (L : Language A) (print : A → Print) → Opens L print → (w : List Lexeme) (xs : List A) → Spells w → language.separated k.Comma L w xs → AllOpen print xs
list_open L print each w xs s h =
    let a = halves h.0 h.1 h.3 s in
    let b = halves h.5.0 h.5.1 h.5.3 a.1 in
    subst (AllOpen print) h.5.5.1 (each h.0 h.2 a.0 h.4, followed_open L print each h.5.0 h.5.2 b.0 h.5.4)

-- what stands in parentheses
pub inner : {A : Type 0} (L : Language A) (w : List Lexeme) (x : A) → Spells w → grammar.in_parens L w x → (v : List Lexeme) × Spells v × L v x
inner L w x s h =
    let a = halves h.0 h.1 h.3 s in
    let b = halves h.5.0 h.5.1 h.5.3 a.1 in
    (h.5.0, b.0, subst (L h.5.0) h.5.5.5.1 h.5.4)

-- names in parentheses
pub names_safe : Saves (grammar.in_parens grammar.names) names
names_safe w ns s h = let i = inner grammar.names w ns s h in safe_parens (separated_open one_name ns (list_open grammar.name one_name names_open i.0 ns i.1 i.2))

-- ---- what a query reads

worded_text : (kind : LexemeKind) (text : List ℕ) (value : ℕ) → is_worded kind ≡ true → is_spellable (record { kind = kind; text = text; value = value }) ≡ true → is_word text ≡ true
unfolding is_any_word same_kind
worded_text k.And text value h spelled = (and_parts (is_word text) _ (and_parts _ (value == 0) spelled).0).0
worded_text k.End text value h spelled = absurd (cc)
worded_text k.Quoted text value h spelled = absurd (cc)
worded_text k.Str text value h spelled = absurd (cc)
worded_text k.Number text value h spelled = absurd (cc)
worded_text k.LParen text value h spelled = absurd (cc)
worded_text k.RParen text value h spelled = absurd (cc)
worded_text k.Comma text value h spelled = absurd (cc)
worded_text k.Semicolon text value h spelled = absurd (cc)
worded_text k.Star text value h spelled = absurd (cc)
worded_text k.Plus text value h spelled = absurd (cc)
worded_text k.Minus text value h spelled = absurd (cc)
worded_text k.Percent text value h spelled = absurd (cc)
worded_text k.Eq text value h spelled = absurd (cc)
worded_text k.Ne text value h spelled = absurd (cc)
worded_text k.Lt text value h spelled = absurd (cc)
worded_text k.Le text value h spelled = absurd (cc)
worded_text k.Gt text value h spelled = absurd (cc)
worded_text k.Ge text value h spelled = absurd (cc)
worded_text k.Concat text value h spelled = absurd (cc)
worded_text k.Arrow text value h spelled = absurd (cc)
worded_text _ text value h spelled = (and_parts (is_word text) _ (and_parts _ (value == 0) spelled).0).0

worded_plain : (kind : LexemeKind) (text : List ℕ) → is_worded kind ≡ true → is_word text ≡ true → same_kind (word_kind text) kind ≡ true → is_plain (record { kind = kind; text = text; value = 0 }) ≡ true
unfolding is_any_word same_kind
worded_plain k.And text h spelled same = and_from _ _ (and_from _ _ (and_from _ _ spelled same) refl) refl
worded_plain k.End text h spelled same = absurd (cc)
worded_plain k.Quoted text h spelled same = absurd (cc)
worded_plain k.Str text h spelled same = absurd (cc)
worded_plain k.Number text h spelled same = absurd (cc)
worded_plain k.LParen text h spelled same = absurd (cc)
worded_plain k.RParen text h spelled same = absurd (cc)
worded_plain k.Comma text h spelled same = absurd (cc)
worded_plain k.Semicolon text h spelled same = absurd (cc)
worded_plain k.Star text h spelled same = absurd (cc)
worded_plain k.Plus text h spelled same = absurd (cc)
worded_plain k.Minus text h spelled same = absurd (cc)
worded_plain k.Percent text h spelled same = absurd (cc)
worded_plain k.Eq text h spelled same = absurd (cc)
worded_plain k.Ne text h spelled same = absurd (cc)
worded_plain k.Lt text h spelled same = absurd (cc)
worded_plain k.Le text h spelled same = absurd (cc)
worded_plain k.Gt text h spelled same = absurd (cc)
worded_plain k.Ge text h spelled same = absurd (cc)
worded_plain k.Concat text h spelled same = absurd (cc)
worded_plain k.Arrow text h spelled same = absurd (cc)
worded_plain _ text h spelled same = and_from _ _ (and_from _ _ (and_from _ _ spelled same) refl) refl

option_word_safe : {ts : Print} (w : List ℕ) → is_word w ≡ true → Safe ts → Safe (option_word w ∷ ts)
option_word_safe w h safe =
    let worded = so_value (is_worded (word_kind w)) w w (option_word_is w) in
    safe_cons (option_word w) (worded_plain (word_kind w) w worded.0 h (alike_self (word_kind w))) safe

value_safe : (t : Lexeme) (v : OptionValue) → is_spellable t ≡ true → value_of t ≡ Some v → Safe (print.option_value v ∷ [])
value_safe t (value.Bool true) spelled h = token_safe k.True refl safe_nil
value_safe t (value.Bool false) spelled h = token_safe k.False refl safe_nil
value_safe t (value.Str s) spelled h = by_test (is k.Str t) (is k.True t) (is k.False t) refl h
  where
    by_test : (a b c : Bool) → is k.Str t ≡ a → (if a then Some (value.Str t.text) else (if b then Some (value.Bool true) else if_so c (value.Bool false))) ≡ Some (value.Str s) → Safe (string s ∷ [])
    by_test true b c e h =
        let same : value.Str t.text ≡ value.Str s = same_some h in
        let text : t.text ≡ s = cc in
        string_safe s (subst (λ z. is_utf8 z ≡ true) text (string_meant t (kinds_alike t.kind k.Str e) spelled)) safe_nil
    by_test false true c e h = absurd (cc)
    by_test false false true e h = absurd (cc)
    by_test false false false e h = absurd (cc)

option_safe : (w : List Lexeme) (o : SqlOption) → Spells w → grammar.option w o → Safe (print.option_print o)
option_safe w o s h =
    let a = halves h.0 h.1 h.3 s in
    let b = halves h.5.0 h.5.1 h.5.3 a.1 in
    let c = halves h.5.5.0 h.5.5.1 h.5.5.3 b.1 in
    let t = h.4.0 in
    let found = so_value (is_worded t.kind) t.text h.2 h.4.2 in
    let text = subst (λ z. is_word z ≡ true) found.1 (worded_text t.kind t.text t.value found.0 (one_spelled t h.0 h.4.1 a.0)) in
    subst (λ z. Safe (print.option_print z)) h.5.5.5.1
    (option_word_safe h.2 text (token_safe k.Arrow refl (value_safe h.5.5.4.0 h.5.5.2 (one_spelled h.5.5.4.0 h.5.5.0 h.5.5.4.1 c.0) h.5.5.4.2)))

stream_safe : {ts : Print} (stream : Bool) → Safe ts → Safe (print.stream_if stream ++ ts)
stream_safe true safe = token_safe k.Stream refl safe
stream_safe false safe = safe

-- a string, and options behind it
files_list : (path : List ℕ) (options : List SqlOption) → is_utf8 path ≡ true → AllOpen print.option_print options → Open (separated ((string path ∷ []) ∷ map print.option_print options))
files_list path [] text all = safe_is_open (string_safe path text safe_nil)
files_list path (o ∷ os) text all = safe_is_open (string_safe path text (token_open k.Comma refl refl (separated_open print.option_print (o ∷ os) all)))

files_safe : (stream : Bool) → Saves (grammar.files stream) print.origin_print
files_safe stream w x s h =
    let a = halves h.0 h.1 h.3 s in
    let b = halves h.5.0 h.5.1 h.5.3 a.1 in
    subst (λ z. Safe (print.origin_print z)) h.5.5.1
    (stream_safe stream
    (word_safe (codes "read_files") refl
    (safe_parens (files_list h.2 h.5.2 (string_text h.0 h.2 a.0 h.4)
    (followed_open grammar.option print.option_print (λ w o s h. safe_is_open (option_safe w o s h)) h.5.0 h.5.2 b.0 h.5.4)))))

table_safe : (stream : Bool) (w : List Lexeme) (n : List ℕ) → Spells w → grammar.name w n → Safe (print.origin_print (origin.Table stream n))
table_safe stream w n s h = stream_safe stream (name_safe n (name_text w n s h) safe_nil)

source_safe : (stream : Bool) → Saves (grammar.source stream) print.origin_print
source_safe stream w x s (inl h) =
    let a = halves h.0 h.1 h.3 s in
    let i = inner (grammar.files stream) h.1 x a.1 h.5 in
    files_safe stream i.0 x i.1 i.2
source_safe stream w x s (inr h) =
    let a = halves h.0 h.1 h.3 s in
    subst (λ z. Safe (print.origin_print z)) h.5.1 (table_safe stream h.0 h.2 a.0 h.4)

pub origin_safe : Saves grammar.origin_of print.origin_print
origin_safe w x s (inl h) =
    let a = halves h.0 h.1 h.3 s in
    ⊎_elim
    (λ table.
    let b = halves table.0 table.1 table.3 a.1 in
    let i = inner grammar.name table.0 table.2 b.0 table.4 in
    subst (λ z. Safe (print.origin_print z)) table.5.1 (table_safe true i.0 table.2 i.1 i.2))
    (source_safe true h.1 x a.1) h.5
origin_safe w x s (inr h) = source_safe false w x s h

-- ---- columns

only_safe : (ns : List (List ℕ)) → Safe (names ns) → Safe (print.some_print (some.Only ns))
only_safe ns h = h

pub some_safe : Saves grammar.some_of print.some_print
some_safe w x s (inl h) =
    let a = halves h.0 h.1 h.3 s in
    let b = halves h.5.0 h.5.1 h.5.3 a.1 in
    let c = halves h.5.5.0 h.5.5.1 h.5.5.3 b.1 in
    subst (λ z. Safe (print.some_print z)) h.5.5.5.1 (token_safe k.Star refl (token_safe k.Except refl (names_safe h.5.5.0 h.5.5.2 c.0 h.5.5.4)))
some_safe w x s (inr (inl h)) =
    let a = halves h.0 h.1 h.3 s in
    subst (λ z. Safe (print.some_print z)) h.5.1 (names_safe h.0 h.2 a.0 h.4)
some_safe w x s (inr (inr h)) =
    let a = halves h.0 h.1 h.3 s in
    subst (λ z. Safe (print.some_print z)) h.5.1 (safe_parens (separated_open one_name h.2 (list_open grammar.name one_name names_open h.0 h.2 a.0 h.4)))

pub sequence_safe : Saves grammar.sequence_of print.sequence_print
sequence_safe w x s (inl h) =
    let a = halves h.0 h.1 h.3 s in
    let b = halves h.5.0 h.5.1 h.5.3 a.1 in
    subst (λ z. Safe (print.sequence_print z)) h.5.5.1 (token_safe k.Struct refl (names_safe h.5.0 h.5.2 b.0 h.5.4))
sequence_safe w x s (inr h) =
    let a = halves h.0 h.1 h.3 s in
    subst (λ z. Safe (print.sequence_print z)) h.5.1 (name_safe h.2 (name_text h.0 h.2 a.0 h.4) safe_nil)

except_print_safe : (ns : List (List ℕ)) → Safe (names ns) → Safe (print.except_print ns)
except_print_safe [] h = safe_nil
except_print_safe (n ∷ ns) h = token_safe k.Except refl h

pub except_safe : Saves grammar.except print.except_print
except_safe w ns s (inl h) = let a = halves h.0 h.1 h.3 s in except_print_safe ns (names_safe h.1 ns a.1 h.5)
except_safe w ns s (inr h) = subst (λ z. Safe (print.except_print z)) h.1 safe_nil

abbrev pub alias_print : Option (List ℕ) → Print
alias_print = if_some (λ n. token k.As ∷ name n ∷ [])

pub alias_safe : Saves grammar.alias alias_print
alias_safe w x s (inl h) =
    let a = halves h.0 h.1 h.3 s in
    let b = halves h.5.0 h.5.1 h.5.3 a.1 in
    subst (λ z. Safe (alias_print z)) h.5.5.1 (token_safe k.As refl (name_safe h.5.2 (name_text h.5.0 h.5.2 b.0 h.5.4) safe_nil))
alias_safe w x s (inr (inl h)) =
    let a = halves h.0 h.1 h.3 s in
    subst (λ z. Safe (alias_print z)) h.5.1 (token_safe k.As refl (name_safe h.2 (name_text h.0 h.2 a.0 h.4) safe_nil))
alias_safe w x s (inr (inr h)) = subst (λ z. Safe (alias_print z)) h.1 safe_nil

pub action_safe : (x : SqlAction) → Safe (print.action_print x)
action_safe action.Warn = safe_nil
action_safe action.DropRow = token_safe k.On refl (word_safe (codes "VIOLATION") refl (word_safe (codes "DROP") refl (word_safe (codes "ROW") refl safe_nil)))
action_safe action.FailUpdate = token_safe k.On refl (word_safe (codes "VIOLATION") refl (word_safe (codes "FAIL") refl (word_safe (codes "UPDATE") refl safe_nil)))

pub ignoring_safe : (b : Bool) → Safe (if b then word (codes "IGNORE") ∷ token k.Null ∷ word (codes "UPDATES") ∷ [] else [])
ignoring_safe true = word_safe (codes "IGNORE") refl (token_safe k.Null refl (word_safe (codes "UPDATES") refl safe_nil))
ignoring_safe false = safe_nil

-- a clause that is there or left out
pub maybe_safe : {A : Type 0} (L : Language A) (print : A → Print) → Saves L print → Saves (grammar.maybe L) (if_some print)
maybe_safe L print each w x s (inl h) = let a = halves h.0 h.1 h.3 s in subst (λ z. Safe (if_some print z)) h.5.1 (each h.0 h.2 a.0 h.4)
maybe_safe L print each w x s (inr h) = subst (λ z. Safe (if_some print z)) h.1 safe_nil

abbrev pub columns_print : SqlSome → Print
columns_print x = word (codes "COLUMNS") ∷ print.some_print x

pub columns_safe : Saves grammar.columns_of (if_some columns_print)
columns_safe = maybe_safe (one (the_word (codes "COLUMNS")) ⨾ (λ _. grammar.some_of)) columns_print
    (λ w x s h. word_safe (codes "COLUMNS") refl (some_safe h.1 x (halves h.0 h.1 h.3 s).1 h.5))

abbrev pub scd_print : ℕ → Print
scd_print n = word (codes "STORED") ∷ token k.As ∷ word (codes "SCD") ∷ word (codes "TYPE") ∷ numeral n ∷ []

scd_small : (t : Lexeme) (n : ℕ) → scd_of t ≡ Some n → n ≤ 2
scd_small t n h =
    let found = so_value (is k.Number t && (t.value == 1 || t.value == 2)) t.value n h in
    let which = or_cases (t.value == 1) (t.value == 2) (and_parts (is k.Number t) (t.value == 1 || t.value == 2) found.0).1 in
    ⊎_elim (λ e. omega (arith, found.1, eqb-true t.value 1 e)) (λ e. omega (arith, found.1, eqb-true t.value 2 e)) which

pub scd_safe : Saves grammar.scd (if_some scd_print)
scd_safe = maybe_safe (one (the_word (codes "STORED")) ⨾ (λ _. one (the k.As) ⨾ (λ _. one (the_word (codes "SCD")) ⨾ (λ _. one (the_word (codes "TYPE")) ⨾ (λ _. one scd_of))))) scd_print
    (λ w x s h.
    let low = scd_small h.5.5.5.5.0 x h.5.5.5.5.2 in
    word_safe (codes "STORED") refl (token_safe k.As refl (word_safe (codes "SCD") refl (word_safe (codes "TYPE") refl (small_safe x (omega arith) safe_nil)))))

abbrev pub track_print : SqlSome → Print
track_print x = word (codes "TRACK") ∷ word (codes "HISTORY") ∷ token k.On ∷ print.some_print x

pub track_safe : Saves grammar.track (if_some track_print)
track_safe = maybe_safe (one (the_word (codes "TRACK")) ⨾ (λ _. one (the_word (codes "HISTORY")) ⨾ (λ _. one (the k.On) ⨾ (λ _. grammar.some_of)))) track_print
    (λ w x s h.
    let a = halves h.0 h.1 h.3 s in
    let b = halves h.5.0 h.5.1 h.5.3 a.1 in
    let c = halves h.5.5.0 h.5.5.1 h.5.5.3 b.1 in
    word_safe (codes "TRACK") refl (word_safe (codes "HISTORY") refl (token_safe k.On refl (some_safe h.5.5.1 x c.1 h.5.5.5))))
