-- Lexemes that a text can have, in any place or where no operand stands before.
use Rattle.std.proofs.Common.{◌≡◌, ℕ, ◌-◌, ◌≤◌, ◌^◌, Bool, true, false, cond, not, ◌&&◌, ◌||◌, ◌==◌, nat_le, List, [], ◌∷◌, ◌++◌, map, refl, ap, ◌∙◌, subst, arith, ◌⊎◌, inl, inr}
use Rattle.std.specs.Prelude.{codes, bytes_eq}
use Rattle.std.specs.List.{list_all, list_any}
use Rattle.std.specs.Str.{is_utf8}
use Rattle.std.proofs.lemmas.Bool.{and_parts, and_from, le-leb}
use Rattle.std.proofs.lemmas.Slice.Eq.{bytes_eq-Decides}
use Rattle.sql_tree.specs.declared.lexeme.LexemeKind.{LexemeKind}
use Rattle.sql_tree.specs.declared.lexeme.LexemeKind.TheVariants as k
use Rattle.sql_tree.specs.declared.lexeme.Lexeme.{Lexeme}
use Rattle.sql_tree.specs.Lexemes.{kind, same_kind, word_kind, is_any_word}
use Rattle.sql_tree.specs.Spelling.{is_bare_name, ends_operand}
use Rattle.sql_tree.specs.Print.{Print, token, word, numeral, string, name, in_parens, separated}
use Rattle.sql_lexemes.specs.Spellable.{is_quotable, is_spellable, is_within_limit, are_spellable_behind}

-- in any place
pub record Safe (ts : List Lexeme) : Type 0 where
  pub always : (second first : LexemeKind) → are_spellable_behind second first ts ≡ true

-- where no operand stands before
pub record Open (ts : List Lexeme) : Type 0 where
  pub opens : (second first : LexemeKind) → ends_operand first ≡ false → are_spellable_behind second first ts ≡ true

-- a lexeme that a text can have, and no number
abbrev pub is_plain : Lexeme → Bool
is_plain t = is_spellable t && not (same_kind t.kind k.Number)

pub safe_is_open : {ts : List Lexeme} → Safe ts → Open ts
safe_is_open h = record { opens = λ second first none. h.always second first }

pub safe_nil : Safe []
safe_nil = record { always = λ second first. refl }

-- ---- one after the other

plain_here : (t : Lexeme) → is_plain t ≡ true → (second first : LexemeKind) → (is_spellable t && is_within_limit second first t) ≡ true
plain_here t h second first =
    let parts = and_parts (is_spellable t) (not (same_kind t.kind k.Number)) h in
    and_from _ _ parts.0
    (ap (λ b. b || nat_le t.value (2 ^ 63 - 1) || (same_kind first k.Minus && not (ends_operand second))) parts.1)

pub safe_cons : {ts : List Lexeme} (t : Lexeme) → is_plain t ≡ true → Safe ts → Safe (t ∷ ts)
safe_cons t h safe = record { always = λ second first. and_from _ _ (plain_here t h second first) (safe.always first t.kind) }

pub open_cons : {ts : List Lexeme} (t : Lexeme) → is_plain t ≡ true → ends_operand t.kind ≡ false → Open ts → Safe (t ∷ ts)
open_cons t h none open_words = record { always = λ second first. and_from _ _ (plain_here t h second first) (open_words.opens first t.kind none) }

append_at : (u v : List Lexeme) (second first : LexemeKind) → are_spellable_behind second first u ≡ true → Safe v → are_spellable_behind second first (u ++ v) ≡ true
append_at [] v second first h safe = safe.always second first
append_at (t ∷ u) v second first h safe =
    let parts = and_parts (is_spellable t && is_within_limit second first t) (are_spellable_behind first t.kind u) h in
    and_from _ _ parts.0 (append_at u v first t.kind parts.1 safe)

pub safe_append : {u v : List Lexeme} → Safe u → Safe v → Safe (u ++ v)
safe_append {u} {v} g h = record { always = λ second first. append_at u v second first (g.always second first) h }

pub open_append : {u v : List Lexeme} → Open u → Safe v → Open (u ++ v)
open_append {u} {v} g h = record { opens = λ second first none. append_at u v second first (g.opens second first none) h }

-- ---- symbols and words

-- the kinds that are printed as what they are
abbrev pub is_printed : LexemeKind → Bool
is_printed k.End = false
is_printed k.Word = false
is_printed k.Quoted = false
is_printed k.Str = false
is_printed k.Number = false
is_printed _ = true

token_plain : (kind : LexemeKind) → is_printed kind ≡ true → is_plain (token kind) ≡ true
unfolding is_any_word same_kind word_kind
token_plain k.End h = absurd (cc)
token_plain k.Word h = absurd (cc)
token_plain k.Quoted h = absurd (cc)
token_plain k.Str h = absurd (cc)
token_plain k.Number h = absurd (cc)
token_plain _ h = refl

pub token_safe : {ts : List Lexeme} (kind : LexemeKind) → is_printed kind ≡ true → Safe ts → Safe (token kind ∷ ts)
token_safe kind h safe = safe_cons (token kind) (token_plain kind h) safe

pub token_open : {ts : List Lexeme} (kind : LexemeKind) → is_printed kind ≡ true → ends_operand kind ≡ false → Open ts → Safe (token kind ∷ ts)
token_open kind h none open_words = open_cons (token kind) (token_plain kind h) none open_words

pub safe_parens : {ts : List Lexeme} → Open ts → Safe (in_parens ts)
safe_parens h = token_open k.LParen refl refl (open_append h (token_safe k.RParen refl safe_nil))

-- the words that are printed
abbrev pub printed_words : List (List ℕ)
printed_words =
    codes "BOOLEAN" ∷ codes "INT" ∷ codes "BIGINT" ∷ codes "STRING" ∷ codes "coalesce" ∷ codes "count" ∷ codes "sum" ∷ codes "min" ∷ codes "max" ∷
    codes "read_files" ∷ codes "VIOLATION" ∷ codes "DROP" ∷ codes "ROW" ∷ codes "FAIL" ∷ codes "UPDATE" ∷ codes "EXPECT" ∷ codes "INTO" ∷ codes "KEYS" ∷
    codes "IGNORE" ∷ codes "UPDATES" ∷ codes "APPLY" ∷ codes "DELETE" ∷ codes "TRUNCATE" ∷ codes "SEQUENCE" ∷ codes "COLUMNS" ∷ codes "STORED" ∷ codes "SCD" ∷
    codes "TYPE" ∷ codes "TRACK" ∷ codes "HISTORY" ∷ codes "REFRESH" ∷ codes "FLOW" ∷ codes "STREAMING" ∷ codes "TABLE" ∷ codes "MATERIALIZED" ∷ codes "VIEW" ∷
    codes "INSERT" ∷ codes "NAME" ∷ codes "AUTO" ∷ codes "CDC" ∷ []

words_plain : list_all (λ z. is_plain (word z)) printed_words ≡ true
unfolding is_any_word same_kind word_kind
words_plain = refl

one_of_all : (p : List ℕ → Bool) (zs : List (List ℕ)) (z : List ℕ) → list_all p zs ≡ true → list_any (bytes_eq z) zs ≡ true → p z ≡ true
one_of_all p [] z all any = absurd (cc)
one_of_all p (y ∷ ys) z all any =
    let parts = and_parts (p y) (list_all p ys) all in
    by_test (bytes_eq z y) refl any parts.0 (λ more. one_of_all p ys z parts.1 more)
  where
    by_test : (b : Bool) → bytes_eq z y ≡ b → (b || list_any (bytes_eq z) ys) ≡ true → p y ≡ true → (list_any (bytes_eq z) ys ≡ true → p z ≡ true) → p z ≡ true
    by_test true same h here others = ap p ((bytes_eq-Decides z y).0 same) ∙ here
    by_test false same h here others = others h

pub word_safe : {ts : List Lexeme} (z : List ℕ) → list_any (bytes_eq z) printed_words ≡ true → Safe ts → Safe (word z ∷ ts)
word_safe z h safe = safe_cons (word z) (one_of_all (λ z. is_plain (word z)) printed_words z words_plain h) safe

-- ---- numbers

number_here : (n : ℕ) (second first : LexemeKind) → n ≤ 2 ^ 63 → (nat_le n (2 ^ 63 - 1) || (same_kind first k.Minus && not (ends_operand second))) ≡ true →
    (is_spellable (numeral n) && is_within_limit second first (numeral n)) ≡ true
unfolding same_kind
number_here n second first le h = and_from _ _ (le-leb n (2 ^ 63) le) h

pub small_safe : {ts : List Lexeme} (n : ℕ) → n ≤ 2 ^ 63 - 1 → Safe ts → Safe (numeral n ∷ ts)
small_safe n le safe = record {
  always = λ second first. and_from _ _ (number_here n second first (omega arith) (ap (λ b. b || (same_kind first k.Minus && not (ends_operand second))) (le-leb n (2 ^ 63 - 1) le))) (safe.always first k.Number);
}

or_last : (a b : Bool) → b ≡ true → (a || b) ≡ true
or_last true b h = refl
or_last false b h = h

behind_minus : (first : LexemeKind) → ends_operand first ≡ false → (same_kind k.Minus k.Minus && not (ends_operand first)) ≡ true
unfolding same_kind
behind_minus first none = ap not none

-- a negative literal, where no operand stands before the minus
pub negative_open : (n : ℕ) → n ≤ 2 ^ 63 → Open (token k.Minus ∷ numeral n ∷ [])
negative_open n le = record {
  opens = λ second first none. and_from _ _ (plain_here (token k.Minus) (token_plain k.Minus refl) second first)
      (and_from _ _ (number_here n first k.Minus le (or_last (nat_le n (2 ^ 63 - 1)) _ (behind_minus first none))) refl);
}

-- ---- names and strings

string_plain : (s : List ℕ) → is_utf8 s ≡ true → is_plain (string s) ≡ true
unfolding same_kind
string_plain s h = and_from _ _ (and_from _ _ h refl) refl

pub string_safe : {ts : List Lexeme} (s : List ℕ) → is_utf8 s ≡ true → Safe ts → Safe (string s ∷ ts)
string_safe s h safe = safe_cons (string s) (string_plain s h) safe

bare_plain : (n : List ℕ) → is_bare_name n ≡ true → is_plain (record { kind = k.Word; text = n; value = 0 }) ≡ true
unfolding is_any_word same_kind
bare_plain n h = and_from _ _ (and_from _ _ h refl) refl

quoted_plain : (n : List ℕ) → is_quotable n ≡ true → is_plain (record { kind = k.Quoted; text = n; value = 0 }) ≡ true
unfolding same_kind
quoted_plain n h = and_from _ _ (and_from _ _ h refl) refl

-- a name that a text can have, bare or in backquotes
abbrev pub IsNameText : List ℕ → Type 0
IsNameText n = (is_bare_name n ≡ true) ⊎ (is_quotable n ≡ true)

name_plain : (n : List ℕ) → IsNameText n → is_plain (name n) ≡ true
name_plain n h = by_test (is_bare_name n) refl h
  where
    by_test : (b : Bool) → is_bare_name n ≡ b → IsNameText n → is_plain (record { kind = cond b k.Word k.Quoted; text = n; value = 0 }) ≡ true
    by_test true e h = bare_plain n e
    by_test false e (inl h) = absurd (cc)
    by_test false e (inr h) = quoted_plain n h

pub name_safe : {ts : List Lexeme} (n : List ℕ) → IsNameText n → Safe ts → Safe (name n ∷ ts)
name_safe n h safe = safe_cons (name n) (name_plain n h) safe

-- ---- lists

abbrev pub AllOpen : {A : Type 0} → (A → Print) → List A → Type 0
AllOpen print [] = Unit {0}
AllOpen print (x ∷ xs) = Open (print x) × AllOpen print xs

pub separated_open : {A : Type 0} (print : A → Print) (xs : List A) → AllOpen print xs → Open (separated (map print xs))
separated_open print [] h = safe_is_open safe_nil
separated_open print (x ∷ []) h = h.0
separated_open print (x ∷ y ∷ ys) h = open_append h.0 (token_open k.Comma refl refl (separated_open print (y ∷ ys) h.1))

-- ---- lexemes that a text can have, in parts

abbrev pub Spells : List Lexeme → Type 0
Spells w = list_all is_spellable w ≡ true

pub spells_before : (u v : List Lexeme) → Spells (u ++ v) → Spells u
spells_before [] v h = refl
spells_before (t ∷ u) v h = let parts = and_parts (is_spellable t) (list_all is_spellable (u ++ v)) h in and_from _ _ parts.0 (spells_before u v parts.1)

pub spells_behind : (u v : List Lexeme) → Spells (u ++ v) → Spells v
spells_behind [] v h = h
spells_behind (t ∷ u) v h = spells_behind u v (and_parts (is_spellable t) (list_all is_spellable (u ++ v)) h).1

pub spells_head : (t : Lexeme) (ts : List Lexeme) → Spells (t ∷ ts) → is_spellable t ≡ true
spells_head t ts h = (and_parts (is_spellable t) (list_all is_spellable ts) h).0

pub spells_tail : (t : Lexeme) (ts : List Lexeme) → Spells (t ∷ ts) → Spells ts
spells_tail t ts h = (and_parts (is_spellable t) (list_all is_spellable ts) h).1

pub halves : {w : List Lexeme} (u v : List Lexeme) → w ≡ u ++ v → Spells w → Spells u × Spells v
halves u v e h = let all : Spells (u ++ v) = subst Spells e h in (spells_before u v all, spells_behind u v all)

-- ---- what the tokens of a text mean

word_text : (text : List ℕ) (value : ℕ) → is_spellable (record { kind = k.Word; text = text; value = value }) ≡ true → is_bare_name text ≡ true
unfolding is_any_word same_kind
word_text text value h = (and_parts (is_bare_name text) (value == 0) h).0

pub word_named : (t : Lexeme) → t.kind ≡ k.Word → is_spellable t ≡ true → IsNameText t.text
word_named t is h = inl (word_text t.text t.value (subst (λ x. is_spellable (record { kind = x; text = t.text; value = t.value }) ≡ true) is h))

pub quoted_named : (t : Lexeme) → t.kind ≡ k.Quoted → is_spellable t ≡ true → IsNameText t.text
quoted_named t is h = inr ((and_parts (is_quotable t.text) (t.value == 0) (subst (λ x. is_spellable (record { kind = x; text = t.text; value = t.value }) ≡ true) is h)).0)

pub string_meant : (t : Lexeme) → t.kind ≡ k.Str → is_spellable t ≡ true → is_utf8 t.text ≡ true
string_meant t is h = (and_parts (is_utf8 t.text) (t.value == 0) (subst (λ x. is_spellable (record { kind = x; text = t.text; value = t.value }) ≡ true) is h)).0
