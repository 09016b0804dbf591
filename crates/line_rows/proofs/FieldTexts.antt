-- Under a separator that is an ASCII character, each field of a text is a text.
use Rattle.std.proofs.Common.{◌≡◌, ℕ, suc, ◌<◌, ◌≤◌, List, [], ◌∷◌, ◌++◌, length, get_or, true, false, ◌==◌, Option, Some, None, refl, sym, ap, inl, inr, ◌∙◌, append_assoc, arith}
use Rattle.std.specs.Prelude.{⊤, if◌then◌else◌}
use Rattle.std.specs.Cmp.{first_so, second_so}
use Rattle.std.specs.Option.{option_map_or}
use Rattle.std.specs.Str.{IsUtf8, all_scalars, encode_utf8_all}
use Rattle.std.proofs.Math.Utf8.{encode}
use Rattle.std.proofs.lemmas.Bool.{cases_Bool, cases_lt, ne_eqb}
use Rattle.std.proofs.lemmas.List.{append-nil}
use Rattle.std.proofs.lemmas.Str.{encode_ascii, inside_one, IsUtf8-append, IsUtf8-nil}
use Rattle.csv.specs.Machine.{Read, Runs, ends_at_end, field_after, fields_after, in_field, is_end, next_record, start_field, start_record, step}
use Rattle.csv.specs.Records.{AllText}
use Rattle.csv.specs.declared.parser.Action.{Action}
use Rattle.csv.specs.declared.parser.Action.TheVariants as act
use Rattle.csv.specs.declared.parser.Config.{Config}
use Rattle.csv.specs.declared.parser.State.{State}
use Rattle.csv.specs.declared.parser.State.TheVariants as st
use Rattle.csv.proofs.ReadFacts.{run-copies}
use Rattle.csv.proofs.RecordFacts.{text-more}
use Rattle.line_rows.specs.Csv.{settings, fields_read}

-- a record that was read, if one was, has fields of text
Texts : Option Read → Type 0
Texts None = ⊤
Texts (Some read) = AllText read.0

-- ---- bytes that are no ASCII characters

not_same : (b k : ℕ) → k < 128 → 128 ≤ b → (b == k) ≡ false
not_same b k low high = ne_eqb b k (λ same. omega (arith, same))

in_field_high : (sep b : ℕ) → sep < 128 → 128 ≤ b → in_field (settings sep) b ≡ (st.InField, act.Copy)
in_field_high sep b low high =
    let no_sep : (b == sep) ≡ false = not_same b sep low high in
    let no_cr : (b == 13) ≡ false = not_same b 13 (omega arith) high in
    let no_lf : (b == 10) ≡ false = not_same b 10 (omega arith) high in
    rw (no_sep, no_cr, no_lf) refl

start_field_high : (sep b : ℕ) → sep < 128 → 128 ≤ b → start_field (settings sep) b ≡ (st.InField, act.Copy)
start_field_high sep b low high =
    let no_quote : (b == 34) ≡ false = not_same b 34 (omega arith) high in
    rw no_quote (in_field_high sep b low high)

start_record_high : (sep b : ℕ) → sep < 128 → 128 ≤ b → start_record (settings sep) b ≡ (st.InField, act.Copy)
start_record_high sep b low high =
    let no_sep : (b == sep) ≡ false = not_same b sep low high in
    let no_quote : (b == 34) ≡ false = not_same b 34 (omega arith) high in
    let no_cr : (b == 13) ≡ false = not_same b 13 (omega arith) high in
    let no_lf : (b == 10) ≡ false = not_same b 10 (omega arith) high in
    rw (no_sep, no_quote, no_cr, no_lf) refl

quoted_high : (sep b : ℕ) → 128 ≤ b → step (settings sep) st.InQuoted b ≡ (st.InQuoted, act.Copy)
quoted_high sep b high = let no_quote : (b == 34) ≡ false = not_same b 34 (omega arith) high in rw no_quote refl

after_quote_high : (sep b : ℕ) → sep < 128 → 128 ≤ b → step (settings sep) st.AfterQuote b ≡ (st.InField, act.Copy)
after_quote_high sep b low high =
    let no_quote : (b == 34) ≡ false = not_same b 34 (omega arith) high in
    rw no_quote (in_field_high sep b low high)

after_cr_high : (sep b : ℕ) → sep < 128 → 128 ≤ b → step (settings sep) st.AfterCr b ≡ (st.InField, act.Copy)
after_cr_high sep b low high =
    let no_sep : (b == sep) ≡ false = not_same b sep low high in
    let no_quote : (b == 34) ≡ false = not_same b 34 (omega arith) high in
    let no_cr : (b == 13) ≡ false = not_same b 13 (omega arith) high in
    let no_lf : (b == 10) ≡ false = not_same b 10 (omega arith) high in
    rw (no_sep, no_quote, no_cr, no_lf) refl

comment_high : (sep b : ℕ) → 128 ≤ b → step (settings sep) st.InComment b ≡ (st.InComment, act.Skip)
comment_high sep b high = let no_lf : (b == 10) ≡ false = not_same b 10 (omega arith) high in rw no_lf refl

AreHigh : List ℕ → Type 0
AreHigh [] = ⊤
AreHigh (b ∷ bs) = (128 ≤ b) × AreHigh bs

field_runs : (sep : ℕ) (bs : List ℕ) → sep < 128 → AreHigh bs → Runs (settings sep) st.InField bs
unfolding Runs AreHigh
field_runs sep [] low high = tt
field_runs sep (b ∷ bs) low high = (in_field_high sep b low high.0, field_runs sep bs low high.1)

quoted_runs : (sep : ℕ) (bs : List ℕ) → AreHigh bs → Runs (settings sep) st.InQuoted bs
unfolding Runs AreHigh
quoted_runs sep [] high = tt
quoted_runs sep (b ∷ bs) high = (quoted_high sep b high.0, quoted_runs sep bs high.1)

-- a byte that joins the field at hand, and others behind it that do
copied : (cfg : Config) (s t : State) (b : ℕ) (bs rest : List ℕ) (fields : List (List ℕ)) (field : List ℕ) → step cfg s b ≡ (t, act.Copy) → Runs cfg t bs
    → next_record cfg s fields field ((b ∷ bs) ++ rest) ≡ next_record cfg t fields (field ++ (b ∷ bs)) rest
unfolding next_record
copied cfg s t b bs rest fields field e runs =
    rw e (run-copies cfg t fields (field ++ (b ∷ [])) bs rest runs ∙ ap (λ (f : List ℕ). next_record cfg t fields f rest) (append_assoc field (b ∷ []) bs))

comment_run : (sep : ℕ) (bs rest : List ℕ) (fields : List (List ℕ)) (field : List ℕ) → AreHigh bs
    → next_record (settings sep) st.InComment fields field (bs ++ rest) ≡ next_record (settings sep) st.InComment fields field rest
unfolding next_record AreHigh
comment_run sep [] rest fields field high = refl
comment_run sep (b ∷ bs) rest fields field high = rw (comment_high sep b high.0) (comment_run sep bs rest fields field high.1)

-- such bytes join the field at hand or are passed over, from every state
high_run : (sep : ℕ) (bs rest : List ℕ) (s : State) (fields : List (List ℕ)) (field : List ℕ) → sep < 128 → AreHigh bs
    → ((t : State) → Texts (next_record (settings sep) t fields (field ++ bs) rest)) → ((t : State) → Texts (next_record (settings sep) t fields field rest))
    → Texts (next_record (settings sep) s fields field (bs ++ rest))
unfolding AreHigh
high_run sep [] rest s fields field low high joined passed = passed s
high_run sep (b ∷ bs) rest st.StartRecord fields field low high joined passed =
    rw (copied (settings sep) st.StartRecord st.InField b bs rest fields field (start_record_high sep b low high.0) (field_runs sep bs low high.1)) (joined st.InField)
high_run sep (b ∷ bs) rest st.StartField fields field low high joined passed =
    rw (copied (settings sep) st.StartField st.InField b bs rest fields field (start_field_high sep b low high.0) (field_runs sep bs low high.1)) (joined st.InField)
high_run sep (b ∷ bs) rest st.InField fields field low high joined passed =
    rw (copied (settings sep) st.InField st.InField b bs rest fields field (in_field_high sep b low high.0) (field_runs sep bs low high.1)) (joined st.InField)
high_run sep (b ∷ bs) rest st.InQuoted fields field low high joined passed =
    rw (copied (settings sep) st.InQuoted st.InQuoted b bs rest fields field (quoted_high sep b high.0) (quoted_runs sep bs high.1)) (joined st.InQuoted)
high_run sep (b ∷ bs) rest st.InEscape fields field low high joined passed =
    rw (copied (settings sep) st.InEscape st.InQuoted b bs rest fields field refl (quoted_runs sep bs high.1)) (joined st.InQuoted)
high_run sep (b ∷ bs) rest st.AfterQuote fields field low high joined passed =
    rw (copied (settings sep) st.AfterQuote st.InField b bs rest fields field (after_quote_high sep b low high.0) (field_runs sep bs low high.1)) (joined st.InField)
high_run sep (b ∷ bs) rest st.AfterCr fields field low high joined passed =
    rw (copied (settings sep) st.AfterCr st.InField b bs rest fields field (after_cr_high sep b low high.0) (field_runs sep bs low high.1)) (joined st.InField)
high_run sep (b ∷ bs) rest st.InComment fields field low high joined passed =
    rw (comment_run sep (b ∷ bs) rest fields field high) (passed st.InComment)

-- ---- characters

are_high : (bs : List ℕ) → ((k : ℕ) → k < length bs → 128 ≤ get_or bs k 0) → AreHigh bs
unfolding AreHigh
are_high [] each = tt
are_high (b ∷ bs) each = (each 0 (omega arith), are_high bs (λ k lt. each (suc k) (omega arith)))

encode_high : (c : ℕ) → 128 ≤ c → AreHigh (encode c)
encode_high c high = are_high (encode c) (λ k lt. elim (cases_lt (get_or (encode c) k 0) 128) [
  | inl low ↦ absurd (let same : c ≡ get_or (encode c) k 0 = inside_one c [] (encode c) k (sym (append-nil (encode c))) lt low in omega arith)
  | inr is ↦ is
])

one_text : (c : ℕ) → all_scalars (c ∷ []) ≡ true → IsUtf8 (encode c)
one_text c is = (c ∷ [], (is, append-nil (encode c)))

-- an ASCII character
one_step : (cfg : Config) (c : ℕ) (rest : List ℕ) (fields : List (List ℕ)) (field : List ℕ) (next : State) (a : Action) → AllText fields → IsUtf8 field → IsUtf8 (c ∷ [])
    → ((t : State) (fields' : List (List ℕ)) (field' : List ℕ) → AllText fields' → IsUtf8 field' → Texts (next_record cfg t fields' field' rest))
    → Texts (if is_end a then Some (fields_after a fields field, next, rest) else next_record cfg next (fields_after a fields field) (field_after a c field) rest)
unfolding Texts
one_step cfg c rest fields field next act.Skip texts text one more = more next fields field texts text
one_step cfg c rest fields field next act.Copy texts text one more = more next fields (field ++ (c ∷ [])) texts (IsUtf8-append field (c ∷ []) text one)
one_step cfg c rest fields field next act.EndField texts text one more = more next (fields ++ (field ∷ [])) [] (text-more fields field texts text) IsUtf8-nil
one_step cfg c rest fields field next act.EndRecord texts text one more = text-more fields field texts text

texts_end : (cfg : Config) (s : State) (fields : List (List ℕ)) (field : List ℕ) → AllText fields → IsUtf8 field → Texts (next_record cfg s fields field [])
unfolding next_record Texts
texts_end cfg s fields field texts text = elim (cases_Bool (ends_at_end s)) [
  | inl ends ↦ rw ends (text-more fields field texts text)
  | inr goes_on ↦ rw goes_on tt
]

texts_read : (sep : ℕ) → sep < 128 → (cs : List ℕ) → all_scalars cs ≡ true → (s : State) (fields : List (List ℕ)) (field : List ℕ) → AllText fields → IsUtf8 field
    → Texts (next_record (settings sep) s fields field (encode_utf8_all cs))
unfolding next_record
texts_read sep low [] are s fields field texts text = texts_end (settings sep) s fields field texts text
texts_read sep low (c ∷ cs) are s fields field texts text =
    let others : all_scalars cs ≡ true = second_so _ (all_scalars cs) are in
    let one : IsUtf8 (encode c) = one_text c (rw (first_so _ (all_scalars cs) are) refl) in
    elim (cases_lt c 128) [
      | inl ascii ↦
          rw (encode_ascii c ascii)
          (one_step (settings sep) c (encode_utf8_all cs) fields field (step (settings sep) s c).0 (step (settings sep) s c).1 texts text (rw (encode_ascii c ascii) at one) (texts_read sep low cs others))
      | inr high ↦
          high_run sep (encode c) (encode_utf8_all cs) s fields field low (encode_high c high)
          (λ t. texts_read sep low cs others t fields (field ++ encode c) texts (IsUtf8-append field (encode c) text one))
          (λ t. texts_read sep low cs others t fields field texts text)
    ]

read_texts : (found : Option Read) → Texts found → AllText (option_map_or (λ read. read.0) found [])
unfolding Texts AllText
read_texts None texts = tt
read_texts (Some read) texts = texts

pub fields_texts : (sep : ℕ) (line : List ℕ) → sep < 128 → IsUtf8 line → AllText (fields_read sep line)
unfolding AllText
fields_texts sep line low is =
    let (cs, both) = is in
    let (are, spells) = both in
    read_texts (next_record (settings sep) st.StartRecord [] [] line) (rw (sym spells) (texts_read sep low cs are st.StartRecord [] [] tt IsUtf8-nil))
