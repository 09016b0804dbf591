-- The text of lexemes has tokens that are these lexemes.
use Rattle.std.proofs.Common.{◌≡◌, ℕ, ◌+◌, ◌-◌, ◌≤◌, ◌<◌, true, false, not, ◌&&◌, ◌||◌, ◌==◌, ◌^◌, nat_le, decimal, List, [], ◌∷◌, ◌++◌, length, take, drop, map, slice_index, Ok, refl, sym, ap, ap₂, ◌∙◌, subst, arith, rules, ◌⊎◌, inl, inr, ⊎_elim, append_assoc, append-nil, length-append}
use Rattle.std.proofs.lemmas.Bool.{both_ways, leb-true, and_parts, or_cases, cond-true, cond-false, cases_Bool}
use Rattle.std.proofs.lemmas.Slice.Eq.{bytes_eq-Decides}
use Rattle.std.proofs.lemmas.List.{take_at, drop_at}
use denote.Enum.Bare.{same_true}
use Rattle.sql_tree.specs.contracts.lexeme.LexemeKind.{the_type}
use Rattle.sql_tokens.specs.declared.token.Token as tokens
use Rattle.sql_tokens.specs.declared.token.TokenKind.{TokenKind}
use Rattle.sql_tokens.specs.declared.token.TokenKind.TheVariants as token
use Rattle.sql_tokens.specs.declared.lexical.Class.TheVariants as class
use Rattle.sql_tokens.specs.declared.lexical.Context.{Context}
use Rattle.sql_tokens.specs.declared.lexical.Context.TheVariants.{Open}
use Rattle.sql_tokens.specs.declared.lexical.Piece.TheVariants.{Token}
use Rattle.sql_tokens.specs.Lexical.{Text, piece, is_in, after, is_too_large}
use Rattle.sql_tokens.specs.Scanning as scanning
use Rattle.sql_tokens.specs.Scanning.{Answer, Scans}
use Rattle.sql_tokens.specs.Slices.{slice}
use Rattle.sql_tree.specs.declared.lexeme.LexemeKind.{LexemeKind}
use Rattle.sql_tree.specs.declared.lexeme.LexemeKind.TheVariants as k
use Rattle.sql_tree.specs.declared.lexeme.Lexeme.{Lexeme}
use Rattle.sql_tree.specs.Lexemes.{same_kind, is_any_word}
use Rattle.sql_tree.specs.Spelling.{spelling, ends_operand, gap, spelled_behind, spelled}
use Rattle.sql_lexemes.specs.Lexing.{lexeme, lexeme_of}
use Rattle.sql_lexemes.specs.Spellable.{is_spellable, is_within_limit, are_spellable_behind, are_spellable}
use Rattle.sql_lexemes.proofs.Pieces.{minus_piece, blank_piece}
use Rattle.sql_lexemes.proofs.Spellings.{context, Reads, reads, decimal_number, digits_front}

-- ---- steps of the scan

token_here : (c : Context) (at : ℕ) (kind : TokenKind) (len : ℕ) (z : Text) (found : List tokens.Token) (r : Answer) → 0 < length z → piece z ≡ Token kind len → is_too_large c kind (take len z) ≡ false →
    Scans (after c kind (take len z)) (at + len) (drop len z) (found ++ record { start = at; end = at + len; kind = kind } ∷ []) r → Scans c at z found r
token_here c at kind len [] found r some e small next = absurd (omega arith)
token_here c at kind len (b ∷ z) found r some e small next = scanning.token kind len e small next

token_step : (c c' : Context) (at : ℕ) (kind : TokenKind) (s rest : Text) (found : List tokens.Token) (r : Answer) → 0 < length s → piece (s ++ rest) ≡ Token kind (length s) →
    is_too_large c kind s ≡ false → after c kind s ≡ c' → Scans c' (at + length s) rest (found ++ record { start = at; end = at + length s; kind = kind } ∷ []) r → Scans c at (s ++ rest) found r
token_step c c' at kind s rest found r some e small next goes =
    let front : take (length s) (s ++ rest) ≡ s = take_at s rest (length s) refl in
    let back : drop (length s) (s ++ rest) ≡ rest = drop_at s rest (length s) refl in
    token_here c at kind (length s) (s ++ rest) found r (omega (arith, length-append s rest)) e (ap (is_too_large c kind) front ∙ small)
    (subst (λ x. Scans x (at + length s) (drop (length s) (s ++ rest)) (found ++ record { start = at; end = at + length s; kind = kind } ∷ []) r) (sym (ap (after c kind) front ∙ next))
    (subst (λ z. Scans c' (at + length s) z (found ++ record { start = at; end = at + length s; kind = kind } ∷ []) r) (sym back) goes))

blank_step : (c : Context) (at : ℕ) (z : Text) (found : List tokens.Token) (r : Answer) → 0 < length z → is_in class.Blank (slice_index z 0) ≡ false → Scans c (at + 1) z found r → Scans c at (32 ∷ z) found r
blank_step c at [] found r some front goes = absurd (omega arith)
blank_step c at (b ∷ z) found r some front goes = scanning.blank 1 (blank_piece b z front) goes

-- ---- what follows a lexeme

-- the lexemes are the tokens from here on
abbrev Goes : Text → Context → ℕ → Text → List tokens.Token → List Lexeme → Type 0
Goes text c at z found ts = (more : List tokens.Token) × Scans c at z found (Ok (found ++ more)) × (map (lexeme_of text) more ≡ ts)

slice_at : (v s rest : Text) (kind : TokenKind) → slice (v ++ (s ++ rest)) (record { start = length v; end = length v + length s; kind = kind }) ≡ s
slice_at v s rest kind =
    let width : length v + length s - length v ≡ length s = omega arith in
    ap₂ take width (drop_at v (s ++ rest) (length v) refl) ∙ take_at s rest (length s) refl

goes_token : (v rest : Text) (t : Lexeme) (kind : TokenKind) (second first : LexemeKind) (found : List tokens.Token) (ts : List Lexeme) → Reads kind t →
    piece (spelling t ++ rest) ≡ Token kind (length (spelling t)) → is_within_limit second first t ≡ true →
    Goes (v ++ (spelling t ++ rest)) (context first t.kind) (length v + length (spelling t)) rest (found ++ record { start = length v; end = length v + length (spelling t); kind = kind } ∷ []) ts →
    Goes (v ++ (spelling t ++ rest)) (context second first) (length v) (spelling t ++ rest) found (t ∷ ts)
goes_token v rest t kind second first found ts r e within (more, scans, same) =
    let here : tokens.Token = record { start = length v; end = length v + length (spelling t); kind = kind } in (
      here ∷ more,
      token_step (context second first) (context first t.kind) (length v) kind (spelling t) rest found (Ok (found ++ here ∷ more)) r.some e (r.small second first within) (r.after_is second first)
          (subst (λ found'. Scans (context first t.kind) (length v + length (spelling t)) rest (found ++ here ∷ []) (Ok found')) (append_assoc found (here ∷ []) more) scans),
      ap₂ (λ x xs. x ∷ xs) (ap (lexeme kind) (slice_at v (spelling t) rest kind) ∙ r.means) same,
    )

kinds_same : (a b : LexemeKind) → same_kind a b ≡ true → a ≡ b
unfolding same_kind
kinds_same a b h = same_true the_type (search rules) a b h

minus_alone : piece (45 ∷ []) ≡ Token token.Symbol 1
unfolding piece
minus_alone = refl

front_append : (s rest : Text) → 0 < length s → is_in class.Blank (slice_index s 0) ≡ false → is_in class.Blank (slice_index (s ++ rest) 0) ≡ false
front_append [] rest some front = absurd (omega arith)
front_append (b ∷ s) rest some front = front

minus_text : (text : Text) (value : ℕ) → is_spellable (record { kind = k.Minus; text = text; value = value }) ≡ true → spelling (record { kind = k.Minus; text = text; value = value }) ≡ 45 ∷ []
unfolding is_any_word same_kind
minus_text text value h =
    let parts = and_parts _ (value == 0) h in
    ap (λ z. 45 ∷ z) ((bytes_eq-Decides text []).0 parts.0)

minus_spelling : (t : Lexeme) → t.kind ≡ k.Minus → is_spellable t ≡ true → spelling t ≡ 45 ∷ []
minus_spelling t minus h =
    subst (λ x. spelling (record { kind = x; text = t.text; value = t.value }) ≡ 45 ∷ []) (sym minus)
    (minus_text t.text t.value (subst (λ x. is_spellable (record { kind = x; text = t.text; value = t.value }) ≡ true) minus h))

number_text : (text : Text) (value : ℕ) → is_spellable (record { kind = k.Number; text = text; value = value }) ≡ true → (0 < length (decimal value)) × (is_in class.Digit (slice_index (decimal value) 0) ≡ true)
number_text text value h =
    let parts = and_parts _ (nat_le value (2 ^ 63)) h in
    let le : value ≤ 2 ^ 63 = leb-true value (2 ^ 63) parts.1 in
    let d = decimal_number value (omega arith) in
    (d.0, digits_front (decimal value) d.0 d.1)

number_front : (t : Lexeme) → t.kind ≡ k.Number → is_spellable t ≡ true → (0 < length (spelling t)) × (is_in class.Digit (slice_index (spelling t) 0) ≡ true)
number_front t number h =
    subst (λ x. (0 < length (spelling (record { kind = x; text = t.text; value = t.value }))) × (is_in class.Digit (slice_index (spelling (record { kind = x; text = t.text; value = t.value })) 0) ≡ true)) (sym number)
    (number_text t.text t.value (subst (λ x. is_spellable (record { kind = x; text = t.text; value = t.value }) ≡ true) number h))

not_end : (t : Lexeme) → t.kind ≡ k.End → is_spellable t ≡ true → ⊥
not_end t end h = both_ways false refl (subst (λ x. is_spellable (record { kind = x; text = t.text; value = t.value }) ≡ true) end h)

minus_digit : (z more : Text) → 0 < length z → is_in class.Digit (slice_index z 0) ≡ true → piece (45 ∷ (z ++ more)) ≡ Token token.Symbol 1
minus_digit [] more some digit = absurd (omega arith)
minus_digit (b ∷ z) more some digit = minus_piece b (z ++ more) digit

same_token : (kind : TokenKind) → Token token.Symbol 1 ≡ Token kind 1 → token.Symbol ≡ kind
same_token kind e = cc

-- a minus with a number behind it
piece_minus : (t : Lexeme) (kind : TokenKind) (z more : Text) → is_spellable t ≡ true → t.kind ≡ k.Minus → Reads kind t → 0 < length z → is_in class.Digit (slice_index z 0) ≡ true →
    piece (spelling t ++ (z ++ more)) ≡ Token kind (length (spelling t))
piece_minus t kind z more h minus r some digit =
    let e : spelling t ≡ 45 ∷ [] = minus_spelling t minus h in
    let alone : piece (45 ∷ []) ≡ Token kind 1 = subst (λ s. piece (s ++ []) ≡ Token kind (length s)) e (r.piece_is [] refl) in
    let symbol : token.Symbol ≡ kind = same_token kind (sym minus_alone ∙ alone) in
    subst (λ s. piece (s ++ (z ++ more)) ≡ Token kind (length s)) (sym e) (minus_digit z more some digit ∙ ap (λ x. Token x 1) symbol)

-- the token is a lexeme's spelling whatever lexemes follow
next_piece : (t : Lexeme) (kind : TokenKind) (first : LexemeKind) (ts : List Lexeme) → is_spellable t ≡ true → are_spellable_behind first t.kind ts ≡ true → Reads kind t →
    piece (spelling t ++ spelled_behind first t.kind ts) ≡ Token kind (length (spelling t))
next_piece t kind first [] h more r = r.piece_is [] refl
next_piece t kind first (next ∷ ts) h more r = ⊎_elim glued apart (cases_Bool (same_kind t.kind k.End || (same_kind t.kind k.Minus && not (ends_operand first) && same_kind next.kind k.Number)))
  where
    spellable : is_spellable next ≡ true
    spellable = (and_parts _ _ (and_parts _ (are_spellable_behind t.kind next.kind ts) more).0).0

    apart : (same_kind t.kind k.End || (same_kind t.kind k.Minus && not (ends_operand first) && same_kind next.kind k.Number)) ≡ false →
        piece (spelling t ++ spelled_behind first t.kind (next ∷ ts)) ≡ Token kind (length (spelling t))
    apart e = subst (λ g. piece (spelling t ++ (g ++ spelling next ++ spelled_behind t.kind next.kind ts)) ≡ Token kind (length (spelling t))) (sym (cond-false _ [] (32 ∷ []) e))
        (r.piece_is (32 ∷ (spelling next ++ spelled_behind t.kind next.kind ts)) refl)

    number : (same_kind t.kind k.Minus && not (ends_operand first) && same_kind next.kind k.Number) ≡ true →
        piece (spelling t ++ (spelling next ++ spelled_behind t.kind next.kind ts)) ≡ Token kind (length (spelling t))
    number e =
        let parts = and_parts (same_kind t.kind k.Minus && not (ends_operand first)) (same_kind next.kind k.Number) e in
        let minus : t.kind ≡ k.Minus = kinds_same t.kind k.Minus (and_parts (same_kind t.kind k.Minus) (not (ends_operand first)) parts.0).0 in
        let digits = number_front next (kinds_same next.kind k.Number parts.1) spellable in
        piece_minus t kind (spelling next) (spelled_behind t.kind next.kind ts) h minus r digits.0 digits.1

    glued : (same_kind t.kind k.End || (same_kind t.kind k.Minus && not (ends_operand first) && same_kind next.kind k.Number)) ≡ true →
        piece (spelling t ++ spelled_behind first t.kind (next ∷ ts)) ≡ Token kind (length (spelling t))
    glued e = subst (λ g. piece (spelling t ++ (g ++ spelling next ++ spelled_behind t.kind next.kind ts)) ≡ Token kind (length (spelling t))) (sym (cond-true _ [] (32 ∷ []) e))
        (⊎_elim (λ end. absurd (not_end t (kinds_same t.kind k.End end) h)) number (or_cases (same_kind t.kind k.End) _ e))

gap_cases : (second first next : LexemeKind) → (gap second first next ≡ []) ⊎ (gap second first next ≡ 32 ∷ [])
gap_cases second first next = ⊎_elim (λ e. inl (cond-true _ [] (32 ∷ []) e)) (λ e. inr (cond-false _ [] (32 ∷ []) e))
    (cases_Bool (same_kind first k.End || (same_kind first k.Minus && not (ends_operand second) && same_kind next k.Number)))

goes_gap : (g : Text) → (g ≡ []) ⊎ (g ≡ 32 ∷ []) → (c : Context) (u s rest : Text) (found : List tokens.Token) (ts : List Lexeme) → 0 < length s → is_in class.Blank (slice_index s 0) ≡ false →
    Goes ((u ++ g) ++ (s ++ rest)) c (length (u ++ g)) (s ++ rest) found ts → Goes (u ++ (g ++ s ++ rest)) c (length u) (g ++ s ++ rest) found ts
goes_gap g (inl e) c u s rest found ts some front =
    subst (λ g. Goes ((u ++ g) ++ (s ++ rest)) c (length (u ++ g)) (s ++ rest) found ts → Goes (u ++ (g ++ s ++ rest)) c (length u) (g ++ s ++ rest) found ts) (sym e)
    (λ h. subst (λ w. Goes (w ++ (s ++ rest)) c (length w) (s ++ rest) found ts) (append-nil u) h)
goes_gap g (inr e) c u s rest found ts some front =
    subst (λ g. Goes ((u ++ g) ++ (s ++ rest)) c (length (u ++ g)) (s ++ rest) found ts → Goes (u ++ (g ++ s ++ rest)) c (length u) (g ++ s ++ rest) found ts) (sym e) blank
  where
    blank : Goes ((u ++ 32 ∷ []) ++ (s ++ rest)) c (length (u ++ 32 ∷ [])) (s ++ rest) found ts → Goes (u ++ (32 ∷ (s ++ rest))) c (length u) (32 ∷ (s ++ rest)) found ts
    blank (more, scans, same) = (
      more,
      blank_step c (length u) (s ++ rest) found (Ok (found ++ more)) (omega (arith, length-append s rest)) (front_append s rest some front)
          (subst (λ n. Scans c n (s ++ rest) found (Ok (found ++ more))) (length-append u (32 ∷ [])) scans),
      subst (λ text. map (lexeme_of text) more ≡ ts) (append_assoc u (32 ∷ []) (s ++ rest)) same,
    )

goes : (ts : List Lexeme) (second first : LexemeKind) (u : Text) (found : List tokens.Token) → are_spellable_behind second first ts ≡ true →
    Goes (u ++ spelled_behind second first ts) (context second first) (length u) (spelled_behind second first ts) found ts
goes [] second first u found h = ([], subst (λ f. Scans (context second first) (length u) [] found (Ok f)) (sym (append-nil found)) scanning.ends, refl)
goes (t ∷ ts) second first u found h =
    let parts = and_parts (is_spellable t && is_within_limit second first t) (are_spellable_behind first t.kind ts) h in
    let both = and_parts (is_spellable t) (is_within_limit second first t) parts.0 in
    let (kind, r) = reads t both.0 in
    let v : Text = u ++ gap second first t.kind in
    let here : tokens.Token = record { start = length v; end = length v + length (spelling t); kind = kind } in
    let rest : Text = spelled_behind first t.kind ts in
    let later : Goes ((v ++ spelling t) ++ rest) (context first t.kind) (length (v ++ spelling t)) rest (found ++ here ∷ []) ts = goes ts first t.kind (v ++ spelling t) (found ++ here ∷ []) parts.1 in
    let placed : Goes ((v ++ spelling t) ++ rest) (context first t.kind) (length v + length (spelling t)) rest (found ++ here ∷ []) ts =
    (subst (λ n. Goes ((v ++ spelling t) ++ rest) (context first t.kind) n rest (found ++ here ∷ []) ts) (length-append v (spelling t)) later) in
    let whole : Goes (v ++ (spelling t ++ rest)) (context first t.kind) (length v + length (spelling t)) rest (found ++ here ∷ []) ts =
    (subst (λ text. Goes text (context first t.kind) (length v + length (spelling t)) rest (found ++ here ∷ []) ts) (append_assoc v (spelling t) rest) placed) in
    goes_gap (gap second first t.kind) (gap_cases second first t.kind) (context second first) u (spelling t) rest found (t ∷ ts) r.some r.front
    (goes_token v rest t kind second first found ts r (next_piece t kind first ts both.0 parts.1 r) both.1 whole)

pub reads_back : (ts : List Lexeme) → are_spellable ts ≡ true →
    (found : List tokens.Token) × Scans Open 0 (spelled ts) [] (Ok found) × (map (lexeme_of (spelled ts)) found ≡ ts)
unfolding spelled are_spellable same_kind
reads_back ts h = goes ts k.End k.End [] [] h
