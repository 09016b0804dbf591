-- Scans along a run.
use Rattle.std.proofs.Common.{◌≡◌, ℕ, zero, suc, ◌+◌, ◌-◌, ◌<◌, ◌≤◌, true, false, List, [], ◌∷◌, length, take, drop, slice_index_or, Option, Some, None, refl, sym, ap, ◌∙◌, subst, arith}
use Rattle.std.proofs.lemmas.List.{drop_all, length-drop}
use Rattle.value_core.specs.Order.{Row}
use Rattle.event_history.specs.declared.history.Entry.{Entry}
use Rattle.flow_model.specs.History.{goes_on}
use Rattle.cdc_runs.specs.Entries.{IsRunFrom, IsRunTo, Stops, columns_after, moment_of, moments_of}
use Rattle.cdc_runs.specs.Runs.{interval_at, moment_goes_on, one_run}
use Rattle.cdc_runs.proofs.CodeLemmas.{at_place}
use Rattle.cdc_runs.proofs.StandLemmas.{and-both, and-true, goes_on_one}

-- ---- backwards

pub record Back (tracked : List ℕ) (entries : List Entry) (start place : ℕ) (first : Entry) (taken before : ℕ) : Type 0 where
  pub ordered : start ≤ place
  pub within : place < length entries
  pub at : first ≡ slice_index_or entries start first
  pub one : one_run tracked (moments_of (take (suc place - start) (drop start entries))) ≡ true
  pub looks : taken + start ≡ before + place + 1

one_more : (tracked : List ℕ) (x y : Entry) (ys : List Entry) (k : ℕ) → moment_goes_on tracked (columns_after x) (moments_of (y ∷ [])) ≡ true → one_run tracked (moments_of (take (suc k) (y ∷ ys))) ≡ true
    → one_run tracked (moments_of (take (suc (suc k)) (x ∷ (y ∷ ys)))) ≡ true
one_more tracked x y ys k e one = and-both (moment_goes_on tracked (columns_after x) (moments_of (y ∷ []))) (one_run tracked (moments_of (take (suc k) (y ∷ ys)))) e one

back_by : (tracked : List ℕ) (entries : List Entry) (i place k : ℕ) (x first : Entry) → i + 1 ≤ place → place < length entries → suc place - (i + 1) ≡ suc k → x ≡ slice_index_or entries i x → first ≡ slice_index_or entries (i + 1) first
    → moment_goes_on tracked (columns_after x) (moments_of (first ∷ [])) ≡ true → one_run tracked (moments_of (take (suc place - (i + 1)) (drop (i + 1) entries))) ≡ true
    → one_run tracked (moments_of (take (suc place - i) (drop i entries))) ≡ true
back_by tracked entries i place k x first ordered within at here there e one =
    let mine : drop i entries ≡ x ∷ drop (i + 1) entries = at_place entries i x (omega arith) here in
    let next : drop (i + 1) entries ≡ first ∷ drop (i + 1 + 1) entries = at_place entries (i + 1) first (omega arith) there in
    let n : suc place - i ≡ suc (suc k) = omega arith in
    let known : one_run tracked (moments_of (take (suc k) (first ∷ drop (i + 1 + 1) entries))) ≡ true = sym (λ j. one_run tracked (moments_of (take (at j) (next j)))) ∙ one in
    (λ j. one_run tracked (moments_of (take (n j) ((mine ∙ ap (λ zs. x ∷ zs) next) j)))) ∙ one_more tracked x first (drop (i + 1 + 1) entries) k e known

pub back_more : (tracked : List ℕ) (entries : List Entry) (start place less : ℕ) (first x : Entry) (taken more before : ℕ) → Back tracked entries start place first taken before
    → less + 1 ≡ start → x ≡ slice_index_or entries less x → more ≡ taken + 1 → moment_goes_on tracked (columns_after x) (moments_of (first ∷ [])) ≡ true
    → Back tracked entries less place x more before
back_more tracked entries start place less first x taken more before back is here one e =
    let ordered : start ≤ place = back.ordered in let within : place < length entries = back.within in let looks : taken + start ≡ before + place + 1 = back.looks in
    let k : suc place - (less + 1) ≡ suc (place - (less + 1)) = omega arith in
    record {
      ordered = omega arith;
      within = within;
      at = here;
      one = back_by tracked entries less place (place - (less + 1)) x first (omega arith) within k here (subst (λ n. first ≡ slice_index_or entries n first) (sym is) back.at) e
          (subst (λ n. one_run tracked (moments_of (take (suc place - n) (drop n entries))) ≡ true) (sym is) back.one);
      looks = omega arith;
    }

stops_at : (tracked : List ℕ) (entries : List Entry) (i : ℕ) (x first : Entry) → i + 1 < length entries → x ≡ slice_index_or entries i x → first ≡ slice_index_or entries (suc i) first
    → moment_goes_on tracked (columns_after x) (moments_of (first ∷ [])) ≡ false → Stops tracked (moments_of (take (suc i) entries)) (moments_of (drop (suc i) entries))
stops_at tracked [] i x first within here there e = absurd (omega arith)
stops_at tracked (y ∷ []) i x first within here there e = absurd (omega arith)
stops_at tracked (y ∷ (z ∷ zs)) zero x first within here there e =
    head (columns_after y) (subst (λ w. moment_goes_on tracked (columns_after w) (moments_of (first ∷ [])) ≡ false) here e)
  where
    head : (columns : Option Row) → moment_goes_on tracked columns (moments_of (first ∷ [])) ≡ false → moment_goes_on tracked columns (moments_of (z ∷ zs)) ≡ false
    head None h = refl
    head (Some columns) h = subst (λ w. goes_on tracked columns (moments_of (w ∷ [])) ≡ false) there h
stops_at tracked (y ∷ (z ∷ zs)) (suc i) x first within here there e = stops_at tracked (z ∷ zs) i x first (omega arith) here there e

pub back_ends : (tracked : List ℕ) (entries : List Entry) (start place less : ℕ) (first x : Entry) (taken before : ℕ) → Back tracked entries start place first taken before
    → less + 1 ≡ start → x ≡ slice_index_or entries less x → moment_goes_on tracked (columns_after x) (moments_of (first ∷ [])) ≡ false
    → IsRunFrom tracked entries start place
back_ends tracked entries start place less first x taken before back is here e =
    let ordered : start ≤ place = back.ordered in let within : place < length entries = back.within in
    let n : suc less ≡ start = omega arith in
    record {
      ordered = ordered;
      one = back.one;
      stops = subst (λ k. Stops tracked (moments_of (take k entries)) (moments_of (drop k entries))) n
          (stops_at tracked entries less x first (omega arith) here (subst (λ k. first ≡ slice_index_or entries k first) (sym n) back.at) e);
    }

pub back_whole : (tracked : List ℕ) (entries : List Entry) (start place : ℕ) (first : Entry) (taken before : ℕ) → Back tracked entries start place first taken before → start ≡ 0
    → IsRunFrom tracked entries start place
back_whole tracked entries start place first taken before back is =
    record { ordered = back.ordered; one = back.one; stops = subst (λ k. Stops tracked (moments_of (take k entries)) (moments_of (drop k entries))) (sym is) tt }

-- ---- forwards

pub record Ahead (tracked : List ℕ) (entries : List Entry) (place end i : ℕ) (last : Entry) (taken before : ℕ) : Type 0 where
  pub next : i ≡ end + 1
  pub ordered : place ≤ end
  pub within : end < length entries
  pub at : last ≡ slice_index_or entries end last
  pub one : one_run tracked (moments_of (take (suc end - place) (drop place entries))) ≡ true
  pub same : (start : Row) → interval_at tracked (Some start) (moments_of (drop place entries)) ≡ interval_at tracked (Some start) (moments_of (drop end entries))
  pub looks : taken + place ≡ before + end + 1

-- one entry more at the end of a run
one_longer : (tracked : List ℕ) (entries : List Entry) (k : ℕ) (x y : Entry) → k + 1 < length entries → x ≡ slice_index_or entries k x → y ≡ slice_index_or entries (suc k) y
    → moment_goes_on tracked (columns_after x) (moments_of (y ∷ [])) ≡ true → one_run tracked (moments_of (take (suc k) entries)) ≡ true → one_run tracked (moments_of (take (suc (suc k)) entries)) ≡ true
one_longer tracked [] k x y within here there e one = absurd (omega arith)
one_longer tracked (w ∷ []) k x y within here there e one = absurd (omega arith)
one_longer tracked (w ∷ (z ∷ zs)) zero x y within here there e one =
    and-both (moment_goes_on tracked (columns_after w) (moments_of (z ∷ []))) true (λ j. at j) refl
  where
    at : moment_goes_on tracked (columns_after w) (moments_of (z ∷ [])) ≡ true
    at = (λ j. moment_goes_on tracked (columns_after (sym here j)) (moments_of (sym there j ∷ []))) ∙ e
one_longer tracked (w ∷ (z ∷ zs)) (suc k) x y within here there e one =
    let both = and-true (moment_goes_on tracked (columns_after w) (moments_of (z ∷ []))) (one_run tracked (moments_of (take (suc k) (z ∷ zs)))) one in
    and-both (moment_goes_on tracked (columns_after w) (moments_of (z ∷ []))) (one_run tracked (moments_of (take (suc (suc k)) (z ∷ zs)))) both.0
    (one_longer tracked (z ∷ zs) k x y (omega arith) here there e both.1)

drop_at : (entries : List Entry) (place k : ℕ) (d : Entry) → slice_index_or (drop place entries) k d ≡ slice_index_or entries (place + k) d
drop_at entries zero k d = let e : zero + k ≡ k = omega arith in rw e refl
drop_at [] (suc place) k d = refl
drop_at (x ∷ xs) (suc place) k d = let e : suc place + k ≡ suc (place + k) = omega arith in rw e (drop_at xs place k d)

pub ahead_more : (tracked : List ℕ) (entries : List Entry) (place end i : ℕ) (last x : Entry) (taken more before : ℕ) → Ahead tracked entries place end i last taken before
    → i < length entries → x ≡ slice_index_or entries i x → more ≡ taken + 1 → moment_goes_on tracked (columns_after last) (moments_of (x ∷ [])) ≡ true
    → Ahead tracked entries place i (i + 1) x more before
ahead_more tracked entries place end i last x taken more before ahead within here one e =
    let next : i ≡ end + 1 = ahead.next in let ordered : place ≤ end = ahead.ordered in let looks : taken + place ≡ before + end + 1 = ahead.looks in
    let behind : drop end entries ≡ last ∷ drop (end + 1) entries = at_place entries end last ahead.within ahead.at in
    let there : drop i entries ≡ x ∷ drop (i + 1) entries = at_place entries i x within here in
    let two : drop end entries ≡ last ∷ (x ∷ drop (i + 1) entries) = behind ∙ ap (λ k. last ∷ drop k entries) (sym next) ∙ ap (λ zs. last ∷ zs) there in
    let k : suc end - place ≡ suc (end - place) = omega arith in
    let n : suc i - place ≡ suc (suc (end - place)) = omega arith in
    let p : place + (end - place) ≡ end = omega arith in
    let q : place + suc (end - place) ≡ i = omega arith in
    record {
      next = refl;
      ordered = omega arith;
      within = within;
      at = here;
      one = subst (λ m. one_run tracked (moments_of (take m (drop place entries))) ≡ true) (sym n)
          (one_longer tracked (drop place entries) (end - place) last x (simp length-drop (omega arith)) (ahead.at ∙ ap (λ m. slice_index_or entries m last) (sym p) ∙ sym (drop_at entries place (end - place) last))
          (here ∙ ap (λ m. slice_index_or entries m x) (sym q) ∙ sym (drop_at entries place (suc (end - place)) x)) e
          (subst (λ m. one_run tracked (moments_of (take m (drop place entries))) ≡ true) k ahead.one));
      same = λ start. ahead.same start ∙ ap (λ zs. interval_at tracked (Some start) (moments_of zs)) two
          ∙ goes_on_one tracked start (moment_of x) (moments_of (drop (i + 1) entries)) (interval_at tracked (Some start) (moments_of (x ∷ drop (i + 1) entries))) (columns_after last) e
          ∙ ap (λ zs. interval_at tracked (Some start) (moments_of zs)) (sym there);
      looks = omega arith;
    }

stops_on : (tracked : List ℕ) (entries : List Entry) (end : ℕ) (last : Entry) → end < length entries → last ≡ slice_index_or entries end last
    → moment_goes_on tracked (columns_after last) (moments_of (drop (end + 1) entries)) ≡ false
    → (d : Entry) → moment_goes_on tracked (columns_after (slice_index_or entries end d)) (moments_of (drop (end + 1) entries)) ≡ false
stops_on tracked [] end last within here e d = absurd (omega arith)
stops_on tracked (x ∷ xs) zero last within here e d = subst (λ w. moment_goes_on tracked (columns_after w) (moments_of (drop (zero + 1) (x ∷ xs))) ≡ false) here e
stops_on tracked (x ∷ xs) (suc end) last within here e d =
    let n : suc end + 1 ≡ suc (end + 1) = omega arith in
    rw n (stops_on tracked xs end last (omega arith) here (subst (λ k. moment_goes_on tracked (columns_after last) (moments_of (drop k (x ∷ xs))) ≡ false) n e) d)

pub ahead_ends : (tracked : List ℕ) (entries : List Entry) (place end i : ℕ) (last x : Entry) (taken before : ℕ) → Ahead tracked entries place end i last taken before
    → i < length entries → x ≡ slice_index_or entries i x → moment_goes_on tracked (columns_after last) (moments_of (x ∷ [])) ≡ false
    → IsRunTo tracked entries place end
ahead_ends tracked entries place end i last x taken before ahead within here e =
    record {
      ordered = ahead.ordered;
      within = ahead.within;
      one = ahead.one;
      same = ahead.same;
      stops = stops_on tracked entries end last ahead.within ahead.at (more (columns_after last) e);
    }
  where
    more : (columns : Option Row) → moment_goes_on tracked columns (moments_of (x ∷ [])) ≡ false → moment_goes_on tracked columns (moments_of (drop (end + 1) entries)) ≡ false
    more None h = refl
    more (Some columns) h = subst (λ zs. goes_on tracked columns (moments_of zs) ≡ false) (sym (at_place entries i x within here) ∙ ap (λ k. drop k entries) ahead.next) h

nothing_on : (tracked : List ℕ) (columns : Option Row) → moment_goes_on tracked columns [] ≡ false
nothing_on tracked None = refl
nothing_on tracked (Some columns) = refl

pub ahead_whole : (tracked : List ℕ) (entries : List Entry) (place end i : ℕ) (last : Entry) (taken before : ℕ) → Ahead tracked entries place end i last taken before → length entries ≤ i
    → IsRunTo tracked entries place end
ahead_whole tracked entries place end i last taken before ahead past =
    let next : i ≡ end + 1 = ahead.next in
    record {
      ordered = ahead.ordered;
      within = ahead.within;
      one = ahead.one;
      same = ahead.same;
      stops = λ d. ap (λ zs. moment_goes_on tracked (columns_after (slice_index_or entries end d)) (moments_of zs)) (drop_all (end + 1) entries (omega arith)) ∙ nothing_on tracked (columns_after (slice_index_or entries end d));
    }
