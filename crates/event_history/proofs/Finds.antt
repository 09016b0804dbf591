-- A search by halving.
use Rattle.std.proofs.Common.{◌≡◌, ◌<◌, ◌≤◌, ◌+◌, ◌-◌, ◌*◌, ◌/◌, ◌^◌, ℕ, zero, suc, List, [], ◌∷◌, ◌++◌, length, take, drop, set, slice_index_or, refl, sym, ap, ◌∙◌, subst, arith}
use Rattle.std.specs.declared.cmp.Ordering.{Ordering}
use Rattle.std.specs.declared.cmp.Ordering.TheVariants.{Less, Equal, Greater}
use Rattle.std.specs.Ordering.{ordering_reverse}
use Rattle.std.proofs.Math.Nat.{pow-suc}
use Rattle.value_core.specs.Order.{Row, row_order}
use Rattle.value_core.specs.OrderLaws.{row_order_total, rows_apart}
use Rattle.event_history.specs.declared.history.Entry.{Entry}
use Rattle.event_history.specs.Histories.{AllAbove, AllBelow, AreAscending, with_effective}

-- ---- what is above and below

pub above_trans : (s t : Row) (entries : List Entry) → row_order s t ≡ Less → AllAbove t entries → AllAbove s entries
above_trans s t [] e all = tt
above_trans s t (entry ∷ entries) e all = (row_order_total.trans s t entry.event.sequence e all.0, above_trans s t entries e all.1)

-- the entry at a place is above what a sequence is below
above_at : (s : Row) (entries : List Entry) (i : ℕ) (x : Entry) → AllAbove s entries → i < length entries → x ≡ slice_index_or entries i x → row_order s x.event.sequence ≡ Less
above_at s [] i x all within is = absurd (omega arith)
above_at s (entry ∷ entries) zero x all within is = subst (λ y. row_order s y.event.sequence ≡ Less) (sym is) all.0
above_at s (entry ∷ entries) (suc i) x all within is = above_at s entries i x all.1 (omega arith) is

pub below_more : (s : Row) (entries : List Entry) (i : ℕ) (x : Entry) → AreAscending entries → i < length entries → x ≡ slice_index_or entries i x → row_order x.event.sequence s ≡ Less
    → AllBelow s (take (suc i) entries)
below_more s [] i x order within is below = tt
below_more s (entry ∷ entries) zero x order within is below = (subst (λ y. row_order y.event.sequence s ≡ Less) is below, tt)
below_more s (entry ∷ entries) (suc i) x order within is below =
    (row_order_total.trans entry.event.sequence x.event.sequence s (above_at entry.event.sequence entries i x order.0 (omega arith) is) below, below_more s entries i x order.1 (omega arith) is below)

pub above_more : (s : Row) (entries : List Entry) (i : ℕ) (x : Entry) → AreAscending entries → i < length entries → x ≡ slice_index_or entries i x → row_order s x.event.sequence ≡ Less
    → AllAbove s (drop i entries)
above_more s [] i x order within is above = absurd (omega arith)
above_more s (entry ∷ entries) zero x order within is above =
    (subst (λ y. row_order s y.event.sequence ≡ Less) is above, above_trans s entry.event.sequence entries (subst (λ y. row_order s y.event.sequence ≡ Less) is above) order.0)
above_more s (entry ∷ entries) (suc i) x order within is above = above_more s entries i x order.1 (omega arith) is above

turned : (r s : Ordering) → s ≡ ordering_reverse r → r ≡ Greater → s ≡ Less
turned Less s e h = cc
turned Equal s e h = cc
turned Greater s e h = e

pub greater : (a b : Row) → row_order a b ≡ Greater → row_order b a ≡ Less
greater a b e = turned (row_order a b) (row_order b a) (row_order_total.antisymm b a) e

pub equal : (a b : Row) → row_order a b ≡ Equal → a ≡ b
equal a b e = rows_apart a b e

above_effective : (s : Row) (entries : List Entry) (i : ℕ) (columns : Row) → AllAbove s entries → AllAbove s (with_effective entries i columns)
above_effective s [] i columns all = tt
above_effective s (x ∷ xs) zero columns all = all
above_effective s (x ∷ xs) (suc i) columns all = (all.0, above_effective s xs i columns all.1)

pub ascending_effective : (entries : List Entry) (i : ℕ) (columns : Row) → AreAscending entries → AreAscending (with_effective entries i columns)
ascending_effective [] i columns order = tt
ascending_effective (x ∷ xs) zero columns order = order
ascending_effective (x ∷ xs) (suc i) columns order = (above_effective x.event.sequence xs i columns order.0, ascending_effective xs i columns order.1)

-- what a write at a place leaves
pub written : (entries : List Entry) (i : ℕ) (x : Entry) (columns : Row) → i < length entries → x ≡ slice_index_or entries i x → set entries i (record { event = x.event; effective = columns }) ≡ with_effective entries i columns
written [] i x columns within is = absurd (omega arith)
written (y ∷ ys) zero x columns within is = λ i. record { event = (is i).event; effective = columns } ∷ ys
written (y ∷ ys) (suc i) x columns within is = ap (λ zs. y ∷ zs) (written ys i x columns (omega arith) is)

-- ---- looks

-- a search in so many places, after so many looks, stays within a limit
pub record StaysWithin (size taken limit : ℕ) : Type 0 where
  pub halvings : ℕ
  pub below : size < 2 ^ halvings
  pub within : taken + halvings ≤ limit

half-by : (k size half looks limit : ℕ) → size < 2 ^ k → 0 < size → half + half ≤ size → looks + k ≤ limit → StaysWithin half (looks + 1) limit
half-by zero size half looks limit below some halved within = absurd (omega arith)
half-by (suc k) size half looks limit below some halved within =
    let double : 2 ^ suc k ≡ 2 ^ k * 2 = pow-suc 2 k in record { halvings = k; below = omega arith; within = omega arith }

pub half : (size half looks limit : ℕ) → StaysWithin size looks limit → 0 < size → half + half ≤ size → StaysWithin half (looks + 1) limit
half size part looks limit stays some halved = half-by stays.halvings size part looks limit stays.below some halved stays.within

-- what a search knows between two looks
pub record Seeks (entries : List Entry) (sequence : Row) (low high taken before : ℕ) : Type 0 where
  pub ordered : low ≤ high
  pub within : high ≤ length entries
  pub order : AreAscending entries
  pub below : AllBelow sequence (take low entries)
  pub above : AllAbove sequence (drop high entries)
  pub looks : (h : ℕ) → length entries < 2 ^ h → StaysWithin (high - low) taken (before + h)

pub seek_up : (entries : List Entry) (sequence : Row) (low high taken more before middle : ℕ) (x : Entry) → Seeks entries sequence low high taken before → low < high
    → middle ≡ low + (high - low) / 2 → x ≡ slice_index_or entries middle x → row_order x.event.sequence sequence ≡ Less → more ≡ taken + 1 → Seeks entries sequence (middle + 1) high more before
seek_up entries sequence low high taken more before middle x seeks some at is below one =
    let ordered : low ≤ high = seeks.ordered in let within : high ≤ length entries = seeks.within in
    let next : suc middle ≡ middle + 1 = omega arith in
    record {
      ordered = omega arith;
      within = within;
      order = seeks.order;
      below = subst (λ k. AllBelow sequence (take k entries)) next (below_more sequence entries middle x seeks.order (omega arith) is below);
      above = seeks.above;
      looks = λ h small. subst (λ k. StaysWithin (high - (middle + 1)) k (before + h)) (sym one) (half (high - low) (high - (middle + 1)) taken (before + h) (seeks.looks h small) (omega arith) (omega arith));
    }

pub seek_down : (entries : List Entry) (sequence : Row) (low high taken more before middle : ℕ) (x : Entry) → Seeks entries sequence low high taken before → low < high
    → middle ≡ low + (high - low) / 2 → x ≡ slice_index_or entries middle x → row_order x.event.sequence sequence ≡ Greater → more ≡ taken + 1 → Seeks entries sequence low middle more before
seek_down entries sequence low high taken more before middle x seeks some at is above one =
    let ordered : low ≤ high = seeks.ordered in let within : high ≤ length entries = seeks.within in
    record {
      ordered = omega arith;
      within = omega arith;
      order = seeks.order;
      below = seeks.below;
      above = above_more sequence entries middle x seeks.order (omega arith) is (greater x.event.sequence sequence above);
      looks = λ h small. subst (λ k. StaysWithin (middle - low) k (before + h)) (sym one) (half (high - low) (middle - low) taken (before + h) (seeks.looks h small) (omega arith) (omega arith));
    }

pub seek_ends : (entries : List Entry) (sequence : Row) (low high taken more before : ℕ) → Seeks entries sequence low high taken before → low < high → more ≡ taken + 1
    → (h : ℕ) → length entries < 2 ^ h → more ≤ before + h
seek_ends entries sequence low high taken more before seeks some one h small =
    let stays : StaysWithin (high - low) taken (before + h) = seeks.looks h small in
    let next : StaysWithin 0 (taken + 1) (before + h) = half (high - low) 0 taken (before + h) stays (omega arith) (omega arith) in
    let within : taken + 1 + next.halvings ≤ before + h = next.within in omega arith

-- an entry more at its place
above_put : (s : Row) (entry : Entry) (entries : List Entry) (i : ℕ) → AllAbove s entries → row_order s entry.event.sequence ≡ Less → AllAbove s (take i entries ++ entry ∷ drop i entries)
above_put s entry entries zero all e = (e, all)
above_put s entry [] (suc i) all e = (e, tt)
above_put s entry (x ∷ xs) (suc i) all e = (all.0, above_put s entry xs i all.1 e)

pub ascending_put : (entry : Entry) (entries : List Entry) (i : ℕ) → AreAscending entries → AllBelow entry.event.sequence (take i entries) → AllAbove entry.event.sequence (drop i entries)
    → AreAscending (take i entries ++ entry ∷ drop i entries)
ascending_put entry entries zero order below above = (above, order)
ascending_put entry [] (suc i) order below above = (above, tt)
ascending_put entry (x ∷ xs) (suc i) order below above = (above_put x.event.sequence entry xs i order.0 below.0, ascending_put entry xs i order.1 below.1 above)

pub found_at : (entries : List Entry) (sequence : Row) (i : ℕ) (x : Entry) → i < length entries → x ≡ slice_index_or entries i x → x.event.sequence ≡ sequence
    → (d : Entry) → (slice_index_or entries i d).event.sequence ≡ sequence
found_at [] sequence i x within is same d = absurd (omega arith)
found_at (entry ∷ entries) sequence zero x within is same d = ap (λ y. y.event.sequence) (sym is) ∙ same
found_at (entry ∷ entries) sequence (suc i) x within is same d = found_at entries sequence i x (omega arith) is same d
