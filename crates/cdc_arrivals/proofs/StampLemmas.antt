-- Two events leave the same stamps in either order.
use Rattle.std.proofs.Common.{◌≡◌, ℕ, Bool, true, false, ◌&&◌, if◌then◌else◌, List, [], ◌∷◌, Option, Some, None, length, refl, sym, ap, ◌∙◌, subst, arith}
use Rattle.std.specs.Prelude.{◌==◌}
use Rattle.std.specs.declared.cmp.Ordering.{Ordering}
use Rattle.std.specs.declared.cmp.Ordering.TheVariants.{Less, Equal, Greater}
use Rattle.std.specs.Ordering.{is_eq, is_gt, ordering_reverse}
use Rattle.std.specs.Cmp.{upto}
use Rattle.value_core.specs.declared.event.Event.{Event}
use Rattle.value_core.specs.declared.event.EventKind.{EventKind}
use Rattle.value_core.specs.declared.event.EventKind.TheVariants.{Upsert, Delete, Truncate}
use Rattle.value_core.specs.declared.value.Value.{Value}
use Rattle.value_core.specs.EventOrder.{kind_rank}
use Rattle.value_core.specs.Order.{Row, row_order, same_row, is_null}
use Rattle.value_core.specs.OrderLaws.{row_order_total, rows_apart, same_row_laws}
use Rattle.cdc_scd1.specs.Stamps.{Cell, Stamps, cell_after, cells_after, is_later, latest, stamped, stamped_by, unset}
use Rattle.cdc_arrivals.specs.Arrivals.{HasWidth, are_alike, collide}

-- ---- sequences

abbrev above : Row → Row → Bool
above a b = is_gt (row_order a b)

reversed : (r s : Ordering) → s ≡ ordering_reverse r → is_gt r ≡ true → is_gt s ≡ false
reversed Less s e h = cc
reversed Equal s e h = cc
reversed Greater s e h = ap is_gt e

not_back : (a b : Row) → above a b ≡ true → above b a ≡ false
not_back a b h = reversed (row_order a b) (row_order b a) (row_order_total.antisymm b a) h

back_by : (r s : Ordering) → s ≡ ordering_reverse r → is_eq r ≡ false → is_gt r ≡ false → is_gt s ≡ true
back_by Less s e apart h = ap is_gt e
back_by Equal s e apart h = cc
back_by Greater s e apart h = cc

back : (a b : Row) → same_row a b ≡ false → above a b ≡ false → above b a ≡ true
back a b apart h = back_by (row_order a b) (row_order b a) (row_order_total.antisymm b a) apart h

-- what isn't above a known sequence isn't above what is
not_over : (known s t : Row) → above s known ≡ true → above t known ≡ false → above t s ≡ false
not_over known s t over under = by (above t s) refl
  where
    by : (test : Bool) → above t s ≡ test → test ≡ false
    by false e = refl
    by true e =
        let up : above s known ≡ false = upto row_order_total s t known (not_back t s e) under in
        let wrong : true ≡ false = sym over ∙ up in
        absurd (let none : ⊥ = cc in none)

not_over_any : (known : Option Row) (s t : Row) → is_later known s ≡ true → is_later known t ≡ false → above t s ≡ false
not_over_any None s t over under = cc
not_over_any (Some k) s t over under = not_over k s t over under

-- ---- what has a stamp takes two of them in either order

abbrev updated : {X V : Type 0} → (X → Option Row) → (Row → V → X) → Row → V → X → X
updated stamp make s v x = if is_later (stamp x) s then make s v else x

module _ {X V : Type 0} (stamp : X → Option Row) (make : Row → V → X) (known : (s : Row) (v : V) → stamp (make s v) ≡ Some s) where
  set_first : (s t : Row) (v w : V) (x : X) → is_later (stamp x) t ≡ true → updated stamp make s v (updated stamp make t w x) ≡ (if above s t then make s v else make t w)
  set_first s t v w x e = ap (λ (b : Bool). updated stamp make s v (if b then make t w else x)) e ∙ ap (λ (o : Option Row). if is_later o s then make s v else make t w) (known t w)

  set_not : (s t : Row) (v w : V) (x : X) → is_later (stamp x) t ≡ false → updated stamp make s v (updated stamp make t w x) ≡ updated stamp make s v x
  set_not s t v w x e = ap (λ (b : Bool). updated stamp make s v (if b then make t w else x)) e

  set_is : (s : Row) (v : V) (x : X) (b : Bool) → is_later (stamp x) s ≡ b → updated stamp make s v x ≡ (if b then make s v else x)
  set_is s v x b e = ap (λ (test : Bool). if test then make s v else x) e

  either_by : (s t : Row) (v w : V) (x : X) → same_row s t ≡ false → (a b c : Bool) → is_later (stamp x) s ≡ a → is_later (stamp x) t ≡ b → above s t ≡ c
      → updated stamp make s v (updated stamp make t w x) ≡ updated stamp make t w (updated stamp make s v x)
  either_by s t v w x apart true true true ea eb ec =
      set_first s t v w x eb ∙ ap (λ (c : Bool). if c then make s v else make t w) ec
      ∙ sym (set_first t s w v x ea ∙ ap (λ (d : Bool). if d then make t w else make s v) (not_back s t ec))
  either_by s t v w x apart true true false ea eb ec =
      set_first s t v w x eb ∙ ap (λ (c : Bool). if c then make s v else make t w) ec
      ∙ sym (set_first t s w v x ea ∙ ap (λ (d : Bool). if d then make t w else make s v) (back s t apart ec))
  either_by s t v w x apart true false c ea eb ec =
      set_not s t v w x eb ∙ set_is s v x true ea
      ∙ sym (set_first t s w v x ea ∙ ap (λ (d : Bool). if d then make t w else make s v) (not_over_any (stamp x) s t ea eb))
  either_by s t v w x apart false true c ea eb ec =
      set_first s t v w x eb ∙ ap (λ (d : Bool). if d then make s v else make t w) (not_over_any (stamp x) t s eb ea)
      ∙ sym (set_not t s w v x ea ∙ set_is t w x true eb)
  either_by s t v w x apart false false c ea eb ec =
      set_not s t v w x eb ∙ set_is s v x false ea ∙ sym (set_not t s w v x ea ∙ set_is t w x false eb)

  either : (s t : Row) (v w : V) (x : X) → same_row s t ≡ false → updated stamp make s v (updated stamp make t w x) ≡ updated stamp make t w (updated stamp make s v x)
  either s t v w x apart = either_by s t v w x apart (is_later (stamp x) s) (is_later (stamp x) t) (above s t) refl refl refl

-- ---- the greatest sequences

equal_by : (o : Ordering) → is_eq o ≡ true → o ≡ Equal
equal_by Less e = cc
equal_by Equal e = refl
equal_by Greater e = cc

abbrev seen : Row → Unit {0} → Option Row
seen s v = Some s

abbrev itself : Option Row → Option Row
itself o = o

latest_by : (known : Option Row) (s t : Row) (b : Bool) → same_row s t ≡ b → latest (latest known s) t ≡ latest (latest known t) s
latest_by known s t true e = subst (λ z. latest (latest known s) z ≡ latest (latest known z) s) (rows_apart s t (equal_by (row_order s t) e)) refl
latest_by known s t false e = either itself seen (λ u v. refl) t s tt tt known (same_row_laws.symm t s ∙ e)

latest_either : (known : Option Row) (s t : Row) → latest (latest known s) t ≡ latest (latest known t) s
latest_either known s t = latest_by known s t (same_row s t) refl

-- ---- the columns

abbrev cell_with : Row → Value → Cell
cell_with s v = record { value = v; stamp = Some s }

abbrev stamp_of : Cell → Option Row
stamp_of cell = cell.stamp

abbrev put : Row → Value → Cell → Cell
put = updated stamp_of cell_with

cell_by : (s t : Row) (v w : Value) (c : Cell) (p q : Bool) → same_row s t ≡ false
    → (if p then (if q then c else put t w c) else put s v (if q then c else put t w c)) ≡ (if q then (if p then c else put s v c) else put t w (if p then c else put s v c))
cell_by s t v w c true true apart = refl
cell_by s t v w c true false apart = refl
cell_by s t v w c false true apart = refl
cell_by s t v w c false false apart = either stamp_of cell_with (λ u z. refl) s t v w c apart

cell_either : (ignore_null : Bool) (s t : Row) (v w : Value) (c : Cell) → same_row s t ≡ false → cell_after ignore_null s v (cell_after ignore_null t w c) ≡ cell_after ignore_null t w (cell_after ignore_null s v c)
cell_either ignore_null s t v w c apart = cell_by s t v w c (ignore_null && is_null v) (ignore_null && is_null w) apart

cells_either : (ignore_null : Bool) (s t : Row) (vs ws : List Value) (cells : List Cell) → same_row s t ≡ false → length vs ≡ length ws
    → cells_after ignore_null s vs (cells_after ignore_null t ws cells) ≡ cells_after ignore_null t ws (cells_after ignore_null s vs cells)
cells_either ignore_null s t [] [] cells apart wide = refl
cells_either ignore_null s t [] (w ∷ ws) cells apart wide = absurd (let none : ⊥ = omega arith in none)
cells_either ignore_null s t (v ∷ vs) [] cells apart wide = absurd (let none : ⊥ = omega arith in none)
cells_either ignore_null s t (v ∷ vs) (w ∷ ws) [] apart wide =
    let rest : length vs ≡ length ws = omega arith in
    λ i. cell_either ignore_null s t v w unset apart i ∷ cells_either ignore_null s t vs ws [] apart rest i
cells_either ignore_null s t (v ∷ vs) (w ∷ ws) (c ∷ cs) apart wide =
    let rest : length vs ≡ length ws = omega arith in
    λ i. cell_either ignore_null s t v w c apart i ∷ cells_either ignore_null s t vs ws cs apart rest i

-- ---- events

and_true : (b : Bool) → (b && true) ≡ false → b ≡ false
and_true true e = e
and_true false e = refl

kinds_either : (ignore_null : Bool) (z : Stamps) (a b : Event) (ka kb : EventKind) (wide : ℕ) → ((kind_rank ka == 2) ≡ true → length a.columns ≡ wide) → ((kind_rank kb == 2) ≡ true → length b.columns ≡ wide)
    → (same_row a.sequence b.sequence && are_alike (kind_rank ka == 0) (kind_rank kb == 0)) ≡ false
    → stamped_by ignore_null (stamped_by ignore_null z a ka) b kb ≡ stamped_by ignore_null (stamped_by ignore_null z b kb) a ka
kinds_either ignore_null z a b Truncate Truncate wide wa wb apart =
    λ i. record { truncated = latest_either z.truncated a.sequence b.sequence i; deleted = z.deleted; upserted = z.upserted; cells = z.cells }
kinds_either ignore_null z a b Truncate Delete wide wa wb apart = refl
kinds_either ignore_null z a b Truncate Upsert wide wa wb apart = refl
kinds_either ignore_null z a b Delete Truncate wide wa wb apart = refl
kinds_either ignore_null z a b Delete Delete wide wa wb apart =
    λ i. record { truncated = z.truncated; deleted = latest_either z.deleted a.sequence b.sequence i; upserted = z.upserted; cells = z.cells }
kinds_either ignore_null z a b Delete Upsert wide wa wb apart = refl
kinds_either ignore_null z a b Upsert Truncate wide wa wb apart = refl
kinds_either ignore_null z a b Upsert Delete wide wa wb apart = refl
kinds_either ignore_null z a b Upsert Upsert wide wa wb apart =
    let other : same_row b.sequence a.sequence ≡ false = same_row_laws.symm b.sequence a.sequence ∙ and_true (same_row a.sequence b.sequence) apart in
    let even : length b.columns ≡ length a.columns = wb refl ∙ sym (wa refl) in
    λ i. record {
      truncated = z.truncated;
      deleted = z.deleted;
      upserted = latest_either z.upserted a.sequence b.sequence i;
      cells = cells_either ignore_null b.sequence a.sequence b.columns a.columns z.cells other even i;
    }

pub stamps_either : (ignore_null : Bool) (stamps : Stamps) (a b : Event) (wide : ℕ) → HasWidth wide a → HasWidth wide b → collide a b ≡ false
    → stamped ignore_null (stamped ignore_null stamps a) b ≡ stamped ignore_null (stamped ignore_null stamps b) a
stamps_either ignore_null stamps a b wide wa wb apart = kinds_either ignore_null stamps a b a.kind b.kind wide wa wb apart
