use Rattle.std.proofs.Common.{◌≡◌, ◌∷◌, [], false, refl, sym, ◌∙◌, subst}
use Rattle.value_core.specs.EventOrder.{Fresh, standing}
use Rattle.value_core.specs.Order.{Row, same_row}
use Rattle.event_ledger.specs.Keyed.{AreApart}
use Rattle.cdc_histories.proofs.LateLemmas.{apart_differ, fresh_others}
use Rattle.cdc_histories.proofs.tests.users.Goals as goal

differ : (a b x y : Row) → a ≡ x → b ≡ y → same_row x y ≡ false → same_row a b ≡ false
differ a b x y e f is = (λ i. same_row (e i) (f i)) ∙ is

pub returns-clause-apart : goal.returns-clause-apart
returns-clause-apart c =
    let g = c.in_ok-gone.gone in
    let m = c.in_ok-moved.moved in
    let o = c.in_ok-other.other in
    let k = c.in_ok-came.came in
    let ge = c.in_ok-gone.ensures.at in
    let me = c.in_ok-moved.ensures.at in
    let oe = c.in_ok-other.ensures.at in
    let ke = c.in_ok-came.ensures.at in
    subst AreApart (sym c.in_ok-events.ensures)
    (apart_differ (g ∷ m ∷ o ∷ k ∷ []) (
      (differ m.sequence g.sequence _ _ me ge refl, (differ o.sequence g.sequence _ _ oe ge refl, (differ k.sequence g.sequence _ _ ke ge refl, tt))),
      (
        (differ o.sequence m.sequence _ _ oe me refl, (differ k.sequence m.sequence _ _ ke me refl, tt)),
        ((differ k.sequence o.sequence _ _ ke oe refl, tt), (tt, tt)),
      ),
    ))

pub returns-clause-late : goal.returns-clause-late
returns-clause-late c late at =
    let g = c.in_ok-gone.gone in
    let m = c.in_ok-moved.moved in
    let o = c.in_ok-other.other in
    let k = c.in_ok-came.came in
    subst (λ events. standing events late ≡ Fresh) (sym c.in_ok-events.ensures)
    (fresh_others late (g ∷ m ∷ o ∷ k ∷ []) (
      differ g.sequence late.sequence _ _ c.in_ok-gone.ensures.at at refl,
      (
        differ m.sequence late.sequence _ _ c.in_ok-moved.ensures.at at refl,
        (
          differ o.sequence late.sequence _ _ c.in_ok-other.ensures.at at refl,
          (differ k.sequence late.sequence _ _ c.in_ok-came.ensures.at at refl, tt),
        ),
      ),
    ))
