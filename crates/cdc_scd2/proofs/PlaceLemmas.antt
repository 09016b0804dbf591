-- Where a sequence would stand, it isn't in a history.
use Rattle.std.proofs.Common.{◌≡◌, ◌≢◌, ℕ, zero, suc, List, [], ◌∷◌, take, drop, sym, ap, ◌∙◌}
use Rattle.std.specs.declared.cmp.Ordering.TheVariants.{Less, Equal}
use Rattle.std.specs.Cmp.{tied_itself}
use Rattle.value_core.specs.Order.{Row, row_order}
use Rattle.value_core.specs.OrderLaws.{row_order_total}
use Rattle.event_history.specs.declared.history.Entry.{Entry}
use Rattle.event_history.specs.Histories.{AllAbove, AllBelow}
use Rattle.cdc_scd2.specs.Cache.{IsAbsent}

less-equal : Less ≡ Equal → ⊥
less-equal h = cc

apart : (a b : Row) → row_order a b ≡ Less → b ≢ a
apart a b e same = less-equal (sym e ∙ ap (row_order a) same ∙ tied_itself row_order_total a)

absent_above : (sequence : Row) (entries : List Entry) → AllAbove sequence entries → IsAbsent sequence entries
absent_above sequence [] above = tt
absent_above sequence (x ∷ xs) above = (apart sequence x.event.sequence above.0, absent_above sequence xs above.1)

pub absent_between : (sequence : Row) (entries : List Entry) (place : ℕ) → AllBelow sequence (take place entries) → AllAbove sequence (drop place entries) → IsAbsent sequence entries
absent_between sequence [] place below above = tt
absent_between sequence (x ∷ xs) zero below above = absent_above sequence (x ∷ xs) above
absent_between sequence (x ∷ xs) (suc place) below above = ((λ same. apart x.event.sequence sequence below.0 (sym same)), absent_between sequence xs place below.1 above)
