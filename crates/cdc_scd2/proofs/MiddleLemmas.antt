-- A change in the middle of a history.
use Rattle.std.proofs.Common.{◌≡◌, ℕ, List, [], ◌++◌, map, Option, None, sym, ap, ◌∙◌, append_assoc}
use Rattle.std.proofs.lemmas.List.{append-nil, map-append}
use Rattle.value_core.specs.Bags.{net_change}
use Rattle.value_core.specs.Order.{Row}
use Rattle.flow_model.specs.History.{Moment, Interval, interval_row, intervals}
use Rattle.cdc_scd2.specs.Splices.{IsMiddle}
use Rattle.cdc_runs.specs.Runs.{ends_in, left_open}
use Rattle.cdc_runs.proofs.RunLemmas.{runs_are, ends_append}
use Rattle.net_changes.proofs.NetLemmas.{net_within}

in_three : (tracked : List ℕ) (before xs after : List Moment)
    → intervals tracked (before ++ (xs ++ after)) ≡ ends_in tracked None before (xs ++ after)
    ++ (ends_in tracked (left_open tracked None before (xs ++ after)) xs after
    ++ ends_in tracked (left_open tracked (left_open tracked None before (xs ++ after)) xs after) after [])
in_three tracked before xs after =
    let since : Option Row = left_open tracked None before (xs ++ after) in
    runs_are tracked (before ++ (xs ++ after)) ∙ ends_append tracked None before (xs ++ after) []
    ∙ ap (λ next. ends_in tracked None before next ++ ends_in tracked (left_open tracked None before next) (xs ++ after) []) (append-nil (xs ++ after))
    ∙ ap (λ more. ends_in tracked None before (xs ++ after) ++ more) (ends_append tracked since xs after []
    ∙ ap (λ next. ends_in tracked since xs next ++ ends_in tracked (left_open tracked since xs next) after []) (append-nil after))

rows_in_three : (tracked : List ℕ) (before xs after : List Moment) (ends : List Interval) (since : Option Row) (mine rest : List Interval) → IsMiddle tracked before xs after ends since mine rest
    → map interval_row (intervals tracked (before ++ (xs ++ after))) ≡ map interval_row ends ++ (map interval_row (ends_in tracked since xs after ++ mine) ++ map interval_row rest)
rows_in_three tracked before xs after ends since mine rest is =
    ap (λ all. map interval_row all) (in_three tracked before xs after
    ∙ (λ i. is.same_ends i ++ (ends_in tracked (is.same_start i) xs after ++ ends_in tracked (left_open tracked (is.same_start i) xs after) after []))
    ∙ ap (λ more. ends ++ (ends_in tracked since xs after ++ more)) is.behind
    ∙ ap (λ more. ends ++ more) (sym (append_assoc (ends_in tracked since xs after) mine rest)))
    ∙ map-append interval_row ends ((ends_in tracked since xs after ++ mine) ++ rest)
    ∙ ap (λ more. map interval_row ends ++ more) (map-append interval_row (ends_in tracked since xs after ++ mine) rest)

-- the net change of the whole is that of what ends in the middle and of the run behind it
pub middle_net : (tracked : List ℕ) (before xs ys after : List Moment) (ends : List Interval) (since : Option Row) (old new rest : List Interval)
    → IsMiddle tracked before xs after ends since old rest → IsMiddle tracked before ys after ends since new rest
    → net_change (map interval_row (intervals tracked (before ++ (xs ++ after)))) (map interval_row (intervals tracked (before ++ (ys ++ after))))
    ≡ net_change (map interval_row (ends_in tracked since xs after ++ old)) (map interval_row (ends_in tracked since ys after ++ new))
middle_net tracked before xs ys after ends since old new rest is also =
    (λ i. net_change (rows_in_three tracked before xs after ends since old rest is i) (rows_in_three tracked before ys after ends since new rest also i))
    ∙ net_within (map interval_row ends) (map interval_row (ends_in tracked since xs after ++ old)) (map interval_row (ends_in tracked since ys after ++ new)) (map interval_row rest)
