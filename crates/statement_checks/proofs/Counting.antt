-- How many statements can stand before the first break, and the walk to it.
use Rattle.std.proofs.Common.{◌≡◌, ℕ, ◌+◌, ◌<◌, ◌≤◌, Bool, true, false, cond, List, [], ◌∷◌, ◌++◌, length, take, drop, get_or, Option, Some, None, refl, sym, ◌∙◌, ap, subst, arith}
use Rattle.std.specs.Prelude.{if◌then◌else◌, nat_lt, option_map}
use Rattle.std.specs.List.{count_by}
use Rattle.std.specs.Option.{option_or}
use Rattle.std.proofs.lemmas.Bool.{ltb-true}
use Rattle.std.proofs.lemmas.List.{take_more, drop_more, drop_all, length-take-le}
use Rattle.std.proofs.lemmas.List.Sums.{count_by_more_no, count_by_more_yes, sum_by-cons}
use Rattle.sql_tree.specs.declared.statement.Statement.{Statement}
use Rattle.sql_tree.specs.declared.statement.Statement.TheVariants as statement
use Rattle.statement_checks.specs.declared.fault.CheckFault.{CheckFault}
use Rattle.statement_checks.specs.declared.fault.CheckFault.TheVariants.{TooMany}
use Rattle.statement_checks.specs.Limits.{Check, few_with_one, is_dataset, is_flow, few_datasets, few_flows, few_columns, few_keys, few_parts, few_expectations, limit_checks}
use Rattle.statement_checks.specs.Duplicates.{name_checks}
use Rattle.statement_checks.specs.Breaks.{statement_fault, broken, break_behind, first_break}
use Rattle.statement_checks.specs.Repeats.{first_of}

none_of_both : {A : Type 0} (a b : Option A) → option_or a b ≡ None → (a ≡ None) × (b ≡ None)
none_of_both None b e = (refl, e)
none_of_both (Some x) b e = absurd (cc)

abbrev add_if : Bool → ℕ → ℕ
add_if more count = cond more 1 0 + count

count_cons : (p : Statement → Bool) (first : Statement) (more : List Statement) → count_by p (first ∷ more) ≡ add_if (p first) (count_by p more)
count_cons p first more = sum_by-cons (λ one. cond (p one) 1 0) first more

one_of : (p : Statement → Bool) (first : Statement) (more : List Statement) → p first ≡ true → count_by p (first ∷ more) ≡ 1 + count_by p more
one_of p first more is = count_cons p first more ∙ ap (λ (b : Bool). add_if b (count_by p more)) is

no_fewer_by : (b : Bool) (all rest : ℕ) → all ≡ add_if b rest → rest ≤ all
no_fewer_by true all rest e = omega (arith, e)
no_fewer_by false all rest e = omega (arith, e)

no_fewer : (p : Statement → Bool) (first : Statement) (more : List Statement) → count_by p more ≤ count_by p (first ∷ more)
no_fewer p first more = no_fewer_by (p first) (count_by p (first ∷ more)) (count_by p more) (count_cons p first more)

-- each statement declares a dataset or a flow
dataset_or_flow : (statements : List Statement) → length statements ≤ count_by is_dataset statements + count_by is_flow statements
dataset_or_flow [] = omega arith
dataset_or_flow (statement.Table name items select ∷ more) =
    let rest = dataset_or_flow more in
    let datasets = one_of is_dataset (statement.Table name items select) more refl in
    let flows = no_fewer is_flow (statement.Table name items select) more in
    omega arith
dataset_or_flow (statement.View name items select ∷ more) =
    let rest = dataset_or_flow more in
    let datasets = one_of is_dataset (statement.View name items select) more refl in
    let flows = no_fewer is_flow (statement.View name items select) more in
    omega arith
dataset_or_flow (statement.Insert flow target select ∷ more) =
    let rest = dataset_or_flow more in
    let datasets = no_fewer is_dataset (statement.Insert flow target select) more in
    let flows = one_of is_flow (statement.Insert flow target select) more refl in
    omega arith
dataset_or_flow (statement.Cdc flow feed ∷ more) =
    let rest = dataset_or_flow more in
    let datasets = no_fewer is_dataset (statement.Cdc flow feed) more in
    let flows = one_of is_flow (statement.Cdc flow feed) more refl in
    omega arith

room_by : (limit count : ℕ) (less : Bool) → nat_lt count limit ≡ less → (if less then None else Some (TooMany (limit + 1))) ≡ None → count < limit
room_by limit count true is none = ltb-true count limit is
room_by limit count false is none = absurd (cc)

counted_by : (p : Statement → Bool) (limit : ℕ) (list : List Statement) (at : ℕ) (d : Statement) → at < length list → count_by p (take at list) ≤ limit → (passes : Bool) → p (get_or list at d) ≡ passes →
    (if passes then few_with_one limit (count_by p (take at list)) else None) ≡ None → count_by p (take (at + 1) list) ≤ limit
counted_by p limit list at d inside before true is none =
    let less = room_by limit (count_by p (take at list)) (nat_lt (count_by p (take at list)) limit) refl none in
    let more = count_by_more_yes p list at d inside is in
    omega arith
counted_by p limit list at d inside before false is none =
    let same = count_by_more_no p list at d inside is in
    omega arith

unbroken : (before : List Statement) (here : Statement) → statement_fault before here ≡ None → (few_datasets before here ≡ None) × (few_flows before here ≡ None)
unbroken before here none =
    let limits : first_of (limit_checks before here) ≡ None = (none_of_both (first_of (limit_checks before here)) (first_of (name_checks before here)) none).0 in
    let behind = first_of (few_columns here ∷ few_keys here ∷ few_parts here ∷ few_expectations here ∷ []) in
    let first = none_of_both (few_datasets before here) (option_or (few_flows before here) behind) limits in
    let second = none_of_both (few_flows before here) behind first.1 in
    (first.0, second.0)

-- behind so many statements without a break
pub record IsUnbroken (list : List Statement) (at : ℕ) : Type 0 where
  pub left : break_behind (take at list) (drop at list) ≡ first_break list
  pub datasets : count_by is_dataset (take at list) ≤ 256
  pub flows : count_by is_flow (take at list) ≤ 1024

pub at_first : (list : List Statement) → IsUnbroken list 0
at_first list = record { left = refl; datasets = omega arith; flows = omega arith }

pub few_before : (list : List Statement) (at : ℕ) → at < length list → IsUnbroken list at → at ≤ 1280
few_before list at inside so_far =
    let all = dataset_or_flow (take at list) in
    let size = length-take-le at list (omega arith) in
    let datasets = so_far.datasets in
    let flows = so_far.flows in
    omega arith

here_is : (list : List Statement) (at : ℕ) (d : Statement) → at < length list → IsUnbroken list at →
    option_or (option_map (broken (length (take at list) + 1)) (statement_fault (take at list) (get_or list at d))) (break_behind (take at list ++ get_or list at d ∷ []) (drop (at + 1) list)) ≡ first_break list
here_is list at d inside so_far = subst (λ rest. break_behind (take at list) rest ≡ first_break list) (drop_more list at d inside) so_far.left

pub one_more : (list : List Statement) (at : ℕ) (d : Statement) → at < length list → statement_fault (take at list) (get_or list at d) ≡ None → IsUnbroken list at → IsUnbroken list (at + 1)
one_more list at d inside none so_far =
    let rest = break_behind (take at list ++ get_or list at d ∷ []) (drop (at + 1) list) in
    let skipped : rest ≡ first_break list = subst (λ (found : Option CheckFault). option_or (option_map (broken (length (take at list) + 1)) found) rest ≡ first_break list) none (here_is list at d inside so_far) in
    let few = unbroken (take at list) (get_or list at d) none in
    record {
      left = subst (λ before. break_behind before (drop (at + 1) list) ≡ first_break list) (sym (take_more list at d inside)) skipped;
      datasets = counted_by is_dataset 256 list at d inside so_far.datasets (is_dataset (get_or list at d)) refl few.0;
      flows = counted_by is_flow 1024 list at d inside so_far.flows (is_flow (get_or list at d)) refl few.1;
    }

pub broken_here : (list : List Statement) (at : ℕ) (d : Statement) (fault : CheckFault) → at < length list → statement_fault (take at list) (get_or list at d) ≡ Some fault → IsUnbroken list at → Some (broken (at + 1) fault) ≡ first_break list
broken_here list at d fault inside is so_far =
    let rest = break_behind (take at list ++ get_or list at d ∷ []) (drop (at + 1) list) in
    let found : Some (broken (length (take at list) + 1) fault) ≡ first_break list = subst (λ (found : Option CheckFault). option_or (option_map (broken (length (take at list) + 1)) found) rest ≡ first_break list) is (here_is list at d inside so_far) in
    ap (λ n. Some (broken (n + 1) fault)) (sym (length-take-le at list (omega arith))) ∙ found

pub at_end : (list : List Statement) (at : ℕ) → length list ≤ at → IsUnbroken list at → None ≡ first_break list
at_end list at ends so_far = subst (λ rest. break_behind (take at list) rest ≡ first_break list) (drop_all at list ends) so_far.left

pub few_at_end : (list : List Statement) (at : ℕ) → length list ≡ at → IsUnbroken list at → length list ≤ 1280
few_at_end list at ends so_far =
    let all = dataset_or_flow (take at list) in
    let size = length-take-le at list (omega arith) in
    let datasets = so_far.datasets in
    let flows = so_far.flows in
    omega arith
