-- The flows that fill a table have different places, and flows at different places have different names.
use Rattle.std.proofs.Common.{◌≡◌, inl, inr, ℕ, zero, suc, ◌+◌, ◌<◌, Bool, true, false, cond, List, [], ◌∷◌, ◌++◌, length, Option, Some, None, refl, sym, ap, subst, ◌∙◌, arith, ne_eqb, ltb-true, ltb-false, eq-or-lt_of_le}
use Rattle.std.specs.Prelude.{nat_eq, nat_lt, slice_get, option_map, option_and_then}
use Rattle.std.specs.List.{AllByRecursion, list_any}
use Rattle.std.proofs.lemmas.Cmp.{nat_list_eq_equiv}
use Rattle.value_core.specs.NameFold.{folded, same_name}
use Rattle.sql_tree.specs.declared.statement.Select.{Select}
use Rattle.sql_tree.specs.declared.statement.SqlItem.{SqlItem}
use Rattle.sql_tree.specs.declared.statement.Statement.{Statement}
use Rattle.sql_tree.specs.declared.statement.Statement.TheVariants as statement
use Rattle.statement_checks.specs.declared.fault.CheckFault.TheVariants.{Duplicate}
use Rattle.statement_checks.specs.Breaks.{break_behind, broken, first_break, statement_fault}
use Rattle.statement_checks.specs.Declares.{flow_name}
use Rattle.statement_checks.specs.Duplicates.{clauses_differ, datasets_differ, flows_differ, is_named, is_new, items_differ, name_checks}
use Rattle.statement_checks.specs.Limits.{limit_checks}
use Rattle.statement_checks.specs.Repeats.{first_of}
use Rattle.dataset_checks.specs.Filling.{fillers_from, fills, flow_places}
use Rattle.plan_check.proofs.Placed.{AreAbove, AreAscending}
use Rattle.plan_check.proofs.Visiting.{Among}
use Rattle.plan_laws.proofs.Apart.{AreApart, among_all, among_back, among_front, or_none}
use Rattle.plan_laws.proofs.Judging.{flow_at}
use Rattle.plan_laws.proofs.Binding.{fails, neither, unmapped}

-- ---- names

none_of_any : (test : Statement → Bool) (before : List Statement) (one : Statement) → list_any test before ≡ false → Among one before → test one ≡ false
none_of_any test [] one none m = absurd m
none_of_any test (first ∷ more) one none (inl e) = ap test e ∙ (or_none (test first) (list_any test more) none).0
none_of_any test (first ∷ more) one none (inr m) = none_of_any test more one (or_none (test first) (list_any test more) none).1 m

unlike_before : (before : List Statement) (one : Statement) (a b : List ℕ) → is_new flow_name before (Some b) ≡ None → Among one before → flow_name one ≡ Some a → same_name a b ≡ false
unlike_before before one a b new m is =
    let none : list_any (λ other. is_named b (flow_name other)) before ≡ false = (fails (list_any (λ other. is_named b (flow_name other)) before) (Duplicate b) None new).0 in
    sym (ap (is_named b) is) ∙ none_of_any (λ other. is_named b (flow_name other)) before one none m

new_flow : (before : List Statement) (one : Statement) → statement_fault before one ≡ None → is_new flow_name before (flow_name one) ≡ None
new_flow before one none =
    let names = (neither (first_of (limit_checks before one)) (first_of (name_checks before one)) none).1 in
    let flows = (neither (datasets_differ before one) (first_of (flows_differ before one ∷ items_differ one ∷ clauses_differ one ∷ [])) names).1 in
    (neither (flows_differ before one) (first_of (items_differ one ∷ clauses_differ one ∷ [])) flows).0

differs_later : (before statements : List Statement) (later : ℕ) (one other : Statement) (a b : List ℕ) → break_behind before statements ≡ None → Among one before → flow_name one ≡ Some a → slice_get statements later ≡ Some other → flow_name other ≡ Some b →
    same_name a b ≡ false
differs_later before [] later one other a b none m is_one at is_other = absurd (cc)
differs_later before (first ∷ more) zero one other a b none m is_one at is_other =
    let here = (neither (option_map (broken (length before + 1)) (statement_fault before first)) (break_behind (before ++ first ∷ []) more) none).0 in
    let new = new_flow before first (unmapped (broken (length before + 1)) (statement_fault before first) here) in
    let same : first ≡ other = cc in
    unlike_before before one a b (subst (λ (name : Option (List ℕ)). is_new flow_name before name ≡ None) (ap flow_name same ∙ is_other) new) m is_one
differs_later before (first ∷ more) (suc later) one other a b none m is_one at is_other =
    differs_later (before ++ first ∷ []) more later one other a b (neither (option_map (broken (length before + 1)) (statement_fault before first)) (break_behind (before ++ first ∷ []) more) none).1
    (among_front one before (first ∷ []) m) is_one at is_other

differs_between : (before statements : List Statement) (early later : ℕ) (one other : Statement) (a b : List ℕ) → break_behind before statements ≡ None → early < later → slice_get statements early ≡ Some one → flow_name one ≡ Some a →
    slice_get statements later ≡ Some other → flow_name other ≡ Some b → same_name a b ≡ false
differs_between before [] early later one other a b none less at_one is_one at_other is_other = absurd (cc)
differs_between before (first ∷ more) zero zero one other a b none less at_one is_one at_other is_other = absurd (omega (arith, less))
differs_between before (first ∷ more) (suc early) zero one other a b none less at_one is_one at_other is_other = absurd (omega (arith, less))
differs_between before (first ∷ more) zero (suc later) one other a b none less at_one is_one at_other is_other =
    let same : first ≡ one = cc in
    let rest = (neither (option_map (broken (length before + 1)) (statement_fault before first)) (break_behind (before ++ first ∷ []) more) none).1 in
    differs_later (before ++ first ∷ []) more later one other a b rest (among_back one before (first ∷ []) (inl (sym same))) is_one at_other is_other
differs_between before (first ∷ more) (suc early) (suc later) one other a b none less at_one is_one at_other is_other =
    let rest = (neither (option_map (broken (length before + 1)) (statement_fault before first)) (break_behind (before ++ first ∷ []) more) none).1 in
    differs_between (before ++ first ∷ []) more early later one other a b rest (omega (arith, less)) at_one is_one at_other is_other

flow_there : (found : Option Statement) (name : List ℕ) → option_and_then flow_name found ≡ Some name → (one : Statement) × (found ≡ Some one) × (flow_name one ≡ Some name)
flow_there None name is = absurd (cc)
flow_there (Some one) name is = (one, refl, is)

flows_differ_in_order : (statements : List Statement) → first_break statements ≡ None → (early later : ℕ) (a b : List ℕ) → early < later → flow_at statements early ≡ Some a → flow_at statements later ≡ Some b → same_name a b ≡ false
flows_differ_in_order statements none early later a b less is_one is_other =
    let one = flow_there (slice_get statements early) a is_one in
    let other = flow_there (slice_get statements later) b is_other in
    differs_between [] statements early later one.0 other.0 a b none less one.1 one.2 other.1 other.2

by_order : (statements : List Statement) → first_break statements ≡ None → (i j : ℕ) (a b : List ℕ) (test : Bool) → nat_lt i j ≡ test → (i ≡ j → ⊥) → flow_at statements i ≡ Some a → flow_at statements j ≡ Some b → same_name a b ≡ false
by_order statements none i j a b true is differ is_one is_other = flows_differ_in_order statements none i j a b (ltb-true i j is) is_one is_other
by_order statements none i j a b false is differ is_one is_other = elim (eq-or-lt_of_le (ltb-false i j is)) [
  | inl same ↦ absurd (differ (sym same))
  | inr less ↦ nat_list_eq_equiv.symm (folded a) (folded b) ∙ flows_differ_in_order statements none j i b a less is_other is_one
]

-- flows that are declared at different places have different names
pub flows_unlike : (statements : List Statement) → first_break statements ≡ None → (i j : ℕ) (a b : List ℕ) → (i ≡ j → ⊥) → flow_at statements i ≡ Some a → flow_at statements j ≡ Some b → same_name a b ≡ false
flows_unlike statements none i j a b differ is_one is_other = by_order statements none i j a b (nat_lt i j) refl differ is_one is_other

-- ---- places

above_if : (least place : ℕ) (there : Bool) (rest : List ℕ) → least < place → AreAbove least rest → AreAbove least (cond there (place ∷ rest) rest)
above_if least place true rest less above = (less, above)
above_if least place false rest less above = above

fillers_above : (table : List ℕ) (least place : ℕ) (statements : List Statement) → least < place → AreAbove least (fillers_from table place statements)
fillers_above table least place [] less = tt
fillers_above table least place (first ∷ more) less = above_if least place (fills table first) (fillers_from table (place + 1) more) less (fillers_above table least (place + 1) more (omega (arith, less)))

ascending_if : (place : ℕ) (there : Bool) (rest : List ℕ) → AreAbove place rest → AreAscending rest → AreAscending (cond there (place ∷ rest) rest)
ascending_if place true rest above ascending = (above, ascending)
ascending_if place false rest above ascending = ascending

fillers_ascend : (table : List ℕ) (place : ℕ) (statements : List Statement) → AreAscending (fillers_from table place statements)
fillers_ascend table place [] = tt
fillers_ascend table place (first ∷ more) =
    ascending_if place (fills table first) (fillers_from table (place + 1) more) (fillers_above table place (place + 1) more (omega arith)) (fillers_ascend table (place + 1) more)

unlike_above : (least : ℕ) (places : List ℕ) → AreAbove least places → AllByRecursion (λ other. nat_eq other least ≡ false) places
unlike_above least [] above = tt
unlike_above least (place ∷ places) above = (ne_eqb place least (λ e. let less : least < place = above.0 in omega (arith, less, e)), unlike_above least places above.1)

ascending_apart : (places : List ℕ) → AreAscending places → AreApart nat_eq places
ascending_apart [] ascending = tt
ascending_apart (place ∷ places) ascending = (unlike_above place places ascending.0, ascending_apart places ascending.1)

-- the statement at a place fills the table
record IsFiller (table : List ℕ) (statements : List Statement) (place : ℕ) : Type 0 where
  one : Statement
  at : slice_get statements place ≡ Some one
  does : fills table one ≡ true

filler_if : (table : List ℕ) (all : List Statement) (place : ℕ) (first : Statement) (there : Bool) (rest : List ℕ) (wanted : ℕ) → slice_get all place ≡ Some first → fills table first ≡ there → (Among wanted rest → IsFiller table all wanted) →
    Among wanted (cond there (place ∷ rest) rest) → IsFiller table all wanted
filler_if table all place first true rest wanted at does later (inl e) = record { one = first; at = ap (slice_get all) e ∙ at; does = does }
filler_if table all place first true rest wanted at does later (inr m) = later m
filler_if table all place first false rest wanted at does later m = later m

is_filler : (table : List ℕ) (all : List Statement) (place : ℕ) (statements : List Statement) → ((k : ℕ) → slice_get all (place + k) ≡ slice_get statements k) → (wanted : ℕ) → Among wanted (fillers_from table place statements) → IsFiller table all wanted
is_filler table all place [] same wanted m = absurd m
is_filler table all place (first ∷ more) same wanted m =
    let begin : place ≡ place + 0 = omega arith in
    filler_if table all place first (fills table first) (fillers_from table (place + 1) more) wanted (ap (slice_get all) begin ∙ same 0) refl
    (is_filler table all (place + 1) more (λ k. let next : (place + 1) + k ≡ place + suc k = omega arith in ap (slice_get all) next ∙ same (suc k)) wanted) m

-- a table does not fill itself
not_own : (table name : List ℕ) (items : List SqlItem) (select : Option Select) (statements : List Statement) (place other : ℕ) → slice_get statements place ≡ Some (statement.Table name items select) → IsFiller table statements other → other ≡ place → ⊥
not_own table name items select statements place other at filler same =
    let is : Some filler.one ≡ Some (statement.Table name items select) = sym filler.at ∙ ap (slice_get statements) same ∙ at in
    let one : filler.one ≡ statement.Table name items select = cc in
    let never : true ≡ false = sym filler.does ∙ ap (fills table) one in
    cc

-- the flows of a table have different places
pub places_apart : (statements : List Statement) (place : ℕ) (name : List ℕ) (items : List SqlItem) (select : Option Select) → slice_get statements place ≡ Some (statement.Table name items select) → AreApart nat_eq (flow_places statements place name select)
places_apart statements place name items None at = ascending_apart (fillers_from name 0 statements) (fillers_ascend name 0 statements)
places_apart statements place name items (Some select) at = (
  among_all (λ other. nat_eq other place ≡ false) (fillers_from name 0 statements) (λ other m.
      ne_eqb other place (not_own name name items (Some select) statements place other at
      (is_filler name statements 0 statements (λ k. let begin : 0 + k ≡ k = omega arith in ap (slice_get statements) begin) other m))),
  ascending_apart (fillers_from name 0 statements) (fillers_ascend name 0 statements),
)
