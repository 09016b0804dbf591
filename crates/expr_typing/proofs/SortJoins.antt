-- Sorts that are joined, and the operands beside them that are widened to the join.
use Rattle.std.proofs.Common.{◌≡◌, List, [], ◌∷◌, Bool, true, false, ◌||◌, if◌then◌else◌, map, refl, sym, ap, ◌∙◌}
use Rattle.value_core.specs.declared.value.Kind.{Kind}
use Rattle.value_core.specs.declared.value.Kind.TheVariants as kind
use Rattle.row_expr.specs.declared.sort.Sort.{Sort}
use Rattle.row_expr.specs.declared.sort.Sort.TheVariants.{Ill, Any, Of}
use Rattle.row_expr.specs.Kinds.{join, join_from, same_kind, is_condition, truth}
use Rattle.expr_typing.specs.Typing.{wide_join, wide_join_from}

-- ---- what is ill formed stays so

pub join_ill : (s : Sort) → wide_join s Ill ≡ Ill
join_ill Ill = refl
join_ill Any = refl
join_ill (Of kind.Bool) = refl
join_ill (Of kind.Int) = refl
join_ill (Of kind.Big) = refl
join_ill (Of kind.Str) = refl

pub ill_join : (s : Sort) → wide_join Ill s ≡ Ill
ill_join Ill = refl
ill_join Any = refl
ill_join (Of k) = refl

pub from_ill : (list : List Sort) → wide_join_from Ill list ≡ Ill
from_ill [] = refl
from_ill (s ∷ more) = ap (λ t. wide_join_from t more) (ill_join s) ∙ from_ill more

pub truth_ill : (s : Sort) → truth s Ill ≡ Ill
truth_ill Ill = refl
truth_ill Any = refl
truth_ill (Of kind.Bool) = refl
truth_ill (Of kind.Int) = refl
truth_ill (Of kind.Big) = refl
truth_ill (Of kind.Str) = refl

-- ---- beside a join of that kind

-- an INT beside a BIGINT is a BIGINT
abbrev pub wide : Sort → Kind → Sort
wide (Of kind.Int) kind.Big = Of kind.Big
wide s k = s

-- what joins with others to that kind: any kind's, that kind, or an INT where it is BIGINT
abbrev pub fits : Sort → Kind → Bool
fits Ill k = false
fits Any k = true
fits (Of kind.Int) kind.Big = true
fits (Of l) k = same_kind l k

pub fits_self : (k : Kind) → fits (Of k) k ≡ true
fits_self kind.Bool = refl
fits_self kind.Int = refl
fits_self kind.Big = refl
fits_self kind.Str = refl

pub wide_self : (k : Kind) → wide (Of k) k ≡ Of k
wide_self kind.Bool = refl
wide_self kind.Int = refl
wide_self kind.Big = refl
wide_self kind.Str = refl

join_any : (s : Sort) → wide_join s Any ≡ s
join_any Ill = refl
join_any Any = refl
join_any (Of kind.Bool) = refl
join_any (Of kind.Int) = refl
join_any (Of kind.Big) = refl
join_any (Of kind.Str) = refl

any_right : (s : Sort) → join s Any ≡ s
any_right Ill = refl
any_right Any = refl
any_right (Of k) = refl

-- two sorts whose join is so are so, and are joined once they are widened
pub widened_join : (k : Kind) (a b : Sort) → fits (wide_join a b) k ≡ true →
    (fits a k ≡ true) × (fits b k ≡ true) × (join (wide a k) (wide b k) ≡ wide (wide_join a b) k)
widened_join k Ill b h = absurd (cc (ap (λ s. fits s k) (sym (ill_join b)) ∙ h))
widened_join k Any b h = (refl, h, refl)
widened_join k (Of l) Ill h = absurd (cc (ap (λ s. fits s k) (sym (join_ill (Of l))) ∙ h))
widened_join k (Of l) Any h =
    (ap (λ s. fits s k) (sym (join_any (Of l))) ∙ h, refl, any_right (wide (Of l) k) ∙ ap (λ s. wide s k) (sym (join_any (Of l))))
widened_join kind.Bool (Of kind.Bool) (Of kind.Bool) h = (refl, refl, refl)
widened_join kind.Int (Of kind.Bool) (Of kind.Bool) h = absurd (cc h)
widened_join kind.Big (Of kind.Bool) (Of kind.Bool) h = absurd (cc h)
widened_join kind.Str (Of kind.Bool) (Of kind.Bool) h = absurd (cc h)
widened_join k (Of kind.Bool) (Of kind.Int) h = absurd (cc h)
widened_join k (Of kind.Bool) (Of kind.Big) h = absurd (cc h)
widened_join k (Of kind.Bool) (Of kind.Str) h = absurd (cc h)
widened_join k (Of kind.Int) (Of kind.Bool) h = absurd (cc h)
widened_join kind.Bool (Of kind.Int) (Of kind.Int) h = absurd (cc h)
widened_join kind.Int (Of kind.Int) (Of kind.Int) h = (refl, refl, refl)
widened_join kind.Big (Of kind.Int) (Of kind.Int) h = (refl, refl, refl)
widened_join kind.Str (Of kind.Int) (Of kind.Int) h = absurd (cc h)
widened_join kind.Bool (Of kind.Int) (Of kind.Big) h = absurd (cc h)
widened_join kind.Int (Of kind.Int) (Of kind.Big) h = absurd (cc h)
widened_join kind.Big (Of kind.Int) (Of kind.Big) h = (refl, refl, refl)
widened_join kind.Str (Of kind.Int) (Of kind.Big) h = absurd (cc h)
widened_join k (Of kind.Int) (Of kind.Str) h = absurd (cc h)
widened_join k (Of kind.Big) (Of kind.Bool) h = absurd (cc h)
widened_join kind.Bool (Of kind.Big) (Of kind.Int) h = absurd (cc h)
widened_join kind.Int (Of kind.Big) (Of kind.Int) h = absurd (cc h)
widened_join kind.Big (Of kind.Big) (Of kind.Int) h = (refl, refl, refl)
widened_join kind.Str (Of kind.Big) (Of kind.Int) h = absurd (cc h)
widened_join kind.Bool (Of kind.Big) (Of kind.Big) h = absurd (cc h)
widened_join kind.Int (Of kind.Big) (Of kind.Big) h = absurd (cc h)
widened_join kind.Big (Of kind.Big) (Of kind.Big) h = (refl, refl, refl)
widened_join kind.Str (Of kind.Big) (Of kind.Big) h = absurd (cc h)
widened_join k (Of kind.Big) (Of kind.Str) h = absurd (cc h)
widened_join k (Of kind.Str) (Of kind.Bool) h = absurd (cc h)
widened_join k (Of kind.Str) (Of kind.Int) h = absurd (cc h)
widened_join k (Of kind.Str) (Of kind.Big) h = absurd (cc h)
widened_join kind.Bool (Of kind.Str) (Of kind.Str) h = absurd (cc h)
widened_join kind.Int (Of kind.Str) (Of kind.Str) h = absurd (cc h)
widened_join kind.Big (Of kind.Str) (Of kind.Str) h = absurd (cc h)
widened_join kind.Str (Of kind.Str) (Of kind.Str) h = (refl, refl, refl)

pub joined_to : (k : Kind) (a b : Sort) → wide_join a b ≡ Of k → join (wide a k) (wide b k) ≡ Of k
joined_to k a b is = (widened_join k a b (ap (λ s. fits s k) is ∙ fits_self k)).2 ∙ (ap (λ s. wide s k) is ∙ wide_self k)

pub widened_joins : (k : Kind) (s : Sort) (list : List Sort) → fits (wide_join_from s list) k ≡ true →
    (fits s k ≡ true) × (join_from (wide s k) (map (λ t. wide t k) list) ≡ wide (wide_join_from s list) k)
widened_joins k s [] h = (h, refl)
widened_joins k s (t ∷ more) h =
    let rest = widened_joins k (wide_join s t) more h in
    let one = widened_join k s t rest.0 in
    (one.0, ap (λ u. join_from u (map (λ v. wide v k) more)) one.2 ∙ rest.1)

pub all_joined_to : (k : Kind) (list : List Sort) → wide_join_from Any list ≡ Of k → join_from Any (map (λ t. wide t k) list) ≡ Of k
all_joined_to k list is = (widened_joins k Any list (ap (λ s. fits s k) is ∙ fits_self k)).1 ∙ (ap (λ s. wide s k) is ∙ wide_self k)
