-- What one more statement reads.
use Rattle.std.proofs.Common.{ℕ, ◌+◌, ◌<◌, List, [], ◌∷◌, ◌++◌, length, take, get_or, refl, sym, ap, subst}
use Rattle.std.proofs.lemmas.List.{take_more}
use Rattle.sql_tree.specs.declared.statement.Statement.{Statement}
use Rattle.origin_checks.specs.declared.resolved.Resolved.{Resolved}
use Rattle.origin_checks.specs.Resolving.{AreResolved, IsResolved}

pushed : (statements : List Statement) (all : List Resolved) (statement : Statement) (one : Resolved) → AreResolved statements all → IsResolved statement one → AreResolved (statements ++ statement ∷ []) (all ++ one ∷ [])
pushed [] all statement one none is = (one, [], ap (λ (list : List Resolved). list ++ one ∷ []) none, is, refl)
pushed (first ∷ more) all statement one (front, others, split, first_is, rest) is =
    (front, others ++ one ∷ [], ap (λ (list : List Resolved). list ++ one ∷ []) split, first_is, pushed more others statement one rest is)

pub one_more_resolved : (statements : List Statement) (all : List Resolved) (at : ℕ) (d : Statement) (one : Resolved) → at < length statements → IsResolved (get_or statements at d) one → AreResolved (take at statements) all →
    AreResolved (take (at + 1) statements) (all ++ one ∷ [])
one_more_resolved statements all at d one inside is so_far =
    subst (λ (front : List Statement). AreResolved front (all ++ one ∷ [])) (sym (take_more statements at d inside)) (pushed (take at statements) all (get_or statements at d) one so_far is)
