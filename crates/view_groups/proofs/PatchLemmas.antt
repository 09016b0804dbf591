-- Shares that leave and join a group one after another.
use Rattle.std.proofs.Common.{◌≡◌, ℕ, ◌+◌, ◌<◌, ◌≤◌, List, [], ◌∷◌, ◌++◌, length, map, get_or, take, drop, refl, sym, ap, ◌∙◌, subst}
use Rattle.std.proofs.lemmas.List.{drop_more, drop_all, take_more, take_all}
use Rattle.plan_core.specs.declared.query.Item.{Item}
use Rattle.flow_model.specs.Views.{Share}
use Rattle.view_groups.specs.declared.share.Share as given
use Rattle.view_groups.specs.declared.group.Group.{Group}
use Rattle.view_groups.specs.Groups.{KeepsGroup, TakesShare, AddsShare, Leaves, Joins, Patches, joined_by}
use Rattle.view_groups.specs.Shares.{seen}

pub left_more : (old group new : Group) (out : List given.Share) (i : ℕ) (share : given.Share) → i < length out → share ≡ get_or out i share → TakesShare share.values group new
    → ((items : List Item) (rest : List Share) → KeepsGroup items old (map seen out ++ rest) → KeepsGroup items group (map seen (drop i out) ++ rest))
    → (items : List Item) (rest : List Share) → KeepsGroup items old (map seen out ++ rest) → KeepsGroup items new (map seen (drop (i + 1) out) ++ rest)
left_more old group new out i share k is takes so_far items rest keeps =
    let head : drop i out ≡ share ∷ drop (i + 1) out = drop_more out i share k ∙ ap (λ s. s ∷ drop (i + 1) out) (sym is) in
    takes.keeps items (map seen (drop (i + 1) out) ++ rest) share.group (subst (λ shares. KeepsGroup items group (map seen shares ++ rest)) head (so_far items rest keeps))

pub left_all : (old group : Group) (out : List given.Share) (i : ℕ) → length out ≤ i
    → ((items : List Item) (rest : List Share) → KeepsGroup items old (map seen out ++ rest) → KeepsGroup items group (map seen (drop i out) ++ rest)) → Leaves old group (map seen out)
left_all old group out i k so_far = record { keeps = λ items rest keeps. subst (λ shares. KeepsGroup items group (map seen shares ++ rest)) (drop_all i out k) (so_far items rest keeps) }

joined-push : (xs : List given.Share) (x : given.Share) (members : List Share) → joined_by (map seen (xs ++ x ∷ [])) members ≡ seen x ∷ joined_by (map seen xs) members
joined-push [] x members = refl
joined-push (y ∷ ys) x members = joined-push ys x (seen y ∷ members)

pub joined_more : (old group new : Group) (more : List given.Share) (i : ℕ) (share : given.Share) → i < length more → share ≡ get_or more i share → AddsShare share.values group new
    → ((items : List Item) (members : List Share) → KeepsGroup items old members → KeepsGroup items group (joined_by (map seen (take i more)) members))
    → (items : List Item) (members : List Share) → KeepsGroup items old members → KeepsGroup items new (joined_by (map seen (take (i + 1) more)) members)
joined_more old group new more i share k is adds so_far items members keeps =
    let last : take (i + 1) more ≡ take i more ++ share ∷ [] = take_more more i share k ∙ ap (λ s. take i more ++ s ∷ []) (sym is) in
    let all : joined_by (map seen (take (i + 1) more)) members ≡ seen share ∷ joined_by (map seen (take i more)) members =
    ap (λ shares. joined_by (map seen shares) members) last ∙ joined-push (take i more) share members in
    subst (KeepsGroup items new) (sym all) (adds.keeps items (joined_by (map seen (take i more)) members) share.group (so_far items members keeps))

pub joined_all : (old group : Group) (more : List given.Share) (i : ℕ) → length more ≤ i
    → ((items : List Item) (members : List Share) → KeepsGroup items old members → KeepsGroup items group (joined_by (map seen (take i more)) members)) → Joins old group (map seen more)
joined_all old group more i k so_far = record { keeps = λ items members keeps. subst (λ shares. KeepsGroup items group (joined_by (map seen shares) members)) (take_all i more k) (so_far items members keeps) }

pub patched : (old group new : Group) (out more : List Share) → Leaves old group out → Joins group new more → Patches old new out more
patched old group new out more leaves joins = record { keeps = λ items rest keeps. joins.keeps items rest (leaves.keeps items rest keeps) }
