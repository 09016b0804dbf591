-- A graph has at most one path by which a cycle is shown.
use Rattle.std.proofs.Common.{◌≡◌, ◌≢◌, ℕ, zero, suc, ◌+◌, ◌<◌, ◌≤◌, List, [], ◌∷◌, ◌++◌, length, get_or, take, drop, refl, sym, ◌∙◌, ap, subst, inl, inr, arith, append_assoc}
use Rattle.std.specs.List.{AllPairs}
use Rattle.std.proofs.lemmas.List.{ext_get_or, get_or-take, get_or_append_left, get_or_default, get_or_push, length-append, length-take-le, length_push}
use Rattle.std.proofs.lemmas.Bool.{cases_order}
use Rattle.graph_check.specs.Levels.{HasLevel}
use Rattle.graph_check.specs.Paths.{IsNext, IsLeastWithout, IsTrail, IsCyclePath}

-- ---- one trail

-- a source without a level is not that of an edge before the next one's
not_before : (edges : List (ℕ × ℕ)) (node a b : ℕ) (f : IsNext edges node a) (g : IsNext edges node b) → f.place < g.place → ⊥
not_before edges node a b f g less =
    let long : length (take g.place edges) ≡ g.place = length-take-le g.place edges (omega (arith, g.within)) in
    let at : get_or (take g.place edges) f.place (node, a) ≡ (node, a) = get_or-take g.place edges f.place (node, a) less ∙ f.edge in
    let has : node ≡ node → HasLevel edges a = subst (λ (e : ℕ × ℕ). e.0 ≡ node → HasLevel edges e.1) at (g.first f.place (node, a) (omega (arith, less, long))) in
    f.no_level (has refl)

same_edge : (edges : List (ℕ × ℕ)) (node a b : ℕ) (f : IsNext edges node a) (g : IsNext edges node b) → f.place ≡ g.place → a ≡ b
same_edge edges node a b f g same =
    let here : get_or edges f.place (node, b) ≡ (node, b) = subst (λ (k : ℕ). get_or edges k (node, b) ≡ (node, b)) (sym same) g.edge in
    ap (λ (e : ℕ × ℕ). e.1) (sym f.edge ∙ (get_or_default edges f.place (node, a) (node, b) f.within ∙ here))

-- a node has one next
next_once : (edges : List (ℕ × ℕ)) (node a b : ℕ) → IsNext edges node a → IsNext edges node b → a ≡ b
next_once edges node a b f g =
    elim (cases_order f.place g.place) [
      | inl same ↦ same_edge edges node a b f g same
      | inr differ ↦ elim differ [
        | inl less ↦ absurd (not_before edges node a b f g less)
        | inr more ↦ absurd (not_before edges node b a g f more)
      ]
    ]

least_once : (edges : List (ℕ × ℕ)) (a b : ℕ) → IsLeastWithout edges a → IsLeastWithout edges b → a ≡ b
least_once edges a b f g =
    elim (cases_order a b) [
      | inl same ↦ same
      | inr differ ↦ elim differ [
        | inl less ↦ absurd (f.no_level (g.least a less))
        | inr more ↦ absurd (g.no_level (f.least b more))
      ]
    ]

-- two trails go by the same nodes
agree : (edges : List (ℕ × ℕ)) (one two : List ℕ) → IsTrail edges one → IsTrail edges two → (k : ℕ) → k < length one → k < length two → get_or one k 0 ≡ get_or two k 0
agree edges one two f g zero short less = least_once edges (get_or one 0 0) (get_or two 0 0) f.begins g.begins
agree edges one two f g (suc k) short less =
    let here : get_or one k 0 ≡ get_or two k 0 = agree edges one two f g k (omega arith) (omega arith) in
    let next : k + 1 ≡ suc k = omega arith in
    let mine : IsNext edges (get_or one k 0) (get_or one (suc k) 0) = subst (λ (n : ℕ). IsNext edges (get_or one k 0) (get_or one n 0)) next (f.follows k (omega arith)) in
    let theirs : IsNext edges (get_or two k 0) (get_or two (suc k) 0) = subst (λ (n : ℕ). IsNext edges (get_or two k 0) (get_or two n 0)) next (g.follows k (omega arith)) in
    next_once edges (get_or one k 0) (get_or one (suc k) 0) (get_or two (suc k) 0) mine (subst (λ (n : ℕ). IsNext edges n (get_or two (suc k) 0)) (sym here) theirs)

-- ---- where it comes back

-- a trail of different nodes before one of them comes again, and the path from the first place of that one
record IsCut (edges : List (ℕ × ℕ)) (path : List ℕ) : Type 0 where
  front : List ℕ
  node : ℕ
  place : ℕ
  within : place < length front
  again : get_or front place 0 ≡ node
  is_trail : IsTrail edges (front ++ node ∷ [])
  distinct : AllPairs (λ x y. x ≢ y) front
  path_is : path ≡ drop place (front ++ node ∷ [])

at_seam : (lead : List ℕ) (node : ℕ) (more : List ℕ) → get_or (lead ++ node ∷ more) (length lead) 0 ≡ node
at_seam [] node more = refl
at_seam (x ∷ lead) node more = at_seam lead node more

drop_lead : (lead path : List ℕ) → drop (length lead) (lead ++ path) ≡ path
drop_lead [] path = refl
drop_lead (x ∷ lead) path = drop_lead lead path

is_cut : (edges : List (ℕ × ℕ)) (path : List ℕ) → IsCyclePath edges path → IsCut edges path
is_cut edges path is =
    let joined : is.lead ++ path ≡ (is.lead ++ is.node ∷ is.more) ++ is.node ∷ [] = ap (λ xs. is.lead ++ xs) is.path_is ∙ sym (append_assoc is.lead (is.node ∷ is.more) (is.node ∷ [])) in
    let long : length (is.lead ++ is.node ∷ is.more) ≡ length is.lead + length (is.node ∷ is.more) = length-append is.lead (is.node ∷ is.more) in
    record {
      front = is.lead ++ is.node ∷ is.more;
      node = is.node;
      place = length is.lead;
      within = omega (arith, long);
      again = at_seam is.lead is.node is.more;
      is_trail = subst (λ xs. IsTrail edges xs) joined is.trail;
      distinct = is.distinct;
      path_is = sym (drop_lead is.lead path) ∙ ap (λ xs. drop (length is.lead) xs) joined;
    }

-- ---- one path

at_front : (front : List ℕ) (node k : ℕ) → k < length front → get_or (front ++ node ∷ []) k 0 ≡ get_or front k 0
at_front front node k short = get_or_append_left front (node ∷ []) 0 k short

at_end : (front : List ℕ) (node : ℕ) → get_or (front ++ node ∷ []) (length front) 0 ≡ node
at_end front node = get_or_push front node 0 (length front) refl

within_both : (front : List ℕ) (node k : ℕ) → k ≤ length front → k < length (front ++ node ∷ [])
within_both front node k short = let long = length_push front node in omega (arith, short, long)

-- neither trail comes back before the other
not_sooner : (edges : List (ℕ × ℕ)) (p q : List ℕ) (f : IsCut edges p) (g : IsCut edges q) → length f.front < length g.front → ⊥
not_sooner edges p q f g less =
    let short : f.place < length g.front = omega (arith, less, f.within) in
    let here : get_or (f.front ++ f.node ∷ []) f.place 0 ≡ get_or (g.front ++ g.node ∷ []) f.place 0 =
    agree edges (f.front ++ f.node ∷ []) (g.front ++ g.node ∷ []) f.is_trail g.is_trail f.place (within_both f.front f.node f.place (omega (arith, f.within))) (within_both g.front g.node f.place (omega (arith, short))) in
    let there : get_or (f.front ++ f.node ∷ []) (length f.front) 0 ≡ get_or (g.front ++ g.node ∷ []) (length f.front) 0 =
    agree edges (f.front ++ f.node ∷ []) (g.front ++ g.node ∷ []) f.is_trail g.is_trail (length f.front) (within_both f.front f.node (length f.front) (omega arith)) (within_both g.front g.node (length f.front) (omega (arith, less))) in
    let first : get_or g.front f.place 0 ≡ f.node = sym (at_front g.front g.node f.place short) ∙ (sym here ∙ (at_front f.front f.node f.place f.within ∙ f.again)) in
    let second : get_or g.front (length f.front) 0 ≡ f.node = sym (at_front g.front g.node (length f.front) less) ∙ (sym there ∙ at_end f.front f.node) in
    g.distinct f.place (length f.front) 0 f.within less (first ∙ sym second)

as_long : (edges : List (ℕ × ℕ)) (p q : List ℕ) (f : IsCut edges p) (g : IsCut edges q) → length f.front ≡ length g.front
as_long edges p q f g =
    elim (cases_order (length f.front) (length g.front)) [
      | inl same ↦ same
      | inr differ ↦ elim differ [
        | inl less ↦ absurd (not_sooner edges p q f g less)
        | inr more ↦ absurd (not_sooner edges q p g f more)
      ]
    ]

same_at : (edges : List (ℕ × ℕ)) (p q : List ℕ) (f : IsCut edges p) (g : IsCut edges q) (k : ℕ) → k ≤ length f.front → get_or (f.front ++ f.node ∷ []) k 0 ≡ get_or (g.front ++ g.node ∷ []) k 0
same_at edges p q f g k short =
    let long : length f.front ≡ length g.front = as_long edges p q f g in
    agree edges (f.front ++ f.node ∷ []) (g.front ++ g.node ∷ []) f.is_trail g.is_trail k (within_both f.front f.node k short) (within_both g.front g.node k (omega (arith, short, long)))

same_front : (edges : List (ℕ × ℕ)) (p q : List ℕ) (f : IsCut edges p) (g : IsCut edges q) → f.front ≡ g.front
same_front edges p q f g =
    let long : length f.front ≡ length g.front = as_long edges p q f g in
    ext_get_or 0 f.front g.front long (λ k short.
    sym (at_front f.front f.node k short) ∙ (same_at edges p q f g k (omega (arith, short)) ∙ at_front g.front g.node k (omega (arith, short, long))))

same_node : (edges : List (ℕ × ℕ)) (p q : List ℕ) (f : IsCut edges p) (g : IsCut edges q) → f.node ≡ g.node
same_node edges p q f g =
    let long : length f.front ≡ length g.front = as_long edges p q f g in
    let theirs : get_or (g.front ++ g.node ∷ []) (length f.front) 0 ≡ g.node = subst (λ (k : ℕ). get_or (g.front ++ g.node ∷ []) k 0 ≡ g.node) (sym long) (at_end g.front g.node) in
    sym (at_end f.front f.node) ∙ (same_at edges p q f g (length f.front) (omega arith) ∙ theirs)

-- a node stands in one place among different ones
one_place : (front : List ℕ) (i j : ℕ) → AllPairs (λ x y. x ≢ y) front → i < length front → j < length front → get_or front i 0 ≡ get_or front j 0 → i ≡ j
one_place front i j distinct short less same =
    elim (cases_order i j) [
      | inl is ↦ is
      | inr differ ↦ elim differ [
        | inl before ↦ absurd (distinct i j 0 before less same)
        | inr behind ↦ absurd (distinct j i 0 behind short (sym same))
      ]
    ]

same_place : (edges : List (ℕ × ℕ)) (p q : List ℕ) (f : IsCut edges p) (g : IsCut edges q) → f.place ≡ g.place
same_place edges p q f g =
    let fronts : f.front ≡ g.front = same_front edges p q f g in
    let theirs : get_or f.front g.place 0 ≡ g.node = subst (λ (xs : List ℕ). get_or xs g.place 0 ≡ g.node) (sym fronts) g.again in
    let within : g.place < length f.front = subst (λ (xs : List ℕ). g.place < length xs) (sym fronts) g.within in
    one_place f.front f.place g.place f.distinct f.within within (f.again ∙ (same_node edges p q f g ∙ sym theirs))

same_path : (edges : List (ℕ × ℕ)) (p q : List ℕ) → IsCut edges p → IsCut edges q → p ≡ q
same_path edges p q f g =
    f.path_is ∙ (ap (λ (k : ℕ). drop k (f.front ++ f.node ∷ [])) (same_place edges p q f g) ∙
    (ap (λ (xs : List ℕ). drop g.place (xs ++ f.node ∷ [])) (same_front edges p q f g) ∙
    (ap (λ (n : ℕ). drop g.place (g.front ++ n ∷ [])) (same_node edges p q f g) ∙ sym g.path_is)))

pub one_path : (edges : List (ℕ × ℕ)) (first second : List ℕ) → IsCyclePath edges first → IsCyclePath edges second → first ≡ second
one_path edges first second f g = same_path edges first second (is_cut edges first f) (is_cut edges second g)
