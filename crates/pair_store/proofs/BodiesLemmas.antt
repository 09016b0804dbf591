-- Bodies that are taken one after another.
use Rattle.std.proofs.Common.{◌≡◌, ℕ, ◌+◌, ◌^◌, ◌<◌, ◌≤◌, List, [], ◌∷◌, ◌++◌, Vec, Global, length, get_or, map, take, drop, sym, ◌∙◌, ap, subst, arith, length-append, take-append-drop, true}
use Rattle.std.proofs.lemmas.List.{map-append, take_more, drop_more}
use Rattle.commit_gate.specs.Log.{framed, records}
use Rattle.commit_gate.proofs.FramedLemmas.{length-framed}
use Rattle.state_model.specs.Dataset.{State, empty_state}
use Rattle.pair_state.specs.Leads.{LeadsTo, IsUnfit, IsUnfitIn}
use Rattle.pair_state.proofs.LeadsLemmas.{leads_more}
use Rattle.pair_store.specs.Bodies.{TakesBody}

-- the bodies of a list of vectors
abbrev pub bodies_of : List (Vec ℕ Global) → List (List ℕ)
bodies_of items = map (λ body. body.items) items

pub records-append : (some more : List (List ℕ)) → length (records (some ++ more)) ≡ length (records some) + length (records more)
records-append [] more = omega arith
records-append (body ∷ some) more =
    omega (arith, records-append some more, length-append (framed body) (records (some ++ more)), length-append (framed body) (records some))

pub not_nil : (before behind : List (List ℕ)) (body : List ℕ) → [] ≡ before ++ body ∷ behind → ⊥
not_nil [] behind body e = cc
not_nil (first ∷ before) behind body e = cc

module _ (items : List (Vec ℕ Global)) (i : ℕ) (item : Vec ℕ Global) (within : i < length items) (is : item ≡ get_or items i item) where
  one : bodies_of (get_or items i item ∷ []) ≡ item.items ∷ []
  one = ap (λ body. bodies_of (body ∷ [])) (sym is)

  pub one_more : bodies_of (take (i + 1) items) ≡ bodies_of (take i items) ++ item.items ∷ []
  one_more = ap bodies_of (take_more items i item within) ∙ map-append (λ body. body.items) (take i items) (get_or items i item ∷ []) ∙ ap (λ l. bodies_of (take i items) ++ l) one

  pub parts : bodies_of items ≡ bodies_of (take i items) ++ item.items ∷ bodies_of (drop (i + 1) items)
  parts =
      ap bodies_of (sym (take-append-drop i items) ∙ ap (λ l. take i items ++ l) (drop_more items i item within))
      ∙ map-append (λ body. body.items) (take i items) (get_or items i item ∷ drop (i + 1) items)
      ∙ ap (λ body. bodies_of (take i items) ++ bodies_of (body ∷ drop (i + 1) items)) (sym is)

  pub fits : (at size : ℕ) → at ≡ 17 + length (records (bodies_of (take i items))) → size ≡ length item.items → 17 + length (records (bodies_of items)) ≤ 2 ^ 40 → at + (9 + size) ≤ 2 ^ 40
  fits at size place long small =
      let behind = bodies_of (drop (i + 1) items) in
      omega (
        arith,
        small,
        ap (λ l. length (records l)) parts,
        records-append (bodies_of (take i items)) (item.items ∷ behind),
        length-append (framed item.items) (records behind),
        length-framed item.items,
      )

  pub next_place : (at size : ℕ) → at ≡ 17 + length (records (bodies_of (take i items))) → size ≡ length item.items → at + (9 + size) ≡ 17 + length (records (bodies_of (take (i + 1) items)))
  next_place at size place long =
      omega (
        arith,
        ap (λ l. length (records l)) one_more,
        records-append (bodies_of (take i items)) (item.items ∷ []),
        length-append (framed item.items) (records []),
        length-framed item.items,
      )

  pub leads_on : (old new : State) → LeadsTo empty_state (bodies_of (take i items)) old → TakesBody old new item.items true → LeadsTo empty_state (bodies_of (take (i + 1) items)) new
  leads_on old new leads takes =
      subst (λ l. LeadsTo empty_state l new) (sym one_more)
      (subst (λ state. LeadsTo empty_state (bodies_of (take i items) ++ item.items ∷ []) state) (sym takes.3)
      (leads_more empty_state (bodies_of (take i items)) old item.items takes.0 leads takes.1 takes.2))

  pub unfit_in : (at : ℕ) (state : State) (bodies : List (List ℕ)) → bodies ≡ bodies_of items → at ≡ 17 + length (records (bodies_of (take i items))) → LeadsTo empty_state (bodies_of (take i items)) state → IsUnfit state item.items → IsUnfitIn at bodies
  unfit_in at state bodies same place leads unfit = record {
    before = bodies_of (take i items);
    body = item.items;
    behind = bodies_of (drop (i + 1) items);
    state = state;
    parts = same ∙ parts;
    leads = leads;
    place = place;
    unfit = unfit;
  }

  -- a list with an item in it is not empty
  pub not_empty : (bodies : List (List ℕ)) → bodies ≡ bodies_of items → bodies ≡ [] → ⊥
  not_empty bodies same none = not_nil (bodies_of (take i items)) (bodies_of (drop (i + 1) items)) item.items (sym none ∙ same ∙ parts)
