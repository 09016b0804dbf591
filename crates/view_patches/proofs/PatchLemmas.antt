-- Patches after a share leaves or joins.
use Rattle.std.proofs.Common.{◌≡◌, ℕ, ◌+◌, ◌<◌, Bool, true, false, cond, List, [], ◌∷◌, ◌++◌, map, filter_map, length, take, drop, get_or, Option, Some, None, Result, Ok, Err, refl, sym, ap, ◌∙◌, subst, append-nil, append_assoc}
use Rattle.std.specs.Prelude.{is_some}
use Rattle.std.specs.List.{cons_option}
use Rattle.std.proofs.lemmas.List.{drop_more}
use Rattle.std.specs.BTreeMap.{is_at}
use Rattle.std.specs.Cmp.{Equal-is}
use Rattle.value_core.specs.Order.{Row, row_order, same_row}
use Rattle.value_core.specs.OrderLaws.{rows_apart}
use Rattle.row_expr.specs.Eval.{Fault}
use Rattle.plan_core.specs.declared.stop.Stop.{Stop}
use Rattle.plan_core.specs.Sound.{is_empty}
use Rattle.plan_core.specs.declared.query.Query.{Query}
use Rattle.flow_model.specs.Views.{Share, members_of, share, shared, shares_of}
use Rattle.view_groups.specs.declared.share.Share as given
use Rattle.view_groups.specs.Shares.{seen}
use Rattle.view_groups.proofs.AllGroupLemmas.{members_push, shares_push, shares_some, shares_none, share_keyed}
use Rattle.view_patches.specs.declared.patch.Patch.{Patch}
use Rattle.view_patches.specs.Patches.{patch_at, IsPatch, PatchesFor, WithoutPatch, PatchOrNone, PatchFrom}

map-push : (xs : List given.Share) (x : given.Share) → map seen (xs ++ x ∷ []) ≡ map seen xs ++ seen x ∷ []
map-push [] x = refl
map-push (y ∷ ys) x = ap (λ t. seen y ∷ t) (map-push ys x)

-- the patch that was there, or an empty one, is that of its group
had-patch : (had : Option Patch) (patch : Patch) (out more : List Share) → PatchOrNone had patch → IsPatch had out more → (map seen patch.out.items ≡ out) × (map seen patch.more.items ≡ more)
had-patch None patch out more from is = (ap (map seen) from.0 ∙ sym is.0, ap (map seen) from.1 ∙ sym is.1)
had-patch (Some old) patch out more from is = (ap (λ (p : Patch). map seen p.out.items) from ∙ is.0, ap (λ (p : Patch). map seen p.more.items) from ∙ is.1)

cond-cond : {A : Type 0} (test : Bool) (a b c : A) → cond test a (cond test b c) ≡ cond test a c
cond-cond true a b c = refl
cond-cond false a b c = refl

pushed-some : (xs : List Share) (s : Share) (ys : List Share) → is_empty ((xs ++ s ∷ []) ++ ys) ≡ false
pushed-some [] s ys = refl
pushed-some (x ∷ xs) s ys = refl

behind-some : (xs ys : List Share) (s : Share) → is_empty (xs ++ (ys ++ s ∷ [])) ≡ false
behind-some [] [] s = refl
behind-some [] (y ∷ ys) s = refl
behind-some (x ∷ xs) ys s = refl

left-by : (old : List (Row × Patch)) (patch made : Patch) (s : given.Share) (outs mores : List Share) (q : Row) (test : Bool) → same_row s.group q ≡ test → PatchFrom s.group old patch
    → made.out.items ≡ patch.out.items ++ s ∷ [] → made.more.items ≡ patch.more.items → PatchesFor old outs mores
    → IsPatch (cond test (Some made) (patch_at q old)) (members_of q (outs ++ seen s ∷ [])) (members_of q mores)
left-by old patch made s outs mores q true e from out more patches =
    let same : s.group ≡ q = rows_apart s.group q ((Equal-is (row_order s.group q)).0 e) in
    let had = had-patch (patch_at s.group old) patch (members_of s.group outs) (members_of s.group mores) from (patches.at s.group) in
    let pushed : members_of q (outs ++ seen s ∷ []) ≡ members_of q outs ++ seen s ∷ [] = members_push q outs (seen s) ∙ ap (λ t. members_of q outs ++ cond t (seen s ∷ []) []) e in (
      ap (map seen) out ∙ map-push patch.out.items s ∙ ap (λ m. m ++ seen s ∷ []) (had.0 ∙ ap (λ r. members_of r outs) same) ∙ sym pushed,
      ap (map seen) more ∙ had.1 ∙ ap (λ r. members_of r mores) same,
      ap (λ m. is_empty (m ++ members_of q mores)) pushed ∙ pushed-some (members_of q outs) (seen s) (members_of q mores),
    )
left-by old patch made s outs mores q false e from out more patches =
    let same : members_of q outs ≡ members_of q (outs ++ seen s ∷ []) = sym (members_push q outs (seen s) ∙ ap (λ t. members_of q outs ++ cond t (seen s ∷ []) []) e ∙ append-nil (members_of q outs)) in
    subst (λ m. IsPatch (patch_at q old) m (members_of q mores)) same (patches.at q)

pub share_left : (old mid new : List (Row × Patch)) (patch made : Patch) (key : Row) (s : given.Share) → key ≡ s.group → WithoutPatch key old mid → PatchFrom key old patch
    → made.out.items ≡ patch.out.items ++ s ∷ [] → made.more.items ≡ patch.more.items
    → ((q : Row) → patch_at q new ≡ cond (is_at (row_order key) q) (Some made) (patch_at q mid)) → (outs mores : List Share) → PatchesFor old outs mores → PatchesFor new (outs ++ seen s ∷ []) mores
share_left old mid new patch made key s k without from out more updates outs mores patches = record {
  at = λ q.
      let at : patch_at q new ≡ cond (same_row s.group q) (Some made) (patch_at q old) =
      updates q ∙ ap (cond (same_row key q) (Some made)) (without.at q) ∙ cond-cond (same_row key q) (Some made) None (patch_at q old) ∙ ap (λ r. cond (same_row r q) (Some made) (patch_at q old)) k in
      subst (λ o. IsPatch o (members_of q (outs ++ seen s ∷ [])) (members_of q mores)) (sym at)
      (left-by old patch made s outs mores q (same_row s.group q) refl (subst (λ r. PatchFrom r old patch) k from) out more patches);
}

joined-by : (old : List (Row × Patch)) (patch made : Patch) (s : given.Share) (outs mores : List Share) (q : Row) (test : Bool) → same_row s.group q ≡ test → PatchFrom s.group old patch
    → made.out.items ≡ patch.out.items → made.more.items ≡ patch.more.items ++ s ∷ [] → PatchesFor old outs mores
    → IsPatch (cond test (Some made) (patch_at q old)) (members_of q outs) (members_of q (mores ++ seen s ∷ []))
joined-by old patch made s outs mores q true e from out more patches =
    let same : s.group ≡ q = rows_apart s.group q ((Equal-is (row_order s.group q)).0 e) in
    let had = had-patch (patch_at s.group old) patch (members_of s.group outs) (members_of s.group mores) from (patches.at s.group) in
    let pushed : members_of q (mores ++ seen s ∷ []) ≡ members_of q mores ++ seen s ∷ [] = members_push q mores (seen s) ∙ ap (λ t. members_of q mores ++ cond t (seen s ∷ []) []) e in (
      ap (map seen) out ∙ had.0 ∙ ap (λ r. members_of r outs) same,
      ap (map seen) more ∙ map-push patch.more.items s ∙ ap (λ m. m ++ seen s ∷ []) (had.1 ∙ ap (λ r. members_of r mores) same) ∙ sym pushed,
      ap (λ m. is_empty (members_of q outs ++ m)) pushed ∙ behind-some (members_of q outs) (members_of q mores) (seen s),
    )
joined-by old patch made s outs mores q false e from out more patches =
    let same : members_of q mores ≡ members_of q (mores ++ seen s ∷ []) = sym (members_push q mores (seen s) ∙ ap (λ t. members_of q mores ++ cond t (seen s ∷ []) []) e ∙ append-nil (members_of q mores)) in
    subst (λ m. IsPatch (patch_at q old) (members_of q outs) m) same (patches.at q)

pub share_joined : (old mid new : List (Row × Patch)) (patch made : Patch) (key : Row) (s : given.Share) → key ≡ s.group → WithoutPatch key old mid → PatchFrom key old patch
    → made.out.items ≡ patch.out.items → made.more.items ≡ patch.more.items ++ s ∷ []
    → ((q : Row) → patch_at q new ≡ cond (is_at (row_order key) q) (Some made) (patch_at q mid)) → (outs mores : List Share) → PatchesFor old outs mores → PatchesFor new outs (mores ++ seen s ∷ [])
share_joined old mid new patch made key s k without from out more updates outs mores patches = record {
  at = λ q.
      let at : patch_at q new ≡ cond (same_row s.group q) (Some made) (patch_at q old) =
      updates q ∙ ap (cond (same_row key q) (Some made)) (without.at q) ∙ cond-cond (same_row key q) (Some made) None (patch_at q old) ∙ ap (λ r. cond (same_row r q) (Some made) (patch_at q old)) k in
      subst (λ o. IsPatch o (members_of q outs) (members_of q (mores ++ seen s ∷ []))) (sym at)
      (joined-by old patch made s outs mores q (same_row s.group q) refl (subst (λ r. PatchFrom r old patch) k from) out more patches);
}

-- ---- row after row

pub one_left : (query : Query) (old new : List (Row × Patch)) (row : Row) (s : given.Share) → share query row ≡ Ok (Some (seen s))
    → ((outs mores : List Share) → PatchesFor old outs mores → PatchesFor new (outs ++ seen s ∷ []) mores)
    → (outs mores : List Share) → PatchesFor old outs mores → PatchesFor new (outs ++ shares_of query (row ∷ [])) mores
one_left query old new row s e leaves outs mores patches = subst (λ more. PatchesFor new (outs ++ more) mores) (sym (shares_some query row (seen s) e)) (leaves outs mores patches)

pub none_left : (query : Query) (old : List (Row × Patch)) (row : Row) → shared (share query row) ≡ None → (outs mores : List Share) → PatchesFor old outs mores → PatchesFor old (outs ++ shares_of query (row ∷ [])) mores
none_left query old row e outs mores patches = subst (λ o. PatchesFor old o mores) (sym (ap (λ more. outs ++ more) (shares_none query row e) ∙ append-nil outs)) patches

pub shares_longer : (query : Query) (rows : List Row) (i : ℕ) (row : Row) (outs : List Share) → i < length rows → row ≡ get_or rows i row
    → (outs ++ shares_of query (take i rows)) ++ shares_of query (row ∷ []) ≡ outs ++ shares_of query (take (i + 1) rows)
shares_longer query rows i row outs k is = append_assoc outs (shares_of query (take i rows)) (shares_of query (row ∷ [])) ∙ ap (λ more. outs ++ more) (sym (shares_push query rows i row k is))

pub one_joined : (query : Query) (old new : List (Row × Patch)) (row : Row) (s : given.Share) → share query row ≡ Ok (Some (seen s))
    → ((outs mores : List Share) → PatchesFor old outs mores → PatchesFor new outs (mores ++ seen s ∷ []))
    → (outs mores : List Share) → PatchesFor old outs mores → PatchesFor new outs (mores ++ shares_of query (row ∷ []))
one_joined query old new row s e joins outs mores patches = subst (λ more. PatchesFor new outs (mores ++ more)) (sym (shares_some query row (seen s) e)) (joins outs mores patches)

pub none_joined : (query : Query) (old : List (Row × Patch)) (row : Row) → shared (share query row) ≡ None → (outs mores : List Share) → PatchesFor old outs mores → PatchesFor old outs (mores ++ shares_of query (row ∷ []))
none_joined query old row e outs mores patches = subst (PatchesFor old outs) (sym (ap (λ more. mores ++ more) (shares_none query row e) ∙ append-nil mores)) patches

-- ---- the first fault

pub no_stop_more : (h : Row → Option Stop) (rows : List Row) (i : ℕ) (row : Row) → i < length rows → row ≡ get_or rows i row → h row ≡ None → filter_map h (drop i rows) ≡ filter_map h (drop (i + 1) rows)
no_stop_more h rows i row k is e =
    ap (filter_map h) (drop_more rows i row k ∙ ap (λ r. r ∷ drop (i + 1) rows) (sym is)) ∙ ap (λ o. cons_option o (filter_map h (drop (i + 1) rows))) e

pub none_of : (o : Option Stop) → false ≡ is_some o → o ≡ None
none_of None e = refl
none_of (Some stop) e = cc

-- ---- the shares of rows without GROUP BY are of the one group

keyed-front : (key : Row) (s : Share) (more : List Share) (test : Bool) → same_row s.group key ≡ test → s.group ≡ [] → (is_empty more ≡ false → key ≡ []) → is_empty (cond test (s ∷ more) more) ≡ false → key ≡ []
keyed-front key s more true e empty behind some = let same : s.group ≡ key = rows_apart s.group key ((Equal-is (row_order s.group key)).0 e) in sym same ∙ empty
keyed-front key s more false e empty behind some = behind some

keyed-row : (query : Query) (row : Row) (key : Row) (more : List Share) (outcome : Result (Option Share) Fault) → share query row ≡ outcome → is_empty query.groups ≡ true → (is_empty (members_of key more) ≡ false → key ≡ [])
    → is_empty (members_of key (cons_option (shared outcome) more)) ≡ false → key ≡ []
keyed-row query row key more (Ok (Some s)) e alone behind some = keyed-front key s (members_of key more) (same_row s.group key) refl (share_keyed query row s e alone) behind some
keyed-row query row key more (Ok None) e alone behind some = behind some
keyed-row query row key more (Err fault) e alone behind some = behind some

keyed-rows : (query : Query) (rows : List Row) (key : Row) → is_empty query.groups ≡ true → is_empty (members_of key (shares_of query rows)) ≡ false → key ≡ []
keyed-rows query [] key alone some = cc
keyed-rows query (row ∷ rows) key alone some = keyed-row query row key (shares_of query rows) (share query row) refl alone (keyed-rows query rows key alone) some

pub keyed_patches : (query : Query) (removed added : List Row) (key : Row) → is_empty query.groups ≡ true → is_empty (members_of key (shares_of query removed) ++ members_of key (shares_of query added)) ≡ false → key ≡ []
keyed_patches query removed added key alone some = by-out (members_of key (shares_of query removed)) (members_of key (shares_of query added)) (keyed-rows query removed key alone) (keyed-rows query added key alone) some
  where
    by-out : (xs ys : List Share) → (is_empty xs ≡ false → key ≡ []) → (is_empty ys ≡ false → key ≡ []) → is_empty (xs ++ ys) ≡ false → key ≡ []
    by-out [] ys out more some = more some
    by-out (x ∷ xs) ys out more some = out refl

-- ---- no row yet

pub no_patches : PatchesFor [] [] []
no_patches = record { at = λ key. (refl, refl) }
