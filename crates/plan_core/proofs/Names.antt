-- A dataset by its name.
use Rattle.std.proofs.Common.{◌≡◌, ℕ, Bool, true, cond, List, [], ◌∷◌, ◌++◌, Option, Some, None, Result, Ok, Err, refl, sym, ap, subst, ◌∙◌, append-nil}
use Rattle.std.specs.Prelude.{is_none, is_some, option_map, option_to_list, IfOk, IfSome, IsOk, OnErr, OnOk}
use Rattle.std.specs.Map.{lookup, values_of}
use Rattle.std.specs.Cmp.Lexicographic.{nat_list_eq_equiv}
use Rattle.value_core.specs.NameFold.{folded, same_name}
use Rattle.plan_core.specs.declared.plan.Dataset.{Dataset}
use Rattle.plan_core.specs.Named.{AreNamed}
use Rattle.plan_core.specs.Sound.{dataset_named}

module _ {K : Type 0} (text : K → List ℕ) where
  -- a look-up by a name finds the dataset of that name
  pub found : (entries : List (K × Dataset)) (name : List ℕ) → AreNamed text entries →
      lookup (λ key. same_name name (text key)) entries ≡ dataset_named (values_of entries) name
  found [] name named = refl
  found (entry ∷ entries) name named =
      let same : same_name name (text entry.0) ≡ same_name entry.1.name name =
      ap (same_name name) named.0 ∙ nat_list_eq_equiv.symm (folded name) (folded entry.1.name) in
      let rest = found entries name named.1 in
      λ i. cond (same i) (Some entry.1) (rest i)

  -- a key has no entry where no dataset has its name
  pub no_key : (entries : List (K × Dataset)) (key : K) (name : List ℕ) → AreNamed text entries → text key ≡ name →
      dataset_named (values_of entries) name ≡ None → lookup (λ other. same_name (text key) (text other)) entries ≡ None
  no_key entries key name named spelled none = found entries (text key) named ∙ ap (dataset_named (values_of entries)) spelled ∙ none

  pub named_more : (entries : List (K × Dataset)) (key : K) (dataset : Dataset) → AreNamed text entries → text key ≡ dataset.name →
      AreNamed text (entries ++ (key, dataset) ∷ [])
  named_more [] key dataset named spelled = (spelled, tt)
  named_more (entry ∷ entries) key dataset named spelled = (named.0, named_more entries key dataset named.1 spelled)

pub values_more : {K V : Type 0} (entries : List (K × V)) (key : K) (value : V) → values_of (entries ++ (key, value) ∷ []) ≡ values_of entries ++ value ∷ []
values_more [] key value = refl
values_more (entry ∷ entries) key value = ap (λ more. entry.1 ∷ more) (values_more entries key value)

-- ---- one more dataset, under the key that is given

none_there : (there : Option Dataset) → true ≡ is_none there → there ≡ None
none_there None e = refl
none_there (Some dataset) e = absurd (cc)

module _ {K E : Type 0} (text : K → List ℕ) where
  abbrev pub Spells : Result (Option K) E → List ℕ → Type 0
  Spells key name = IfOk key (λ given. IfSome given (λ one. text one ≡ name))

  abbrev pub Puts : Result (Option K) E → Dataset → List (K × Dataset) → List (K × Dataset) → Type 0
  Puts key dataset old new = IfOk key (λ given. new ≡ old ++ option_to_list (option_map (λ one. (one, dataset)) given))

  pub free_key : (key : Result (Option K) E) (entries : List (K × Dataset)) (plan : List Dataset) (name : List ℕ) → values_of entries ≡ plan → AreNamed text entries →
      IfOk key (λ given. is_some given ≡ is_none (dataset_named plan name)) → Spells key name →
      IfOk key (λ given. IfSome given (λ one. lookup (λ other. same_name (text one) (text other)) entries ≡ None))
  free_key (Err e) entries plan name same named free spelled = tt
  free_key (Ok None) entries plan name same named free spelled = tt
  free_key (Ok (Some one)) entries plan name same named free spelled =
      no_key text entries one name named spelled (ap (λ datasets. dataset_named datasets name) same ∙ none_there (dataset_named plan name) free)

  pub named_after : {F : Type 0} (key : Result (Option K) E) (result : Result Bool F) (old new : List (K × Dataset)) (dataset : Dataset) → AreNamed text old →
      Spells key dataset.name → OnOk result (IsOk key) → OnOk result (Puts key dataset old new) → OnErr result (new ≡ old) → AreNamed text new
  named_after key (Err e) old new dataset named spelled given put kept = subst (AreNamed text) (sym kept) named
  named_after (Err e) (Ok added) old new dataset named spelled given put kept = absurd (cc)
  named_after (Ok None) (Ok added) old new dataset named spelled given put kept = subst (AreNamed text) (sym (put ∙ append-nil old)) named
  named_after (Ok (Some one)) (Ok added) old new dataset named spelled given put kept = subst (AreNamed text) (sym put) (named_more text old one dataset named spelled)
