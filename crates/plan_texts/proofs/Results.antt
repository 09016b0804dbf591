-- What checks give where none is broken.
use Rattle.std.proofs.Common.{◌≡◌, ℕ, Option, Some, None, Result, Ok, Err, refl, ap, subst}
use Rattle.std.specs.Prelude.{IfOk}
use Rattle.std.specs.Option.{option_or}
use Rattle.statement_checks.specs.declared.fault.CheckFault.{CheckFault}
use Rattle.statement_checks.specs.Limits.{Check}
use Rattle.feed_checks.specs.Feeds.{passed}
use Rattle.dataset_checks.specs.Ends.{and_then, at_statement}

pub in_ok : {A E : Type 0} {x y : A} → ◌≡◌ {A = Result A E} (Ok x) (Ok y) → x ≡ y
in_ok e = cc

pub no_ok : {A E : Type 0} {x : A} {fault : E} → ◌≡◌ {A = Result A E} (Err fault) (Ok x) → ⊥
no_ok e = cc

-- both steps give something
pub behind_ok : {A B E : Type 0} (given : Result A E) (f : A → Result B E) (b : B) → and_then given f ≡ Ok b → (a : A) × (given ≡ Ok a) × (f a ≡ Ok b)
behind_ok (Ok a) f b e = (a, refl, e)
behind_ok (Err fault) f b e = absurd (no_ok e)

pub at_ok : {A : Type 0} (place : ℕ) (given : Result A CheckFault) (a : A) → at_statement place given ≡ Ok a → given ≡ Ok a
at_ok place (Ok x) a e = ap Ok (in_ok e)
at_ok place (Err fault) a e = absurd (no_ok e)

pub passed_ok : (check : Check) (u : Unit {0}) → passed check ≡ Ok u → check ≡ None
passed_ok None u e = refl
passed_ok (Some fault) u e = absurd (no_ok e)

pub none_of_both : {A : Type 0} (a b : Option A) → option_or a b ≡ None → (a ≡ None) × (b ≡ None)
none_of_both None b e = (refl, e)
none_of_both (Some x) b e = absurd (cc)

pub if_ok : {A E : Type 0} (P : A → Type 0) (given : Result A E) (a : A) → IfOk given P → given ≡ Ok a → P a
if_ok P (Ok x) a h e = subst P (in_ok e) h
if_ok P (Err fault) a h e = absurd (no_ok e)

pub ok_behind : {A B E : Type 0} (P : B → Type 0) (given : Result A E) (f : A → Result B E) → ((a : A) → IfOk (f a) P) → IfOk (and_then given f) P
ok_behind P (Ok a) f h = h a
ok_behind P (Err fault) f h = tt

pub ok_at : {A : Type 0} (P : A → Type 0) (place : ℕ) (given : Result A CheckFault) → IfOk given P → IfOk (at_statement place given) P
ok_at P place (Ok a) h = h
ok_at P place (Err fault) h = tt
