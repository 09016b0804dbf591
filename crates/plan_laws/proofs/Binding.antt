-- What was given where several checks are passed.
use Rattle.std.proofs.Common.{◌≡◌, ℕ, Bool, true, false, Option, Some, None, Result, Ok, Err, IfOk, refl, subst}
use Rattle.std.specs.Prelude.{◌&&◌, if◌then◌else◌, option_map}
use Rattle.std.specs.Option.{option_or}
use Rattle.statement_checks.specs.declared.fault.CheckFault.{CheckFault}
use Rattle.statement_checks.specs.Limits.{Check}
use Rattle.feed_checks.specs.Feeds.{ByChecks, passed, then_checked}
use Rattle.dataset_checks.specs.Ends.{and_then, at_statement}

-- ---- what is so of a value, if there is one

pub given_ok : {A E : Type 0} (P : A → Type 0) (given : Result A E) (a : A) → given ≡ Ok a → IfOk given P → P a
given_ok P given a is h = subst (λ (r : Result _ _). IfOk r P) is h

pub implied : {A E : Type 0} {P Q : A → Type 0} (given : Result A E) → ((a : A) → P a → Q a) → IfOk given P → IfOk given Q
implied (Ok a) f h = f a h
implied (Err fault) f h = tt

pub behind : {A B E : Type 0} (Q : B → Type 0) (given : Result A E) (f : A → Result B E) → ((a : A) → given ≡ Ok a → IfOk (f a) Q) → IfOk (and_then given f) Q
behind Q (Ok a) f h = h a refl
behind Q (Err fault) f h = tt

pub behind_check : {B : Type 0} (Q : B → Type 0) (fault : Check) (f : Unit {0} → Result B CheckFault) → (fault ≡ None → IfOk (f tt) Q) → IfOk (and_then (passed fault) f) Q
behind_check Q None f h = h refl
behind_check Q (Some fault) f h = tt

pub behind_clause : {A B : Type 0} (Q : B → Type 0) (given : ByChecks A) (f : A → ByChecks B) → ((a : A) → given ≡ Ok a → IfOk (f a) Q) → IfOk (then_checked given f) Q
behind_clause Q (Ok a) f h = h a refl
behind_clause Q (Err fault) f h = tt

pub at_place : {A : Type 0} (Q : A → Type 0) (place : ℕ) (given : Result A CheckFault) → IfOk given Q → IfOk (at_statement place given) Q
at_place Q place (Ok a) h = h
at_place Q place (Err fault) h = tt

-- ---- checks that are passed

pub neither : {A : Type 0} (a b : Option A) → option_or a b ≡ None → (a ≡ None) × (b ≡ None)
neither None b is = (refl, is)
neither (Some fault) b is = absurd (cc)

pub unmapped : {A B : Type 0} (f : A → B) (a : Option A) → option_map f a ≡ None → a ≡ None
unmapped f None is = refl
unmapped f (Some x) is = absurd (cc)

pub fails : {A : Type 0} (test : Bool) (x : A) (rest : Option A) → (if test then Some x else rest) ≡ None → (test ≡ false) × (rest ≡ None)
fails true x rest is = absurd (cc)
fails false x rest is = (refl, is)

pub passes : {A : Type 0} (test : Bool) (rest : Option A) (x : A) → (if test then rest else Some x) ≡ None → (test ≡ true) × (rest ≡ None)
passes true rest x is = (refl, is)
passes false rest x is = absurd (cc)

-- ---- tests

pub both_hold : (a b : Bool) → (a && b) ≡ true → (a ≡ true) × (b ≡ true)
both_hold true b e = (refl, e)
both_hold false b e = absurd (cc)
