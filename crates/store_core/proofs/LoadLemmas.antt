-- What a load answers, from what it found of the log.
use Rattle.std.proofs.Common.{◌≡◌, inl, inr, ℕ, ◌^◌, ◌<◌, ◌≤◌, List, length, Result, Ok, Err, refl, sym, ◌∙◌, subst, arith}
use Rattle.disk_model.specs.declared.disk.Side.TheVariants.{Left}
use Rattle.disk_model.specs.Disk.{TwoFiles, DiskState, file}
use Rattle.commit_gate.specs.AtRest.{log_epoch}
use Rattle.commit_gate.specs.Damage.{IsDamagedAt}
use Rattle.commit_gate.specs.Log.{HasBodies, IsDead}
use Rattle.commit_gate.specs.declared.log.Log.{Log}
use Rattle.commit_gate.specs.declared.step.LogRefusal.{LogRefusal}
use Rattle.commit_gate.specs.declared.step.LogRefusal.TheVariants.{Damaged as LogDamaged, Failed as LogFailed, Memory as LogMemory}
use Rattle.commit_gate.proofs.RestLemmas.{image_of_rest}
use Rattle.commit_gate.proofs.UniqueLemmas.{bodies_live}
use Rattle.store_state.specs.State.{State, empty_state}
use Rattle.store_core.specs.Begin.{BeginAnswers, Loads}
use Rattle.store_core.specs.Bodies.{BodiesAnswer}
use Rattle.store_core.specs.Load.{LoadAnswers, Refuses, Accepts, LoadIsExact}
use Rattle.store_core.specs.Ours.{IsOurs}
use Rattle.store_core.specs.Refusals.{refusal_of_log}
use Rattle.store_core.specs.State.{LeadsTo, IsBegun, HasState, IsForeign, IsRefusedAt}
use Rattle.store_core.specs.Store.{store_state, store_log, IsAsLeft}
use Rattle.store_core.specs.declared.store.Store.{Store}
use Rattle.store_core.specs.declared.refusal.StoreRefusal.{StoreRefusal}
use Rattle.store_core.specs.declared.refusal.StoreRefusal.TheVariants.{Foreign, Damaged, Full, Failed, Memory}
use Rattle.store_core.proofs.StateLemmas.{one_state, not_foreign, not_refused, one_place, refused_not_dead, unfit_at}

-- what a crash leaves of a store that is as it was left
pub left_state : (store : Store) (disk : DiskState) → IsAsLeft store disk → (files : TwoFiles) → disk.may_leave files → HasState (file Left files) (store_state store)
left_state store disk left files may =
    subst (λ s. HasState (file s files) (store_state store)) left.side
    (inl (record { epoch = log_epoch (store_log store); bodies = left.bodies; contents = image_of_rest (store_log store) left.bodies disk files left.at_rest may; leads = left.leads }))

-- a disk that was ours is ours
pub ours_after : (old new : DiskState) → Loads old new → IsOurs old → IsOurs new
ours_after old new loads ours files left =
    let from = loads.crash files left in
    let has = ours from.0 from.1 in
    (has.0, from.2.changed has.0 has.1)

-- ---- each cause and its answer

module _ (room : ℕ) (bytes : List ℕ) where
  accepted : (result : Result Store StoreRefusal) → LoadAnswers room bytes result → ((result ≡ Err Failed → ⊥) → length bytes < 2 ^ 64) → (state : State) → HasState bytes state → (IsBegun bytes → 18 ≤ room) → Accepts state result
  accepted (Ok store) answers small state has fits = one_state bytes (store_state store) state (small (λ same. cc)) answers.0 has
  accepted (Err (Foreign side len)) answers small state has fits = absurd (not_foreign len bytes state has answers.1)
  accepted (Err (Damaged side at)) answers small state has fits = absurd (not_refused at bytes state (small (λ same. cc)) has answers.1)
  accepted (Err (Full end free)) answers small state has fits = absurd (omega (arith, fits answers.0, answers.1))
  accepted (Err Failed) answers small state has fits = inl refl
  accepted (Err Memory) answers small state has fits = inr refl

  foreign : (result : Result Store StoreRefusal) → LoadAnswers room bytes result → (len : ℕ) → IsForeign len bytes → Refuses (Foreign Left len) result
  foreign (Ok store) answers len is = not_foreign len bytes (store_state store) answers.0 is
  foreign (Err (Foreign side other)) answers len is = inl (λ i. Foreign (answers.0 i) ((answers.1.2 ∙ sym is.2) i))
  foreign (Err (Damaged side at)) answers len is = absurd (refused_not_dead at bytes answers.1 is.0)
  foreign (Err (Full end free)) answers len is = absurd (omega (arith, answers.0.1, is.1))
  foreign (Err Failed) answers len is = inr (inl refl)
  foreign (Err Memory) answers len is = inr (inr refl)

  damaged : (result : Result Store StoreRefusal) → LoadAnswers room bytes result → ((result ≡ Err Failed → ⊥) → length bytes < 2 ^ 64) → (at : ℕ) → IsRefusedAt at bytes → Refuses (Damaged Left at) result
  damaged (Ok store) answers small at is = not_refused at bytes (store_state store) (small (λ same. cc)) answers.0 is
  damaged (Err (Foreign side len)) answers small at is = absurd (refused_not_dead at bytes is answers.1.0)
  damaged (Err (Damaged side place)) answers small at is = inl (λ i. Damaged (answers.0 i) (one_place place at bytes (small (λ same. cc)) answers.1 is i))
  damaged (Err (Full end free)) answers small at is = absurd (refused_not_dead at bytes is answers.0.0)
  damaged (Err Failed) answers small at is = inr (inl refl)
  damaged (Err Memory) answers small at is = inr (inr refl)

  full : (result : Result Store StoreRefusal) → LoadAnswers room bytes result → IsBegun bytes → room < 18 → Refuses (Full 18 room) result
  full (Ok store) answers begun less = omega (arith, answers.1 begun, less)
  full (Err (Foreign side len)) answers begun less = absurd (omega (arith, answers.1.1, begun.1))
  full (Err (Damaged side at)) answers begun less = absurd (refused_not_dead at bytes answers.1 begun.0)
  full (Err (Full end free)) answers begun less = inl (λ i. Full (answers.2 i) (answers.3 i))
  full (Err Failed) answers begun less = inr (inl refl)
  full (Err Memory) answers begun less = inr (inr refl)

  pub exact : (result : Result Store StoreRefusal) → LoadAnswers room bytes result → ((result ≡ Err Failed → ⊥) → length bytes < 2 ^ 64) → LoadIsExact room bytes result
  exact result answers small = record {
    accepted = accepted result answers small;
    foreign = foreign result answers;
    damaged = damaged result answers small;
    full = full result answers;
  }

-- ---- where a load ends

-- the log was refused
pub log_exact : {T : Type 0} (room : ℕ) (bytes : List ℕ) (refusal : LogRefusal) (answer : Result T LogRefusal) → answer ≡ Err refusal → ((at : ℕ) → answer ≡ Err (LogDamaged at) → IsDamagedAt at bytes)
    → ((answer ≡ Err LogFailed → ⊥) → length bytes ≤ 2 ^ 40) → LoadIsExact room bytes (Err (refusal_of_log refusal))
log_exact room bytes (LogDamaged at) answer is damaged small = exact room bytes (Err (Damaged Left at)) (refl, inl (damaged at is)) (λ other. let short = small (λ same. cc) in omega (arith, short))
log_exact room bytes LogFailed answer is damaged small = exact room bytes (Err Failed) tt (λ other. absurd (other refl))
log_exact room bytes LogMemory answer is damaged small = exact room bytes (Err Memory) tt (λ other. let short = small (λ same. cc) in omega (arith, short))

-- a body was refused
pub bodies_refused : (room epoch : ℕ) (bytes : List ℕ) (bodies : List (List ℕ)) (refusal : StoreRefusal) → HasBodies epoch bodies bytes → BodiesAnswer bodies (Err refusal) → LoadAnswers room bytes (Err refusal)
bodies_refused room epoch bytes bodies (Foreign side len) has answer = absurd answer
bodies_refused room epoch bytes bodies (Damaged side at) has answer = (answer.0, inr (unfit_at at epoch bodies bytes has answer.1))
bodies_refused room epoch bytes bodies (Full end free) has answer = absurd answer
bodies_refused room epoch bytes bodies Failed has answer = absurd answer
bodies_refused room epoch bytes bodies Memory has answer = tt

-- no log was made
pub begin_refused : (room len : ℕ) (bytes : List ℕ) (refusal : StoreRefusal) → IsDead bytes → len ≡ length bytes → BeginAnswers len room (Err refusal) → LoadAnswers room bytes (Err refusal)
begin_refused room len bytes (Foreign side was) dead long answer = (answer.0, (dead, omega (arith, long, answer.1), answer.2 ∙ long))
begin_refused room len bytes (Damaged side at) dead long answer = absurd answer
begin_refused room len bytes (Full end free) dead long answer = ((dead, omega (arith, long, answer.0)), answer.1, answer.2, answer.3)
begin_refused room len bytes Failed dead long answer = tt
begin_refused room len bytes Memory dead long answer = absurd answer

-- a log was there
pub loaded : (room epoch : ℕ) (bytes : List ℕ) (bodies : List (List ℕ)) (store : Store) → HasBodies epoch bodies bytes → LeadsTo empty_state bodies (store_state store) → LoadAnswers room bytes (Ok store)
loaded room epoch bytes bodies store has leads = (
  inl (record { epoch = epoch; bodies = bodies; contents = has; leads = leads }),
  λ begun. absurd (begun.0 epoch (bodies_live epoch bodies bytes has)),
)

-- a log was made
pub made : (room len : ℕ) (bytes : List ℕ) (log : Log) (store : Store) → IsDead bytes → len ≡ length bytes → BeginAnswers len room (Ok log) → store_state store ≡ empty_state → LoadAnswers room bytes (Ok store)
made room len bytes log store dead long answer same = (inr ((dead, omega (arith, long, answer.0)), same), λ begun. answer.1)

-- the disk did not fail
pub log_stands : {T : Type 0} (refusal : LogRefusal) (answer : Result T LogRefusal) → answer ≡ Err refusal → ((result : Result Store StoreRefusal) → result ≡ Err (refusal_of_log refusal) → result ≡ Err Failed → ⊥) → answer ≡ Err LogFailed → ⊥
log_stands refusal answer is other same = other (Err (refusal_of_log refusal)) refl (λ i. Err (refusal_of_log (failed i)))
  where
    failed : refusal ≡ LogFailed
    failed = cc
