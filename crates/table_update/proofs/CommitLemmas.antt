-- What a commit of an update comes to, from what a commit of the store does.
use Rattle.std.proofs.Common.{◌≡◌, ⊎_elim, ℕ, [], Option, None, Result, Ok, Err, MatchResult, IsErrAnd, OnOk, OnErr, sym, ap, subst, arith}
use Rattle.disk_model.specs.declared.disk.Side.TheVariants.{Left}
use Rattle.disk_model.specs.Disk.{TwoFiles, DiskState, file}
use Rattle.disk_model.specs.Faults.{Rose}
use Rattle.commit_gate.specs.AtRest.{log_end}
use Rattle.commit_records.specs.declared.payload.Payload.{Payload}
use Rattle.store_state.specs.State.{State}
use Rattle.store_core.specs.Commit.{CommitAnswers, Commits, CommitsByGate, broken_by}
use Rattle.store_core.specs.State.{HasState}
use Rattle.store_core.specs.Store.{store_state, store_log, store_broken}
use Rattle.store_core.specs.declared.store.Store.{Store}
use Rattle.store_core.specs.declared.commit.CommitEnd.{CommitEnd}
use Rattle.store_core.specs.declared.commit.CommitEnd.TheVariants.{Failed, Full, VersionFull, EpochFull, Memory}
use Rattle.table_update.specs.declared.end.UpdateEnd.{UpdateEnd}
use Rattle.table_update.specs.declared.end.UpdateEnd.TheVariants.{CommitFailed}
use Rattle.table_update.specs.Commit.{CommitEnds, Stores, acked_by, tried_by, end_of_commit}
use Rattle.table_update.proofs.CrashLemmas.{stores_still, stores_one, stores_tried}

-- a commit's answer as that of the update
abbrev pub answer_of : Result (Unit {0}) CommitEnd → Result (Unit {0}) UpdateEnd
answer_of (Ok done) = Ok done
answer_of (Err end) = Err (end_of_commit end)

pub mapped : (result : Result (Unit {0}) CommitEnd) (answer : Result (Unit {0}) UpdateEnd) → MatchResult result (λ done. answer ≡ Ok done) (λ end. IsErrAnd answer (λ other. other ≡ end_of_commit end)) → answer ≡ answer_of result
mapped (Ok done) answer is = is
mapped (Err end) (Ok done) is = absurd is
mapped (Err end) (Err other) is = ap Err is

module _ (store : Store) (payload : Payload) (room before now : ℕ) where
  pub commit_ends : (result : Result (Unit {0}) CommitEnd) → CommitAnswers store payload room before now result → store_broken store ≡ None → CommitEnds (store_state store) room (log_end (store_log store)) payload (answer_of result)
  commit_ends (Ok done) answers whole = (answers.0.versions, omega (arith, answers.0.short))
  commit_ends (Err (Failed count)) answers whole = ⊎_elim (λ broken. absurd (cc (broken, whole))) (λ failed. (failed.0.versions, omega (arith, failed.0.short))) answers
  commit_ends (Err (Full end free)) answers whole = (answers.1, (answers.2, omega (arith, answers.3), answers.4))
  commit_ends (Err (VersionFull name)) answers whole = answers.1
  commit_ends (Err (EpochFull epoch)) answers whole = absurd answers
  commit_ends (Err Memory) answers whole = tt

  pub commit_rose : (result : Result (Unit {0}) CommitEnd) → CommitAnswers store payload room before now result → store_broken store ≡ None → answer_of result ≡ Err CommitFailed → Rose before now
  commit_rose (Ok done) answers whole is = absurd (cc is)
  commit_rose (Err (Failed count)) answers whole is = ⊎_elim (λ broken. absurd (cc (broken, whole))) (λ failed. failed.1) answers
  commit_rose (Err (Full end free)) answers whole is = absurd (cc is)
  commit_rose (Err (VersionFull name)) answers whole is = absurd (cc is)
  commit_rose (Err (EpochFull epoch)) answers whole is = absurd answers
  commit_rose (Err Memory) answers whole is = absurd (cc is)

-- what is so once the store has answered `Ok`
pub on_ok : (result : Result (Unit {0}) CommitEnd) (fact : Type 0) → OnOk result fact → OnOk (answer_of result) fact
on_ok (Ok done) fact is = is
on_ok (Err end) fact is = tt

pub is_whole : (result : Result (Unit {0}) CommitEnd) (broken : Option ℕ) (fact : Type 0) → broken ≡ broken_by result → (broken ≡ None → fact) → OnOk (answer_of result) fact
is_whole (Ok done) broken fact is whole = whole is
is_whole (Err end) broken fact is whole = tt

module _ (timed : Type 0) (state : State) (payload : Payload) (old new : DiskState) (same : Type 0) (still : same → new ≡ old) (held : (files : TwoFiles) → old.may_leave files → HasState (file Left files) state) where
  stores_none : same → Stores timed state [] [] old new
  stores_none is = subst (λ (disk : DiskState). Stores timed state [] [] old disk) (sym (still is)) (stores_still timed state old held)

  pub commit_stores : (result : Result (Unit {0}) CommitEnd) → Commits state payload result old new → (timed → CommitsByGate state payload result old new) → (((count : ℕ) → result ≡ Err (Failed count) → ⊥) → OnErr result same)
      → Stores timed state (acked_by payload (answer_of result)) (tried_by payload (answer_of result)) old new
  commit_stores (Ok done) commits by_gate early = stores_one timed state payload old new done commits by_gate
  commit_stores (Err (Failed count)) commits by_gate early = stores_tried timed state payload old new count commits by_gate
  commit_stores (Err (Full end free)) commits by_gate early = stores_none (early (λ count is. cc is))
  commit_stores (Err (VersionFull name)) commits by_gate early = stores_none (early (λ count is. cc is))
  commit_stores (Err (EpochFull epoch)) commits by_gate early = stores_none (early (λ count is. cc is))
  commit_stores (Err Memory) commits by_gate early = stores_none (early (λ count is. cc is))
