-- What becomes of a file that isn't empty, over commands in order.
use Rattle.std.proofs.Common.{◌≡◌, ◌≢◌, ◌⊎◌, inl, inr, ℕ, ◌≤◌, List, [], ◌∷◌, refl, sym, subst, ◌∙◌, Option, arith}
use Rattle.disk_model.specs.declared.disk.Side.TheVariants.{Left}
use Rattle.disk_model.specs.Disk.{DiskState, TwoFiles, file}
use Rattle.disk_model.specs.Faults.{Rose}
use Rattle.disk_model.proofs.RunLemmas.{started, joins}
use Rattle.commit_gate.specs.Head.{Same}
use Rattle.commit_records.specs.declared.payload.Payload.{Payload}
use Rattle.store_core.specs.Reach.{IsLogEnd}
use Rattle.store_core.specs.Spared.{IsRefusedFile, IsSpared, LogGoesOn}
use Rattle.store_core.proofs.SparedLemmas.{goes_on_on, log_within, still_goes_on}
use Rattle.table_update.specs.declared.end.UpdateEnd.{UpdateEnd}
use Rattle.table_update.specs.declared.table.AppendTable.{AppendTable}
use Rattle.table_update.specs.Flow.{behind}
use Rattle.table_update.specs.Update.{IsSuccess, end_after}
use Rattle.pipeline_run.specs.Crash.{KeepsStore}
use Rattle.pipeline_run.specs.declared.command.Command.{Command}
use Rattle.pipeline_run.specs.declared.command.Command.TheVariants.{Validate, Update}
use Rattle.pipeline_run.specs.declared.outcome.Outcome.{Outcome}
use Rattle.pipeline_run.specs.declared.outcome.Outcome.TheVariants.{Usage, TextFailed, Refused, Broken, Valid, Updated}
use Rattle.pipeline_run.specs.declared.outcome.Status.{Status}
use Rattle.pipeline_run.specs.declared.outcome.Status.TheVariants as status
use Rattle.pipeline_run.specs.Report.{printed, status_of, status_of_end}
use Rattle.pipeline_run.specs.Run.{Around, RunState, IsIdle, IsUpdate, ComesTo, Tells, Executes}
use Rattle.pipeline_run.specs.Update.{Ended}
use Rattle.pipeline_run.proofs.RunLemmas.{success}

-- ---- a file that is refused

pub spared_itself : (timed : Type 0) (disk : DiskState) → IsSpared timed disk disk
spared_itself timed disk = record {
  untouched = record { same = refl; no_more = λ files left. left };
  each = λ told. started Same disk (λ files left. (files, left, refl));
}

spared_both : (timed : Type 0) (old mid new : DiskState) → IsSpared timed old mid → IsSpared timed mid new → IsSpared timed old new
spared_both timed old mid new here there = record {
  untouched = record {
    same = there.untouched.same ∙ here.untouched.same;
    no_more = λ files left. here.untouched.no_more files (there.untouched.no_more files left);
  };
  each = λ told. joins Same Same Same old mid new (here.each told) (there.each told) (λ k was files left is. is)
      (λ j k was files at some left is. (was, here.untouched.no_more was left, is));
}

pub spared_on : (timed : Type 0) (room : ℕ) (old mid new : DiskState) → IsRefusedFile room (file Left old.now) → IsSpared timed old mid → KeepsStore timed room mid new → IsSpared timed old new
spared_on timed room old mid new is here there =
    spared_both timed old mid new here (there.refused (subst (λ (files : TwoFiles). IsRefusedFile room (file Left files)) (sym here.untouched.same) is))

-- ---- a live log

keeps_itself : (timed : Type 0) (room : ℕ) (disk : DiskState) → KeepsStore timed room disk disk
keeps_itself timed room disk = record {
  refused = λ is. spared_itself timed disk;
  log = λ at log. still_goes_on timed at disk (log_within at (file Left disk.now) log);
}

-- over a disk that is as it was, or where that holds
pub kept_or : {D : Type 0} (state : D → DiskState) (timed : Type 0) (room : ℕ) (old new : D) → (new ≡ old) ⊎ KeepsStore timed room (state old) (state new) → KeepsStore timed room (state old) (state new)
kept_or state timed room old new (inl same) = subst (λ d. KeepsStore timed room (state old) (state d)) (sym same) (keeps_itself timed room (state old))
kept_or state timed room old new (inr keeps) = keeps

-- a live log ends here or behind
abbrev pub EndsOn : ℕ → List ℕ → Type 0
EndsOn at bytes = (end : ℕ) × (at ≤ end) × IsLogEnd end bytes

end_later : (at : ℕ) (payloads : List Payload) → at ≤ end_after at payloads
end_later at [] = omega arith
end_later at (payload ∷ payloads) = let more = end_later (behind at payload) payloads in omega (arith, more)

idle_ends : (updates : List Ended) (before after : List ℕ) → IsIdle updates before after → (at : ℕ) → IsLogEnd at before → EndsOn at after
idle_ends updates before after idle at log = (at, omega arith, subst (IsLogEnd at) (sym idle.1) log)

ended_ends : (plan : Option AppendTable) (around : Around) (end : UpdateEnd) (updates : List Ended) (before after : List ℕ) → status_of_end end ≡ status.Ok → IsUpdate plan around end updates before after → (at : ℕ) → IsLogEnd at before → EndsOn at after
ended_ends plan around end updates before after ok (ended, is, same, with_it) at log =
    (end_after at ended.tried, end_later at ended.tried, with_it.goes_on (subst IsSuccess (sym same) (success end ok)) at (inl log))

came_ends : (command : Command) (around : Around) (outcome : Outcome) (updates : List Ended) (before after : List ℕ) → status_of outcome ≡ status.Ok → ComesTo command around outcome updates before after → (at : ℕ) → IsLogEnd at before → EndsOn at after
came_ends Validate around (Valid plan) updates before after ok comes at log = idle_ends updates before after comes.1 at log
came_ends Validate around Usage updates before after ok comes at log = absurd cc
came_ends Validate around TextFailed updates before after ok comes at log = absurd cc
came_ends Validate around (Refused refusal) updates before after ok comes at log = absurd cc
came_ends Validate around (Broken statement fault) updates before after ok comes at log = absurd cc
came_ends Validate around (Updated name end) updates before after ok comes at log = absurd comes
came_ends Update around (Updated name end) updates before after ok comes at log = ended_ends comes.0 around end updates before after ok comes.3 at log
came_ends Update around Usage updates before after ok comes at log = absurd cc
came_ends Update around TextFailed updates before after ok comes at log = absurd cc
came_ends Update around (Refused refusal) updates before after ok comes at log = absurd cc
came_ends Update around (Broken statement fault) updates before after ok comes at log = absurd cc
came_ends Update around (Valid plan) updates before after ok comes at log = absurd comes

cut_well : (answer : Status) (rose prints : Type 0) → ((answer ≡ status.Sink) × rose × prints) ⊎ (answer ≡ status.Memory) → answer ≡ status.Ok → ⊥
cut_well answer rose prints (inl failed) is = let same : status.Sink ≡ status.Ok = sym failed.0 ∙ is in cc
cut_well answer rose prints (inr memory) is = let same : status.Memory ≡ status.Ok = sym memory ∙ is in cc

told_well : (outcome : Outcome) (answer : Status) (old new : RunState) → Tells outcome answer old new → answer ≡ status.Ok → status_of outcome ≡ status.Ok
told_well outcome answer old new (inl told) is = sym told.status ∙ is
told_well outcome answer old new (inr cut) is = absurd (cut_well answer (Rose old.faults.sink new.faults.sink) (printed outcome ≢ []) cut.status is)

log_ends : (first : Command) (around : Around) (given : Status) (updates : List Ended) (old mid : RunState) → given ≡ status.Ok → Executes first around given updates old mid → (at : ℕ) → IsLogEnd at old.file → EndsOn at mid.file
log_ends first around given updates old mid ok (inl (outcome, does)) at log = came_ends first around outcome updates old.file mid.file (told_well outcome given old mid does.tells ok) does.comes at log
log_ends first around given updates old mid ok (inr out) at log = absurd (let no : status.Memory ≡ status.Ok = sym out.0.status ∙ ok in let never : ⊥ = cc in never)

-- the log went on, and is whole
pub record WentOn (timed : Type 0) (at : ℕ) (old new : DiskState) : Type 0 where
  pub goes : LogGoesOn timed at old new
  pub ends : EndsOn at new.now.left

pub goes_itself : (timed : Type 0) (at : ℕ) (disk : DiskState) → IsLogEnd at disk.now.left → LogGoesOn timed at disk disk
goes_itself timed at disk log = still_goes_on timed at disk (log_within at disk.now.left log)

pub went_itself : (timed : Type 0) (at : ℕ) (disk : DiskState) → IsLogEnd at disk.now.left → WentOn timed at disk disk
went_itself timed at disk log = record { goes = goes_itself timed at disk log; ends = (at, omega arith, log) }

pub goes_further : (timed : Type 0) (room at : ℕ) (old mid new : DiskState) → WentOn timed at old mid → KeepsStore timed room mid new → LogGoesOn timed at old new
goes_further timed room at old mid new went keeps = goes_on_on timed at went.ends.0 old mid new went.ends.1 went.goes (keeps.log went.ends.0 went.ends.2)

pub went_further : (timed : Type 0) (room at : ℕ) (old mid new : DiskState) (first : Command) (around : Around) (given : Status) (updates : List Ended) (here there : RunState) → here.file ≡ mid.now.left → there.file ≡ new.now.left → given ≡ status.Ok
    → Executes first around given updates here there → WentOn timed at old mid → KeepsStore timed room mid new → WentOn timed at old new
went_further timed room at old mid new first around given updates here there is_here is_there ok executes went keeps =
    let more = log_ends first around given updates here there ok executes went.ends.0 (subst (IsLogEnd went.ends.0) (sym is_here) went.ends.2) in
    record {
      goes = goes_further timed room at old mid new went keeps;
      ends = (more.0, omega (arith, went.ends.1, more.1), subst (IsLogEnd more.0) is_there more.2);
    }
