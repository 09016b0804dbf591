-- How a command comes to an outcome, and how commands go on, one after the other.
use Rattle.std.proofs.Common.{◌≡◌, ◌≢◌, ◌⊎◌, inl, inr, ℕ, ◌+◌, ◌<◌, ◌≤◌, List, [], ◌∷◌, ◌++◌, length, get_or, drop, take, append-nil, append_assoc, refl, sym, ap, subst, ◌∙◌, Option, Some, None, Result, Ok, Err, IfOk, false, not, arith}
use Rattle.std.proofs.lemmas.List.{drop_more, drop_all}
use denote.Enum.Bare.{sameb}
use Rattle.disk_model.specs.Faults.{Rose}
use Rattle.disk_model.specs.Disk.{DiskState}
use Rattle.sql_tokens.specs.declared.error.SqlRefusal.{SqlRefusal}
use Rattle.sql_tree.specs.declared.statement.Statement.{Statement}
use Rattle.pipeline_sql.specs.Read.{IsRefused}
use Rattle.plan_core.specs.declared.plan.Dataset.{Dataset}
use Rattle.type_check.specs.declared.fault.CheckFault.{CheckFault}
use Rattle.table_update.specs.declared.end.UpdateEnd.{UpdateEnd}
use Rattle.table_update.specs.declared.end.UpdateEnd.TheVariants as ends
use Rattle.table_update.specs.declared.table.AppendTable.{AppendTable}
use Rattle.table_update.specs.Update.{IsSuccess}
use Rattle.pipeline_run.specs.declared.command.Command.{Command}
use Rattle.pipeline_run.specs.declared.command.Command.TheVariants.{Validate, Update}
use Rattle.pipeline_run.specs.declared.outcome.Outcome.{Outcome}
use Rattle.pipeline_run.specs.declared.outcome.Outcome.TheVariants.{Usage, TextFailed, Refused, Broken, Valid, Updated}
use Rattle.pipeline_run.specs.contracts.outcome.Status.{the_type}
use Rattle.pipeline_run.specs.declared.outcome.Status.{Status}
use Rattle.pipeline_run.specs.declared.outcome.Status.TheVariants as status
use Rattle.pipeline_run.specs.Pipeline.{text_limit, HasPlan, HasStatements, IsBroken, Knows}
use Rattle.pipeline_run.specs.Crash.{HasOutcome, HasExecuted, HasRunAll, HasRun}
use Rattle.pipeline_run.specs.Run.{Around, found_by, IsIdle, IsUpdate, Counts, NoneFalls, RunState, ComesTo, Blames, BlamesOf, Tells, RunsOut, Executes, Runs, Refuses, IsTelling, IsOfCommands, PrintsOn, SaysShrunk, AnswersUsage}
use Rattle.pipeline_run.specs.Report.{printed, printed_end, status_of, status_of_end}
use Rattle.pipeline_run.specs.Update.{Ended, acked_by, loaded_by}
use Rattle.pipeline_run.proofs.CrashLemmas.{WentWell, SoFar, at_start, all_left, no_updates, leaves_on, well_on}
use Rattle.pipeline_run.proofs.UpdateLemmas.{unloaded_acked, one_went_well, none_went_well}

-- ---- the text

pub statements_known : (text : List ℕ) (known : Option (List Statement)) (left : List ℕ) (statements : List Statement) → known ≡ Some statements → Knows text known left → HasStatements text statements
statements_known text None left statements is knows = absurd cc
statements_known text (Some others) left statements is knows = let same : others ≡ statements = cc in subst (HasStatements text) same knows

pub nothing_known : (text : List ℕ) (known : Option (List Statement)) (left : List ℕ) → known ≡ None → Knows text known left → left ≡ text
nothing_known text None left is knows = knows
nothing_known text (Some others) left is knows = absurd cc

pub kept_if_ok : {E : Type 0} (result : Result Outcome E) (fact : Type 0) → fact → IfOk result (λ outcome. status_of outcome ≡ status.Ok → fact)
kept_if_ok (Err e) fact holds = tt
kept_if_ok (Ok outcome) fact holds = λ ok. holds

-- ---- one command

pub outcome_of_validate : (timed : Type 0) (command : Command) (around : Around) (plan : List Dataset) (disk : DiskState) → command ≡ Validate → HasPlan around.text plan → HasOutcome timed command around (Valid plan) disk disk
outcome_of_validate timed Validate around plan disk is has = record { updates = []; comes = (has, (refl, refl)); leaves = no_updates timed disk }
outcome_of_validate timed Update around plan disk is has = absurd cc

pub outcome_broken : (timed : Type 0) (command : Command) (around : Around) (statement : ℕ) (fault : CheckFault) (disk : DiskState) → IsBroken around.text statement fault → HasOutcome timed command around (Broken statement fault) disk disk
outcome_broken timed command around statement fault disk is = record { updates = []; comes = (is, (refl, refl)); leaves = no_updates timed disk }

pub outcome_unread : (timed : Type 0) (command : Command) (around : Around) (disk : DiskState) → HasOutcome timed command around TextFailed disk disk
outcome_unread timed command around disk = record { updates = []; comes = (refl, refl); leaves = no_updates timed disk }

pub outcome_refused : (timed : Type 0) (command : Command) (around : Around) (refusal : SqlRefusal) (disk : DiskState) → IsRefused (take text_limit around.text) refusal → HasOutcome timed command around (Refused refusal) disk disk
outcome_refused timed command around refusal disk is = record { updates = []; comes = (is, (refl, refl)); leaves = no_updates timed disk }

blames_of : (before now : Counts) (end : UpdateEnd) → (end ≡ ends.LoadFailed → Rose before.disk now.disk) → (end ≡ ends.CommitFailed → Rose before.disk now.disk) → (end ≡ ends.LandingFailed → Rose before.landing now.landing) → BlamesOf before now end
blames_of before now ends.LoadFailed load commit landing = load refl
blames_of before now ends.CommitFailed load commit landing = commit refl
blames_of before now ends.LandingFailed load commit landing = landing refl
blames_of before now _ load commit landing = tt

pub blames : (before now : Counts) (outcome : Outcome) → (outcome ≡ TextFailed → Rose before.text now.text) → ((table : Option (List ℕ)) → outcome ≡ Updated table ends.LoadFailed → Rose before.disk now.disk)
    → ((table : Option (List ℕ)) → outcome ≡ Updated table ends.CommitFailed → Rose before.disk now.disk) → ((table : Option (List ℕ)) → outcome ≡ Updated table ends.LandingFailed → Rose before.landing now.landing) → Blames before now outcome
blames before now Usage text load commit landing = tt
blames before now TextFailed text load commit landing = text refl
blames before now (Refused refusal) text load commit landing = tt
blames before now (Broken statement fault) text load commit landing = tt
blames before now (Valid plan) text load commit landing = tt
blames before now (Updated table end) text load commit landing = blames_of before now end (λ e. load table (ap (Updated table) e)) (λ e. commit table (ap (Updated table) e)) (λ e. landing table (ap (Updated table) e))

-- an end whose status blames the disk is one of two
disk_end : (table : Option (List ℕ)) (end : UpdateEnd) (fact : Type 0) → status.Disk ≡ status_of (Updated table end) → (end ≡ ends.LoadFailed → fact) → (end ≡ ends.CommitFailed → fact) → fact
disk_end table ends.LoadFailed fact is load commit = load refl
disk_end table ends.CommitFailed fact is load commit = commit refl
disk_end table _ fact is load commit = absurd cc

disk_outcome : (outcome : Outcome) (fact : Type 0) → status.Disk ≡ status_of outcome → ((table : Option (List ℕ)) → outcome ≡ Updated table ends.LoadFailed → fact) → ((table : Option (List ℕ)) → outcome ≡ Updated table ends.CommitFailed → fact) → fact
disk_outcome Usage fact is load commit = absurd cc
disk_outcome TextFailed fact is load commit = absurd cc
disk_outcome (Refused refusal) fact is load commit = absurd cc
disk_outcome (Broken statement fault) fact is load commit = absurd cc
disk_outcome (Valid plan) fact is load commit = absurd cc
disk_outcome (Updated table end) fact is load commit = disk_end table end fact is (λ e. load table (ap (Updated table) e)) (λ e. commit table (ap (Updated table) e))

pub told_disk : (outcome : Outcome) (answer : Status) (fact : Type 0) → IsTelling outcome answer → answer ≡ status.Disk → ((table : Option (List ℕ)) → outcome ≡ Updated table ends.LoadFailed → fact) → ((table : Option (List ℕ)) → outcome ≡ Updated table ends.CommitFailed → fact) → fact
told_disk outcome status.Disk fact telling is load commit = disk_outcome outcome fact telling load commit
told_disk outcome status.Ok fact telling is load commit = absurd cc
told_disk outcome status.Usage fact telling is load commit = absurd cc
told_disk outcome status.Pipeline fact telling is load commit = absurd cc
told_disk outcome status.Store fact telling is load commit = absurd cc
told_disk outcome status.Sink fact telling is load commit = absurd cc
told_disk outcome status.Text fact telling is load commit = absurd cc
told_disk outcome status.Stopped fact telling is load commit = absurd cc
told_disk outcome status.Memory fact telling is load commit = absurd cc

-- ---- what was printed, and why an update stopped

pub told_prints : (outcome : Outcome) (answer : Status) (old new : RunState) → Tells outcome answer old new → PrintsOn old.printed new.printed
told_prints outcome answer old new (inl told) = (printed outcome, told.line)
told_prints outcome answer old new (inr cut) = (take cut.line.0 (printed outcome), cut.line.1)

pub nothing_printed : (was : List ℕ) → PrintsOn was was
nothing_printed was = ([], sym (append-nil was))

pub prints_both : (was mid now : List ℕ) → PrintsOn was mid → PrintsOn mid now → PrintsOn was now
prints_both was mid now (more, first) (others, second) = (more ++ others, second ∙ ap (λ (printed : List ℕ). printed ++ others) first ∙ append_assoc was more others)

stopped_end : (table : Option (List ℕ)) (end : UpdateEnd) (rose : Type 0) (was now : List ℕ) → status_of_end end ≡ status.Stopped → now ≡ was ++ printed_end table end → (end ≡ ends.LandingFailed → rose)
    → ((file : List ℕ) (cursor size : ℕ) → end ≡ ends.Shrunk file cursor size → (name : List ℕ) × (table ≡ Some name)) → rose ⊎ SaysShrunk was now
stopped_end table ends.LandingFailed rose was now is line failed shrunk = inl (failed refl)
stopped_end table (ends.Shrunk file cursor size) rose was now is line failed shrunk =
    let named = shrunk file cursor size refl in
    inr (record {
      mid = was;
      table = named.0;
      file = file;
      cursor = cursor;
      size = size;
      prints = nothing_printed was;
      line = subst (λ (name : Option (List ℕ)). now ≡ was ++ printed_end name (ends.Shrunk file cursor size)) named.1 line;
    })
stopped_end table _ rose was now is line failed shrunk = absurd cc

stopped_outcome : (outcome : Outcome) (rose : Type 0) (was now : List ℕ) → status_of outcome ≡ status.Stopped → now ≡ was ++ printed outcome → ((table : Option (List ℕ)) → outcome ≡ Updated table ends.LandingFailed → rose)
    → ((table : Option (List ℕ)) (file : List ℕ) (cursor size : ℕ) → outcome ≡ Updated table (ends.Shrunk file cursor size) → (name : List ℕ) × (table ≡ Some name)) → rose ⊎ SaysShrunk was now
stopped_outcome (Updated table end) rose was now is line failed shrunk =
    stopped_end table end rose was now is line (λ e. failed table (ap (Updated table) e)) (λ file cursor size e. shrunk table file cursor size (ap (Updated table) e))
stopped_outcome _ rose was now is line failed shrunk = absurd cc

cut_stops : (answer : Status) (rose prints : Type 0) → ((answer ≡ status.Sink) × rose × prints) ⊎ (answer ≡ status.Memory) → answer ≡ status.Stopped → ⊥
cut_stops answer rose prints (inl failed) is = let same : status.Sink ≡ status.Stopped = sym failed.0 ∙ is in cc
cut_stops answer rose prints (inr memory) is = let same : status.Memory ≡ status.Stopped = sym memory ∙ is in cc

pub told_stopped : (outcome : Outcome) (answer : Status) (rose : Type 0) (old new : RunState) → Tells outcome answer old new → answer ≡ status.Stopped → ((table : Option (List ℕ)) → outcome ≡ Updated table ends.LandingFailed → rose)
    → ((table : Option (List ℕ)) (file : List ℕ) (cursor size : ℕ) → outcome ≡ Updated table (ends.Shrunk file cursor size) → (name : List ℕ) × (table ≡ Some name)) → rose ⊎ SaysShrunk old.printed new.printed
told_stopped outcome answer rose old new (inl told) is failed shrunk = stopped_outcome outcome rose old.printed new.printed (sym told.status ∙ is) told.line failed shrunk
told_stopped outcome answer rose old new (inr cut) is failed shrunk = absurd (cut_stops answer (Rose old.faults.sink new.faults.sink) (printed outcome ≢ []) cut.status is)

-- the same behind what was printed before
pub stopped_later : (before mid now : ℕ) (first was last : List ℕ) → before ≤ mid → PrintsOn first was → Rose mid now ⊎ SaysShrunk was last → Rose before now ⊎ SaysShrunk first last
stopped_later before mid now first was last later prints (inl rose) = inl (omega arith)
stopped_later before mid now first was last later prints (inr says) = inr (record {
  mid = says.mid;
  table = says.table;
  file = says.file;
  cursor = says.cursor;
  size = says.size;
  prints = prints_both first was says.mid prints says.prints;
  line = says.line;
})

pub only_says : (was now : List ℕ) → Rose 0 0 ⊎ SaysShrunk was now → SaysShrunk was now
only_says was now (inl rose) = absurd (let never : ⊥ = omega arith in never)
only_says was now (inr says) = says

-- memory ran out before there was an outcome
pub ran_out : (timed : Type 0) (command : Command) (around : Around) (old new : RunState) (disk : DiskState) → new.file ≡ old.file → new.printed ≡ old.printed → NoneFalls old.faults new.faults → HasExecuted timed command around status.Memory old new disk disk
ran_out timed command around old new disk file printed later = record {
  updates = [];
  executes = inr (record { status = refl; file = file; printed = printed; later = later }, refl);
  leaves = no_updates timed disk;
}

pub is_ok_of : (answer : Status) → false ≡ not (sameb the_type answer status.Ok) → answer ≡ status.Ok
is_ok_of status.Ok same = refl
is_ok_of status.Usage same = absurd cc
is_ok_of status.Pipeline same = absurd cc
is_ok_of status.Store same = absurd cc
is_ok_of status.Disk same = absurd cc
is_ok_of status.Sink same = absurd cc
is_ok_of status.Text same = absurd cc
is_ok_of status.Stopped same = absurd cc
is_ok_of status.Memory same = absurd cc

-- a command that is told Ok came to an outcome of that status
pub told_ok : (outcome : Outcome) (answer : Status) → IsTelling outcome answer → answer ≡ status.Ok → status_of outcome ≡ status.Ok
told_ok outcome status.Ok telling is = sym telling
told_ok outcome status.Usage telling is = absurd cc
told_ok outcome status.Pipeline telling is = absurd cc
told_ok outcome status.Store telling is = absurd cc
told_ok outcome status.Disk telling is = absurd cc
told_ok outcome status.Sink telling is = absurd cc
told_ok outcome status.Text telling is = absurd cc
told_ok outcome status.Stopped telling is = absurd cc
told_ok outcome status.Memory telling is = absurd cc

-- ---- the updates of a command

pub success : (end : UpdateEnd) → status_of_end end ≡ status.Ok → IsSuccess end
success ends.Current ok = tt
success (ends.Completed read version) ok = tt
success _ ok = absurd cc

ended_well : (plan : Option AppendTable) (around : Around) (end : UpdateEnd) (updates : List Ended) (before after : List ℕ) → status_of_end end ≡ status.Ok → IsUpdate plan around end updates before after → WentWell updates before after
ended_well plan around end updates before after ok (ended, is, same, with_it) =
    subst (λ (list : List Ended). WentWell list before after) (sym is)
    (one_went_well plan (found_by around before) ended after with_it (subst IsSuccess (sym same) (success end ok)))

idled_well : (updates : List Ended) (before after : List ℕ) → IsIdle updates before after → WentWell updates before after
idled_well updates before after idle =
    subst (λ (list : List Ended). WentWell list before after) (sym idle.0)
    (subst (λ (bytes : List ℕ). WentWell [] before bytes) (sym idle.1) (none_went_well before))

came_well : (command : Command) (around : Around) (outcome : Outcome) (updates : List Ended) (before after : List ℕ) → status_of outcome ≡ status.Ok → ComesTo command around outcome updates before after → WentWell updates before after
came_well Validate around (Valid plan) updates before after ok comes = idled_well updates before after comes.1
came_well Validate around Usage updates before after ok comes = absurd cc
came_well Validate around TextFailed updates before after ok comes = absurd cc
came_well Validate around (Refused refusal) updates before after ok comes = absurd cc
came_well Validate around (Broken statement fault) updates before after ok comes = absurd cc
came_well Validate around (Updated table end) updates before after ok comes = absurd comes
came_well Update around (Valid plan) updates before after ok comes = absurd comes
came_well Update around Usage updates before after ok comes = absurd cc
came_well Update around TextFailed updates before after ok comes = absurd cc
came_well Update around (Refused refusal) updates before after ok comes = absurd cc
came_well Update around (Broken statement fault) updates before after ok comes = absurd cc
came_well Update around (Updated table end) updates before after ok comes = ended_well comes.0 around end updates before after ok comes.3

told_well : (outcome : Outcome) (answer : Status) (old new : RunState) → Tells outcome answer old new → answer ≡ status.Ok → status_of outcome ≡ status.Ok
told_well outcome answer old new (inl told) ok = sym told.status ∙ ok
told_well outcome answer old new (inr cut) ok = elim cut.status [ inl sink ↦ absurd (let no : status.Sink ≡ status.Ok = sym sink.0 ∙ ok in cc) | inr memory ↦ absurd (let no : status.Memory ≡ status.Ok = sym memory ∙ ok in cc) ]

pub executed_well : (command : Command) (around : Around) (given : Status) (updates : List Ended) (old mid : RunState) → Executes command around given updates old mid → given ≡ status.Ok → WentWell updates old.file mid.file
executed_well command around given updates old mid (inl (outcome, does)) ok = came_well command around outcome updates old.file mid.file (told_well outcome given old mid does.tells ok) does.comes
executed_well command around given updates old mid (inr (out, none)) ok = absurd (let no : status.Memory ≡ status.Ok = sym out.status ∙ ok in cc)

abbrev IsUnloaded : List Ended → Type 0
IsUnloaded updates = loaded_by updates ≡ false → acked_by updates ≡ []

ended_unloaded : (plan : Option AppendTable) (around : Around) (end : UpdateEnd) (updates : List Ended) (before after : List ℕ) → IsUpdate plan around end updates before after → IsUnloaded updates
ended_unloaded plan around end updates before after (ended, is, same, with_it) = subst IsUnloaded (sym is) (unloaded_acked plan (found_by around before) ended after with_it)

idle_unloaded : (updates : List Ended) → updates ≡ [] → IsUnloaded updates
idle_unloaded updates none = subst IsUnloaded (sym none) (λ unloaded. refl)

came_unloaded : (command : Command) (around : Around) (outcome : Outcome) (updates : List Ended) (before after : List ℕ) → ComesTo command around outcome updates before after → IsUnloaded updates
came_unloaded Validate around (Valid plan) updates before after comes = idle_unloaded updates comes.1.0
came_unloaded Validate around Usage updates before after comes = absurd comes
came_unloaded Validate around TextFailed updates before after comes = idle_unloaded updates comes.0
came_unloaded Validate around (Refused refusal) updates before after comes = idle_unloaded updates comes.1.0
came_unloaded Validate around (Broken statement fault) updates before after comes = idle_unloaded updates comes.1.0
came_unloaded Validate around (Updated table end) updates before after comes = absurd comes
came_unloaded Update around (Valid plan) updates before after comes = absurd comes
came_unloaded Update around Usage updates before after comes = absurd comes
came_unloaded Update around TextFailed updates before after comes = idle_unloaded updates comes.0
came_unloaded Update around (Refused refusal) updates before after comes = idle_unloaded updates comes.1.0
came_unloaded Update around (Broken statement fault) updates before after comes = idle_unloaded updates comes.1.0
came_unloaded Update around (Updated table end) updates before after comes = ended_unloaded comes.0 around end updates before after comes.3

pub executed_unloaded : (command : Command) (around : Around) (given : Status) (updates : List Ended) (old mid : RunState) → Executes command around given updates old mid → loaded_by updates ≡ false → acked_by updates ≡ []
executed_unloaded command around given updates old mid (inl (outcome, does)) = came_unloaded command around outcome updates old.file mid.file does.comes
executed_unloaded command around given updates old mid (inr (out, none)) = idle_unloaded updates none

-- ---- commands in order

split_commands : (commands : List Command) (i : ℕ) (command : Command) → i < length commands → command ≡ get_or commands i command → drop i commands ≡ command ∷ drop (i + 1) commands
split_commands commands i command within is = drop_more commands i command within ∙ ap (λ (c : Command). c ∷ drop (i + 1) commands) (sym is)

-- the commands from a place on, and so all of them, with the updates so far
abbrev pub Continues : Around → List Command → ℕ → List Ended → RunState → RunState → Type 0
Continues around commands i updates start here =
    (more : List Ended) (answer : Status) (new : RunState) → Runs around (drop i commands) answer more here new → Runs around commands answer (updates ++ more) start new

pub goes_on : (around : Around) (commands : List Command) (i : ℕ) (command : Command) (updates own : List Ended) (start here mid : RunState) (given : Status) → i < length commands → command ≡ get_or commands i command
    → Executes command around given own here mid → given ≡ status.Ok → Continues around commands i updates start here → Continues around commands (i + 1) (updates ++ own) start mid
goes_on around commands i command updates own start here mid given within is executes ok so_far more answer new after =
    subst (λ (list : List Ended). Runs around commands answer list start new) (sym (append_assoc updates own more))
    (so_far (own ++ more) answer new (rw (split_commands commands i command within is) (mid, given, own, more, refl, executes, inl (ok, after))))

pub stops : (around : Around) (commands : List Command) (i : ℕ) (command : Command) (updates own : List Ended) (start here mid : RunState) (given : Status) → i < length commands → command ≡ get_or commands i command
    → Executes command around given own here mid → given ≢ status.Ok → Continues around commands i updates start here → Runs around commands given (updates ++ own) start mid
stops around commands i command updates own start here mid given within is executes ne so_far =
    so_far own given mid (rw (split_commands commands i command within is) (mid, given, own, [], sym (append-nil own), executes, inr (ne, refl, refl, refl)))

pub is_done : (around : Around) (commands : List Command) (i : ℕ) (updates : List Ended) (start here : RunState) → length commands ≤ i → Continues around commands i updates start here → Runs around commands status.Ok updates start here
is_done around commands i updates start here past so_far =
    subst (λ (list : List Ended). Runs around commands status.Ok list start here) (append-nil updates) (so_far [] status.Ok here (rw (drop_all i commands past) (refl, refl, refl)))

-- what is known before each command
pub record GoesSo (timed : Type 0) (around : Around) (commands : List Command) (i : ℕ) (start here : RunState) (was now : DiskState) : Type 0 where
  pub updates : List Ended
  pub continues : Continues around commands i updates start here
  pub far : SoFar timed updates was now

pub begins : (timed : Type 0) (around : Around) (commands : List Command) (start : RunState) (disk : DiskState) → GoesSo timed around commands 0 start start disk disk
begins timed around commands start disk = record { updates = []; continues = λ more answer new runs. runs; far = at_start timed disk }

pub next_command : (timed : Type 0) (around : Around) (commands : List Command) (i : ℕ) (command : Command) (start here mid : RunState) (was now new : DiskState) (given : Status) → i < length commands → command ≡ get_or commands i command
    → here.file ≡ now.now.left → mid.file ≡ new.now.left → HasExecuted timed command around given here mid now new → given ≡ status.Ok → GoesSo timed around commands i start here was now → GoesSo timed around commands (i + 1) start mid was new
next_command timed around commands i command start here mid was now new given within is same_here same_mid done ok so_far = record {
  updates = so_far.updates ++ done.updates;
  continues = goes_on around commands i command so_far.updates done.updates start here mid given within is done.executes ok so_far.continues;
  far = well_on timed so_far.updates done.updates was now new so_far.far done.leaves (rw (same_here, same_mid) at (executed_well command around given done.updates here mid done.executes ok));
}

pub last_command : (timed : Type 0) (around : Around) (commands : List Command) (i : ℕ) (command : Command) (start here mid : RunState) (was now new : DiskState) (given : Status) → i < length commands → command ≡ get_or commands i command
    → HasExecuted timed command around given here mid now new → given ≢ status.Ok → GoesSo timed around commands i start here was now → HasRunAll timed commands around given start mid was new
last_command timed around commands i command start here mid was now new given within is done ne so_far = record {
  updates = so_far.updates ++ done.updates;
  runs = stops around commands i command so_far.updates done.updates start here mid given within is done.executes ne so_far.continues;
  leaves = leaves_on timed so_far.updates done.updates was now new so_far.far done.leaves (executed_unloaded command around given done.updates here mid done.executes);
}

pub all_commands : (timed : Type 0) (around : Around) (commands : List Command) (i : ℕ) (start here : RunState) (was now : DiskState) → length commands ≤ i → GoesSo timed around commands i start here was now → HasRunAll timed commands around status.Ok start here was now
all_commands timed around commands i start here was now past so_far = record {
  updates = so_far.updates;
  runs = is_done around commands i so_far.updates start here past so_far.continues;
  leaves = all_left timed so_far.updates was now so_far.far;
}

-- ---- a whole run

pub says_no_usage : (commands : List Command) (answer : Status) → IsOfCommands answer → AnswersUsage (Some commands) answer
says_no_usage commands status.Ok own = tt
says_no_usage commands status.Pipeline own = tt
says_no_usage commands status.Store own = tt
says_no_usage commands status.Disk own = tt
says_no_usage commands status.Sink own = tt
says_no_usage commands status.Text own = tt
says_no_usage commands status.Stopped own = tt
says_no_usage commands status.Memory own = tt
says_no_usage commands status.Usage own = absurd own

out : (old : RunState) → RunsOut status.Memory old old
out old = record { status = refl; file = refl; printed = refl; later = record { text = omega arith; disk = omega arith; landing = omega arith; sink = omega arith } }

pub ran_no_words : (timed : Type 0) (asked : Option (List Command)) (around : Around) (answer : Status) (old new : RunState) (disk : DiskState) → asked ≡ None → Refuses Usage answer old new → HasRun timed asked around answer old new disk disk
ran_no_words timed None around answer old new disk is refuses = record { updates = []; ran = (inl refuses, refl); leaves = no_updates timed disk }
ran_no_words timed (Some commands) around answer old new disk is refuses = absurd cc

pub ran_commands : (timed : Type 0) (asked : Option (List Command)) (commands : List Command) (around : Around) (answer : Status) (old new : RunState) (was now : DiskState) → asked ≡ Some commands → HasRunAll timed commands around answer old new was now
    → HasRun timed asked around answer old new was now
ran_commands timed None commands around answer old new was now is runs = absurd cc
ran_commands timed (Some others) commands around answer old new was now is runs =
    let same : others ≡ commands = cc in
    record { updates = runs.updates; ran = inr (rw same runs.runs); leaves = runs.leaves }

pub ran_out_of_words : (timed : Type 0) (asked : Option (List Command)) (around : Around) (old : RunState) (disk : DiskState) → HasRun timed asked around status.Memory old old disk disk
ran_out_of_words timed None around old disk = record { updates = []; ran = (inr (out old), refl); leaves = no_updates timed disk }
ran_out_of_words timed (Some commands) around old disk = record { updates = []; ran = inl (out old, refl); leaves = no_updates timed disk }
