-- A run has one end.
use Rattle.std.proofs.Common.{◌≡◌, ◌≢◌, ◌⊎◌, inl, inr, ℕ, ◌≤◌, ◌^◌, List, [], ◌∷◌, ◌++◌, length, take, refl, sym, ap, subst, ◌∙◌, Option, Some, None, Result, Ok, Bool, arith}
use Rattle.disk_model.specs.Faults.{Rose}
use Rattle.commit_records.specs.declared.payload.Payload.{Payload}
use Rattle.sql_tokens.specs.declared.error.SqlRefusal.{SqlRefusal}
use Rattle.sql_tree.specs.declared.statement.Statement.{Statement}
use Rattle.plan_core.specs.declared.plan.Dataset.{Dataset}
use Rattle.type_check.specs.declared.fault.CheckFault.{CheckFault}
use Rattle.type_check.specs.Rules.{Break, Checked, broken_at}
use Rattle.pipeline_sql.specs.Read.{IsRead, IsRefused}
use Rattle.store_core.specs.Reach.{EndsAt, IsLogEnd}
use Rattle.table_update.specs.declared.end.UpdateEnd.{UpdateEnd}
use Rattle.table_update.specs.declared.end.UpdateEnd.TheVariants as ends
use Rattle.table_update.specs.declared.table.AppendTable.{AppendTable}
use Rattle.table_update.specs.Crash.{HasThem}
use Rattle.table_update.specs.Ends as tables
use Rattle.table_update.specs.Ends.{Alike, IsOwn}
use Rattle.table_update.specs.Stands.{IsFor}
use Rattle.table_update.specs.Update.{Found, Updates, IsSuccess, end_after}
use Rattle.table_update.proofs.EndLemmas.{HasOneState}
use Rattle.pipeline_run.specs.declared.command.Command.{Command}
use Rattle.pipeline_run.specs.declared.command.Command.TheVariants.{Validate, Update}
use Rattle.pipeline_run.specs.declared.outcome.Outcome.{Outcome}
use Rattle.pipeline_run.specs.declared.outcome.Outcome.TheVariants.{Usage, TextFailed, Refused, Broken, Valid, Updated}
use Rattle.pipeline_run.specs.declared.outcome.Status.{Status}
use Rattle.pipeline_run.specs.declared.outcome.Status.TheVariants as status
use Rattle.pipeline_run.specs.Ends.{NothingFailed, RanWell, SameFile, SameEnd, NothingRefused, HasShrunk, AreValidates, HaveUpdate}
use Rattle.pipeline_run.specs.Pipeline.{text_limit, HasStatements, HasPlan, IsBroken}
use Rattle.pipeline_run.specs.Report.{status_of, status_of_end}
use Rattle.pipeline_run.specs.Run.{Around, found_by, Counts, NoneFalls, RunState, IsIdle, IsUpdate, ComesTo, Blames, BlamesOf, IsTold, Tells, Executes, Runs, Refuses, Ran}
use Rattle.pipeline_run.specs.Table.{name_of, plan_of, AsksFor}
use Rattle.pipeline_run.specs.Update.{Ended, EndsWith, tried_by}
use Rattle.pipeline_run.proofs.AgainLemmas.{nothing_after}
use Rattle.pipeline_run.proofs.CrashLemmas.{tried_by_both}
use Rattle.pipeline_run.proofs.RunLemmas.{success}
use Rattle.pipeline_run.proofs.ShrunkLemmas.{update_stops}
use Rattle.pipeline_run.proofs.TableLemmas.{one_asked}

-- a text has one reading or one refusal, and not both; and the checks of its statements give one answer
pub record HasOneAnswer : Type 0 where
  pub one : (text : List ℕ) (p q : List Statement) → IsRead text p → IsRead text q → p ≡ q
  pub apart : (text : List ℕ) (p : List Statement) (refusal : SqlRefusal) → IsRead text p → IsRefused text refusal → ⊥
  pub refused : (text : List ℕ) (refusal other : SqlRefusal) → IsRefused text refusal → IsRefused text other → refusal ≡ other
  pub checks : (statements : List Statement) (answer other : Result (List Dataset) Break) → Checked statements answer → Checked statements other → answer ≡ other

-- an update has one end over one file, and over two that are taken for the same
pub record HasOneEnd : Type 0 where
  pub same : (plan : Option AppendTable) (found : Found) (loaded also_loaded : Bool) (acked tried also_acked also_tried : List Payload) (end other : UpdateEnd) → length found.bytes ≤ 2 ^ 40
      → Updates plan found loaded acked tried end → Updates plan found also_loaded also_acked also_tried other → IsOwn end → IsOwn other → (end ≡ other) × (tried ≡ also_tried)
  pub alike : (plan : Option AppendTable) (found also : Found) (loaded also_loaded : Bool) (acked tried also_acked also_tried : List Payload) (end other : UpdateEnd) → length found.bytes ≤ 2 ^ 40 → length also.bytes ≤ 2 ^ 40
      → Alike found.bytes also.bytes → also.room ≡ found.room → also.landing ≡ found.landing
      → Updates plan found loaded acked tried end → Updates plan also also_loaded also_acked also_tried other → IsOwn end → IsOwn other → (end ≡ other) × (tried ≡ also_tried)
  pub settled : (plan : Option AppendTable) (found : Found) (loaded : Bool) (acked tried : List Payload) (end : UpdateEnd) (image other : List ℕ) → length found.bytes ≤ 2 ^ 40
      → Updates plan found loaded acked tried end → IsSuccess end → HasThem found.bytes tried image → HasThem found.bytes tried other
      → ((at : ℕ) → EndsAt at found.bytes → IsLogEnd (end_after at tried) image) → ((at : ℕ) → EndsAt at found.bytes → IsLogEnd (end_after at tried) other) → Alike image other
  pub settled_alike : (bytes also image other : List ℕ) (tried : List Payload) → Alike bytes also → HasThem bytes tried image → HasThem also tried other
      → ((at : ℕ) → EndsAt at bytes → IsLogEnd (end_after at tried) image) → ((at : ℕ) → EndsAt at also → IsLogEnd (end_after at tried) other) → Alike image other

-- it succeeds where it has nothing to refuse
abbrev pub Succeeds : Type 0
Succeeds = (plan : Option AppendTable) (found : Found) (loaded : Bool) (acked tried : List Payload) (end : UpdateEnd) → length found.bytes ≤ 2 ^ 40
    → Updates plan found loaded acked tried end → IsOwn end → tables.NothingRefused plan found → IsSuccess end

-- ---- updates from files that are taken for the same

not_failed : (end : UpdateEnd) → IsOwn end → end ≢ ends.LoadFailed
not_failed end own is = subst IsOwn is own

record SameUpdate (ended second : Ended) (after also : List ℕ) : Type 0 where
  ends_same : ended.end ≡ second.end
  tried : ended.tried ≡ second.tried
  files : IsSuccess ended.end → SameFile after also

same_update : HasOneEnd → (plan : Option AppendTable) (around : Around) (before was : List ℕ) (ended second : Ended) (after also : List ℕ) → SameFile before was → IsOwn ended.end → IsOwn second.end
    → EndsWith plan (found_by around before) ended after → EndsWith plan (found_by around was) second also → SameUpdate ended second after also
same_update law plan around before was ended second after also (inl same) own own_too is here =
    let is_too : EndsWith plan (found_by around before) second also = subst (λ (bytes : List ℕ). EndsWith plan (found_by around bytes) second also) (sym same) here in
    let small = is.small (not_failed ended.end own) in
    let both = law.same plan (found_by around before) ended.loaded second.loaded ended.acked ended.tried second.acked second.tried ended.end second.end small is.updates is_too.updates own own_too in
    record {
      ends_same = both.0;
      tried = both.1;
      files = λ well.
          let well_too : IsSuccess second.end = subst IsSuccess both.0 well in
          inr (law.settled plan (found_by around before) ended.loaded ended.acked ended.tried ended.end after also small is.updates well (is.reads well)
          (subst (λ (tried : List Payload). HasThem before tried also) (sym both.1) (is_too.reads well_too)) (is.goes_on well)
          (subst (λ (tried : List Payload). (at : ℕ) → EndsAt at before → IsLogEnd (end_after at tried) also) (sym both.1) (is_too.goes_on well_too)));
    }
same_update law plan around before was ended second after also (inr alike) own own_too is is_too =
    let small = is.small (not_failed ended.end own) in
    let small_too = is_too.small (not_failed second.end own_too) in
    let both = law.alike plan (found_by around before) (found_by around was) ended.loaded second.loaded ended.acked ended.tried second.acked second.tried ended.end second.end small small_too alike refl refl is.updates is_too.updates own own_too in
    record {
      ends_same = both.0;
      tried = both.1;
      files = λ well.
          let well_too : IsSuccess second.end = subst IsSuccess both.0 well in
          inr (law.settled_alike before was after also ended.tried alike (is.reads well) (subst (λ (tried : List Payload). HasThem was tried also) (sym both.1) (is_too.reads well_too)) (is.goes_on well)
          (subst (λ (tried : List Payload). (at : ℕ) → EndsAt at was → IsLogEnd (end_after at tried) also) (sym both.1) (is_too.goes_on well_too)));
    }

-- ---- outcomes of commands

record SameOutcome (outcome other : Outcome) (updates others : List Ended) (after also : List ℕ) : Type 0 where
  outcomes : outcome ≡ other
  tried : tried_by updates ≡ tried_by others
  files : status_of outcome ≡ status.Ok → SameFile after also

same_idle : (outcome other : Outcome) (updates others : List Ended) (before was after also : List ℕ) → outcome ≡ other → SameFile before was → IsIdle updates before after → IsIdle others was also → SameOutcome outcome other updates others after also
same_idle outcome other updates others before was after also same files idle idle_too = record {
  outcomes = same;
  tried = ap tried_by idle.0 ∙ sym (ap tried_by idle_too.0);
  files = λ ok. subst (λ (bytes : List ℕ). SameFile bytes also) (sym idle.1) (subst (λ (bytes : List ℕ). SameFile before bytes) (sym idle_too.1) files);
}

same_ended : HasOneEnd → (plan : Option AppendTable) (around : Around) (end other : UpdateEnd) (updates others : List Ended) (before was after also : List ℕ) → SameFile before was → IsOwn end → IsOwn other
    → IsUpdate plan around end updates before after → IsUpdate plan around other others was also → SameOutcome (Updated (name_of plan) end) (Updated (name_of plan) other) updates others after also
same_ended law plan around end other updates others before was after also files own own_too (ended, is, same_end, with_it) (second, is_too, same_too, with_too) =
    let same = same_update law plan around before was ended second after also files (subst IsOwn (sym same_end) own) (subst IsOwn (sym same_too) own_too) with_it with_too in
    record {
      outcomes = ap (Updated (name_of plan)) (sym same_end ∙ same.ends_same ∙ same_too);
      tried = ap tried_by is ∙ ap (λ (tried : List Payload). tried ++ []) same.tried ∙ sym (ap tried_by is_too);
      files = λ ok. same.files (subst IsSuccess (sym same_end) (success end ok));
    }

-- ---- what a text comes to

data Way : Type 0 where
  RefusedText : SqlRefusal → Way
  BrokenText : ℕ → CheckFault → Way
  PlanText : List Dataset → Way

abbrev IsWay : List ℕ → Way → Type 0
IsWay text (RefusedText refusal) = IsRefused (take text_limit text) refusal
IsWay text (BrokenText statement fault) = IsBroken text statement fault
IsWay text (PlanText plan) = HasPlan text plan

-- two answers of the checks of one text are one
one_answer : HasOneAnswer → (text : List ℕ) (first second : List Statement) (answer other : Result (List Dataset) Break) → HasStatements text first → HasStatements text second
    → Checked first answer → Checked second other → answer ≡ other
unfolding HasStatements
one_answer law text first second answer other has has_too checked checked_too =
    let same = law.one (take text_limit text) second first has_too has in
    law.checks first answer other checked (subst (λ (statements : List Statement). Checked statements other) same checked_too)

not_refused : HasOneAnswer → (text : List ℕ) (statements : List Statement) (refusal : SqlRefusal) → HasStatements text statements → IsRefused (take text_limit text) refusal → ⊥
unfolding HasStatements
not_refused law text statements refusal has is = law.apart (take text_limit text) statements refusal has is

abbrev break_of : ℕ → CheckFault → Break
break_of statement fault = record { statement = statement; fault = fault }

one_way : HasOneAnswer → (text : List ℕ) (way other : Way) → IsWay text way → IsWay text other → way ≡ other
one_way law text (RefusedText r) (RefusedText s) p q = ap RefusedText (law.refused (take text_limit text) r s p q)
one_way law text (RefusedText r) (BrokenText n f) p q = absurd (not_refused law text q.statements r q.has p)
one_way law text (RefusedText r) (PlanText plan) p q = absurd (not_refused law text q.statements r q.has p)
one_way law text (BrokenText n f) (RefusedText s) p q = absurd (not_refused law text p.statements s p.has q)
one_way law text (BrokenText n f) (BrokenText m g) p q =
    let same = one_answer law text p.statements q.statements (broken_at n f) (broken_at m g) p.has q.has p.checked q.checked in
    let break_is : break_of n f ≡ break_of m g = cc same in
    ap (λ (broken : Break). BrokenText broken.statement broken.fault) break_is
one_way law text (BrokenText n f) (PlanText plan) p q =
    absurd (let same = one_answer law text p.statements q.statements (broken_at n f) (Ok plan) p.has q.has p.checked q.checked in cc same)
one_way law text (PlanText plan) (RefusedText s) p q = absurd (not_refused law text p.statements s p.has q)
one_way law text (PlanText plan) (BrokenText m g) p q =
    absurd (let same = one_answer law text p.statements q.statements (Ok plan) (broken_at m g) p.has q.has p.checked q.checked in cc same)
one_way law text (PlanText plan) (PlanText other) p q =
    let same = one_answer law text p.statements q.statements (Ok plan) (Ok other) p.has q.has p.checked q.checked in
    cc same

-- a text has one plan
pub one_plan : HasOneAnswer → (text : List ℕ) (plan other : List Dataset) → HasPlan text plan → HasPlan text other → plan ≡ other
one_plan law text plan other p q =
    let same = one_answer law text p.statements q.statements (Ok plan) (Ok other) p.has q.has p.checked q.checked in
    cc same

pub one_table : HasOneAnswer → (text : List ℕ) (asked other : Option AppendTable) → HasPlan text (plan_of asked) → HasPlan text (plan_of other) → asked ≡ other
one_table law text asked other p q = one_asked asked other (one_plan law text (plan_of asked) (plan_of other) p q)

pub asks_for_one : HasOneAnswer → (text : List ℕ) (table : AppendTable) → HasPlan text (plan_of (Some table)) → AsksFor text table
asks_for_one law text table has asked has_too = subst (λ (plan : Option AppendTable). IsFor plan table) (one_table law text (Some table) asked has has_too) refl

pub asks_for_none : HasOneAnswer → (text : List ℕ) (table : AppendTable) → HasPlan text [] → AsksFor text table
asks_for_none law text table has asked has_too = subst (λ (plan : Option AppendTable). IsFor plan table) (one_table law text None asked has has_too) tt

-- ---- how a command ends where no device fails

-- an outcome that blames no device, nor want of memory
abbrev IsBlameless : Outcome → Type 0
IsBlameless TextFailed = ⊥
IsBlameless (Updated table end) = IsOwn end
IsBlameless outcome = Unit {0}

-- an update of a plan came to this outcome
record GoesOn (around : Around) (datasets : List Dataset) (outcome : Outcome) (updates : List Ended) (before after : List ℕ) : Type 0 where
  plan : Option AppendTable
  end : UpdateEnd
  of_plan : datasets ≡ plan_of plan
  is : outcome ≡ Updated (name_of plan) end
  own : IsOwn end
  update : IsUpdate plan around end updates before after

abbrev Goes : Command → Around → Way → Outcome → List Ended → List ℕ → List ℕ → Type 0
Goes command around (RefusedText refusal) outcome updates before after = (outcome ≡ Refused refusal) × IsIdle updates before after
Goes command around (BrokenText statement fault) outcome updates before after = (outcome ≡ Broken statement fault) × IsIdle updates before after
Goes Validate around (PlanText plan) outcome updates before after = (outcome ≡ Valid plan) × IsIdle updates before after
Goes Update around (PlanText plan) outcome updates before after = GoesOn around plan outcome updates before after

record HasWay (command : Command) (around : Around) (outcome : Outcome) (updates : List Ended) (before after : List ℕ) : Type 0 where
  way : Way
  is : IsWay around.text way
  goes : Goes command around way outcome updates before after

way_of : (command : Command) (around : Around) (outcome : Outcome) (updates : List Ended) (before after : List ℕ) → IsBlameless outcome → ComesTo command around outcome updates before after → HasWay command around outcome updates before after
way_of Validate around Usage updates before after fine comes = absurd comes
way_of Validate around TextFailed updates before after fine comes = absurd fine
way_of Validate around (Refused refusal) updates before after fine comes = record { way = RefusedText refusal; is = comes.0; goes = (refl, comes.1) }
way_of Validate around (Broken statement fault) updates before after fine comes = record { way = BrokenText statement fault; is = comes.0; goes = (refl, comes.1) }
way_of Validate around (Valid plan) updates before after fine comes = record { way = PlanText plan; is = comes.0; goes = (refl, comes.1) }
way_of Validate around (Updated table end) updates before after fine comes = absurd comes
way_of Update around Usage updates before after fine comes = absurd comes
way_of Update around TextFailed updates before after fine comes = absurd fine
way_of Update around (Refused refusal) updates before after fine comes = record { way = RefusedText refusal; is = comes.0; goes = (refl, comes.1) }
way_of Update around (Broken statement fault) updates before after fine comes = record { way = BrokenText statement fault; is = comes.0; goes = (refl, comes.1) }
way_of Update around (Valid plan) updates before after fine comes = absurd comes
way_of Update around (Updated table end) updates before after fine comes = record {
  way = PlanText (plan_of comes.0);
  is = comes.1;
  goes = record { plan = comes.0; end = end; of_plan = refl; is = ap (λ (name : Option (List ℕ)). Updated name end) comes.2; own = fine; update = comes.3 };
}

same_updated : HasOneEnd → (around : Around) (datasets : List Dataset) (outcome other : Outcome) (updates others : List Ended) (before was after also : List ℕ) → SameFile before was
    → GoesOn around datasets outcome updates before after → GoesOn around datasets other others was also → SameOutcome outcome other updates others after also
same_updated law around datasets outcome other updates others before was after also files p q =
    let same : q.plan ≡ p.plan = one_asked q.plan p.plan (sym q.of_plan ∙ p.of_plan) in
    let is_too : other ≡ Updated (name_of p.plan) q.end = q.is ∙ ap (λ (plan : Option AppendTable). Updated (name_of plan) q.end) same in
    let update_too : IsUpdate p.plan around q.end others was also = subst (λ (plan : Option AppendTable). IsUpdate plan around q.end others was also) same q.update in
    rw (p.is, is_too) (same_ended law p.plan around p.end q.end updates others before was after also files p.own q.own p.update update_too)

-- two outcomes by one way
same_goes : HasOneEnd → (command : Command) (around : Around) (way : Way) (outcome other : Outcome) (updates others : List Ended) (before was after also : List ℕ) → SameFile before was
    → Goes command around way outcome updates before after → Goes command around way other others was also → SameOutcome outcome other updates others after also
same_goes law Validate around (RefusedText r) outcome other updates others before was after also files p q = same_idle outcome other updates others before was after also (p.0 ∙ sym q.0) files p.1 q.1
same_goes law Validate around (BrokenText n f) outcome other updates others before was after also files p q = same_idle outcome other updates others before was after also (p.0 ∙ sym q.0) files p.1 q.1
same_goes law Validate around (PlanText plan) outcome other updates others before was after also files p q = same_idle outcome other updates others before was after also (p.0 ∙ sym q.0) files p.1 q.1
same_goes law Update around (RefusedText r) outcome other updates others before was after also files p q = same_idle outcome other updates others before was after also (p.0 ∙ sym q.0) files p.1 q.1
same_goes law Update around (BrokenText n f) outcome other updates others before was after also files p q = same_idle outcome other updates others before was after also (p.0 ∙ sym q.0) files p.1 q.1
same_goes law Update around (PlanText plan) outcome other updates others before was after also files p q = same_updated law around plan outcome other updates others before was after also files p q

same_way : HasOneAnswer → HasOneEnd → (command : Command) (around : Around) (outcome other : Outcome) (updates others : List Ended) (before was after also : List ℕ) → SameFile before was
    → HasWay command around outcome updates before after → HasWay command around other others was also → SameOutcome outcome other updates others after also
same_way law one command around outcome other updates others before was after also files p q =
    let same : q.way ≡ p.way = one_way law around.text q.way p.way q.is p.is in
    same_goes one command around p.way outcome other updates others before was after also files p.goes (subst (λ (way : Way). Goes command around way other others was also) same q.goes)

-- ---- no failure on the way

rose-later : (a b c : ℕ) → b ≤ c → Rose a b → Rose a c
rose-later a b c le rose = omega (arith, le, rose)

rose-earlier : (a b c : ℕ) → a ≤ b → Rose b c → Rose a c
rose-earlier a b c le rose = omega (arith, le, rose)

first_part : (old mid new : RunState) → NothingFailed old new → NoneFalls mid.faults new.faults → NothingFailed old mid
first_part old mid new fine later = record {
  text = λ r. fine.text (rose-later old.faults.text mid.faults.text new.faults.text later.text r);
  disk = λ r. fine.disk (rose-later old.faults.disk mid.faults.disk new.faults.disk later.disk r);
  landing = λ r. fine.landing (rose-later old.faults.landing mid.faults.landing new.faults.landing later.landing r);
  sink = λ r. fine.sink (rose-later old.faults.sink mid.faults.sink new.faults.sink later.sink r);
}

last_part : (old mid new : RunState) → NothingFailed old new → NoneFalls old.faults mid.faults → NothingFailed mid new
last_part old mid new fine later = record {
  text = λ r. fine.text (rose-earlier old.faults.text mid.faults.text new.faults.text later.text r);
  disk = λ r. fine.disk (rose-earlier old.faults.disk mid.faults.disk new.faults.disk later.disk r);
  landing = λ r. fine.landing (rose-earlier old.faults.landing mid.faults.landing new.faults.landing later.landing r);
  sink = λ r. fine.sink (rose-earlier old.faults.sink mid.faults.sink new.faults.sink later.sink r);
}

executes-later : (first : Command) (around : Around) (given : Status) (updates : List Ended) (old mid : RunState) → Executes first around given updates old mid → NoneFalls old.faults mid.faults
executes-later first around given updates old mid (inl does) = does.1.later
executes-later first around given updates old mid (inr out) = out.0.later

none-falls : (a b c : Counts) → NoneFalls a b → NoneFalls b c → NoneFalls a c
none-falls a b c p q = record { text = omega (arith, p.text, q.text); disk = omega (arith, p.disk, q.disk); landing = omega (arith, p.landing, q.landing); sink = omega (arith, p.sink, q.sink) }

same-falls : (a : Counts) → NoneFalls a a
same-falls a = record { text = omega arith; disk = omega arith; landing = omega arith; sink = omega arith }

runs-later : (around : Around) (commands : List Command) (answer : Status) (updates : List Ended) (old new : RunState) → Runs around commands answer updates old new → NoneFalls old.faults new.faults
runs-later around [] answer updates old new runs = subst (λ (s : RunState). NoneFalls old.faults s.faults) (sym runs.2) (same-falls old.faults)
runs-later around (first ∷ others) answer updates old new (mid, given, own, rest, parts, executes, inl more) =
    none-falls old.faults mid.faults new.faults (executes-later first around given own old mid executes) (runs-later around others answer rest mid new more.1)
runs-later around (first ∷ others) answer updates old new (mid, given, own, rest, parts, executes, inr end) =
    subst (λ (s : RunState). NoneFalls old.faults s.faults) (sym end.3) (executes-later first around given own old mid executes)

-- ---- what was told

told : (outcome : Outcome) (answer : Status) (old new : RunState) → Tells outcome answer old new → NothingFailed old new → answer ≢ status.Memory → IsTold outcome answer old new
told outcome answer old new (inl is) fine ne = is
told outcome answer old new (inr cut) fine ne = absurd (elim cut.status [ inl sink ↦ fine.sink sink.1 | inr memory ↦ ne memory ])

same_told : (outcome other : Outcome) (answer also : Status) (updates others : List Ended) (old was new far : RunState) → SameOutcome outcome other updates others new.file far.file → old.printed ≡ was.printed
    → IsTold outcome answer old new → IsTold other also was far → SameEnd answer also updates others new far
same_told outcome other answer also updates others old was new far same was_same p q =
    let outcomes = same.outcomes in
    record { answers = cc (p.status, q.status); printed = cc (p.line, q.line); tried = same.tried; files = λ ok. same.files (sym p.status ∙ ok) }

-- ---- commands

own_end : (end : UpdateEnd) (old new : RunState) → NothingFailed old new → BlamesOf old.faults new.faults end → (status_of_end end ≡ status.Memory → ⊥) → IsOwn end
own_end ends.LoadFailed old new fine blames ne = fine.disk blames
own_end ends.CommitFailed old new fine blames ne = fine.disk blames
own_end ends.LandingFailed old new fine blames ne = fine.landing blames
own_end ends.Memory old new fine blames ne = ne refl
own_end _ old new fine blames ne = tt

blameless : (outcome : Outcome) (old new : RunState) → NothingFailed old new → Blames old.faults new.faults outcome → (status_of outcome ≡ status.Memory → ⊥) → IsBlameless outcome
blameless TextFailed old new fine blames ne = fine.text blames
blameless (Updated table end) old new fine blames ne = own_end end old new fine blames ne
blameless Usage old new fine blames ne = tt
blameless (Refused refusal) old new fine blames ne = tt
blameless (Broken statement fault) old new fine blames ne = tt
blameless (Valid plan) old new fine blames ne = tt

-- the way of a command that was told
gone : (first : Command) (around : Around) (given : Status) (updates : List Ended) (outcome : Outcome) (old mid : RunState) → NothingFailed old mid → given ≢ status.Memory → IsTold outcome given old mid → Blames old.faults mid.faults outcome
    → ComesTo first around outcome updates old.file mid.file → HasWay first around outcome updates old.file mid.file
gone first around given updates outcome old mid fine ne is blames comes =
    way_of first around outcome updates old.file mid.file (blameless outcome old mid fine blames (λ memory. ne (is.status ∙ memory))) comes

same_command : HasOneAnswer → HasOneEnd → (first : Command) (around : Around) (given also : Status) (updates others : List Ended) (old was mid far : RunState) → SameFile old.file was.file → old.printed ≡ was.printed
    → NothingFailed old mid → NothingFailed was far → given ≢ status.Memory → also ≢ status.Memory
    → Executes first around given updates old mid → Executes first around also others was far → SameEnd given also updates others mid far
same_command law one first around given also updates others old was mid far files prints fine fine_too ne ne_too (inr out) other = absurd (ne out.0.status)
same_command law one first around given also updates others old was mid far files prints fine fine_too ne ne_too (inl does) (inr out) = absurd (ne_too out.0.status)
same_command law one first around given also updates others old was mid far files prints fine fine_too ne ne_too (inl (outcome, does)) (inl (other, does_too)) =
    let is = told outcome given old mid does.tells fine ne in
    let is_too = told other also was far does_too.tells fine_too ne_too in
    let way = gone first around given updates outcome old mid fine ne is does.blames does.comes in
    let route = gone first around also others other was far fine_too ne_too is_too does_too.blames does_too.comes in
    let same = same_way law one first around outcome other updates others old.file was.file mid.file far.file files way route in
    same_told outcome other given also updates others old was mid far same prints is is_too

is_ok : (given : Status) → given ≡ status.Ok → given ≢ status.Memory
is_ok given ok memory = let no : status.Ok ≡ status.Memory = sym ok ∙ memory in cc

both_tried : (updates own more others own_too more_too : List Ended) → updates ≡ own ++ more → others ≡ own_too ++ more_too → tried_by own ≡ tried_by own_too → tried_by more ≡ tried_by more_too → tried_by updates ≡ tried_by others
both_tried updates own more others own_too more_too parts parts_too first second =
    ap tried_by parts ∙ tried_by_both own more ∙ ap (λ (front : List Payload). front ++ tried_by more) first ∙ ap (λ (behind : List Payload). tried_by own_too ++ behind) second ∙ sym (tried_by_both own_too more_too) ∙ sym (ap tried_by parts_too)

same_runs : HasOneAnswer → HasOneEnd → (around : Around) (commands : List Command) (answer other : Status) (updates others : List Ended) (old was new also : RunState) → SameFile old.file was.file → old.printed ≡ was.printed
    → NothingFailed old new → NothingFailed was also → answer ≢ status.Memory → other ≢ status.Memory
    → Runs around commands answer updates old new → Runs around commands other others was also → SameEnd answer other updates others new also
same_runs law one around [] answer other updates others old was new also files prints fine fine_too ne ne_too p q =
    record {
      answers = p.0 ∙ sym q.0;
      printed = ap (λ (s : RunState). s.printed) p.2 ∙ prints ∙ sym (ap (λ (s : RunState). s.printed) q.2);
      tried = ap tried_by p.1 ∙ sym (ap tried_by q.1);
      files = λ ok. subst (λ (s : RunState). SameFile s.file also.file) (sym p.2) (subst (λ (s : RunState). SameFile old.file s.file) (sym q.2) files);
    }
same_runs law one around (first ∷ rest) answer other updates others old was new also files prints fine fine_too ne ne_too (mid, given, own, tail, parts, e, inl more) (far, given_too, own_too, tail_too, parts_too, e_too, inl more_too) =
    let step = same_command law one first around given given_too own own_too old was mid far files prints
    (first_part old mid new fine (runs-later around rest answer tail mid new more.1)) (first_part was far also fine_too (runs-later around rest other tail_too far also more_too.1))
    (is_ok given more.0) (is_ok given_too more_too.0) e e_too in
    let after = same_runs law one around rest answer other tail tail_too mid far new also (step.files more.0) step.printed
    (last_part old mid new fine (executes-later first around given own old mid e)) (last_part was far also fine_too (executes-later first around given_too own_too was far e_too))
    ne ne_too more.1 more_too.1 in
    record { answers = after.answers; printed = after.printed; tried = both_tried updates own tail others own_too tail_too parts parts_too step.tried after.tried; files = after.files }
same_runs law one around (first ∷ rest) answer other updates others old was new also files prints fine fine_too ne ne_too (mid, given, own, tail, parts, e, inl more) (far, given_too, own_too, tail_too, parts_too, e_too, inr end) =
    let step = same_command law one first around given given_too own own_too old was mid far files prints
    (first_part old mid new fine (runs-later around rest answer tail mid new more.1)) (subst (NothingFailed was) end.3 fine_too)
    (is_ok given more.0) (λ m. ne_too (end.1 ∙ m)) e e_too in
    absurd (end.0 (sym step.answers ∙ more.0))
same_runs law one around (first ∷ rest) answer other updates others old was new also files prints fine fine_too ne ne_too (mid, given, own, tail, parts, e, inr end) (far, given_too, own_too, tail_too, parts_too, e_too, inl more_too) =
    let step = same_command law one first around given given_too own own_too old was mid far files prints
    (subst (NothingFailed old) end.3 fine) (first_part was far also fine_too (runs-later around rest other tail_too far also more_too.1))
    (λ m. ne (end.1 ∙ m)) (is_ok given_too more_too.0) e e_too in
    absurd (end.0 (step.answers ∙ more_too.0))
same_runs law one around (first ∷ rest) answer other updates others old was new also files prints fine fine_too ne ne_too (mid, given, own, tail, parts, e, inr end) (far, given_too, own_too, tail_too, parts_too, e_too, inr end_too) =
    let step = same_command law one first around given given_too own own_too old was mid far files prints
    (subst (NothingFailed old) end.3 fine) (subst (NothingFailed was) end_too.3 fine_too)
    (λ m. ne (end.1 ∙ m)) (λ m. ne_too (end_too.1 ∙ m)) e e_too in
    record {
      answers = end.1 ∙ (step.answers ∙ sym end_too.1);
      printed = ap (λ (s : RunState). s.printed) end.3 ∙ (step.printed ∙ ap (λ (s : RunState). s.printed) (sym end_too.3));
      tried = both_tried updates own tail others own_too tail_too parts parts_too step.tried (ap tried_by end.2 ∙ sym (ap tried_by end_too.2));
      files = λ ok. absurd (end.0 (sym end.1 ∙ ok));
    }

-- ---- whole runs

same_refusal : (answer other : Status) (updates others : List Ended) (old new also : RunState) → NothingFailed old new → NothingFailed old also → answer ≢ status.Memory → other ≢ status.Memory
    → Refuses Usage answer old new → updates ≡ [] → Refuses Usage other old also → others ≡ [] → SameEnd answer other updates others new also
same_refusal answer other updates others old new also fine fine_too ne ne_too p none q none_too =
    same_told Usage Usage answer other updates others old old new also (same_idle Usage Usage updates others old.file old.file new.file also.file refl (inl refl) (none, p.file) (none_too, q.file)) refl
    (told Usage answer old new p.tells fine ne) (told Usage other old also q.tells fine_too ne_too)

same_ran : HasOneAnswer → HasOneEnd → (asked : Option (List Command)) (around : Around) (answer other : Status) (updates others : List Ended) (old new also : RunState) → NothingFailed old new → NothingFailed old also
    → answer ≢ status.Memory → other ≢ status.Memory → Ran asked around answer updates old new → Ran asked around other others old also → SameEnd answer other updates others new also
same_ran law one None around answer other updates others old new also fine fine_too ne ne_too (inl p, none) (inl q, none_too) = same_refusal answer other updates others old new also fine fine_too ne ne_too p none q none_too
same_ran law one None around answer other updates others old new also fine fine_too ne ne_too (inr out, none) q = absurd (ne out.status)
same_ran law one None around answer other updates others old new also fine fine_too ne ne_too (inl p, none) (inr out, none_too) = absurd (ne_too out.status)
same_ran law one (Some commands) around answer other updates others old new also fine fine_too ne ne_too (inl out) q = absurd (ne out.0.status)
same_ran law one (Some commands) around answer other updates others old new also fine fine_too ne ne_too (inr p) (inl out) = absurd (ne_too out.0.status)
same_ran law one (Some commands) around answer other updates others old new also fine fine_too ne ne_too (inr p) (inr q) =
    same_runs law one around commands answer other updates others old old new also (inl refl) refl fine fine_too ne ne_too p q

pub one_end : HasOneAnswer → HasOneEnd → (asked : Option (List Command)) (around : Around) (answer other : Status) (updates others : List Ended) (old new also : RunState) → RanWell asked around answer updates old new → RanWell asked around other others old also
    → SameEnd answer other updates others new also
one_end law one asked around answer other updates others old new also p q = same_ran law one asked around answer other updates others old new also p.fine q.fine p.memory q.memory p.ran q.ran

-- ---- commands that have nothing to refuse

ok_of_success : (end : UpdateEnd) → IsSuccess end → status_of_end end ≡ status.Ok
ok_of_success ends.Current well = refl
ok_of_success (ends.Completed read version) well = refl
ok_of_success _ well = absurd well

ok_of_ended : Succeeds → (plan : Option AppendTable) (around : Around) (file after : List ℕ) (end : UpdateEnd) (updates : List Ended) → tables.NothingRefused plan (found_by around file) → IsOwn end → IsUpdate plan around end updates file after
    → status_of_end end ≡ status.Ok
ok_of_ended succeeds plan around file after end updates none own (ended, is, same, with_it) =
    let own_too : IsOwn ended.end = subst IsOwn (sym same) own in
    ok_of_success end (subst IsSuccess same (succeeds plan (found_by around file) ended.loaded ended.acked ended.tried ended.end (with_it.small (not_failed ended.end own_too)) with_it.updates own_too none))

ok_of_goes_on : Succeeds → (around : Around) (file after : List ℕ) (updates : List Ended) (outcome : Outcome) (plan : Option AppendTable) → tables.NothingRefused plan (found_by around file) → GoesOn around (plan_of plan) outcome updates file after → status_of outcome ≡ status.Ok
ok_of_goes_on succeeds around file after updates outcome plan none on =
    let same : on.plan ≡ plan = one_asked on.plan plan (sym on.of_plan) in
    ap status_of on.is ∙ ok_of_ended succeeds plan around file after on.end updates none on.own (subst (λ (given : Option AppendTable). IsUpdate given around on.end updates file after) same on.update)

ok_of_update_way : HasOneAnswer → Succeeds → (around : Around) (file after : List ℕ) (updates : List Ended) (given : Status) (outcome : Outcome) → NothingRefused around file → HasWay Update around outcome updates file after
    → given ≡ status_of outcome → given ≡ status.Ok
ok_of_update_way law succeeds around file after updates given outcome none has e =
    let same : has.way ≡ PlanText (plan_of none.plan) = one_way law around.text has.way (PlanText (plan_of none.plan)) has.is none.checks in
    e ∙ ok_of_goes_on succeeds around file after updates outcome none.plan none.takes (subst (λ (way : Way). Goes Update around way outcome updates file after) same has.goes)

ok_of_update : HasOneAnswer → Succeeds → (around : Around) (updates : List Ended) (old mid : RunState) (given : Status) → NothingRefused around old.file → NothingFailed old mid → given ≢ status.Memory → Executes Update around given updates old mid → given ≡ status.Ok
ok_of_update law succeeds around updates old mid given none fine ne (inr out) = absurd (ne out.0.status)
ok_of_update law succeeds around updates old mid given none fine ne (inl (outcome, does)) =
    let is = told outcome given old mid does.tells fine ne in
    let way = gone Update around given updates outcome old mid fine ne is does.blames does.comes in
    ok_of_update_way law succeeds around old.file mid.file updates given outcome none way is.status

ok_of_validate_way : HasOneAnswer → (around : Around) (file after : List ℕ) (updates : List Ended) (plan : List Dataset) (given : Status) (outcome : Outcome) → HasPlan around.text plan → HasWay Validate around outcome updates file after
    → given ≡ status_of outcome → given ≡ status.Ok
ok_of_validate_way law around file after updates plan given outcome has way e =
    let same : way.way ≡ PlanText plan = one_way law around.text way.way (PlanText plan) way.is has in
    let goes : Goes Validate around (PlanText plan) outcome updates file after = subst (λ (each : Way). Goes Validate around each outcome updates file after) same way.goes in
    e ∙ ap status_of goes.0

ok_of_validate : HasOneAnswer → (around : Around) (updates : List Ended) (old mid : RunState) (plan : List Dataset) (given : Status) → HasPlan around.text plan → NothingFailed old mid → given ≢ status.Memory → Executes Validate around given updates old mid
    → given ≡ status.Ok
ok_of_validate law around updates old mid plan given has fine ne (inr out) = absurd (ne out.0.status)
ok_of_validate law around updates old mid plan given has fine ne (inl (outcome, does)) =
    let is = told outcome given old mid does.tells fine ne in
    let way = gone Validate around given updates outcome old mid fine ne is does.blames does.comes in
    ok_of_validate_way law around old.file mid.file updates plan given outcome has way is.status

kept_by_goes : (around : Around) (file after : List ℕ) (updates : List Ended) (outcome : Outcome) (way : Way) → Goes Validate around way outcome updates file after → after ≡ file
kept_by_goes around file after updates outcome (RefusedText r) is = is.1.1
kept_by_goes around file after updates outcome (BrokenText n f) is = is.1.1
kept_by_goes around file after updates outcome (PlanText plan) is = is.1.1

kept_by_validate : (around : Around) (updates : List Ended) (old mid : RunState) (given : Status) → NothingFailed old mid → given ≢ status.Memory → Executes Validate around given updates old mid → mid.file ≡ old.file
kept_by_validate around updates old mid given fine ne (inr out) = out.0.file
kept_by_validate around updates old mid given fine ne (inl (outcome, does)) =
    let is = told outcome given old mid does.tells fine ne in
    let way = gone Validate around given updates outcome old mid fine ne is does.blames does.comes in
    kept_by_goes around old.file mid.file updates outcome way.way way.goes

ok_of_validates : HasOneAnswer → (commands : List Command) (around : Around) (answer : Status) (updates : List Ended) (old new : RunState) (plan : List Dataset) → AreValidates commands → HasPlan around.text plan → NothingFailed old new
    → answer ≢ status.Memory → Runs around commands answer updates old new → answer ≡ status.Ok
ok_of_validates law [] around answer updates old new plan are has fine ne runs = runs.0
ok_of_validates law (Update ∷ others) around answer updates old new plan are has fine ne runs = absurd are
ok_of_validates law (Validate ∷ others) around answer updates old new plan are has fine ne (mid, given, own, tail, parts, executes, inl more) =
    ok_of_validates law others around answer tail mid new plan are has (last_part old mid new fine (executes-later Validate around given own old mid executes)) ne more.1
ok_of_validates law (Validate ∷ others) around answer updates old new plan are has fine ne (mid, given, own, tail, parts, executes, inr end) =
    absurd (end.0 (ok_of_validate law around own old mid plan given has (subst (NothingFailed old) end.3 fine) (λ m. ne (end.1 ∙ m)) executes))

-- ---- what an update that has succeeded leaves

left_by : (around : Around) (plan : Option AppendTable) (end : UpdateEnd) (updates : List Ended) (before after : List ℕ) → status_of_end end ≡ status.Ok → IsUpdate plan around end updates before after → tables.NothingRefused plan (found_by around after)
left_by around plan end updates before after ok (ended, is, same, with_it) =
    let well : IsSuccess ended.end = subst IsSuccess (sym same) (success end ok) in
    nothing_after plan (found_by around before) ended.loaded ended.acked ended.tried ended.end after with_it.updates well (with_it.reads well) (with_it.goes_on well)

left_by_goes_on : (around : Around) (plan : Option AppendTable) (file after : List ℕ) (updates : List Ended) (given : Status) (outcome : Outcome) → given ≡ status.Ok → given ≡ status_of outcome → GoesOn around (plan_of plan) outcome updates file after
    → tables.NothingRefused plan (found_by around after)
left_by_goes_on around plan file after updates given outcome ok e on =
    let same : on.plan ≡ plan = one_asked on.plan plan (sym on.of_plan) in
    let well : status_of_end on.end ≡ status.Ok = sym (ap status_of on.is) ∙ sym e ∙ ok in
    subst (λ (given : Option AppendTable). tables.NothingRefused given (found_by around after)) same (left_by around on.plan on.end updates file after well on.update)

left_by_update : HasOneAnswer → (around : Around) (updates : List Ended) (old mid : RunState) (given : Status) → NothingRefused around old.file → NothingFailed old mid → given ≡ status.Ok → Executes Update around given updates old mid → NothingRefused around mid.file
left_by_update law around updates old mid given none fine ok (inr out) = absurd (is_ok given ok out.0.status)
left_by_update law around updates old mid given none fine ok (inl (outcome, does)) =
    let is = told outcome given old mid does.tells fine (is_ok given ok) in
    let way = gone Update around given updates outcome old mid fine (is_ok given ok) is does.blames does.comes in
    let same : way.way ≡ PlanText (plan_of none.plan) = one_way law around.text way.way (PlanText (plan_of none.plan)) way.is none.checks in
    record {
      plan = none.plan;
      checks = none.checks;
      takes = left_by_goes_on around none.plan old.file mid.file updates given outcome ok is.status (subst (λ (each : Way). Goes Update around each outcome updates old.file mid.file) same way.goes);
    }

-- ---- commands in order

ok_of_all : HasOneAnswer → Succeeds → (commands : List Command) (around : Around) (answer : Status) (updates : List Ended) (old new : RunState) → NothingRefused around old.file → NothingFailed old new → answer ≢ status.Memory
    → Runs around commands answer updates old new → answer ≡ status.Ok
ok_of_all law succeeds [] around answer updates old new none fine ne runs = runs.0
ok_of_all law succeeds (Validate ∷ others) around answer updates old new none fine ne (mid, given, own, tail, parts, executes, inl more) =
    let kept = kept_by_validate around own old mid given (first_part old mid new fine (runs-later around others answer tail mid new more.1)) (is_ok given more.0) executes in
    ok_of_all law succeeds others around answer tail mid new (subst (λ (file : List ℕ). NothingRefused around file) (sym kept) none)
    (last_part old mid new fine (executes-later Validate around given own old mid executes)) ne more.1
ok_of_all law succeeds (Validate ∷ others) around answer updates old new none fine ne (mid, given, own, tail, parts, executes, inr end) =
    absurd (end.0 (ok_of_validate law around own old mid (plan_of none.plan) given none.checks (subst (NothingFailed old) end.3 fine) (λ m. ne (end.1 ∙ m)) executes))
ok_of_all law succeeds (Update ∷ others) around answer updates old new none fine ne (mid, given, own, tail, parts, executes, inl more) =
    let next = left_by_update law around own old mid given none (first_part old mid new fine (runs-later around others answer tail mid new more.1)) more.0 executes in
    ok_of_all law succeeds others around answer tail mid new next (last_part old mid new fine (executes-later Update around given own old mid executes)) ne more.1
ok_of_all law succeeds (Update ∷ others) around answer updates old new none fine ne (mid, given, own, tail, parts, executes, inr end) =
    absurd (end.0 (ok_of_update law succeeds around own old mid given none (subst (NothingFailed old) end.3 fine) (λ m. ne (end.1 ∙ m)) executes))

or_memory : (answer : Status) → (answer ≢ status.Memory → answer ≡ status.Ok) → (answer ≡ status.Ok) ⊎ (answer ≡ status.Memory)
or_memory status.Memory well = inr refl
or_memory _ well = inl (well (λ is. cc))

pub ok_where_nothing_is_refused : HasOneAnswer → Succeeds → (commands : List Command) (around : Around) (answer : Status) (updates : List Ended) (old new : RunState) → Ran (Some commands) around answer updates old new → NothingFailed old new
    → NothingRefused around old.file → (answer ≡ status.Ok) ⊎ (answer ≡ status.Memory)
ok_where_nothing_is_refused law succeeds commands around answer updates old new (inl out) fine none = inr out.0.status
ok_where_nothing_is_refused law succeeds commands around answer updates old new (inr runs) fine none =
    or_memory answer (λ ne. ok_of_all law succeeds commands around answer updates old new none fine ne runs)

-- ---- a file that became shorter

stops_ended : HasOneState → (around : Around) (file after : List ℕ) (end : UpdateEnd) (updates : List Ended) (has : HasShrunk around file) → IsOwn end → IsUpdate (Some has.table) around end updates file after → status_of_end end ≡ status.Stopped
stops_ended state around file after end updates has own (ended, is, same, with_it) =
    let own_too : IsOwn ended.end = subst IsOwn (sym same) own in
    subst (λ (e : UpdateEnd). status_of_end e ≡ status.Stopped) same
    (update_stops state has.table (found_by around file) has.state has.at has.dataset has.places has.listed ended.loaded ended.acked ended.tried ended.end (with_it.small (not_failed ended.end own_too)) has.loaded has.holds has.is own_too with_it.updates)

stops_goes_on : HasOneState → (around : Around) (file after : List ℕ) (updates : List Ended) (outcome : Outcome) (has : HasShrunk around file) → GoesOn around (plan_of (Some has.table)) outcome updates file after → status_of outcome ≡ status.Stopped
stops_goes_on state around file after updates outcome has on =
    let same : on.plan ≡ Some has.table = one_asked on.plan (Some has.table) (sym on.of_plan) in
    ap status_of on.is ∙ stops_ended state around file after on.end updates has on.own (subst (λ (given : Option AppendTable). IsUpdate given around on.end updates file after) same on.update)

stopped_by_update : HasOneAnswer → HasOneState → (around : Around) (updates : List Ended) (old mid : RunState) (given : Status) → HasShrunk around old.file → NothingFailed old mid → given ≢ status.Memory → Executes Update around given updates old mid → given ≡ status.Stopped
stopped_by_update law state around updates old mid given has fine ne (inr out) = absurd (ne out.0.status)
stopped_by_update law state around updates old mid given has fine ne (inl (outcome, does)) =
    let is = told outcome given old mid does.tells fine ne in
    let way = gone Update around given updates outcome old mid fine ne is does.blames does.comes in
    let same : way.way ≡ PlanText (plan_of (Some has.table)) = one_way law around.text way.way (PlanText (plan_of (Some has.table))) way.is has.checks in
    is.status ∙ stops_goes_on state around old.file mid.file updates outcome has (subst (λ (each : Way). Goes Update around each outcome updates old.file mid.file) same way.goes)

stopped_by_all : HasOneAnswer → HasOneState → (commands : List Command) (around : Around) (answer : Status) (updates : List Ended) (old new : RunState) → HaveUpdate commands → HasShrunk around old.file → NothingFailed old new → answer ≢ status.Memory
    → Runs around commands answer updates old new → answer ≡ status.Stopped
stopped_by_all law state [] around answer updates old new have has fine ne runs = absurd have
stopped_by_all law state (Validate ∷ others) around answer updates old new have has fine ne (mid, given, own, tail, parts, executes, inl more) =
    let kept = kept_by_validate around own old mid given (first_part old mid new fine (runs-later around others answer tail mid new more.1)) (is_ok given more.0) executes in
    stopped_by_all law state others around answer tail mid new have (subst (λ (file : List ℕ). HasShrunk around file) (sym kept) has)
    (last_part old mid new fine (executes-later Validate around given own old mid executes)) ne more.1
stopped_by_all law state (Validate ∷ others) around answer updates old new have has fine ne (mid, given, own, tail, parts, executes, inr end) =
    absurd (end.0 (ok_of_validate law around own old mid (plan_of (Some has.table)) given has.checks (subst (NothingFailed old) end.3 fine) (λ m. ne (end.1 ∙ m)) executes))
stopped_by_all law state (Update ∷ others) around answer updates old new have has fine ne (mid, given, own, tail, parts, executes, inl more) =
    let stopped = stopped_by_update law state around own old mid given has (first_part old mid new fine (runs-later around others answer tail mid new more.1)) (is_ok given more.0) executes in
    absurd (let no : status.Stopped ≡ status.Ok = sym stopped ∙ more.0 in let never : ⊥ = cc in never)
stopped_by_all law state (Update ∷ others) around answer updates old new have has fine ne (mid, given, own, tail, parts, executes, inr end) =
    end.1 ∙ stopped_by_update law state around own old mid given has (subst (NothingFailed old) end.3 fine) (λ m. ne (end.1 ∙ m)) executes

stopped_or : (answer : Status) → (answer ≢ status.Memory → answer ≡ status.Stopped) → (answer ≡ status.Stopped) ⊎ (answer ≡ status.Memory)
stopped_or status.Memory stopped = inr refl
stopped_or _ stopped = inl (stopped (λ is. cc))

pub stopped_where_a_file_shrank : HasOneAnswer → HasOneState → (commands : List Command) (around : Around) (answer : Status) (updates : List Ended) (old new : RunState) → HaveUpdate commands → Ran (Some commands) around answer updates old new → NothingFailed old new
    → HasShrunk around old.file → (answer ≡ status.Stopped) ⊎ (answer ≡ status.Memory)
stopped_where_a_file_shrank law state commands around answer updates old new have (inl out) fine has = inr out.0.status
stopped_where_a_file_shrank law state commands around answer updates old new have (inr runs) fine has =
    stopped_or answer (λ ne. stopped_by_all law state commands around answer updates old new have has fine ne runs)

pub ok_where_no_check_is_broken : HasOneAnswer → (commands : List Command) (around : Around) (answer : Status) (updates : List Ended) (old new : RunState) (plan : List Dataset) → AreValidates commands → RanWell (Some commands) around answer updates old new
    → HasPlan around.text plan → answer ≡ status.Ok
ok_where_no_check_is_broken law commands around answer updates old new plan are well has =
    elim well.ran [ inl out ↦ absurd (well.memory out.0.status) | inr runs ↦ ok_of_validates law commands around answer updates old new plan are has well.fine well.memory runs ]
