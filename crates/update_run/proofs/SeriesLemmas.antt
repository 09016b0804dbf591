-- Flows in order: how far they have run, and one more.
use Rattle.std.proofs.Common.{◌≡◌, ℕ, ◌+◌, ◌<◌, ◌≤◌, List, [], ◌∷◌, ◌++◌, length, drop, get_or, Bool, true, false, ◌||◌, Option, Some, None, Ok, Err, refl, sym, ◌∙◌, ap, subst, append_assoc}
use Rattle.std.proofs.lemmas.List.{append-nil, drop_all, drop_more}
use Rattle.disk_model.specs.Disk.{DiskState}
use Rattle.commit_payloads.specs.declared.payload.Payload.{Payload}
use Rattle.plan_core.specs.declared.plan.Dataset.{Dataset as Part}
use Rattle.state_model.specs.After.{state_from}
use Rattle.state_model.specs.Dataset.{State}
use Rattle.commit_trails.specs.Trails.{Trail}
use Rattle.flow_engine.specs.declared.ends.End.{End}
use Rattle.flow_engine.specs.declared.engine.Engine.{Engine}
use Rattle.flow_engine.specs.declared.flow_id.FlowId.{FlowId}
use Rattle.flow_engine.specs.Engine.{LandingNow}
use Rattle.flow_engine.specs.Points.{Point, point_of}
use Rattle.update_run.specs.Runs.{AreSteps, HasCutNext, HasRunNext, HaveRun}
use Rattle.update_run.specs.Updates.{Broke, Cut, Ended, FlowsRun, Untold, acked_of, answer_of, any_stop, cut_acked, cut_tried, front_of_line, is_stop, line_of, lines_of, tried_of}
use Rattle.update_run.proofs.StepLemmas.{KeepsStanding, no_steps, state_after_both, steps_both}

-- ---- lists of flows that ended

-- the payloads of flows that ended
abbrev pub payloads_of : List Ended → List Payload
payloads_of [] = []
payloads_of (ended ∷ more) = ended.payloads ++ payloads_of more

acked-both : (one more : List Ended) (cut : Option Cut) → acked_of (one ++ more) cut ≡ payloads_of one ++ acked_of more cut
acked-both [] more cut = refl
acked-both (ended ∷ one) more cut = ap (λ (list : List Payload). ended.payloads ++ list) (acked-both one more cut) ∙ sym (append_assoc ended.payloads (payloads_of one) (acked_of more cut))

tried-both : (one more : List Ended) (cut : Option Cut) → tried_of (one ++ more) cut ≡ payloads_of one ++ tried_of more cut
tried-both [] more cut = refl
tried-both (ended ∷ one) more cut = ap (λ (list : List Payload). ended.payloads ++ list) (tried-both one more cut) ∙ sym (append_assoc ended.payloads (payloads_of one) (tried_of more cut))

payloads-both : (one more : List Ended) → payloads_of (one ++ more) ≡ payloads_of one ++ payloads_of more
payloads-both [] more = refl
payloads-both (ended ∷ one) more = ap (λ (list : List Payload). ended.payloads ++ list) (payloads-both one more) ∙ sym (append_assoc ended.payloads (payloads_of one) (payloads_of more))

stop-by : (a b c : Bool) → (a || (b || c)) ≡ ((a || b) || c)
stop-by true b c = refl
stop-by false b c = refl

stop-both : (one more : List Ended) → any_stop (one ++ more) ≡ (any_stop one || any_stop more)
stop-both [] more = refl
stop-both (ended ∷ one) more = ap (λ (any : Bool). is_stop ended.end || any) (stop-both one more) ∙ stop-by (is_stop ended.end) (any_stop one) (any_stop more)

no-more : (a : Bool) → (a || false) ≡ a
no-more true = refl
no-more false = refl

stop-one : (one : List Ended) (ended : Ended) → any_stop (one ++ ended ∷ []) ≡ (any_stop one || is_stop ended.end)
stop-one one ended = stop-both one (ended ∷ []) ∙ ap (λ (any : Bool). any_stop one || any) (no-more (is_stop ended.end))

-- ---- how far they have run

-- The flows before this place have run from `start` to `here`, and their lines were written.
pub record GoesOn (timed told : Type 0) (landed : LandingNow) (was now : ℕ) (plan : List Part) (room : ℕ) (flows : List FlowId) (place : ℕ) (start here : Point) (any : Bool) (old new : DiskState) (before after : List ℕ) : Type 0 where
  pub ended : List Ended
  pub printed : List ℕ
  pub continues : (more : List Ended) (cut : Option Cut) → FlowsRun landed.tells landed.present landed.listings was now plan room (drop place flows) here more cut
      → FlowsRun landed.tells landed.present landed.listings was now plan room flows start (ended ++ more) cut
  pub any_is : any ≡ any_stop ended
  pub trail : Trail timed start.state (payloads_of ended) (payloads_of ended) old new
  pub state_is : here.state ≡ state_from start.state (payloads_of ended)
  pub written : told → after ≡ before ++ printed
  pub lines_go_on : (more : List Ended) (cut : Option Cut) (bytes : ℕ) → lines_of plan flows (ended ++ more) cut bytes ≡ printed ++ lines_of plan (drop place flows) more cut bytes
  pub steps : AreSteps landed plan start.state (payloads_of ended)

module _ (keeps : KeepsStanding) (timed told : Type 0) (landed : LandingNow) (was now : ℕ) (plan : List Part) (room : ℕ) (flows : List FlowId) (start : Point) (old : DiskState) (before : List ℕ) where
  pub begins : Trail timed start.state [] [] old old → GoesOn timed told landed was now plan room flows 0 start start false old old before before
  begins trail = record {
    ended = [];
    printed = [];
    continues = λ more cut run. run;
    any_is = refl;
    trail = trail;
    state_is = refl;
    written = λ t. sym (append-nil before);
    lines_go_on = λ more cut bytes. refl;
    steps = no_steps landed plan start.state;
  }

  module _ (place : ℕ) (flow : FlowId) (within : place < length flows) (is : flow ≡ get_or flows place flow) (here : Point) (any : Bool) (mid new : DiskState) (at after : List ℕ)
      (joins : (first acked tried : List Payload) → Trail timed start.state first first old mid → Trail timed (state_from start.state first) acked tried mid new → Trail timed start.state (first ++ acked) (first ++ tried) old new)
      (so_far : GoesOn timed told landed was now plan room flows place start here any old mid before at) where
    rest : drop place flows ≡ flow ∷ drop (place + 1) flows
    rest = drop_more flows place flow within ∙ ap (λ (first : FlowId). first ∷ drop (place + 1) flows) (sym is)

    joined : (acked tried : List Payload) → Trail timed here.state acked tried mid new → Trail timed start.state (payloads_of so_far.ended ++ acked) (payloads_of so_far.ended ++ tried) old new
    joined acked tried trail = joins (payloads_of so_far.ended) acked tried so_far.trail (subst (λ (state : State). Trail timed state acked tried mid new) so_far.state_is trail)

    stepped : (payloads : List Payload) → AreSteps landed plan here.state payloads → AreSteps landed plan start.state (payloads_of so_far.ended ++ payloads)
    stepped payloads steps = steps_both keeps landed plan start.state (payloads_of so_far.ended) payloads so_far.steps (subst (λ (state : State). AreSteps landed plan state payloads) so_far.state_is steps)

    -- one more
    pub goes_on : (stopped : Bool) (engine : Engine) → HasRunNext timed told landed was now plan room flow here stopped engine mid new at after
        → GoesOn timed told landed was now plan room flows (place + 1) start (point_of engine) (any || stopped) old new before after
    goes_on stopped engine next = record {
      ended = so_far.ended ++ next.ended ∷ [];
      printed = so_far.printed ++ line_of plan flow next.ended.end;
      continues = λ more cut run.
          subst (λ (all : List Ended). FlowsRun landed.tells landed.present landed.listings was now plan room flows start all cut) (sym (append_assoc so_far.ended (next.ended ∷ []) more))
          (so_far.continues (next.ended ∷ more) cut
          (subst (λ (left : List FlowId). FlowsRun landed.tells landed.present landed.listings was now plan room left here (next.ended ∷ more) cut) (sym rest)
          (next.ends, subst (λ (point : Point). FlowsRun landed.tells landed.present landed.listings was now plan room (drop (place + 1) flows) point more cut) next.behind run)));
      any_is = ap (λ (one : Bool). one || stopped) so_far.any_is ∙ ap (λ (one : Bool). any_stop so_far.ended || one) next.stopped_is ∙ sym (stop-one so_far.ended next.ended);
      trail = subst (λ (list : List Payload). Trail timed start.state list list old new) (sym own) (joined next.ended.payloads next.ended.payloads next.trail);
      state_is = ap (λ (point : Point). point.state) next.behind ∙ ap (λ (state : State). state_from state next.ended.payloads) so_far.state_is
          ∙ sym (state_after_both start.state (payloads_of so_far.ended) next.ended.payloads) ∙ ap (state_from start.state) (sym own);
      written = λ t. next.line t ∙ ap (λ (list : List ℕ). list ++ line_of plan flow next.ended.end) (so_far.written t) ∙ append_assoc before so_far.printed (line_of plan flow next.ended.end);
      lines_go_on = λ more cut bytes.
          ap (λ (all : List Ended). lines_of plan flows all cut bytes) (append_assoc so_far.ended (next.ended ∷ []) more)
          ∙ so_far.lines_go_on (next.ended ∷ more) cut bytes
          ∙ ap (λ (left : List FlowId). so_far.printed ++ lines_of plan left (next.ended ∷ more) cut bytes) rest
          ∙ sym (append_assoc so_far.printed (line_of plan flow next.ended.end) (lines_of plan (drop (place + 1) flows) more cut bytes));
      steps = subst (λ (list : List Payload). AreSteps landed plan start.state list) (sym own) (stepped next.ended.payloads next.steps);
    } where
      own : payloads_of (so_far.ended ++ next.ended ∷ []) ≡ payloads_of so_far.ended ++ next.ended.payloads
      own = payloads-both so_far.ended (next.ended ∷ []) ∙ ap (λ (list : List Payload). payloads_of so_far.ended ++ list) (append-nil next.ended.payloads)

    -- the last, which was cut short
    pub cut_short : (why : End) → HasCutNext timed told landed was now plan room flow here why mid new at after → HaveRun timed told landed was now plan room flows start (Err why) old new before after
    cut_short why next = record {
      ended = so_far.ended;
      cut = Some next.cut;
      run = subst (λ (all : List Ended). FlowsRun landed.tells landed.present landed.listings was now plan room flows start all (Some next.cut)) (append-nil so_far.ended)
          (so_far.continues [] (Some next.cut) (subst (λ (left : List FlowId). FlowsRun landed.tells landed.present landed.listings was now plan room left here [] (Some next.cut)) (sym rest) next.is));
      answer_is = sym next.why_is ∙ same-answer next.cut so_far.ended;
      trail = subst (λ (acked : List Payload). Trail timed start.state acked (tried_of so_far.ended (Some next.cut)) old new) (sym its-acked)
          (subst (λ (tried : List Payload). Trail timed start.state (payloads_of so_far.ended ++ cut_acked (Some next.cut)) tried old new) (sym its-tried)
          (joined (cut_acked (Some next.cut)) (cut_tried (Some next.cut)) next.trail));
      lines = λ t.
          let front = next.front t in (
            front.0,
            front.1 ∙ ap (λ (list : List ℕ). list ++ front_of_line plan flow (Some next.cut) front.0) (so_far.written t) ∙ append_assoc before so_far.printed (front_of_line plan flow (Some next.cut) front.0)
                ∙ ap (λ (list : List ℕ). before ++ list) (sym (ap (λ (all : List Ended). lines_of plan flows all (Some next.cut) front.0) (sym (append-nil so_far.ended))
                ∙ so_far.lines_go_on [] (Some next.cut) front.0 ∙ ap (λ (left : List FlowId). so_far.printed ++ lines_of plan left [] (Some next.cut) front.0) rest)),
          );
      steps = subst (λ (tried : List Payload). AreSteps landed plan start.state tried) (sym its-tried) (stepped (cut_tried (Some next.cut)) next.steps);
    } where
      same-answer : (cut : Cut) (ended : List Ended) → answer_of [] (Some cut) ≡ answer_of ended (Some cut)
      same-answer (Broke why tried) ended = refl
      same-answer (Untold one why) ended = refl

      its-acked : acked_of so_far.ended (Some next.cut) ≡ payloads_of so_far.ended ++ cut_acked (Some next.cut)
      its-acked = ap (λ (all : List Ended). acked_of all (Some next.cut)) (sym (append-nil so_far.ended)) ∙ acked-both so_far.ended [] (Some next.cut)

      its-tried : tried_of so_far.ended (Some next.cut) ≡ payloads_of so_far.ended ++ cut_tried (Some next.cut)
      its-tried = ap (λ (all : List Ended). tried_of all (Some next.cut)) (sym (append-nil so_far.ended)) ∙ tried-both so_far.ended [] (Some next.cut)

  -- all of them
  pub all_ran : (place : ℕ) (here : Point) (any : Bool) (new : DiskState) (after : List ℕ) → length flows ≤ place → GoesOn timed told landed was now plan room flows place start here any old new before after
      → HaveRun timed told landed was now plan room flows start (Ok any) old new before after
  all_ran place here any new after past so_far = record {
    ended = so_far.ended;
    cut = None;
    run = subst (λ (all : List Ended). FlowsRun landed.tells landed.present landed.listings was now plan room flows start all None) (append-nil so_far.ended)
        (so_far.continues [] None (subst (λ (left : List FlowId). FlowsRun landed.tells landed.present landed.listings was now plan room left here [] None) (sym none) tt));
    answer_is = ap (λ (stopped : Bool). Ok stopped) so_far.any_is;
    trail = subst (λ (acked : List Payload). Trail timed start.state acked (tried_of so_far.ended None) old new) (sym its-acked)
        (subst (λ (tried : List Payload). Trail timed start.state (payloads_of so_far.ended) tried old new) (sym its-tried) so_far.trail);
    lines = λ t. (0, so_far.written t ∙ ap (λ (list : List ℕ). before ++ list) (sym its-lines));
    steps = subst (λ (tried : List Payload). AreSteps landed plan start.state tried) (sym its-tried) so_far.steps;
  } where
    none : drop place flows ≡ []
    none = drop_all place flows past

    its-acked : acked_of so_far.ended None ≡ payloads_of so_far.ended
    its-acked = ap (λ (all : List Ended). acked_of all None) (sym (append-nil so_far.ended)) ∙ acked-both so_far.ended [] None ∙ append-nil (payloads_of so_far.ended)

    its-tried : tried_of so_far.ended None ≡ payloads_of so_far.ended
    its-tried = ap (λ (all : List Ended). tried_of all None) (sym (append-nil so_far.ended)) ∙ tried-both so_far.ended [] None ∙ append-nil (payloads_of so_far.ended)

    its-lines : lines_of plan flows so_far.ended None 0 ≡ so_far.printed
    its-lines = ap (λ (all : List Ended). lines_of plan flows all None 0) (sym (append-nil so_far.ended)) ∙ so_far.lines_go_on [] None 0
        ∙ ap (λ (left : List FlowId). so_far.printed ++ lines_of plan left [] None 0) none ∙ append-nil so_far.printed
