-- A file has one state, or is foreign or refused, and only one of these.
use Rattle.std.proofs.Common.{◌≡◌, inl, inr, ℕ, ◌^◌, ◌<◌, List, [], ◌∷◌, ◌++◌, length, refl, sym, ◌∙◌, ap, subst, arith}
use Rattle.commit_gate.specs.Log.{records, HasBodies, IsDead}
use Rattle.commit_gate.proofs.UniqueLemmas.{bodies_live, one_bodies, one_damage, undamaged}
use Rattle.commit_gate.proofs.LoadLemmas.{log_length}
use Rattle.commit_records.specs.declared.payload.Payload.{Payload}
use Rattle.commit_records.specs.Payloads.{spelled_payload}
use Rattle.commit_records.proofs.PayloadLemmas.{one_payload}
use Rattle.store_state.specs.State.{State, empty_state, after_payload, MayFollow}
use Rattle.store_core.specs.Bodies.{IsUnfitIn}
use Rattle.store_core.specs.State.{LeadsTo, IsUnfit, IsLogOf, IsBegun, HasState, IsForeign, IsUnfitAt, IsRefusedAt, KeepsState}

-- one body more
pub leads_more : (from : State) (bodies : List (List ℕ)) (mid : State) (body : List ℕ) (payload : Payload) → LeadsTo from bodies mid → body ≡ spelled_payload payload → MayFollow mid payload → LeadsTo from (bodies ++ body ∷ []) (after_payload mid payload)
leads_more from [] mid body payload leads is follows = (payload, is, subst (λ state. MayFollow state payload) leads follows, ap (λ state. after_payload state payload) leads)
leads_more from (first ∷ bodies) mid body payload leads is follows = (leads.0, leads.1, leads.2, leads_more (after_payload from leads.0) bodies mid body payload leads.3 is follows)

-- the same payload is spelled so
same_payload : (from : State) (body : List ℕ) (one two : Payload) → body ≡ spelled_payload one → MayFollow from one → body ≡ spelled_payload two → MayFollow from two → one ≡ two
same_payload from body one two is follows also too = one_payload one two follows.spelled too.spelled (sym is ∙ also)

-- bodies lead to one state
pub leads_once : (from : State) (bodies : List (List ℕ)) (a b : State) → LeadsTo from bodies a → LeadsTo from bodies b → a ≡ b
leads_once from [] a b one two = one ∙ sym two
leads_once from (body ∷ bodies) a b one two =
    let same : two.0 ≡ one.0 = same_payload from body two.0 one.0 two.1 two.2 one.1 one.2 in
    leads_once (after_payload from one.0) bodies a b one.3 (subst (λ payload. LeadsTo (after_payload from payload) bodies b) same two.3)

-- the state between two parts of a list
pub record LeadsBy (from : State) (before behind : List (List ℕ)) (to : State) : Type 0 where
  pub mid : State
  pub first : LeadsTo from before mid
  pub then_on : LeadsTo mid behind to

pub leads_split : (from : State) (before behind : List (List ℕ)) (to : State) → LeadsTo from (before ++ behind) to → LeadsBy from before behind to
leads_split from [] behind to leads = record { mid = from; first = refl; then_on = leads }
leads_split from (body ∷ before) behind to leads =
    let rest = leads_split (after_payload from leads.0) before behind to leads.3 in
    record { mid = rest.mid; first = (leads.0, leads.1, leads.2, rest.first); then_on = rest.then_on }

-- a list that leads on has no unfit body
pub none_unfit : (from : State) (before behind : List (List ℕ)) (body : List ℕ) (mid to : State) → LeadsTo from (before ++ body ∷ behind) to → LeadsTo from before mid → IsUnfit mid body → ⊥
none_unfit from before behind body mid to leads first unfit =
    let parts = leads_split from before (body ∷ behind) to leads in
    let same : parts.mid ≡ mid = leads_once from before parts.mid mid parts.first first in
    unfit parts.then_on.0 parts.then_on.1 (subst (λ state. MayFollow state parts.then_on.0) same parts.then_on.2)

-- the first unfit body stands at one place
pub first_unfit : (from : State) (before also : List (List ℕ)) (body other : List ℕ) (behind more : List (List ℕ)) (a b : State)
    → before ++ body ∷ behind ≡ also ++ other ∷ more → LeadsTo from before a → LeadsTo from also b → IsUnfit a body → IsUnfit b other → before ≡ also
first_unfit from [] [] body other behind more a b same one two unfit bad = refl
first_unfit from [] (first ∷ also) body other behind more a b same one two unfit bad =
    let head : first ≡ body = cc in
    absurd (unfit two.0 (sym head ∙ two.1) (subst (λ state. MayFollow state two.0) (sym one) two.2))
first_unfit from (first ∷ before) [] body other behind more a b same one two unfit bad =
    let head : first ≡ other = cc in
    absurd (bad one.0 (sym head ∙ one.1) (subst (λ state. MayFollow state one.0) (sym two) one.2))
first_unfit from (first ∷ before) (second ∷ also) body other behind more a b same one two unfit bad =
    let head : second ≡ first = cc in
    let tail : before ++ body ∷ behind ≡ also ++ other ∷ more = cc in
    let payload : two.0 ≡ one.0 = same_payload from first two.0 one.0 (sym head ∙ two.1) two.2 one.1 one.2 in
    let rest : before ≡ also = first_unfit (after_payload from one.0) before also body other behind more a b tail one.3 (subst (λ p. LeadsTo (after_payload from p) also b) payload two.3) unfit bad in
    λ i. sym head i ∷ rest i

-- a log is alive
pub log_lives : (state : State) (bytes : List ℕ) → IsLogOf state bytes → IsDead bytes → ⊥
log_lives state bytes log dead = dead log.epoch (bodies_live log.epoch log.bodies bytes log.contents)

-- a file has one state
pub one_state : (bytes : List ℕ) (a b : State) → length bytes < 2 ^ 64 → HasState bytes a → HasState bytes b → a ≡ b
one_state bytes a b small (inl one) (inl two) =
    leads_once empty_state one.bodies a b one.leads
    (subst (λ bodies. LeadsTo empty_state bodies b) (one_bodies one.epoch two.epoch one.bodies two.bodies bytes small one.contents two.contents) two.leads)
one_state bytes a b small (inl one) (inr two) = absurd (log_lives a bytes one two.0.0)
one_state bytes a b small (inr one) (inl two) = absurd (log_lives b bytes two one.0.0)
one_state bytes a b small (inr one) (inr two) = one.1 ∙ sym two.1

-- one with a state is not foreign
pub not_foreign : (len : ℕ) (bytes : List ℕ) (state : State) → HasState bytes state → IsForeign len bytes → ⊥
not_foreign len bytes state (inl log) foreign = log_lives state bytes log foreign.0
not_foreign len bytes state (inr begun) foreign = absurd (omega (arith, begun.0.1, foreign.1))

refused_lives : (at : ℕ) (bytes : List ℕ) → IsRefusedAt at bytes → IsDead bytes → ⊥
refused_lives at bytes (inl damaged) dead = dead damaged.epoch damaged.live
refused_lives at bytes (inr unfit) dead = dead unfit.epoch (bodies_live unfit.epoch (unfit.before ++ unfit.body ∷ unfit.behind) bytes unfit.contents)

-- nor refused
pub not_refused : (at : ℕ) (bytes : List ℕ) (state : State) → length bytes < 2 ^ 64 → HasState bytes state → IsRefusedAt at bytes → ⊥
not_refused at bytes state small (inl log) (inl damaged) = undamaged log.epoch at log.bodies bytes small log.contents damaged
not_refused at bytes state small (inl log) (inr unfit) =
    let parts = unfit.before ++ unfit.body ∷ unfit.behind in
    let same : log.bodies ≡ parts = one_bodies unfit.epoch log.epoch parts log.bodies bytes small unfit.contents log.contents in
    none_unfit empty_state unfit.before unfit.behind unfit.body unfit.state state (subst (λ bodies. LeadsTo empty_state bodies state) same log.leads) unfit.leads unfit.unfit
not_refused at bytes state small (inr begun) refused = refused_lives at bytes refused begun.0.0

-- what is refused is neither foreign nor the beginning of a log
pub refused_not_dead : (at : ℕ) (bytes : List ℕ) → IsRefusedAt at bytes → IsDead bytes → ⊥
refused_not_dead = refused_lives

-- it is refused at one place
pub one_place : (at place : ℕ) (bytes : List ℕ) → length bytes < 2 ^ 64 → IsRefusedAt at bytes → IsRefusedAt place bytes → at ≡ place
one_place at place bytes small (inl one) (inl two) = one_damage at place bytes small one two
one_place at place bytes small (inl one) (inr two) = absurd (undamaged two.epoch at (two.before ++ two.body ∷ two.behind) bytes small two.contents one)
one_place at place bytes small (inr one) (inl two) = absurd (undamaged one.epoch place (one.before ++ one.body ∷ one.behind) bytes small one.contents two)
one_place at place bytes small (inr one) (inr two) =
    let first = one.before ++ one.body ∷ one.behind in
    let second = two.before ++ two.body ∷ two.behind in
    let same : first ≡ second = one_bodies two.epoch one.epoch second first bytes small two.contents one.contents in
    let before : one.before ≡ two.before = first_unfit empty_state one.before two.before one.body two.body one.behind two.behind one.state two.state same one.leads two.leads one.unfit two.unfit in
    omega (arith, one.place, two.place, log_length one.epoch one.before, log_length two.epoch two.before, ap (λ (l : List (List ℕ)). length (records l)) before)

-- an unfit body of a log, in its file
pub unfit_at : (at epoch : ℕ) (bodies : List (List ℕ)) (bytes : List ℕ) → HasBodies epoch bodies bytes → IsUnfitIn at bodies → IsUnfitAt at bytes
unfit_at at epoch bodies bytes has unfit = record {
  epoch = epoch;
  before = unfit.before;
  body = unfit.body;
  behind = unfit.behind;
  state = unfit.state;
  contents = subst (λ list. HasBodies epoch list bytes) unfit.parts has;
  leads = unfit.leads;
  place = unfit.place ∙ sym (log_length epoch unfit.before);
  unfit = unfit.unfit;
}

-- ---- a new log

pub begun_state : (bytes : List ℕ) → IsBegun bytes → HasState bytes empty_state
begun_state bytes begun = inr (begun, refl)

pub new_state : (epoch : ℕ) (bytes : List ℕ) → HasBodies epoch [] bytes → HasState bytes empty_state
new_state epoch bytes has = inl (record { epoch = epoch; bodies = []; contents = has; leads = refl })

-- the beginning of a log has no other state than the empty one
pub keeps_empty : (was bytes : List ℕ) → IsBegun was → HasState bytes empty_state → KeepsState was bytes
keeps_empty was bytes begun has state (inl log) = absurd (log_lives state was log begun.0)
keeps_empty was bytes begun has state (inr is) = subst (HasState bytes) (sym is.1) has

pub keeps_same : (was bytes : List ℕ) → bytes ≡ was → KeepsState was bytes
keeps_same was bytes same state has = subst (λ list. HasState list state) (sym same) has
