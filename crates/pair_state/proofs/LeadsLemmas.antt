-- What the bodies of a log lead to.
use Rattle.std.proofs.Common.{◌≡◌, ℕ, List, [], ◌∷◌, ◌++◌, refl, sym, ◌∙◌, ap, subst}
use Rattle.commit_payloads.specs.declared.payload.Payload.{Payload}
use Rattle.commit_payloads.specs.declared.payload.Payload.TheVariants as payload
use Rattle.commit_payloads.specs.Payloads.{spelled_payload, HasSpelling}
use Rattle.commit_payloads.proofs.PayloadLemmas.{one_payload}
use Rattle.state_keeps.specs.Stored.{IsStored}
use Rattle.state_keeps.proofs.StoreLemmas.{none_stored, follows_keep, folds_keep, may_begin}
use Rattle.state_model.specs.After.{after_payload}
use Rattle.state_model.specs.Dataset.{State, empty_state}
use Rattle.state_model.specs.Follows.{MayFollow}
use Rattle.state_model.specs.Saved.{compacted, saved}
use Rattle.state_model.proofs.StateLemmas.{saved-read_back}
use Rattle.pair_state.specs.Leads.{LeadsTo, IsReachable, IsUnfit}

-- one body more
pub leads_more : (from : State) (bodies : List (List ℕ)) (mid : State) (body : List ℕ) (commit : Payload) → LeadsTo from bodies mid → body ≡ spelled_payload commit → MayFollow mid commit → LeadsTo from (bodies ++ body ∷ []) (after_payload mid commit)
leads_more from [] mid body commit leads is follows = (commit, is, subst (λ state. MayFollow state commit) leads follows, ap (λ state. after_payload state commit) leads)
leads_more from (first ∷ bodies) mid body commit leads is follows = (leads.0, leads.1, leads.2, leads_more (after_payload from leads.0) bodies mid body commit leads.3 is follows)

-- the same payload is spelled so
same_payload : (from : State) (body : List ℕ) (one two : Payload) → body ≡ spelled_payload one → MayFollow from one → body ≡ spelled_payload two → MayFollow from two → one ≡ two
same_payload from body one two is follows also too = one_payload one two follows.spelled too.spelled (sym is ∙ also)

-- bodies lead to one state
pub leads_once : (from : State) (bodies : List (List ℕ)) (a b : State) → LeadsTo from bodies a → LeadsTo from bodies b → a ≡ b
leads_once from [] a b one two = one ∙ sym two
leads_once from (body ∷ bodies) a b one two =
    let same : two.0 ≡ one.0 = same_payload from body two.0 one.0 two.1 two.2 one.1 one.2 in
    leads_once (after_payload from one.0) bodies a b one.3 (subst (λ commit. LeadsTo (after_payload from commit) bodies b) same two.3)

-- the state between two parts of a list
record LeadsBy (from : State) (before behind : List (List ℕ)) (to : State) : Type 0 where
  mid : State
  first : LeadsTo from before mid
  then_on : LeadsTo mid behind to

leads_split : (from : State) (before behind : List (List ℕ)) (to : State) → LeadsTo from (before ++ behind) to → LeadsBy from before behind to
leads_split from [] behind to leads = record { mid = from; first = refl; then_on = leads }
leads_split from (body ∷ before) behind to leads =
    let rest = leads_split (after_payload from leads.0) before behind to leads.3 in
    record { mid = rest.mid; first = (leads.0, leads.1, leads.2, rest.first); then_on = rest.then_on }

-- a list that leads on has no unfit body
pub none_unfit : (from : State) (before behind : List (List ℕ)) (body : List ℕ) (mid to : State) → LeadsTo from (before ++ body ∷ behind) to → LeadsTo from before mid → IsUnfit mid body → ⊥
none_unfit from before behind body mid to leads first unfit =
    let parts = leads_split from before (body ∷ behind) to leads in
    let same : parts.mid ≡ mid = leads_once from before parts.mid mid parts.first first in
    unfit parts.then_on.0 parts.then_on.1 (subst (λ state. MayFollow state parts.then_on.0) same parts.then_on.2)

-- the first unfit body stands at one place
pub first_unfit : (from : State) (before also : List (List ℕ)) (body other : List ℕ) (behind more : List (List ℕ)) (a b : State)
    → before ++ body ∷ behind ≡ also ++ other ∷ more → LeadsTo from before a → LeadsTo from also b → IsUnfit a body → IsUnfit b other → before ≡ also
first_unfit from [] [] body other behind more a b same one two unfit bad = refl
first_unfit from [] (first ∷ also) body other behind more a b same one two unfit bad =
    let head : first ≡ body = cc in
    absurd (unfit two.0 (sym head ∙ two.1) (subst (λ state. MayFollow state two.0) (sym one) two.2))
first_unfit from (first ∷ before) [] body other behind more a b same one two unfit bad =
    let head : first ≡ other = cc in
    absurd (bad one.0 (sym head ∙ one.1) (subst (λ state. MayFollow state one.0) (sym two) one.2))
first_unfit from (first ∷ before) (second ∷ also) body other behind more a b same one two unfit bad =
    let head : second ≡ first = cc in
    let tail : before ++ body ∷ behind ≡ also ++ other ∷ more = cc in
    let commit : two.0 ≡ one.0 = same_payload from first two.0 one.0 (sym head ∙ two.1) two.2 one.1 one.2 in
    let rest : before ≡ also = first_unfit (after_payload from one.0) before also body other behind more a b tail one.3 (subst (λ p. LeadsTo (after_payload from p) also b) commit two.3) unfit bad in
    λ i. sym head i ∷ rest i

-- ---- what is reached is a store

leads_stored : (from : State) (bodies : List (List ℕ)) (to : State) → IsStored from → LeadsTo from bodies to → IsStored to
leads_stored from [] to stored leads = subst IsStored (sym leads) stored
leads_stored from (body ∷ bodies) to stored leads = leads_stored (after_payload from leads.0) bodies to (follows_keep from leads.0 stored leads.2) leads.3

pub reached_stored : (state : State) → IsReachable state → IsStored state
reached_stored state reached = leads_stored empty_state reached.bodies state none_stored reached.leads

-- one payload more
pub next_reached : (old new : State) (commit : Payload) → MayFollow old commit → new ≡ after_payload old commit → IsReachable old → IsReachable new
next_reached old new commit follows taken was =
    let bodies = was.bodies ++ spelled_payload commit ∷ [] in
    record {
      bodies = bodies;
      leads = subst (LeadsTo empty_state bodies) (sym taken) (leads_more empty_state was.bodies old (spelled_payload commit) commit was.leads refl follows);
    }

-- the base of what a store folds to follows no datasets
pub base_follows : (state : State) → IsReachable state → HasSpelling (payload.Base (saved (compacted state))) → MayFollow empty_state (payload.Base (saved (compacted state)))
base_follows state reached spelled = record { spelled = spelled; fits = may_begin (compacted state) (folds_keep state (reached_stored state reached)); versions = tt }

-- alone in a log it leads to that state
pub folded_leads : (state : State) → IsReachable state → HasSpelling (payload.Base (saved (compacted state)))
    → LeadsTo empty_state (spelled_payload (payload.Base (saved (compacted state))) ∷ []) (compacted state)
folded_leads state reached spelled = (payload.Base (saved (compacted state)), refl, base_follows state reached spelled, sym (saved-read_back (compacted state)))
