-- Two files have one state, or are foreign, refused or of one epoch, and only one of these.
use Rattle.std.proofs.Common.{◌≡◌, inl, inr, ℕ, ◌+◌, ◌^◌, ◌<◌, List, ◌∷◌, ◌++◌, length, refl, sym, ◌∙◌, ap, subst, arith}
use Rattle.disk_model.specs.declared.disk.Side.{Side}
use Rattle.disk_model.specs.declared.disk.Side.TheVariants.{Left, Right}
use Rattle.disk_model.specs.Disk.{TwoFiles, file}
use Rattle.commit_gate.specs.Log.{records}
use Rattle.commit_gate.proofs.UniqueLemmas.{one_epoch}
use Rattle.log_pair.specs.Load.{IsKeptOrBegun, MayBegin}
use Rattle.log_pair.specs.Pair.{HasPairBodies, HoldsIn, IsDamagedIn, IsForeign, IsNewest, IsSameEpoch, IsUnbegun, NeitherIsLive, Sight, Begins, Holds, Foreign, Damaged, Same}
use Rattle.log_pair.proofs.KeepLemmas.{keeps_bodies}
use Rattle.log_pair.proofs.UniqueLemmas.{newest_of, newest_lives, one_sight}
use Rattle.state_model.specs.Dataset.{State, empty_state}
use Rattle.pair_state.specs.Leads.{LeadsTo, IsReachable, IsUnfitIn}
use Rattle.pair_state.specs.PairState.{HasPairState, IsRefusedIn, IsRefusedPair, IsUnfitInPair, KeepsPairState}
use Rattle.pair_state.proofs.LeadsLemmas.{leads_once, none_unfit, first_unfit}

-- the parts of what is held
pub record SameLog (a b : Side) (epoch number : ℕ) (bodies others : List (List ℕ)) : Type 0 where
  pub side : a ≡ b
  pub epochs : epoch ≡ number
  pub contents : bodies ≡ others

held_parts : (a b : Side) (epoch number : ℕ) (bodies others : List (List ℕ)) → Holds a epoch bodies ≡ Holds b number others → SameLog a b epoch number bodies others
held_parts a b epoch number bodies others same = record { side = cc; epochs = cc; contents = cc }

damaged_parts : (a b : Side) (at place : ℕ) → Damaged a at ≡ Damaged b place → (a ≡ b) × (at ≡ place)
damaged_parts a b at place same = (cc, cc)

not_both : (a b : Side) (at epoch : ℕ) (bodies : List (List ℕ)) → Damaged a at ≡ Holds b epoch bodies → ⊥
not_both a b at epoch bodies same = cc

module _ (files : TwoFiles) where
  newest_not_same : (side : Side) (epoch number : ℕ) → IsNewest side epoch files → IsSameEpoch number files → ⊥
  newest_not_same Left epoch number newest same =
      omega (arith, newest.older number same.fits same.right, one_epoch epoch number files.left newest.fits same.fits newest.live same.left)
  newest_not_same Right epoch number newest same =
      omega (arith, newest.older number same.fits same.left, one_epoch epoch number files.right newest.fits same.fits newest.live same.right)

  foreign_dead : (side : Side) (len : ℕ) → IsForeign side len files → NeitherIsLive files
  foreign_dead Left len foreign = foreign.0
  foreign_dead Right len foreign = foreign.0

  begun_not_foreign : (side : Side) (len : ℕ) → IsUnbegun files → IsForeign side len files → ⊥
  begun_not_foreign Left len begun foreign = omega (arith, begun.left_short, foreign.1)
  begun_not_foreign Right len begun foreign = omega (arith, begun.right_short, foreign.2)

  bodies_not_foreign : (side : Side) (len : ℕ) (bodies : List (List ℕ)) → HasPairBodies bodies files → IsForeign side len files → ⊥
  bodies_not_foreign side len bodies (inl held) foreign = newest_lives files held.0 held.1 (newest_of files held.0 held.1 bodies held.2) (foreign_dead side len foreign)
  bodies_not_foreign side len bodies (inr begun) foreign = begun_not_foreign side len begun.0 foreign

  pub state_not_foreign : (side : Side) (len : ℕ) (state : State) → HasPairState files state → IsForeign side len files → ⊥
  state_not_foreign side len state has foreign = bodies_not_foreign side len has.bodies has.contents foreign

  bodies_not_same : (epoch : ℕ) (bodies : List (List ℕ)) → HasPairBodies bodies files → IsSameEpoch epoch files → ⊥
  bodies_not_same epoch bodies (inl held) same = newest_not_same held.0 held.1 epoch (newest_of files held.0 held.1 bodies held.2) same
  bodies_not_same epoch bodies (inr begun) same = begun.0.dead.0 epoch same.left

  pub state_not_same_epoch : (epoch : ℕ) (state : State) → HasPairState files state → IsSameEpoch epoch files → ⊥
  state_not_same_epoch epoch state has same = bodies_not_same epoch has.bodies has.contents same

  -- the log that is refused is live
  refused_newest : (side : Side) (at : ℕ) → IsRefusedIn side at files → (epoch : ℕ) × IsNewest side epoch files
  refused_newest side at (inl damaged) = (damaged.epoch, damaged.newest)
  refused_newest side at (inr unfit) = (unfit.epoch, newest_of files side unfit.epoch unfit.bodies unfit.holds)

  refused_lives : (side : Side) (at : ℕ) → IsRefusedIn side at files → NeitherIsLive files → ⊥
  refused_lives side at refused dead = let newest = refused_newest side at refused in newest_lives files side newest.0 newest.1 dead

  pub refused_not_foreign : (a b : Side) (at len : ℕ) → IsRefusedIn a at files → IsForeign b len files → ⊥
  refused_not_foreign a b at len refused foreign = refused_lives a at refused (foreign_dead b len foreign)

  pub refused_not_same_epoch : (side : Side) (at epoch : ℕ) → IsRefusedIn side at files → IsSameEpoch epoch files → ⊥
  refused_not_same_epoch side at epoch refused same = let newest = refused_newest side at refused in newest_not_same side newest.0 epoch newest.1 same

  pub refused_not_begun : (side : Side) (at : ℕ) → IsRefusedIn side at files → IsUnbegun files → ⊥
  refused_not_begun side at refused begun = refused_lives side at refused begun.dead

  -- no log is made in files that are refused
  pub refused_spared : (room : ℕ) → IsRefusedPair room files → MayBegin room files → ⊥
  refused_spared room (inl foreign) may = begun_not_foreign foreign.0 foreign.1 may.0 foreign.2
  refused_spared room (inr (inl same)) may = may.0.dead.0 same.0 same.1.left
  refused_spared room (inr (inr (inl refused))) may = refused_not_begun refused.0 refused.1 refused.2 may.0
  refused_spared room (inr (inr (inr full))) may = omega (arith, full.1, may.1)

  module _ (left_small : length files.left < 2 ^ 64) (right_small : length files.right < 2 ^ 64) where
    pub one_held : (a b : Side) (epoch number : ℕ) (bodies others : List (List ℕ)) → HoldsIn a epoch bodies files → HoldsIn b number others files → SameLog a b epoch number bodies others
    one_held a b epoch number bodies others one two = held_parts a b epoch number bodies others (one_sight files left_small right_small (Holds a epoch bodies) (Holds b number others) one two)

    pub one_list : (bodies others : List (List ℕ)) → HasPairBodies bodies files → HasPairBodies others files → bodies ≡ others
    one_list bodies others (inl one) (inl two) = (one_held one.0 two.0 one.1 two.1 bodies others one.2 two.2).contents
    one_list bodies others (inl one) (inr two) = absurd (newest_lives files one.0 one.1 (newest_of files one.0 one.1 bodies one.2) two.0.dead)
    one_list bodies others (inr one) (inl two) = absurd (newest_lives files two.0 two.1 (newest_of files two.0 two.1 others two.2) one.0.dead)
    one_list bodies others (inr one) (inr two) = one.1 ∙ sym two.1

    pub one_pair_state : (a b : State) → HasPairState files a → HasPairState files b → a ≡ b
    one_pair_state a b one two =
        leads_once empty_state one.bodies a b one.leads
        (subst (λ bodies. LeadsTo empty_state bodies b) (one_list two.bodies one.bodies two.contents one.contents) two.leads)

    pub state_not_refused : (side : Side) (at : ℕ) (state : State) → HasPairState files state → IsRefusedIn side at files → ⊥
    state_not_refused side at state has (inl damaged) = state_not_damaged has.bodies has.contents
      where
        state_not_damaged : (bodies : List (List ℕ)) → HasPairBodies bodies files → ⊥
        state_not_damaged bodies (inl held) = not_both side held.0 at held.1 bodies (one_sight files left_small right_small (Damaged side at) (Holds held.0 held.1 bodies) damaged held.2)
        state_not_damaged bodies (inr begun) = newest_lives files side damaged.epoch damaged.newest begun.0.dead
    state_not_refused side at state has (inr unfit) =
        let bad = unfit.unfit in
        let same : has.bodies ≡ bad.before ++ bad.body ∷ bad.behind = one_list has.bodies unfit.bodies has.contents (inl (side, unfit.epoch, unfit.holds)) ∙ bad.parts in
        none_unfit empty_state bad.before bad.behind bad.body bad.state state (subst (λ bodies. LeadsTo empty_state bodies state) same has.leads) bad.leads bad.unfit

    pub one_place : (a b : Side) (at place : ℕ) → IsRefusedIn a at files → IsRefusedIn b place files → (a ≡ b) × (at ≡ place)
    one_place a b at place (inl one) (inl two) = damaged_parts a b at place (one_sight files left_small right_small (Damaged a at) (Damaged b place) one two)
    one_place a b at place (inl one) (inr two) = absurd (not_both a b at two.epoch two.bodies (one_sight files left_small right_small (Damaged a at) (Holds b two.epoch two.bodies) one two.holds))
    one_place a b at place (inr one) (inl two) = absurd (not_both b a place one.epoch one.bodies (one_sight files left_small right_small (Damaged b place) (Holds a one.epoch one.bodies) two one.holds))
    one_place a b at place (inr one) (inr two) =
        let same = one_held a b one.epoch two.epoch one.bodies two.bodies one.holds two.holds in
        (same.side, unfit_once at place one.bodies two.bodies same.contents one.unfit two.unfit)
      where
        unfit_once : (first second : ℕ) (bodies others : List (List ℕ)) → bodies ≡ others → IsUnfitIn first bodies → IsUnfitIn second others → first ≡ second
        unfit_once first second bodies others is here there =
            let before : here.before ≡ there.before = first_unfit empty_state here.before there.before here.body there.body here.behind there.behind here.state there.state (sym here.parts ∙ is ∙ there.parts) here.leads there.leads here.unfit there.unfit in
            here.place ∙ ap (λ (l : List (List ℕ)). 17 + length (records l)) before ∙ sym there.place

-- ---- what a load leaves

pub keeps_state : (was files : TwoFiles) → IsKeptOrBegun (Unit {0}) was files → KeepsPairState was files
keeps_state was files kept state has = record { bodies = has.bodies; contents = keeps_bodies was files has.bodies kept has.contents; leads = has.leads }

pub state_reached : (files : TwoFiles) (state : State) → HasPairState files state → IsReachable state
state_reached files state has = record { bodies = has.bodies; leads = has.leads }
