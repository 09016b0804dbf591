-- Stints, one behind the other.
use Rattle.std.proofs.Common.{◌≡◌, inl, inr, ⊎_elim, ℕ, ◌+◌, ◌<◌, ◌≤◌, ◌^◌, List, [], ◌++◌, length, Option, Some, None, refl, sym, ap, subst, arith}
use Rattle.disk_model.specs.Disk.{TwoFiles, DiskState, IsHonest, left_at}
use Rattle.disk_model.specs.Moments.{LeavesOnly}
use Rattle.commit_payloads.specs.declared.payload.Payload.{Payload}
use Rattle.state_model.specs.After.{state_from}
use Rattle.state_model.specs.Dataset.{State}
use Rattle.pair_state.specs.Ours.{IsOursPair}
use Rattle.pair_state.specs.PairState.{HasPairState}
use Rattle.pair_state.proofs.PairStateLemmas.{one_pair_state}
use Rattle.commit_trails.specs.Stints.{Stint, StintTrail, TrailOf, joined, joined_from, over}
use Rattle.commit_trails.specs.Trails.{HasFrontOrOlder, HasStateOnDisk, LoadedTrail, Trail, UnloadedTrail}
use Rattle.commit_trails.proofs.LoadTrailLemmas.{further_trail, loaded_trail_on, refused_trail, unloaded_behind}

-- ---- what a loaded trail leaves

pub loaded_whole : (timed : Type 0) (state : State) (acked : List Payload) (old new : DiskState) → LoadedTrail timed state acked acked old new → HasStateOnDisk (state_from state acked) new
loaded_whole timed state acked old new loaded files left = ⊎_elim (λ has. has) (λ has. has) (loaded.settled files left)

pub next_state : (timed : Type 0) (state next : State) (acked : List Payload) (old new : DiskState) → LoadedTrail timed state acked acked old new → IsHonest new → length new.now.left < 2 ^ 64 → length new.now.right < 2 ^ 64 → HasPairState new.now next
    → next ≡ state_from state acked
next_state timed state next acked old new loaded honest left right has = one_pair_state new.now left right next (state_from state acked) has (loaded_whole timed state acked old new loaded new.now honest)

-- ---- behind a command that loaded no store and made no call

module _ (timed : Type 0) (state : State) (acked tried : List Payload) (old mid new : DiskState) (same : timed → mid.moment ≡ old.moment) (unloaded : UnloadedTrail timed old mid) where
  moment_behind : (k : ℕ) (was files : TwoFiles) → mid.may_leave was → HasFrontOrOlder state tried k was files → (first : TwoFiles) × old.may_leave first × HasFrontOrOlder state tried k first files
  moment_behind k was files left (inl front) = let from = unloaded.settled was left in (from.0, from.1, inl front)
  moment_behind k was files left (inr older) = let from = unloaded.settled was left in (from.0, from.1, inr (older.0, λ some has. older.1 some (from.2 some has)))

  each_behind : timed → LeavesOnly (HasFrontOrOlder state tried) mid new → LeavesOnly (HasFrontOrOlder state tried) old new
  each_behind told run = record {
    later = omega (arith, same told, run.later);
    past = λ k files le.
        let still : k ≤ mid.moment = omega (arith, same told) in
        (λ left. (run.past k files still).0 (((unloaded.each told).past k files le).0 left), λ left. ((unloaded.each told).past k files le).1 ((run.past k files still).1 left));
    each = λ k files le left.
        let within : mid.moment + k ≤ new.moment = omega (arith, same told) in
        let at : old.moment + k ≡ mid.moment + k = omega (arith, same told) in
        let from = run.each k files within (subst (λ n. left_at new n files) at left) in
        moment_behind k from.0 files from.1 from.2;
  }

  pub loaded_behind : LoadedTrail timed state acked tried mid new → LoadedTrail timed state acked tried old new
  loaded_behind loaded = record {
    front = loaded.front;
    settled = loaded.settled;
    each = λ told. each_behind told (loaded.each told);
    honesty = (λ honest. loaded.honesty.0 (unloaded.honesty.0 honest), λ honest. unloaded.honesty.1 (loaded.honesty.1 honest));
  }

-- ---- two stints

-- a loaded trail is that of equal states and payloads
same_loaded : (timed : Type 0) (state other : State) (acked tried one more : List Payload) (old new : DiskState) → state ≡ other → acked ≡ one → tried ≡ more → LoadedTrail timed state acked tried old new → LoadedTrail timed other one more old new
same_loaded timed state other acked tried one more old new states first second loaded =
    subst (λ s. LoadedTrail timed s one more old new) states (subst (λ l. LoadedTrail timed state l more old new) first (subst (λ l. LoadedTrail timed state acked l old new) second loaded))

same_trail : (timed : Type 0) (state : State) (acked tried one more : List Payload) (old new : DiskState) → acked ≡ one → tried ≡ more → Trail timed state acked tried old new → Trail timed state one more old new
same_trail timed state acked tried one more old new first second trail = subst (λ l. Trail timed state l more old new) first (subst (λ l. Trail timed state acked l old new) second trail)

module _ (timed : Type 0) (old mid new : DiskState) where
  -- what comes behind a loaded trail is a trail
  trail_behind : (state : State) (loaded : Option State) (second : Stint) → HasStateOnDisk state mid → ((next : State) → loaded ≡ Some next → next ≡ state) → TrailOf timed loaded second mid new
      → Trail timed state second.acked second.tried mid new
  trail_behind state None second held follows trail = same_trail timed state [] [] second.acked second.tried mid new (sym trail.0) (sym trail.1) (refused_trail timed state mid new held trail.2)
  trail_behind state (Some next) second held follows trail =
      further_trail timed state mid new held second.acked second.tried
      (same_loaded timed next state second.acked second.tried second.acked second.tried mid new (follows next refl) refl refl trail)

  behind_loaded : (state : State) (first second : Stint) → first.acked ≡ first.tried → ((next : State) → second.loaded ≡ Some next → next ≡ state_from state first.acked)
      → LoadedTrail timed state first.acked first.tried old mid → StintTrail timed second mid new → StintTrail timed (over state (first.acked ++ second.acked) (first.tried ++ second.tried)) old new
  behind_loaded state first second whole follows one trail =
      let acked = same_loaded timed state state first.acked first.tried first.acked first.acked old mid refl refl (sym whole) one in
      let more = trail_behind (state_from state first.acked) second.loaded second (loaded_whole timed state first.acked old mid acked) follows trail in
      let both = loaded_trail_on timed state first.acked second.acked second.tried old mid new acked more in
      same_loaded timed state state (first.acked ++ second.acked) (first.acked ++ second.tried) (first.acked ++ second.acked) (first.tried ++ second.tried) old new refl refl (ap (λ (l : List Payload). l ++ second.tried) whole) both

  behind_unloaded : (loaded : Option State) (second : Stint) → ((next : State) → timed → loaded ≡ Some next → mid.moment ≡ old.moment) → UnloadedTrail timed old mid → TrailOf timed loaded second mid new → TrailOf timed loaded second old new
  behind_unloaded None second still one trail = (trail.0, trail.1, unloaded_behind timed old mid new one trail.2)
  behind_unloaded (Some next) second still one trail = loaded_behind timed next second.acked second.tried old mid new (λ told. still next told refl) one trail

  joined_by : (loaded : Option State) (first second : Stint) → first.acked ≡ first.tried
      → ((one next : State) → loaded ≡ Some one → second.loaded ≡ Some next → next ≡ state_from one first.acked)
      → ((next : State) → timed → loaded ≡ None → second.loaded ≡ Some next → mid.moment ≡ old.moment)
      → TrailOf timed loaded first old mid → StintTrail timed second mid new → StintTrail timed (joined_from loaded first second) old new
  joined_by None first second whole follows still one trail = behind_unloaded second.loaded second (λ next told is. still next told refl is) one.2 trail
  joined_by (Some state) first second whole follows still one trail = behind_loaded state first second whole (λ next is. follows state next refl is) one trail

  pub stints_joined : (first second : Stint) → first.acked ≡ first.tried
      → ((one next : State) → first.loaded ≡ Some one → second.loaded ≡ Some next → next ≡ state_from one first.acked)
      → ((next : State) → timed → first.loaded ≡ None → second.loaded ≡ Some next → mid.moment ≡ old.moment)
      → StintTrail timed first old mid → StintTrail timed second mid new → StintTrail timed (joined first second) old new
  stints_joined first second whole follows still one trail = joined_by first.loaded first second whole follows still one trail

-- ---- each image has a state

module _ (timed : Type 0) (old new : DiskState) where
  unloaded_ours : UnloadedTrail timed old new → IsOursPair old → IsOursPair new
  unloaded_ours unloaded ours files left =
      let from = unloaded.settled files left in
      let has = ours from.0 from.1 in
      (has.0, from.2 has.0 has.1)

  loaded_ours : (state : State) (acked tried : List Payload) → LoadedTrail timed state acked tried old new → IsOursPair new
  loaded_ours state acked tried loaded files left = ⊎_elim (λ has. (state_from state acked, has)) (λ has. (state_from state tried, has)) (loaded.settled files left)

  ours_by : (loaded : Option State) (stint : Stint) → IsOursPair old → TrailOf timed loaded stint old new → IsOursPair new
  ours_by None stint ours trail = unloaded_ours trail.2 ours
  ours_by (Some state) stint ours trail = loaded_ours state stint.acked stint.tried trail

  pub stint_ours : (stint : Stint) → IsOursPair old → StintTrail timed stint old new → IsOursPair new
  stint_ours stint ours trail = ours_by stint.loaded stint ours trail
