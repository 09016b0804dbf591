-- What a load answers and leaves, from what its pair answered and left.
use Rattle.std.proofs.Common.{◌≡◌, inl, inr, ℕ, ◌<◌, ◌≤◌, ◌^◌, List, length, None, Ok, Err, IfOk, OnOk, OnErr, refl, sym, ◌∙◌, ap, subst, arith}
use Rattle.disk_model.specs.declared.disk.Side.{Side}
use Rattle.disk_model.specs.Disk.{TwoFiles, DiskState}
use Rattle.disk_model.specs.Faults.{Rose, HasCauseOf}
use Rattle.disk_model.specs.Moments.{LeavesOnly}
use Rattle.disk_model.proofs.RunLemmas.{weakens}
use Rattle.commit_gate.specs.AtRest.{log_epoch}
use Rattle.commit_gate.specs.Log.{records}
use Rattle.commit_gate.proofs.LoadLemmas.{log_length}
use Rattle.log_pair.specs.AtRest.{pair_side, pair_epoch, pair_end, IsPairAtRest}
use Rattle.log_pair.specs.Load.{Loaded, LoadAnswers, IsLoadedFrom, IsKeptOrBegun, IsKeptOrBegunSynced, MayBegin, PairLoads}
use Rattle.log_pair.specs.Pair.{HoldsIn, IsForeign, IsNewest, IsSameEpoch, IsUnbegun, Sight, Shows}
use Rattle.log_pair.specs.Pair as sight
use Rattle.log_pair.specs.declared.pair.Pair.{Pair}
use Rattle.log_pair.specs.declared.refusal.PairRefusal.{PairRefusal}
use Rattle.log_pair.specs.declared.refusal.PairRefusal.TheVariants as pairs
use Rattle.log_pair.proofs.UniqueLemmas.{newest_of, newest_lives, one_newest, one_sight}
use Rattle.state_model.specs.Dataset.{State, empty_state}
use Rattle.pair_state.specs.Leads.{LeadsTo, IsReachable}
use Rattle.pair_state.specs.Ours.{IsOursPair}
use Rattle.pair_state.specs.PairEnd.{PairEndsAt}
use Rattle.pair_state.specs.PairState.{HasPairState, IsRefusedIn, KeepsPairState}
use Rattle.pair_state.proofs.PairStateLemmas.{keeps_state, one_pair_state, state_not_foreign, state_not_same_epoch, state_not_refused, one_place, refused_not_foreign, refused_not_same_epoch, refused_not_begun}
use Rattle.pair_store.specs.Bodies.{BodiesComeTo}
use Rattle.pair_store.specs.Load.{LoadedStore, StoreLoadAnswers, RefusesStore, AcceptsState, StoreLoadIsExact, IsStoreOf, StoreComes, StoreLoads, KeepsPairStateSynced}
use Rattle.pair_store.specs.Refusals.{refusal_of_pair}
use Rattle.pair_store.specs.Store.{store_state, store_pair, store_broken, AreAsLeft}
use Rattle.pair_store.specs.declared.store.Store.{Store}
use Rattle.pair_store.specs.declared.refusal.StoreRefusal.{StoreRefusal}
use Rattle.pair_store.specs.declared.refusal.StoreRefusal.TheVariants.{Foreign, Damaged, SameEpoch, Full, Failed, Memory}
use Rattle.pair_store.proofs.BodiesLemmas.{not_nil}
use Rattle.pair_store.proofs.ImageLemmas.{left_state}

-- ---- the disk

any_kept : (may_be_there : Type 0) (was files : TwoFiles) → IsKeptOrBegun may_be_there was files → KeepsPairState was files
any_kept may_be_there was files (inl same) = keeps_state was files (inl same)
any_kept may_be_there was files (inr (begun, right, inl still)) = keeps_state was files (inr (begun, right, inl still))
any_kept may_be_there was files (inr (begun, right, inr log)) = keeps_state was files (inr (begun, right, inr (tt, log.1)))

pub store_loads : (old new : DiskState) → PairLoads old new → StoreLoads old new
store_loads old new loads = record {
  crash = λ files left. let from = loads.crash files left in (from.0, from.1, keeps_state from.0 files from.2);
  honesty = loads.honesty;
}

pub moments : (before : ℕ) (old new : DiskState) → LeavesOnly (λ calls. IsKeptOrBegun (before < calls)) old new → LeavesOnly (λ _. KeepsPairState) old new
moments before old new run = weakens (λ calls. IsKeptOrBegun (before < calls)) (λ _. KeepsPairState) old new run (λ k was files left kept. any_kept (before < k) was files kept)

pub moments_synced : (now : TwoFiles) (old new : DiskState) → LeavesOnly (IsKeptOrBegunSynced now) old new → LeavesOnly (KeepsPairStateSynced now) old new
moments_synced now old new run =
    weakens (IsKeptOrBegunSynced now) (KeepsPairStateSynced now) old new run (λ k was files left kept. (keeps_state was files kept.0, λ more. keeps_state now files (kept.1 more)))

-- a disk that was ours is ours
pub ours_after : (old new : DiskState) → PairLoads old new → IsOursPair old → IsOursPair new
ours_after old new loads ours files left =
    let from = loads.crash files left in
    let has = ours from.0 from.1 in
    (has.0, keeps_state from.0 files from.2 has.0 has.1)

-- ---- the answer of the pair, and that of the store

failed_pair : (refusal : PairRefusal) → refusal_of_pair refusal ≡ Failed → refusal ≡ pairs.Failed
failed_pair (pairs.Foreign side len) same = cc
failed_pair (pairs.Damaged side at) same = cc
failed_pair (pairs.SameEpoch epoch) same = cc
failed_pair (pairs.Full end room) same = cc
failed_pair pairs.Failed same = refl
failed_pair pairs.Memory same = cc

same_refusal : (one two : StoreRefusal) → ◌≡◌ {A = LoadedStore} (Err one) (Err two) → one ≡ two
same_refusal one two same = cc

same_pair_refusal : (one two : PairRefusal) → ◌≡◌ {A = Loaded} (Err one) (Err two) → one ≡ two
same_pair_refusal one two same = cc

pub not_failed : (loaded : Loaded) (result : LoadedStore) → StoreComes loaded result → (result ≡ Err Failed → ⊥) → loaded ≡ Err pairs.Failed → ⊥
not_failed (Ok it) result comes other same = cc
not_failed (Err refusal) result comes other same = other (comes ∙ ap (λ r. Err (refusal_of_pair r)) (same_pair_refusal refusal pairs.Failed same))

-- a fact on the store, from one on its pair
pub of_store : (P : Store → Type 0) (Q : Pair → List (List ℕ) → Type 0) (loaded : Loaded) (result : LoadedStore) → StoreComes loaded result → IfOk loaded (λ it. Q it.0 it.1)
    → ((pair : Pair) (bodies : List (List ℕ)) (store : Store) → Q pair bodies → IsStoreOf pair bodies store → P store) → IfOk result P
of_store P Q (Ok (pair, bodies)) (Ok store) comes has each = each pair bodies store has comes
of_store P Q (Ok (pair, bodies)) (Err refusal) comes has each = tt
of_store P Q (Err refusal) result comes has each = subst (λ r. IfOk r P) (sym comes) tt

any_pair : (loaded : Loaded) → IfOk loaded (λ it. Unit {0})
any_pair (Ok it) = tt
any_pair (Err refusal) = tt

both_pairs : (P Q : Pair → List (List ℕ) → Type 0) (loaded : Loaded) → IfOk loaded (λ it. P it.0 it.1) → IfOk loaded (λ it. Q it.0 it.1) → IfOk loaded (λ it. P it.0 it.1 × Q it.0 it.1)
both_pairs P Q (Ok it) one two = (one, two)
both_pairs P Q (Err refusal) one two = tt

loaded_from : (room : ℕ) (files : TwoFiles) (loaded : Loaded) → LoadAnswers room files loaded → IfOk loaded (λ it. IsLoadedFrom room files it.0 it.1)
loaded_from room files (Ok (pair, bodies)) answers = answers
loaded_from room files (Err refusal) answers = tt

pub reached : (loaded : Loaded) (result : LoadedStore) → StoreComes loaded result → IfOk result (λ store. IsReachable (store_state store))
reached loaded result comes = of_store (λ store. IsReachable (store_state store)) (λ pair bodies. Unit {0}) loaded result comes (any_pair loaded) (λ pair bodies store any is. record { bodies = bodies; leads = is.leads })

pub whole : (loaded : Loaded) (result : LoadedStore) → StoreComes loaded result → IfOk result (λ store. store_broken store ≡ None)
whole loaded result comes = of_store (λ store. store_broken store ≡ None) (λ pair bodies. Unit {0}) loaded result comes (any_pair loaded) (λ pair bodies store any is. is.whole)

stands : (disk : DiskState) (pair : Pair) (bodies : List (List ℕ)) (store : Store) → IsPairAtRest pair bodies disk → IsStoreOf pair bodies store → AreAsLeft store disk
stands disk pair bodies store rest is = record { bodies = bodies; at_rest = subst (λ p. IsPairAtRest p bodies disk) (sym is.pair_is) rest; leads = is.leads }

pub at_rest : (disk : DiskState) (loaded : Loaded) (result : LoadedStore) → StoreComes loaded result → IfOk loaded (λ it. IsPairAtRest it.0 it.1 disk) → IfOk result (λ store. AreAsLeft store disk)
at_rest disk loaded result comes rest = of_store (λ store. AreAsLeft store disk) (λ pair bodies. IsPairAtRest pair bodies disk) loaded result comes rest (stands disk)

pub on_disk : (disk : DiskState) (loaded : Loaded) (result : LoadedStore) → StoreComes loaded result → IfOk loaded (λ it. IsPairAtRest it.0 it.1 disk)
    → IfOk result (λ store. (files : TwoFiles) → disk.may_leave files → HasPairState files (store_state store))
on_disk disk loaded result comes rest =
    of_store (λ store. (files : TwoFiles) → disk.may_leave files → HasPairState files (store_state store)) (λ pair bodies. IsPairAtRest pair bodies disk) loaded result comes rest
    (λ pair bodies store at is. left_state store disk (stands disk pair bodies store at is))

module _ (room : ℕ) (files : TwoFiles) where
  holds_live : (side : Side) (epoch : ℕ) (bodies : List (List ℕ)) → HoldsIn side epoch bodies files → IsUnbegun files → ⊥
  holds_live side epoch bodies holds begun = newest_lives files side epoch (newest_of files side epoch bodies holds) begun.dead

  first_of : (pair : Pair) (bodies : List (List ℕ)) → IsUnbegun files → IsLoadedFrom room files pair bodies → pair_epoch pair ≡ 1
  first_of pair bodies begun (inl shows) = absurd (holds_live (pair_side pair) (pair_epoch pair) bodies shows begun)
  first_of pair bodies begun (inr begins) = begins.3

  pub first : (loaded : Loaded) (result : LoadedStore) → StoreComes loaded result → LoadAnswers room files loaded → IsUnbegun files → IfOk result (λ store. pair_epoch (store_pair store) ≡ 1)
  first loaded result comes answers begun =
      of_store (λ store. pair_epoch (store_pair store) ≡ 1) (IsLoadedFrom room files) loaded result comes (loaded_from room files loaded answers)
      (λ pair bodies store from is. ap pair_epoch is.pair_is ∙ first_of pair bodies begun from)

  same_of : (pair : Pair) (bodies : List (List ℕ)) (side : Side) (epoch : ℕ) → IsNewest side epoch files → IsLoadedFrom room files pair bodies → (pair_side pair ≡ side) × (pair_epoch pair ≡ epoch)
  same_of pair bodies side epoch newest (inl shows) = one_newest files (pair_side pair) side (pair_epoch pair) epoch (newest_of files (pair_side pair) (pair_epoch pair) bodies shows) newest
  same_of pair bodies side epoch newest (inr begins) = absurd (newest_lives files side epoch newest begins.0.dead)

  pub same_epoch : (loaded : Loaded) (result : LoadedStore) → StoreComes loaded result → LoadAnswers room files loaded → (side : Side) (epoch : ℕ) → IsNewest side epoch files
      → IfOk result (λ store. (pair_side (store_pair store) ≡ side) × (pair_epoch (store_pair store) ≡ epoch))
  same_epoch loaded result comes answers side epoch newest =
      of_store (λ store. (pair_side (store_pair store) ≡ side) × (pair_epoch (store_pair store) ≡ epoch)) (IsLoadedFrom room files) loaded result comes (loaded_from room files loaded answers)
      (λ pair bodies store from is. let of = same_of pair bodies side epoch newest from in (ap pair_side is.pair_is ∙ of.0, ap pair_epoch is.pair_is ∙ of.1))

  ends_of : (disk : DiskState) (pair : Pair) (bodies : List (List ℕ)) → IsPairAtRest pair bodies disk → IsLoadedFrom room files pair bodies → PairEndsAt (pair_side pair) (pair_end pair) files
  ends_of disk pair bodies rest (inl shows) = inl (record { epoch = pair_epoch pair; bodies = bodies; holds = shows; place = rest.at_rest.end })
  ends_of disk pair bodies rest (inr begins) = inr (begins.0, begins.2, omega (arith, rest.at_rest.end, log_length (log_epoch pair.log) bodies, ap (λ (l : List (List ℕ)). length (records l)) begins.4))

  pub ends : (disk : DiskState) (loaded : Loaded) (result : LoadedStore) → StoreComes loaded result → LoadAnswers room files loaded → IfOk loaded (λ it. IsPairAtRest it.0 it.1 disk)
      → IfOk result (λ store. PairEndsAt (pair_side (store_pair store)) (pair_end (store_pair store)) files)
  ends disk loaded result comes answers rest =
      of_store (λ store. PairEndsAt (pair_side (store_pair store)) (pair_end (store_pair store)) files) (λ pair bodies. IsLoadedFrom room files pair bodies × IsPairAtRest pair bodies disk) loaded result comes
      (both_pairs (IsLoadedFrom room files) (λ pair bodies. IsPairAtRest pair bodies disk) loaded (loaded_from room files loaded answers) rest)
      (λ pair bodies store has is. subst (λ p. PairEndsAt (pair_side p) (pair_end p) files) (sym is.pair_is) (ends_of disk pair bodies has.1 has.0))

  -- ---- each answer has its cause

  pair_refused : (refusal : PairRefusal) → LoadAnswers room files (Err refusal) → StoreLoadAnswers room files (Err (refusal_of_pair refusal))
  pair_refused (pairs.Foreign side len) answers = answers
  pair_refused (pairs.Damaged side at) answers = inl answers
  pair_refused (pairs.SameEpoch epoch) answers = answers
  pair_refused (pairs.Full end free) answers = answers
  pair_refused pairs.Failed answers = tt
  pair_refused pairs.Memory answers = tt

  bodies_refused : (pair : Pair) (bodies : List (List ℕ)) (refusal : StoreRefusal) → IsLoadedFrom room files pair bodies → BodiesComeTo (pair_side pair) bodies (Err refusal) → StoreLoadAnswers room files (Err refusal)
  bodies_refused pair bodies (Foreign side len) from comes = absurd comes
  bodies_refused pair bodies (Damaged side at) (inl shows) comes =
      inr (record { epoch = pair_epoch pair; bodies = bodies; holds = subst (λ s. HoldsIn s (pair_epoch pair) bodies files) (sym comes.0) shows; unfit = comes.1 })
  bodies_refused pair bodies (Damaged side at) (inr begins) comes = absurd (not_nil comes.1.before comes.1.behind comes.1.body (sym begins.4 ∙ comes.1.parts))
  bodies_refused pair bodies (SameEpoch epoch) from comes = absurd comes
  bodies_refused pair bodies (Full end free) from comes = absurd comes
  bodies_refused pair bodies Failed from comes = absurd comes
  bodies_refused pair bodies Memory from comes = tt

  accepts : (pair : Pair) (bodies : List (List ℕ)) (store : Store) → IsLoadedFrom room files pair bodies → LeadsTo empty_state bodies (store_state store) → StoreLoadAnswers room files (Ok store)
  accepts pair bodies store (inl shows) leads = (
    record { bodies = bodies; contents = inl (pair_side pair, pair_epoch pair, shows); leads = leads },
    λ begun. absurd (holds_live (pair_side pair) (pair_epoch pair) bodies shows begun),
  )
  accepts pair bodies store (inr begins) leads = (record { bodies = bodies; contents = inr (begins.0, begins.4); leads = leads }, λ begun. begins.1)

  pub answers_of : (loaded : Loaded) (result : LoadedStore) → LoadAnswers room files loaded → StoreComes loaded result → StoreLoadAnswers room files result
  answers_of (Ok (pair, bodies)) (Ok store) answers comes = accepts pair bodies store answers comes.leads
  answers_of (Ok (pair, bodies)) (Err refusal) answers comes = bodies_refused pair bodies refusal answers comes
  answers_of (Err refusal) result answers comes = subst (StoreLoadAnswers room files) (sym comes) (pair_refused refusal answers)

  -- ---- what is refused is spared

  no_room_to_begin : (pair : Pair) (bodies : List (List ℕ)) (refusal : StoreRefusal) → IsLoadedFrom room files pair bodies → BodiesComeTo (pair_side pair) bodies (Err refusal) → MayBegin room files → ⊥
  no_room_to_begin pair bodies refusal (inl shows) comes may = holds_live (pair_side pair) (pair_epoch pair) bodies shows may.0
  no_room_to_begin pair bodies (Foreign side len) (inr begins) comes may = comes
  no_room_to_begin pair bodies (Damaged side at) (inr begins) comes may = not_nil comes.1.before comes.1.behind comes.1.body (sym begins.4 ∙ comes.1.parts)
  no_room_to_begin pair bodies (SameEpoch epoch) (inr begins) comes may = comes
  no_room_to_begin pair bodies (Full end free) (inr begins) comes may = comes
  no_room_to_begin pair bodies Failed (inr begins) comes may = comes
  no_room_to_begin pair bodies Memory (inr begins) comes may = comes begins.4

  pub refused : (P : Type 0) (loaded : Loaded) (result : LoadedStore) → LoadAnswers room files loaded → StoreComes loaded result → OnErr loaded P → ((MayBegin room files → ⊥) → P) → OnErr result P
  refused P (Ok (pair, bodies)) (Ok store) answers comes by_pair spared = tt
  refused P (Ok (pair, bodies)) (Err refusal) answers comes by_pair spared = spared (no_room_to_begin pair bodies refusal answers comes)
  refused P (Err refusal) result answers comes by_pair spared = subst (λ r. OnErr r P) (sym comes) by_pair

  -- ---- each cause has its answer

  module _ (left_small : length files.left < 2 ^ 64) (right_small : length files.right < 2 ^ 64) where
    one : (a b : Sight) → Shows files a → Shows files b → a ≡ b
    one = one_sight files left_small right_small

    same_foreign : (a b : Side) (len long : ℕ) → IsForeign a len files → IsForeign b long files → Foreign a len ≡ Foreign b long
    same_foreign a b len long here there = parts (one (sight.Foreign a len) (sight.Foreign b long) here there)
      where
        parts : sight.Foreign a len ≡ sight.Foreign b long → Foreign a len ≡ Foreign b long
        parts same = let sides : a ≡ b = cc in let lens : len ≡ long = cc in λ i. Foreign (sides i) (lens i)

    foreign_not_same : (side : Side) (len epoch : ℕ) → IsForeign side len files → IsSameEpoch epoch files → ⊥
    foreign_not_same side len epoch here there = parts (one (sight.Foreign side len) (sight.Same epoch) here there)
      where
        parts : sight.Foreign side len ≡ sight.Same epoch → ⊥
        parts same = cc

    foreign_not_begun : (side : Side) (len : ℕ) → IsForeign side len files → IsUnbegun files → ⊥
    foreign_not_begun side len here there = parts (one (sight.Foreign side len) sight.Begins here there)
      where
        parts : sight.Foreign side len ≡ sight.Begins → ⊥
        parts same = cc

    same_same : (epoch number : ℕ) → IsSameEpoch epoch files → IsSameEpoch number files → SameEpoch epoch ≡ SameEpoch number
    same_same epoch number here there = parts (one (sight.Same epoch) (sight.Same number) here there)
      where
        parts : sight.Same epoch ≡ sight.Same number → SameEpoch epoch ≡ SameEpoch number
        parts same = let epochs : epoch ≡ number = cc in ap SameEpoch epochs

    same_not_begun : (epoch : ℕ) → IsSameEpoch epoch files → IsUnbegun files → ⊥
    same_not_begun epoch here there = there.dead.0 epoch here.left

    accepted : (result : LoadedStore) → StoreLoadAnswers room files result → (state : State) → HasPairState files state → (IsUnbegun files → 18 ≤ room) → AcceptsState state result
    accepted (Ok store) answers state has fits = one_pair_state files left_small right_small (store_state store) state answers.0 has
    accepted (Err (Foreign side len)) answers state has fits = absurd (state_not_foreign files side len state has answers)
    accepted (Err (Damaged side at)) answers state has fits = absurd (state_not_refused files left_small right_small side at state has answers)
    accepted (Err (SameEpoch epoch)) answers state has fits = absurd (state_not_same_epoch files epoch state has answers)
    accepted (Err (Full end free)) answers state has fits = absurd (omega (arith, fits answers.0, answers.1))
    accepted (Err Failed) answers state has fits = inl refl
    accepted (Err Memory) answers state has fits = inr refl

    foreign : (result : LoadedStore) → StoreLoadAnswers room files result → (side : Side) (len : ℕ) → IsForeign side len files → RefusesStore (Foreign side len) result
    foreign (Ok store) answers side len is = state_not_foreign files side len (store_state store) answers.0 is
    foreign (Err (Foreign b long)) answers side len is = inl (same_foreign b side long len answers is)
    foreign (Err (Damaged b at)) answers side len is = absurd (refused_not_foreign files b side at len answers is)
    foreign (Err (SameEpoch epoch)) answers side len is = absurd (foreign_not_same side len epoch is answers)
    foreign (Err (Full end free)) answers side len is = absurd (foreign_not_begun side len is answers.0)
    foreign (Err Failed) answers side len is = inr (inl refl)
    foreign (Err Memory) answers side len is = inr (inr refl)

    damaged : (result : LoadedStore) → StoreLoadAnswers room files result → (side : Side) (at : ℕ) → IsRefusedIn side at files → RefusesStore (Damaged side at) result
    damaged (Ok store) answers side at is = state_not_refused files left_small right_small side at (store_state store) answers.0 is
    damaged (Err (Foreign b len)) answers side at is = absurd (refused_not_foreign files side b at len is answers)
    damaged (Err (Damaged b place)) answers side at is = let same = one_place files left_small right_small b side place at answers is in inl (λ i. Damaged (same.0 i) (same.1 i))
    damaged (Err (SameEpoch epoch)) answers side at is = absurd (refused_not_same_epoch files side at epoch is answers)
    damaged (Err (Full end free)) answers side at is = absurd (refused_not_begun files side at is answers.0)
    damaged (Err Failed) answers side at is = inr (inl refl)
    damaged (Err Memory) answers side at is = inr (inr refl)

    same_epochs : (result : LoadedStore) → StoreLoadAnswers room files result → (epoch : ℕ) → IsSameEpoch epoch files → RefusesStore (SameEpoch epoch) result
    same_epochs (Ok store) answers epoch is = state_not_same_epoch files epoch (store_state store) answers.0 is
    same_epochs (Err (Foreign b len)) answers epoch is = absurd (foreign_not_same b len epoch answers is)
    same_epochs (Err (Damaged b place)) answers epoch is = absurd (refused_not_same_epoch files b place epoch answers is)
    same_epochs (Err (SameEpoch number)) answers epoch is = inl (same_same number epoch answers is)
    same_epochs (Err (Full end free)) answers epoch is = absurd (same_not_begun epoch is answers.0)
    same_epochs (Err Failed) answers epoch is = inr (inl refl)
    same_epochs (Err Memory) answers epoch is = inr (inr refl)

    full : (result : LoadedStore) → StoreLoadAnswers room files result → IsUnbegun files → room < 18 → RefusesStore (Full 18 room) result
    full (Ok store) answers begun less = omega (arith, answers.1 begun, less)
    full (Err (Foreign b len)) answers begun less = absurd (foreign_not_begun b len answers begun)
    full (Err (Damaged b place)) answers begun less = absurd (refused_not_begun files b place answers begun)
    full (Err (SameEpoch epoch)) answers begun less = absurd (same_not_begun epoch answers begun)
    full (Err (Full end free)) answers begun less = inl (λ i. Full (answers.2 i) (answers.3 i))
    full (Err Failed) answers begun less = inr (inl refl)
    full (Err Memory) answers begun less = inr (inr refl)

    all_exact : (result : LoadedStore) → StoreLoadAnswers room files result → StoreLoadIsExact room files result
    all_exact result answers = record {
      accepted = accepted result answers;
      foreign = foreign result answers;
      damaged = damaged result answers;
      same_epoch = same_epochs result answers;
      full = full result answers;
    }

  no_answer : StoreLoadIsExact room files (Err Failed)
  no_answer = record {
    accepted = λ state has fits. inl refl;
    foreign = λ side len is. inr (inl refl);
    damaged = λ side at is. inr (inl refl);
    same_epoch = λ epoch is. inr (inl refl);
    full = λ begun less. inr (inl refl);
  }

  -- the files are short but for a failure
  by_length : (result : LoadedStore) → StoreLoadAnswers room files result → (length files.left ≤ 2 ^ 40) × (length files.right ≤ 2 ^ 40) → StoreLoadIsExact room files result
  by_length result answers short = let left = short.0 in let right = short.1 in all_exact (omega (arith, left)) (omega (arith, right)) result answers

  pub exact : (result : LoadedStore) → StoreLoadAnswers room files result → ((result ≡ Err Failed → ⊥) → (length files.left ≤ 2 ^ 40) × (length files.right ≤ 2 ^ 40)) → StoreLoadIsExact room files result
  exact (Ok store) answers small = by_length (Ok store) answers (small (λ same. cc))
  exact (Err (Foreign side len)) answers small = by_length (Err (Foreign side len)) answers (small (λ same. cc))
  exact (Err (Damaged side at)) answers small = by_length (Err (Damaged side at)) answers (small (λ same. cc))
  exact (Err (SameEpoch epoch)) answers small = by_length (Err (SameEpoch epoch)) answers (small (λ same. cc))
  exact (Err (Full end free)) answers small = by_length (Err (Full end free)) answers (small (λ same. cc))
  exact (Err Failed) answers small = no_answer
  exact (Err Memory) answers small = by_length (Err Memory) answers (small (λ same. cc))

-- ---- a failure has its cause

module _ (before now : ℕ) where
  bodies_never_fail : (side : Side) (bodies : List (List ℕ)) (refusal : StoreRefusal) → BodiesComeTo side bodies (Err refusal) → refusal ≡ Failed → ⊥
  bodies_never_fail side bodies refusal comes is = subst (λ r. BodiesComeTo side bodies (Err r)) is comes

  rose : (loaded : Loaded) (result : LoadedStore) → StoreComes loaded result → HasCauseOf pairs.Failed before now loaded → result ≡ Err Failed → Rose before now
  rose (Ok (pair, bodies)) (Ok store) comes cause is = let none : ⊥ = cc in absurd none
  rose (Ok (pair, bodies)) (Err refusal) comes cause is = absurd (bodies_never_fail (pair_side pair) bodies refusal comes (same_refusal refusal Failed is))
  rose (Err refusal) result comes cause is = cause.failed (ap Err (failed_pair refusal (same_refusal (refusal_of_pair refusal) Failed (sym comes ∙ is))))

  kept_count : (loaded : Loaded) (result : LoadedStore) → StoreComes loaded result → HasCauseOf pairs.Failed before now loaded → OnOk result (now ≡ before)
  kept_count (Ok (pair, bodies)) (Ok store) comes cause = cause.kept
  kept_count (Ok (pair, bodies)) (Err refusal) comes cause = tt
  kept_count (Err refusal) result comes cause = subst (λ r. OnOk r (now ≡ before)) (sym comes) tt

  pub cause_of : (loaded : Loaded) (result : LoadedStore) → StoreComes loaded result → HasCauseOf pairs.Failed before now loaded → HasCauseOf Failed before now result
  cause_of loaded result comes cause = record { later = cause.later; failed = rose loaded result comes cause; kept = kept_count loaded result comes cause }
