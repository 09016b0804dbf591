-- What a load answers, and what it leaves.
use Rattle.std.proofs.Common.{◌≡◌, ◌⊎◌, inl, inr, ℕ, ◌+◌, ◌<◌, ◌≤◌, ◌^◌, List, [], length, ⊎_elim, Option, Some, None, Result, Ok, Err, refl, sym, ◌∙◌, ap, subst, arith}
use Rattle.disk_model.specs.declared.disk.Side.{Side}
use Rattle.disk_model.specs.declared.disk.Side.TheVariants.{Left, Right}
use Rattle.disk_model.specs.Disk.{TwoFiles, DiskState, IsOnDisk, file, other}
use Rattle.disk_model.specs.Moments.{LeavesOnly}
use Rattle.disk_model.proofs.RunLemmas.{weakens, joins}
use Rattle.commit_gate.specs.Head.{IsUntouched, Same}
use Rattle.commit_gate.specs.Log.{log_bytes}
use Rattle.commit_gate.proofs.LoadLemmas.{log_length}
use Rattle.commit_gate.specs.AtRest.{log_side, log_epoch, IsAtRest}
use Rattle.commit_gate.specs.declared.log.Log.{Log}
use Rattle.log_pair.specs.Pair.{Sight, Begins, Holds, Foreign as IsForeign, Damaged as IsDamaged, Same as IsSame, Shows, IsOlder, IsUnbegun}
use Rattle.log_pair.specs.AtRest.{pair_side, pair_epoch, IsPairAtRest}
use Rattle.log_pair.specs.Load.{Loaded, LoadAnswers, Refuses, Accepts, LoadIsExact, IsKeptOrBegun, IsKeptOrBegunSynced, BegunByGate, SameBothSynced, IsBegunAt, MayBegin, calls_before_first}
use Rattle.log_pair.specs.declared.pair.Pair.{Pair}
use Rattle.log_pair.specs.declared.refusal.PairRefusal.{PairRefusal}
use Rattle.log_pair.specs.declared.refusal.PairRefusal.TheVariants.{Foreign, Damaged, SameEpoch, Full, Failed, Memory}
use Rattle.log_pair.specs.Choice.{ChoiceAnswers}
use Rattle.log_pair.proofs.UniqueLemmas.{newest_lives, one_sight}

-- the pair of a log that was made
pub pair_begun : (log : Log) (bodies : List (List ℕ)) (disk : DiskState) → bodies ≡ [] → IsBegunAt log disk → IsPairAtRest (record { log = log }) bodies disk
pair_begun log bodies disk none begun = record {
  fits = subst (λ e. e < 2 ^ 64) (sym begun.first) (omega arith);
  at_rest = subst (λ b. IsAtRest log b disk) (sym none) begun.at_rest;
  older = subst (λ e. IsOlder e (file (other (log_side log)) disk.now)) (sym begun.first) (subst (λ s. IsOlder 1 (file (other s) disk.now)) (sym begun.in_left) begun.older);
  durable = subst (λ s. IsOnDisk (other s) disk) (sym begun.in_left) begun.durable;
}

-- a log without records
pub no_records_are_short : (epoch : ℕ) (bodies : List (List ℕ)) → bodies ≡ [] → length (log_bytes epoch bodies) ≤ 2 ^ 40
no_records_are_short epoch bodies none = subst (λ b. length (log_bytes epoch b) ≤ 2 ^ 40) (sym none) (omega (arith, log_length epoch []))

-- ---- moments

-- where a log is read, one was begun
pub some_lives : (files : TwoFiles) (found : Option Side) (side : Side) → found ≡ Some side → ChoiceAnswers files (Ok found) → IsUnbegun files → ⊥
some_lives files found side is answers unbegun =
    let newest = subst (λ f. ChoiceAnswers files (Ok f)) is answers in
    newest_lives files side newest.0 newest.1 unbegun.dead

-- where no log is read, none was begun
pub none_begun : (files : TwoFiles) (found : Option Side) → found ≡ None → ChoiceAnswers files (Ok found) → IsUnbegun files
none_begun files found is answers = subst (λ f. ChoiceAnswers files (Ok f)) is answers

up_to : (k n : ℕ) → (k ≤ n) ⊎ (n < k)
up_to k n = grind arith

-- where no first log may be made, there is no room for it
pub no_room : (files : TwoFiles) (room : ℕ) → IsUnbegun files → (MayBegin room files → ⊥) → room < 18
no_room files room unbegun none = ⊎_elim (λ fits. absurd (none (unbegun, fits))) (λ less. less) (up_to 18 room)

pub untouched_on : (old mid new : DiskState) → IsUntouched old mid → IsUntouched mid new → IsUntouched old new
untouched_on old mid new one two = record { same = two.same ∙ one.same; no_more = λ files left. one.no_more files (two.no_more files left) }

pub moments_look : (old new : DiskState) → LeavesOnly Same old new → LeavesOnly (λ calls. IsKeptOrBegun (calls_before_first old.now < calls)) old new
moments_look old new run = weakens Same (λ calls. IsKeptOrBegun (calls_before_first old.now < calls)) old new run (λ k was files left same. inl same)

pub synced_look : (old new : DiskState) → LeavesOnly (SameBothSynced old.now) old new → LeavesOnly (IsKeptOrBegunSynced old.now) old new
synced_look old new run =
    weakens (SameBothSynced old.now) (IsKeptOrBegunSynced old.now) old new run (λ k was files left same. (inl same.0, λ more. inl (same.1 more)))

-- a first log that is there only where one thing holds is there only where another does
allows : (one two : Type 0) (was files : TwoFiles) → (one → two) → IsKeptOrBegun one was files → IsKeptOrBegun two was files
allows one two was files so (inl same) = inl same
allows one two was files so (inr (begun, right, inl still)) = inr (begun, right, inl still)
allows one two was files so (inr (begun, right, inr log)) = inr (begun, right, inr (so log.0, log.1))

module _ (old mid new : DiskState) (no_more : (files : TwoFiles) → mid.may_leave files → old.may_leave files) (same : mid.now ≡ old.now) where
  pub moments_on : LeavesOnly Same old mid → LeavesOnly (λ calls. IsKeptOrBegun (calls_before_first mid.now < calls)) mid new → LeavesOnly (λ calls. IsKeptOrBegun (calls_before_first old.now < calls)) old new
  moments_on one two =
      joins Same (λ calls. IsKeptOrBegun (calls_before_first mid.now < calls)) (λ calls. IsKeptOrBegun (calls_before_first old.now < calls)) old mid new one two (λ k was files left is. inl is)
      (λ j k was files at some left keeps. (was, no_more was left, allows (calls_before_first mid.now < k) (calls_before_first old.now < j + k) was files (λ less. omega (arith, ap calls_before_first same, less)) keeps))

  -- the last call but one writes the header gate
  pub begun_on : LeavesOnly Same old mid → LeavesOnly (λ calls. IsKeptOrBegun (calls_before_first mid.now < calls)) mid new → new.moment ≡ mid.moment + calls_before_first mid.now + 2 → BegunByGate old new
  begun_on one two calls =
      joins Same (λ calls. IsKeptOrBegun (calls_before_first mid.now < calls)) (λ calls. IsKeptOrBegun (new.moment < old.moment + calls + 2)) old mid new one two (λ k was files left is. inl is)
      (λ j k was files at some left keeps. (was, no_more was left, allows (calls_before_first mid.now < k) (new.moment < old.moment + (j + k) + 2) was files (λ less. omega (arith, calls, at, less)) keeps))

  pub synced_on : IsOnDisk Left mid → IsOnDisk Right mid → LeavesOnly (SameBothSynced old.now) old mid → LeavesOnly (λ calls. IsKeptOrBegun (calls_before_first mid.now < calls)) mid new → LeavesOnly (IsKeptOrBegunSynced old.now) old new
  synced_on left_on right_on one two =
      joins (SameBothSynced old.now) (λ calls. IsKeptOrBegun (calls_before_first mid.now < calls)) (IsKeptOrBegunSynced old.now) old mid new one two
      (λ k was files left is. (inl is.0, λ more. inl (is.1 more)))
      (λ j k was files at some left keeps.
      let some_time = allows (calls_before_first mid.now < k) (Unit {0}) was files (λ less. tt) keeps in
      (was, no_more was left, (some_time, λ more. subst (λ w. IsKeptOrBegun (Unit {0}) w files) (here was left) some_time)))
    where
      here : (was : TwoFiles) → mid.may_leave was → was ≡ old.now
      here was left =
          let one : was.left ≡ old.now.left = left_on was left ∙ ap (file Left) same in
          let two : was.right ≡ old.now.right = right_on was left ∙ ap (file Right) same in
          λ i. record { left = one i; right = two i }

-- ---- each cause and its answer

module _ (room : ℕ) (files : TwoFiles) (result : Loaded) (answers : LoadAnswers room files result) (small : (result ≡ Err Failed → ⊥) → (length files.left ≤ 2 ^ 40) × (length files.right ≤ 2 ^ 40)) where
  one : (result ≡ Err Failed → ⊥) → (a b : Sight) → Shows files a → Shows files b → a ≡ b
  one whole a b shows also =
      let bounds = small whole in
      one_sight files (omega (arith, bounds.0)) (omega (arith, bounds.1)) a b shows also

module _ (room : ℕ) (files : TwoFiles) where
  abbrev Small : Loaded → Type 0
  Small result = (result ≡ Err Failed → ⊥) → (length files.left ≤ 2 ^ 40) × (length files.right ≤ 2 ^ 40)

  held : (result : Loaded) → LoadAnswers room files result → Small result → (side : Side) (epoch : ℕ) (bodies : List (List ℕ)) → Shows files (Holds side epoch bodies) → Accepts side epoch bodies result
  held (Ok (pair, found)) (inl shows) small side epoch bodies is =
      let same : Holds (pair_side pair) (pair_epoch pair) found ≡ Holds side epoch bodies = one room files (Ok (pair, found)) (inl shows) small (λ same. cc) (Holds (pair_side pair) (pair_epoch pair) found) (Holds side epoch bodies) shows is in
      (cc, cc, cc)
  held (Ok (pair, found)) (inr begun) small side epoch bodies is =
      let same : Begins ≡ Holds side epoch bodies = one room files (Ok (pair, found)) (inr begun) small (λ same. cc) Begins (Holds side epoch bodies) begun.0 is in cc
  held (Err (Foreign a len)) shows small side epoch bodies is =
      let same : IsForeign a len ≡ Holds side epoch bodies = one room files (Err (Foreign a len)) shows small (λ same. cc) (IsForeign a len) (Holds side epoch bodies) shows is in cc
  held (Err (Damaged a at)) shows small side epoch bodies is =
      let same : IsDamaged a at ≡ Holds side epoch bodies = one room files (Err (Damaged a at)) shows small (λ same. cc) (IsDamaged a at) (Holds side epoch bodies) shows is in cc
  held (Err (SameEpoch number)) shows small side epoch bodies is =
      let same : IsSame number ≡ Holds side epoch bodies = one room files (Err (SameEpoch number)) shows small (λ same. cc) (IsSame number) (Holds side epoch bodies) shows is in cc
  held (Err (Full end free)) shows small side epoch bodies is =
      let same : Begins ≡ Holds side epoch bodies = one room files (Err (Full end free)) shows small (λ same. cc) Begins (Holds side epoch bodies) shows.0 is in cc
  held (Err Failed) shows small side epoch bodies is = inl refl
  held (Err Memory) shows small side epoch bodies is = inr refl

  begun : (result : Loaded) → LoadAnswers room files result → Small result → Shows files Begins → 18 ≤ room → Accepts Left 1 [] result
  begun (Ok (pair, found)) (inl shows) small is fits =
      let same : Holds (pair_side pair) (pair_epoch pair) found ≡ Begins = one room files (Ok (pair, found)) (inl shows) small (λ same. cc) (Holds (pair_side pair) (pair_epoch pair) found) Begins shows is in cc
  begun (Ok (pair, found)) (inr fresh) small is fits = (fresh.2, fresh.3, fresh.4)
  begun (Err (Foreign a len)) shows small is fits =
      let same : IsForeign a len ≡ Begins = one room files (Err (Foreign a len)) shows small (λ same. cc) (IsForeign a len) Begins shows is in cc
  begun (Err (Damaged a at)) shows small is fits =
      let same : IsDamaged a at ≡ Begins = one room files (Err (Damaged a at)) shows small (λ same. cc) (IsDamaged a at) Begins shows is in cc
  begun (Err (SameEpoch number)) shows small is fits =
      let same : IsSame number ≡ Begins = one room files (Err (SameEpoch number)) shows small (λ same. cc) (IsSame number) Begins shows is in cc
  begun (Err (Full end free)) shows small is fits = absurd (omega (arith, fits, shows.1))
  begun (Err Failed) shows small is fits = inl refl
  begun (Err Memory) shows small is fits = inr refl

  full : (result : Loaded) → LoadAnswers room files result → Small result → Shows files Begins → room < 18 → Refuses (Full 18 room) result
  full (Ok (pair, found)) (inl shows) small is tight =
      let same : Holds (pair_side pair) (pair_epoch pair) found ≡ Begins = one room files (Ok (pair, found)) (inl shows) small (λ same. cc) (Holds (pair_side pair) (pair_epoch pair) found) Begins shows is in cc
  full (Ok (pair, found)) (inr begun) small is tight = omega (arith, begun.1, tight)
  full (Err (Foreign a len)) shows small is tight =
      let same : IsForeign a len ≡ Begins = one room files (Err (Foreign a len)) shows small (λ same. cc) (IsForeign a len) Begins shows is in cc
  full (Err (Damaged a at)) shows small is tight =
      let same : IsDamaged a at ≡ Begins = one room files (Err (Damaged a at)) shows small (λ same. cc) (IsDamaged a at) Begins shows is in cc
  full (Err (SameEpoch number)) shows small is tight =
      let same : IsSame number ≡ Begins = one room files (Err (SameEpoch number)) shows small (λ same. cc) (IsSame number) Begins shows is in cc
  full (Err (Full end free)) shows small is tight = inl (λ i. Full (shows.2 i) (shows.3 i))
  full (Err Failed) shows small is tight = inr (inl refl)
  full (Err Memory) shows small is tight = inr (inr refl)

  -- a sight that only one refusal shows
  foreign : (result : Loaded) → LoadAnswers room files result → Small result → (side : Side) (len : ℕ) → Shows files (IsForeign side len) → Refuses (Foreign side len) result
  foreign (Ok (pair, found)) (inl shows) small side len is =
      let same : Holds (pair_side pair) (pair_epoch pair) found ≡ IsForeign side len = one room files (Ok (pair, found)) (inl shows) small (λ same. cc) (Holds (pair_side pair) (pair_epoch pair) found) (IsForeign side len) shows is in cc
  foreign (Ok (pair, found)) (inr begun) small side len is =
      let same : Begins ≡ IsForeign side len = one room files (Ok (pair, found)) (inr begun) small (λ same. cc) Begins (IsForeign side len) begun.0 is in cc
  foreign (Err (Foreign a long)) shows small side len is =
      let same : IsForeign a long ≡ IsForeign side len = one room files (Err (Foreign a long)) shows small (λ same. cc) (IsForeign a long) (IsForeign side len) shows is in inl cc
  foreign (Err (Damaged a at)) shows small side len is =
      let same : IsDamaged a at ≡ IsForeign side len = one room files (Err (Damaged a at)) shows small (λ same. cc) (IsDamaged a at) (IsForeign side len) shows is in cc
  foreign (Err (SameEpoch number)) shows small side len is =
      let same : IsSame number ≡ IsForeign side len = one room files (Err (SameEpoch number)) shows small (λ same. cc) (IsSame number) (IsForeign side len) shows is in cc
  foreign (Err (Full end free)) shows small side len is =
      let same : Begins ≡ IsForeign side len = one room files (Err (Full end free)) shows small (λ same. cc) Begins (IsForeign side len) shows.0 is in cc
  foreign (Err Failed) shows small side len is = inr (inl refl)
  foreign (Err Memory) shows small side len is = inr (inr refl)

  damaged : (result : Loaded) → LoadAnswers room files result → Small result → (side : Side) (at : ℕ) → Shows files (IsDamaged side at) → Refuses (Damaged side at) result
  damaged (Ok (pair, found)) (inl shows) small side at is =
      let same : Holds (pair_side pair) (pair_epoch pair) found ≡ IsDamaged side at = one room files (Ok (pair, found)) (inl shows) small (λ same. cc) (Holds (pair_side pair) (pair_epoch pair) found) (IsDamaged side at) shows is in cc
  damaged (Ok (pair, found)) (inr begun) small side at is =
      let same : Begins ≡ IsDamaged side at = one room files (Ok (pair, found)) (inr begun) small (λ same. cc) Begins (IsDamaged side at) begun.0 is in cc
  damaged (Err (Foreign a long)) shows small side at is =
      let same : IsForeign a long ≡ IsDamaged side at = one room files (Err (Foreign a long)) shows small (λ same. cc) (IsForeign a long) (IsDamaged side at) shows is in cc
  damaged (Err (Damaged a place)) shows small side at is =
      let same : IsDamaged a place ≡ IsDamaged side at = one room files (Err (Damaged a place)) shows small (λ same. cc) (IsDamaged a place) (IsDamaged side at) shows is in inl cc
  damaged (Err (SameEpoch number)) shows small side at is =
      let same : IsSame number ≡ IsDamaged side at = one room files (Err (SameEpoch number)) shows small (λ same. cc) (IsSame number) (IsDamaged side at) shows is in cc
  damaged (Err (Full end free)) shows small side at is =
      let same : Begins ≡ IsDamaged side at = one room files (Err (Full end free)) shows small (λ same. cc) Begins (IsDamaged side at) shows.0 is in cc
  damaged (Err Failed) shows small side at is = inr (inl refl)
  damaged (Err Memory) shows small side at is = inr (inr refl)

  same_epoch : (result : Loaded) → LoadAnswers room files result → Small result → (epoch : ℕ) → Shows files (IsSame epoch) → Refuses (SameEpoch epoch) result
  same_epoch (Ok (pair, found)) (inl shows) small epoch is =
      let same : Holds (pair_side pair) (pair_epoch pair) found ≡ IsSame epoch = one room files (Ok (pair, found)) (inl shows) small (λ same. cc) (Holds (pair_side pair) (pair_epoch pair) found) (IsSame epoch) shows is in cc
  same_epoch (Ok (pair, found)) (inr begun) small epoch is =
      let same : Begins ≡ IsSame epoch = one room files (Ok (pair, found)) (inr begun) small (λ same. cc) Begins (IsSame epoch) begun.0 is in cc
  same_epoch (Err (Foreign a long)) shows small epoch is =
      let same : IsForeign a long ≡ IsSame epoch = one room files (Err (Foreign a long)) shows small (λ same. cc) (IsForeign a long) (IsSame epoch) shows is in cc
  same_epoch (Err (Damaged a place)) shows small epoch is =
      let same : IsDamaged a place ≡ IsSame epoch = one room files (Err (Damaged a place)) shows small (λ same. cc) (IsDamaged a place) (IsSame epoch) shows is in cc
  same_epoch (Err (SameEpoch number)) shows small epoch is =
      let same : IsSame number ≡ IsSame epoch = one room files (Err (SameEpoch number)) shows small (λ same. cc) (IsSame number) (IsSame epoch) shows is in inl cc
  same_epoch (Err (Full end free)) shows small epoch is =
      let same : Begins ≡ IsSame epoch = one room files (Err (Full end free)) shows small (λ same. cc) Begins (IsSame epoch) shows.0 is in cc
  same_epoch (Err Failed) shows small epoch is = inr (inl refl)
  same_epoch (Err Memory) shows small epoch is = inr (inr refl)

  pub exact : (result : Loaded) → LoadAnswers room files result → Small result → LoadIsExact room files result
  exact result answers small = record {
    held = held result answers small;
    begun = begun result answers small;
    full = full result answers small;
    foreign = foreign result answers small;
    damaged = damaged result answers small;
    same_epoch = same_epoch result answers small;
  }
