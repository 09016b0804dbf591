-- What a load answers, and what it does to the disk.
use Rattle.std.specs.Prelude.{◌≡◌, ◌⊎◌, ◌+◌, ◌<◌, ◌≤◌, ℕ, List, [], Result, Ok, Err}
use Rattle.disk_model.specs.declared.disk.Side.{Side}
use Rattle.disk_model.specs.declared.disk.Side.TheVariants.{Left, Right}
use Rattle.disk_model.specs.Disk.{TwoFiles, DiskState, Follows, KeepsHonesty, IsOnDisk, file}
use Rattle.disk_model.specs.Moments.{LeavesOnly}
use Rattle.commit_gate.specs.AtRest.{log_side, log_epoch, IsAtRest}
use Rattle.commit_gate.specs.Shut.{shut_calls}
use Rattle.commit_gate.specs.declared.log.Log.{Log}
use Rattle.log_pair.specs.Pair.{Sight, Begins, Holds, Foreign as IsForeign, Damaged as IsDamaged, Same as IsSame, Shows, HoldsIn, IsOlder, IsUnbegun}
use Rattle.log_pair.specs.AtRest.{pair_side, pair_epoch}
use Rattle.log_pair.specs.declared.pair.Pair.{Pair}
use Rattle.log_pair.specs.declared.refusal.PairRefusal.{PairRefusal}
use Rattle.log_pair.specs.declared.refusal.PairRefusal.TheVariants.{Foreign, Damaged, SameEpoch, Full, Failed, Memory}

abbrev pub Loaded : Type 0
Loaded = Result (Pair × List (List ℕ)) PairRefusal

-- the bodies of the greater epoch, or a new log where there was none yet
abbrev pub IsLoadedFrom : ℕ → TwoFiles → Pair → List (List ℕ) → Type 0
IsLoadedFrom room files pair bodies =
    Shows files (Holds (pair_side pair) (pair_epoch pair) bodies) ⊎ (Shows files Begins × (18 ≤ room) × (pair_side pair ≡ Left) × (pair_epoch pair ≡ 1) × (bodies ≡ []))

-- each answer and its cause, for files with this room
abbrev pub LoadAnswers : ℕ → TwoFiles → Loaded → Type 0
LoadAnswers room files (Ok (pair, bodies)) = IsLoadedFrom room files pair bodies
LoadAnswers room files (Err (Foreign side len)) = Shows files (IsForeign side len)
LoadAnswers room files (Err (Damaged side at)) = Shows files (IsDamaged side at)
LoadAnswers room files (Err (SameEpoch epoch)) = Shows files (IsSame epoch)
LoadAnswers room files (Err (Full end free)) = Shows files Begins × (room < 18) × (end ≡ 18) × (free ≡ room)
LoadAnswers room files (Err Failed) = Unit {0}
LoadAnswers room files (Err Memory) = Unit {0}

-- this refusal, unless the disk failed or there was no memory
abbrev pub Refuses : PairRefusal → Loaded → Type 0
Refuses refusal (Ok loaded) = ⊥
Refuses refusal (Err found) = (found ≡ refusal) ⊎ ((found ≡ Failed) ⊎ (found ≡ Memory))

-- these bodies, unless the disk failed or there was no memory
abbrev pub Accepts : Side → ℕ → List (List ℕ) → Loaded → Type 0
Accepts side epoch bodies (Ok (pair, found)) = (pair_side pair ≡ side) × (pair_epoch pair ≡ epoch) × (found ≡ bodies)
Accepts side epoch bodies (Err found) = (found ≡ Failed) ⊎ (found ≡ Memory)

-- each cause and its answer
pub record LoadIsExact (room : ℕ) (files : TwoFiles) (result : Loaded) : Type 0 where
  pub held : (side : Side) (epoch : ℕ) (bodies : List (List ℕ)) → Shows files (Holds side epoch bodies) → Accepts side epoch bodies result
  pub begun : Shows files Begins → 18 ≤ room → Accepts Left 1 [] result
  pub full : Shows files Begins → room < 18 → Refuses (Full 18 room) result
  pub foreign : (side : Side) (len : ℕ) → Shows files (IsForeign side len) → Refuses (Foreign side len) result
  pub damaged : (side : Side) (at : ℕ) → Shows files (IsDamaged side at) → Refuses (Damaged side at) result
  pub same_epoch : (epoch : ℕ) → Shows files (IsSame epoch) → Refuses (SameEpoch epoch) result

-- there is no log yet, and room for one
abbrev pub MayBegin : ℕ → TwoFiles → Type 0
MayBegin room files = IsUnbegun files × (18 ≤ room)

-- Both files are as they were. Or there was no log, and there is still none, or the first one in the left file, but that
-- only where `may_be_there` holds.
abbrev pub IsKeptOrBegun : Type 0 → TwoFiles → TwoFiles → Type 0
IsKeptOrBegun may_be_there was files =
    (files ≡ was) ⊎ (IsUnbegun was × (files.right ≡ was.right) × (IsUnbegun files ⊎ (may_be_there × HoldsIn Left 1 [] files)))

pub record PairLoads (old new : DiskState) : Type 0 where
  pub crash : Follows (IsKeptOrBegun (Unit {0})) old.may_leave new.may_leave
  pub honesty : KeepsHonesty old new

-- how many calls the making of the first log takes before it writes the header gate: those that shut the left file, and
-- the three that put the log behind its closed gate on the disk
abbrev pub calls_before_first : TwoFiles → ℕ
calls_before_first now = shut_calls now.left + 3

-- up to the write of the header gate of the first log, which is the last call but one, there is none
abbrev pub BegunByGate : DiskState → DiskState → Type 0
BegunByGate old new = LeavesOnly (λ calls. IsKeptOrBegun (new.moment < old.moment + calls + 2)) old new

-- a crash leaves nothing that it couldn't have left before, and once both files are synced, which is by the fourth call,
-- what is read
abbrev pub SameBothSynced : TwoFiles → ℕ → TwoFiles → TwoFiles → Type 0
SameBothSynced now calls was files = (files ≡ was) × (3 < calls → files ≡ now)

-- the same, of what is made where there was no log
abbrev pub IsKeptOrBegunSynced : TwoFiles → ℕ → TwoFiles → TwoFiles → Type 0
IsKeptOrBegunSynced now calls was files = IsKeptOrBegun (Unit {0}) was files × (3 < calls → IsKeptOrBegun (Unit {0}) now files)

-- each answer and its cause, where there is no log and this room
abbrev pub BeginAnswers : ℕ → Result Log PairRefusal → Type 0
BeginAnswers room (Ok log) = 18 ≤ room
BeginAnswers room (Err (Foreign side len)) = ⊥
BeginAnswers room (Err (Damaged side at)) = ⊥
BeginAnswers room (Err (SameEpoch epoch)) = ⊥
BeginAnswers room (Err (Full end free)) = (room < 18) × (end ≡ 18) × (free ≡ room)
BeginAnswers room (Err Failed) = Unit {0}
BeginAnswers room (Err Memory) = ⊥

-- the log that is made, and that a pair may be of
pub record IsBegunAt (log : Log) (disk : DiskState) : Type 0 where
  pub in_left : log_side log ≡ Left
  pub first : log_epoch log ≡ 1
  pub at_rest : IsAtRest log [] disk
  pub older : IsOlder 1 (file Right disk.now)
  pub durable : IsOnDisk Right disk
