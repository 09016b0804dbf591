-- What a crash leaves of a store that stands.
use Rattle.std.proofs.Common.{◌≡◌, ⊎_elim, ℕ, ◌<◌, ◌^◌, List, [], length, Option, Some, None, sym, subst}
use Rattle.std.proofs.lemmas.List.{append-nil}
use Rattle.disk_model.specs.Disk.{TwoFiles, DiskState, IsHonest}
use Rattle.disk_model.proofs.RunLemmas.{joins, started, weakens}
use Rattle.landing_core.specs.declared.landing.LandingFile.{LandingFile}
use Rattle.commit_payloads.specs.declared.payload.Payload.{Payload}
use Rattle.landing_history.specs.Taken.{HaveGrown}
use Rattle.plan_core.specs.declared.plan.Dataset.{Dataset as Part}
use Rattle.pair_state.specs.Ours.{IsOursPair}
use Rattle.pair_state.specs.PairState.{HasPairState, KeepsPairState}
use Rattle.state_model.specs.After.{state_from}
use Rattle.state_model.specs.Dataset.{State}
use Rattle.state_steps.specs.Stands.{Stands}
use Rattle.commit_trails.specs.Stints.{Stint, StintTrail, TrailOf}
use Rattle.commit_trails.specs.Trails.{HasFront, HasFrontOrOlder, LoadedTrail, UnloadedTrail}
use Rattle.commit_trails.proofs.TrailLemmas.{from_beginning}
use Rattle.standing_store.specs.Standing.{FrontsStand, HoldStanding, IsStanding, LoadedStands, StandsOnDisk, StandsThroughout, StintStands}

-- files that have the state of others hold what they hold
older_holds : (ever : List LandingFile) (was files : TwoFiles) → HoldStanding ever was → KeepsPairState was files → HoldStanding ever files
older_holds ever was files holds keeps = (holds.0, keeps holds.0 holds.1, holds.2)

module _ (timed : Type 0) (ever : List LandingFile) (old new : DiskState) where
  -- ---- behind a load

  front_holds : (state : State) (tried : List Payload) (files : TwoFiles) → FrontsStand ever state tried → HasFront state tried files → HoldStanding ever files
  front_holds state tried files fronts has = (state_from state has.front, has.has, fronts has.front has.behind has.parts)

  pub loaded_on_disk : (state : State) (acked tried : List Payload) → FrontsStand ever state tried → LoadedTrail timed state acked tried old new → StandsOnDisk ever new
  loaded_on_disk state acked tried fronts trail files left =
      ⊎_elim (λ has. (state_from state acked, has, fronts acked trail.front.0 trail.front.1)) (λ has. (state_from state tried, has, fronts tried [] (sym (append-nil tried)))) (trail.settled files left)

  moment_holds : (state : State) (tried : List Payload) (k : ℕ) (was files : TwoFiles) → FrontsStand ever state tried → HoldStanding ever was → HasFrontOrOlder state tried k was files → HoldStanding ever files
  moment_holds state tried k was files fronts holds at = ⊎_elim (λ front. front_holds state tried files fronts front) (λ older. older_holds ever was files holds older.1) at

  pub loaded_throughout : (state : State) (acked tried : List Payload) → timed → StandsOnDisk ever old → FrontsStand ever state tried → LoadedTrail timed state acked tried old new → StandsThroughout ever old new
  loaded_throughout state acked tried told stands fronts trail =
      weakens (HasFrontOrOlder state tried) (λ calls was files. HoldStanding ever files) old new (trail.each told) (λ k was files left at. moment_holds state tried k was files fronts (stands was left) at)

  -- ---- without a store

  pub unloaded_on_disk : StandsOnDisk ever old → UnloadedTrail timed old new → StandsOnDisk ever new
  unloaded_on_disk stands trail files left =
      let from = trail.settled files left in
      older_holds ever from.0 files (stands from.0 from.1) from.2

  pub unloaded_throughout : timed → StandsOnDisk ever old → UnloadedTrail timed old new → StandsThroughout ever old new
  unloaded_throughout told stands trail =
      weakens (λ _. KeepsPairState) (λ calls was files. HoldStanding ever files) old new (trail.each told) (λ k was files left kept. older_holds ever was files (stands was left) kept)

  -- ---- a command

  on_disk_by : (loaded : Option State) (stint : Stint) → StandsOnDisk ever old → LoadedStands ever loaded stint.tried → TrailOf timed loaded stint old new → StandsOnDisk ever new
  on_disk_by None stint stands fronts trail = unloaded_on_disk stands trail.2
  on_disk_by (Some state) stint stands fronts trail = loaded_on_disk state stint.acked stint.tried fronts trail

  pub stint_on_disk : (stint : Stint) → StandsOnDisk ever old → StintStands ever stint → StintTrail timed stint old new → StandsOnDisk ever new
  stint_on_disk stint stands fronts trail = on_disk_by stint.loaded stint stands fronts trail

  throughout_by : (loaded : Option State) (stint : Stint) → timed → StandsOnDisk ever old → LoadedStands ever loaded stint.tried → TrailOf timed loaded stint old new → StandsThroughout ever old new
  throughout_by None stint told stands fronts trail = unloaded_throughout told stands trail.2
  throughout_by (Some state) stint told stands fronts trail = loaded_throughout state stint.acked stint.tried told stands fronts trail

  pub stint_throughout : (stint : Stint) → timed → StandsOnDisk ever old → StintStands ever stint → StintTrail timed stint old new → StandsThroughout ever old new
  stint_throughout stint told stands fronts trail = throughout_by stint.loaded stint told stands fronts trail

-- ---- moments

pub moments_join : (ever : List LandingFile) (old mid new : DiskState) → StandsThroughout ever old mid → StandsThroughout ever mid new → StandsThroughout ever old new
moments_join ever old mid new first second =
    joins (λ calls was files. HoldStanding ever files) (λ calls was files. HoldStanding ever files) (λ calls was files. HoldStanding ever files) old mid new first second
    (λ k was files left holds. holds)
    (λ j k was files at some left holds.
    let from = from_beginning (λ calls was files. HoldStanding ever files) old mid j was first at left in
    (from.0, from.1, holds))

pub moment_of_none : (ever : List LandingFile) (disk : DiskState) → StandsOnDisk ever disk → StandsThroughout ever disk disk
moment_of_none ever disk stands = started (λ calls was files. HoldStanding ever files) disk (λ files left. (files, left, stands files left))

-- ---- what is read

-- what the law of one state tells
abbrev pub HasOneState : Type 0
HasOneState = (files : TwoFiles) (a b : State) → length files.left < 2 ^ 64 → length files.right < 2 ^ 64 → HasPairState files a → HasPairState files b → a ≡ b

pub read_stands : HasOneState → (ever : List LandingFile) (state : State) (disk : DiskState) → StandsOnDisk ever disk → IsHonest disk → length disk.now.left < 2 ^ 64 → length disk.now.right < 2 ^ 64 → HasPairState disk.now state → IsStanding ever state
read_stands one ever state disk stands honest left right has =
    let holds = stands disk.now honest in
    subst (λ (some : State). IsStanding ever some) (one disk.now holds.0 state left right holds.1 has) holds.2

pub stands_ours : (ever : List LandingFile) (disk : DiskState) → StandsOnDisk ever disk → IsOursPair disk
stands_ours ever disk stands files left =
    let holds = stands files left in
    (holds.0, holds.1)

-- ---- files that grow

-- what the law of files that grow tells
abbrev pub GrowthKeeps : Type 0
GrowthKeeps = (parts : List Part) (ever now : List LandingFile) (state : State) → Stands parts ever state → HaveGrown ever now → Stands parts now state

pub grown_stands : GrowthKeeps → (ever now : List LandingFile) (state : State) → HaveGrown ever now → IsStanding ever state → IsStanding now state
grown_stands keeps ever now state grown standing = (standing.0, record { stands = keeps standing.0 ever now state standing.1.stands grown; shaped = standing.1.shaped; of_text = standing.1.of_text })

pub grown_on_disk : GrowthKeeps → (ever now : List LandingFile) (disk : DiskState) → HaveGrown ever now → StandsOnDisk ever disk → StandsOnDisk now disk
grown_on_disk keeps ever now disk grown stands files left =
    let holds = stands files left in
    (holds.0, holds.1, grown_stands keeps ever now holds.0 grown holds.2)
