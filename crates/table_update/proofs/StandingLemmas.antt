-- Whatever a crash leaves of an update has a state that stands.
use Rattle.std.proofs.Common.{◌≡◌, ◌⊎◌, inl, inr, ℕ, ◌+◌, ◌-◌, ◌≤◌, List, [], ◌++◌, Bool, false, sym, subst, append-nil, arith, Option}
use Rattle.disk_model.specs.declared.disk.Side.TheVariants.{Left}
use Rattle.disk_model.specs.Disk.{DiskState, IsHonest, TwoFiles, file, left_at}
use Rattle.landing_core.specs.declared.landing.LandingFile.{LandingFile}
use Rattle.landing_core.specs.Folders.{HoldsPresent}
use Rattle.commit_records.specs.declared.payload.Payload.{Payload}
use Rattle.store_state.specs.State.{State, state_from}
use Rattle.store_core.specs.State.{HasState, KeepsState}
use Rattle.table_update.specs.declared.end.UpdateEnd.{UpdateEnd}
use Rattle.table_update.specs.declared.end.UpdateEnd.TheVariants.{LoadFailed}
use Rattle.table_update.specs.declared.table.AppendTable.{AppendTable}
use Rattle.table_update.specs.Crash.{HasThem, IsImage, IsSettled, Updated}
use Rattle.table_update.specs.Stands.{HasStanding, IsFor, IsStanding, Stands}
use Rattle.table_update.specs.Update.{Found, Updates}
use Rattle.table_update.proofs.StandFronts.{HoldsOfFronts, IsSmall, acked_front, of_front, updates_stand}

-- the bytes of a store have a state of which each front of the payloads stands
abbrev FrontsStand : AppendTable → List LandingFile → List ℕ → List Payload → Type 0
FrontsStand table ever bytes tried = (state : State) × HasState bytes state × HoldsOfFronts (Stands table ever) state tried

front_image : (table : AppendTable) (ever : List LandingFile) (bytes : List ℕ) (tried front later : List Payload) (image : List ℕ) → FrontsStand table ever bytes tried → tried ≡ front ++ later → HasThem bytes front image → HasStanding table ever image
front_image table ever bytes tried front later image (state, is, stand) parts has =
    (state_from state front, has state is, of_front (Stands table ever) state tried front later parts stand)

older_image : (table : AppendTable) (ever : List LandingFile) (was image : List ℕ) → HasStanding table ever was → KeepsState was image → HasStanding table ever image
older_image table ever was image (state, is, stands) keeps = (state, keeps state is, stands)

settled_image : (table : AppendTable) (ever : List LandingFile) (may_be_older : Type 0) (bytes : List ℕ) (acked tried rest : List Payload) (was image : List ℕ) → FrontsStand table ever bytes tried → tried ≡ acked ++ rest → HasStanding table ever was → IsSettled may_be_older bytes acked tried was image → HasStanding table ever image
settled_image table ever may_be_older bytes acked tried rest was image stand front older (inl has) = front_image table ever bytes tried acked rest image stand front has
settled_image table ever may_be_older bytes acked tried rest was image stand front older (inr (inl has)) = front_image table ever bytes tried tried [] image stand (sym (append-nil tried)) has
settled_image table ever may_be_older bytes acked tried rest was image stand front older (inr (inr keeps)) = older_image table ever was image older keeps.1

any_image : (table : AppendTable) (ever : List LandingFile) (may_be_older : Type 0) (bytes : List ℕ) (tried : List Payload) (was image : List ℕ) → FrontsStand table ever bytes tried → HasStanding table ever was → IsImage may_be_older bytes tried was image → HasStanding table ever image
any_image table ever may_be_older bytes tried was image stand older (inl front) = front_image table ever bytes tried front.front front.behind image stand front.parts front.has
any_image table ever may_be_older bytes tried was image stand older (inr keeps) = older_image table ever was image older keeps.1

-- ---- an update, over one image and over a disk

stand_of : (plan : Option AppendTable) (table : AppendTable) (found : Found) (loaded : Bool) (acked tried : List Payload) (end : UpdateEnd) (ever : List LandingFile) → IsFor plan table → Updates plan found loaded acked tried end → IsSmall end found.bytes → HoldsPresent found.landing ever → HasStanding table ever found.bytes → FrontsStand table ever found.bytes tried
stand_of plan table found loaded acked tried end ever asked updates small held (state, has, stands) = (state, has, updates_stand plan table found loaded acked tried end ever state asked updates small held has stands)

pub settled_stands : (plan : Option AppendTable) (table : AppendTable) (found : Found) (loaded : Bool) (acked tried : List Payload) (end : UpdateEnd) (ever : List LandingFile) (was image : List ℕ) → IsFor plan table → Updates plan found loaded acked tried end → IsSmall end found.bytes → HoldsPresent found.landing ever → HasStanding table ever found.bytes → HasStanding table ever was → IsSettled (loaded ≡ false) found.bytes acked tried was image → HasStanding table ever image
settled_stands plan table found loaded acked tried end ever was image asked updates small held now older settled =
    let front = acked_front plan found loaded acked tried end updates in
    settled_image table ever (loaded ≡ false) found.bytes acked tried front.0 was image (stand_of plan table found loaded acked tried end ever asked updates small held now) front.1 older settled

pub any_stands : (may_be_older : Type 0) (plan : Option AppendTable) (table : AppendTable) (found : Found) (loaded : Bool) (acked tried : List Payload) (end : UpdateEnd) (ever : List LandingFile) (was image : List ℕ) → IsFor plan table → Updates plan found loaded acked tried end → IsSmall end found.bytes → HoldsPresent found.landing ever → HasStanding table ever found.bytes → HasStanding table ever was → IsImage may_be_older found.bytes tried was image → HasStanding table ever image
any_stands may_be_older plan table found loaded acked tried end ever was image asked updates small held now older leaves =
    any_image table ever may_be_older found.bytes tried was image (stand_of plan table found loaded acked tried end ever asked updates small held now) older leaves

module _ (timed : Type 0) (plan : Option AppendTable) (table : AppendTable) (found : Found) (end : UpdateEnd) (old new : DiskState) (ever : List LandingFile) (asked : IsFor plan table) (updated : Updated timed plan found end old new) (held : HoldsPresent found.landing ever) (honest : IsHonest old) (same : found.bytes ≡ file Left old.now) (standing : IsStanding table ever old) where
  now_standing : HasStanding table ever found.bytes
  now_standing = subst (HasStanding table ever) (sym same) (standing old.now honest)

  pub keeps_standing : IsStanding table ever new
  keeps_standing files leaves =
      let from = updated.leaves.settled files leaves in
      settled_stands plan table found updated.loaded updated.acked updated.tried end ever (file Left from.0) (file Left files) asked updated.updates updated.small held now_standing (standing from.0 from.1) from.2.changed

  moment_stands : timed → (k : ℕ) (files : TwoFiles) → old.moment + k ≤ new.moment → left_at new (old.moment + k) files → HasStanding table ever (file Left files)
  moment_stands tells k files before leaves =
      let from = (updated.leaves.each tells).each k files before leaves in
      any_stands ((k ≡ 0) ⊎ (end ≡ LoadFailed)) plan table found updated.loaded updated.acked updated.tried end ever (file Left from.0) (file Left files) asked updated.updates updated.small held now_standing (standing from.0 from.1) from.2.changed

  pub moments_standing : timed → (k : ℕ) (files : TwoFiles) → old.moment ≤ k → k ≤ new.moment → left_at new k files → HasStanding table ever (file Left files)
  moments_standing tells k files from to leaves =
      let later : old.moment + (k - old.moment) ≡ k = omega arith in
      moment_stands tells (k - old.moment) files (omega arith) (subst (λ moment. left_at new moment files) (sym later) leaves)
