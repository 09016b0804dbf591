-- What a load leaves has the bodies of what was there.
use Rattle.std.proofs.Common.{◌≡◌, ◌<◌, ◌^◌, inl, inr, List, [], ℕ, sym, subst}
use Rattle.disk_model.specs.declared.disk.Side.TheVariants.{Left}
use Rattle.disk_model.specs.declared.disk.Side.{Side}
use Rattle.disk_model.specs.Disk.{TwoFiles, file, other}
use Rattle.commit_gate.specs.Log.{HasBodies, IsLive, IsDead}
use Rattle.log_pair.specs.Pair.{HasPairBodies, HoldsIn}
use Rattle.log_pair.specs.Load.{IsKeptOrBegun}
use Rattle.log_pair.proofs.UniqueLemmas.{newest_of, newest_lives}

pub keeps_bodies : (was files : TwoFiles) (bodies : List (List ℕ)) → IsKeptOrBegun (Unit {0}) was files → HasPairBodies bodies was → HasPairBodies bodies files
keeps_bodies was files bodies (inl same) has = subst (HasPairBodies bodies) (sym same) has
keeps_bodies was files bodies (inr made) (inl held) = absurd (newest_lives was held.0 held.1 (newest_of was held.0 held.1 bodies held.2) made.0.dead)
keeps_bodies was files bodies (inr (was_begun, right, inl still)) (inr none) = inr (still, none.1)
keeps_bodies was files bodies (inr (was_begun, right, inr log)) (inr none) = inl (Left, 1, subst (λ b. HoldsIn Left 1 b files) (sym none.1) log.1)

-- a live log beside none
pub lone : (side : Side) (epoch : ℕ) (bodies : List (List ℕ)) (files : TwoFiles) → epoch < 2 ^ 64 → HasBodies epoch bodies (file side files) → IsDead (file (other side) files) → HoldsIn side epoch bodies files
lone side epoch bodies files fits has dead = record { fits = fits; contents = has; older = λ number small live. absurd (dead number live) }

pub empty : IsDead []
empty epoch live = let none : ⊥ = cc in none
