-- The epoch of a store that is loaded.
use Rattle.std.proofs.Common.{◌≡◌, inl, inr, ℕ, List, subst, sym}
use Rattle.disk_model.specs.declared.disk.Side.{Side}
use Rattle.disk_model.specs.Disk.{TwoFiles}
use Rattle.log_pair.specs.AtRest.{pair_epoch, pair_side}
use Rattle.log_pair.specs.Pair.{HasPairBodies, IsNewest, IsUnbegun}
use Rattle.log_pair.specs.declared.pair.Pair.{Pair}
use Rattle.log_pair.proofs.UniqueLemmas.{newest_of}
use Rattle.command_ends.specs.Loads.{HasEpoch}

-- a pair has the epoch of the bodies that are loaded, and the first one where there were none
pub epoch_of_bodies : (files : TwoFiles) (bodies : List (List ℕ)) (pair : Pair)
    → (IsUnbegun files → pair_epoch pair ≡ 1)
    → ((side : Side) (epoch : ℕ) → IsNewest side epoch files → (pair_side pair ≡ side) × (pair_epoch pair ≡ epoch))
    → HasPairBodies bodies files → HasEpoch files (pair_epoch pair)
epoch_of_bodies files bodies pair first same (inl (side, epoch, holds)) =
    let newest = newest_of files side epoch bodies holds in
    inl (side, subst (λ number. IsNewest side number files) (sym (same side epoch newest).1) newest)
epoch_of_bodies files bodies pair first same (inr (unbegun, none)) = inr (unbegun, first unbegun)
