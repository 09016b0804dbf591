use Rattle.std.proofs.Common.{◌≡◌, drop}
use Rattle.update_run.specs.Folders.{folders_listed, has_folder}
use Rattle.update_run.proofs.listing.is_listed.Given as goal

-- it is among all where it is among those that are left
abbrev pub invariant-loop-known : goal.invariant-loop-known
invariant-loop-known l = has_folder (folders_listed (drop l.known-index l.listings)) l.dir ≡ has_folder (folders_listed l.listings) l.dir
