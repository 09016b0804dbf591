use Rattle.std.proofs.Common.{◌≡◌, ◌≤◌, [], drop}
use Rattle.update_run.specs.Folders.{AreBlamed, folders_listed, folders_read, with_folders}
use Rattle.update_run.specs.Runs.{AreListings}
use Rattle.update_run.proofs.listing.list_all.Given as goal

-- the folders so far and those of the datasets that are left are all
abbrev pub invariant-loop-dataset : goal.invariant-loop-dataset
invariant-loop-dataset g l =
    let f = g.L.Landing in
    record {
      folders : with_folders (folders_listed l.listings) (folders_read (drop l.dataset-index l.dataset-items)) ≡ with_folders [] (folders_read l.dataset-items);
      whole : AreListings f.tells (f.present l.landing) l.listings;
      failed : AreBlamed (f.faults l.initial.landing) (f.faults l.landing) l.listings;
      present : f.tells → f.present l.landing ≡ f.present l.initial.landing;
      ever : f.tells → f.ever l.landing ≡ f.ever l.initial.landing;
      later : f.faults l.initial.landing ≤ f.faults l.landing;
    }
