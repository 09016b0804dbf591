use Rattle.std.proofs.Common.{◌≡◌, ◌≤◌, drop}
use Rattle.update_run.specs.Folders.{FailOnly, folders_listed, folders_of, with_folders}
use Rattle.update_run.specs.Runs.{AreListings}
use Rattle.update_run.proofs.listing.list_flows.Given as goal

-- the folders so far and those of the flows that are left are all
abbrev pub invariant-loop-flow : goal.invariant-loop-flow
invariant-loop-flow g l =
    let f = g.L.Landing in
    record {
      folders : with_folders (folders_listed l.listings) (folders_of (drop l.flow-index l.flows)) ≡ with_folders (folders_listed l.initial.listings) (folders_of l.flows);
      whole : AreListings f.tells (f.present l.landing) l.listings;
      failed : FailOnly (f.faults l.initial.landing) (f.faults l.landing) l.initial.listings l.listings;
      present : f.tells → f.present l.landing ≡ f.present l.initial.landing;
      ever : f.tells → f.ever l.landing ≡ f.ever l.initial.landing;
      later : f.faults l.initial.landing ≤ f.faults l.landing;
    }
