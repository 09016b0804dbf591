use Rattle.std.proofs.Common.{◌≡◌, ℕ, List, sym, subst, ◌∙◌}
use Rattle.flow_engine.specs.declared.listings.FolderOf.{FolderOf}
use Rattle.update_run.specs.Folders.{FailOnly}
use Rattle.update_run.specs.Runs.{AreListings, IsListedAs}
use Rattle.update_run.proofs.ListingLemmas.{fail_only_more, listing_still, listings_still, one_more}
use Rattle.update_run.proofs.listing.list_other.Goals as goal

pub returns-clause-whole : goal.returns-clause-whole
returns-clause-whole g c =
    let f = g.L.Landing in
    let old = f.present c.args.landing.now in
    let new = f.present c.list_one.new.landing in
    let one : FolderOf = record { dir = c.in_ok-dir.dir; listing = c.in_ok-listing.listing } in
    let same : f.tells → old ≡ new = λ t. sym (c.in_ok-listing.ensures.present t) in
    let is : IsListedAs f.tells c.in_ok-dir.dir new c.in_ok-listing.listing =
    listing_still f.tells old new same c.in_ok-dir.dir c.in_ok-listing.listing (subst (λ (dir : List ℕ). IsListedAs f.tells dir old c.in_ok-listing.listing) (c.as_str.ensures ∙ sym c.in_ok-dir.ensures) c.in_ok-listing.ensures.listed) in
    subst (AreListings f.tells new) (sym c.in_ok-push.ensures.ok)
    (one_more (λ (known : FolderOf). IsListedAs f.tells known.dir new known.listing) c.args.listings.now one (listings_still f.tells old new same c.args.listings.now c.requires.whole) is)

pub returns-clause-failed : goal.returns-clause-failed
returns-clause-failed g c =
    let f = g.L.Landing in
    let before = f.faults c.args.landing.now in
    let now = f.faults c.list_one.new.landing in
    let one : FolderOf = record { dir = c.in_ok-dir.dir; listing = c.in_ok-listing.listing } in
    subst (λ (listings : List FolderOf). FailOnly before now c.args.listings.now listings) (sym c.in_ok-push.ensures.ok)
    (fail_only_more before now c.args.listings.now one c.in_ok-listing.ensures.later c.in_ok-listing.ensures.failed)
