-- The folders of a plan were listed, each once.
use Rattle.std.proofs.Common.{◌≡◌, ◌≢◌, ◌⊎◌, inl, inr, ℕ, zero, suc, ◌≤◌, List, [], ◌∷◌, ◌++◌, Bool, true, false, ◌||◌, cond, Some, refl, sym, ◌∙◌, ap, subst, arith}
use Rattle.std.specs.Prelude.{slice_get, unwrap_or}
use Rattle.std.specs.List.{AllByRecursion}
use Rattle.std.specs.Str.{bytes_eq}
use Rattle.std.proofs.lemmas.List.Folds.{list_any-append}
use Rattle.std.proofs.lemmas.Slice.Eq.{bytes_eq-Decides}
use Rattle.landing_core.specs.declared.landing.LandingFile.{LandingFile}
use Rattle.landing_core.specs.Folders.{AreThere, listing_of}
use Rattle.plan_core.specs.declared.flow.AppendFlow.{AppendFlow}
use Rattle.plan_core.specs.declared.flow.Origin.{Origin}
use Rattle.plan_core.specs.declared.flow.Origin.TheVariants as origin
use Rattle.plan_core.specs.declared.plan.Body.TheVariants as body
use Rattle.plan_core.specs.declared.plan.Dataset.{Dataset as Part}
use Rattle.flow_news.specs.declared.offer.FolderListing.{FolderListing}
use Rattle.flow_news.specs.declared.offer.FolderListing.TheVariants as folder
use Rattle.flow_news.specs.News.{IsListing, IsListingFor}
use Rattle.flow_engine.specs.declared.listings.FolderOf.{FolderOf}
use Rattle.flow_engine.specs.Flows.{AreListed, listing_for, listing_in}
use Rattle.update_run.specs.Folders.{AreBlamed, Differ, FailOnly, HasFailedWithin, folder_of, folders_in, folders_listed, folders_of, folders_read, has_folder, with_folder, with_folders}
use Rattle.update_run.specs.Runs.{AllListed, AreListings, IsListedAs, IsListedFor}

-- ---- which folders

same_dir : (a b : List ℕ) → bytes_eq a b ≡ true → a ≡ b
same_dir a b e = (bytes_eq-Decides a b).0 e

itself : (a : List ℕ) → bytes_eq a a ≡ true
itself a = (bytes_eq-Decides a a).1 refl

or_left : (a b : Bool) → a ≡ true → (a || b) ≡ true
or_left true b e = refl
or_left false b e = absurd (cc e)

or_right : (a b : Bool) → b ≡ true → (a || b) ≡ true
or_right true b e = refl
or_right false b e = e

or_either : (a b : Bool) → (a || b) ≡ true → (a ≡ true) ⊎ (b ≡ true)
or_either true b e = inl refl
or_either false b e = inr e

pub with_folders_both : (known one more : List (List ℕ)) → with_folders known (one ++ more) ≡ with_folders (with_folders known one) more
with_folders_both known [] more = refl
with_folders_both known (dir ∷ one) more = with_folders_both (with_folder known dir) one more

-- one list of folders more
pub with_more : (known new : List (List ℕ)) (left one rest all : List (List ℕ)) → new ≡ with_folders known one → left ≡ one ++ rest → with_folders known left ≡ all → with_folders new rest ≡ all
with_more known new left one rest all grown parts whole =
    ap (λ (dirs : List (List ℕ)). with_folders dirs rest) grown ∙ sym (with_folders_both known one rest) ∙ ap (λ (dirs : List (List ℕ)). with_folders known dirs) (sym parts) ∙ whole

has_front : (known more : List (List ℕ)) (dir : List ℕ) → has_folder known dir ≡ true → has_folder (known ++ more) dir ≡ true
has_front known more dir has = list_any-append (λ other. bytes_eq other dir) known more ∙ or_left (has_folder known dir) (has_folder more dir) has

has_last : (known : List (List ℕ)) (dir : List ℕ) → has_folder (known ++ dir ∷ []) dir ≡ true
has_last known dir =
    list_any-append (λ other. bytes_eq other dir) known (dir ∷ []) ∙ or_right (has_folder known dir) (has_folder (dir ∷ []) dir) (or_left (bytes_eq dir dir) false (itself dir))

-- what is known stays so behind one more folder, which is known then
kept_by : (known : List (List ℕ)) (new dir : List ℕ) (test : Bool) → has_folder known dir ≡ true → has_folder (cond test known (known ++ new ∷ [])) dir ≡ true
kept_by known new dir true has = has
kept_by known new dir false has = has_front known (new ∷ []) dir has

there_by : (known : List (List ℕ)) (dir : List ℕ) (test : Bool) → has_folder known dir ≡ test → has_folder (cond test known (known ++ dir ∷ [])) dir ≡ true
there_by known dir true has = has
there_by known dir false has = has_last known dir

kept : (known dirs : List (List ℕ)) (dir : List ℕ) → has_folder known dir ≡ true → has_folder (with_folders known dirs) dir ≡ true
kept known [] dir has = has
kept known (new ∷ dirs) dir has = kept (with_folder known new) dirs dir (kept_by known new dir (has_folder known new) has)

there : (known dirs : List (List ℕ)) (dir : List ℕ) → has_folder dirs dir ≡ true → has_folder (with_folders known dirs) dir ≡ true
there known [] dir has = absurd (cc has)
there known (new ∷ dirs) dir has =
    elim (or_either (bytes_eq new dir) (has_folder dirs dir) has) [
      | inl same ↦ kept (with_folder known new) dirs dir
          (subst (λ (d : List ℕ). has_folder (with_folder known new) d ≡ true) (same_dir new dir same) (there_by known new (has_folder known new) refl))
      | inr later ↦ there (with_folder known new) dirs dir later
    ]

-- ---- no two are one

apart_from : (dirs : List (List ℕ)) (dir : List ℕ) → has_folder dirs dir ≡ false → AllByRecursion (λ (other : List ℕ). other ≢ dir) dirs
apart_from [] dir none = tt
apart_from (other ∷ dirs) dir none = (λ same. first_apart same, apart_from dirs dir (or_none (bytes_eq other dir) (has_folder dirs dir) none)) where
  or_none : (a b : Bool) → (a || b) ≡ false → b ≡ false
  or_none true b e = absurd (cc e)
  or_none false b e = e

  or_first : (a b : Bool) → (a || b) ≡ false → a ≡ false
  or_first true b e = absurd (cc e)
  or_first false b e = refl

  first_apart : other ≡ dir → ⊥
  first_apart same =
      let no : bytes_eq other dir ≡ false = or_first (bytes_eq other dir) (has_folder dirs dir) none in
      let so : bytes_eq other dir ≡ true = (bytes_eq-Decides other dir).1 same in
      absurd (cc (sym no ∙ so))

all_last : (P : List ℕ → Type 0) (dirs : List (List ℕ)) (dir : List ℕ) → AllByRecursion P dirs → P dir → AllByRecursion P (dirs ++ dir ∷ [])
all_last P [] dir all last = (last, tt)
all_last P (first ∷ dirs) dir all last = (all.0, all_last P dirs dir all.1 last)

differ_last : (dirs : List (List ℕ)) (dir : List ℕ) → Differ dirs → AllByRecursion (λ (other : List ℕ). other ≢ dir) dirs → Differ (dirs ++ dir ∷ [])
differ_last [] dir differ apart = (tt, tt)
differ_last (first ∷ dirs) dir differ apart = (all_last (λ (other : List ℕ). first ≢ other) dirs dir differ.0 apart.0, differ_last dirs dir differ.1 apart.1)

differ_by : (known : List (List ℕ)) (dir : List ℕ) (test : Bool) → has_folder known dir ≡ test → Differ known → Differ (cond test known (known ++ dir ∷ []))
differ_by known dir true has differ = differ
differ_by known dir false has differ = differ_last known dir differ (apart_from known dir has)

pub differ_with : (known dirs : List (List ℕ)) → Differ known → Differ (with_folders known dirs)
differ_with known [] differ = differ
differ_with known (dir ∷ dirs) differ = differ_with (with_folder known dir) dirs (differ_by known dir (has_folder known dir) refl differ)

-- ---- each flow's folder is read

read_by_flows : (flows : List AppendFlow) (place : ℕ) (flow : AppendFlow) (dir : List ℕ) → slice_get flows place ≡ Some flow → folder_of flow.origin ≡ dir ∷ [] → has_folder (folders_of flows) dir ≡ true
read_by_flows [] place flow dir found reads = absurd (cc found)
read_by_flows (first ∷ flows) zero flow dir found reads =
    let same : first ≡ flow = ap (λ o. unwrap_or o first) found in
    let here : folder_of first.origin ≡ dir ∷ [] = ap (λ (f : AppendFlow). folder_of f.origin) same ∙ reads in
    has_front (folder_of first.origin) (folders_of flows) dir
    (ap (λ (dirs : List (List ℕ)). has_folder dirs dir) here ∙ or_left (bytes_eq dir dir) false (itself dir))
read_by_flows (first ∷ flows) (suc place) flow dir found reads =
    list_any-append (λ other. bytes_eq other dir) (folder_of first.origin) (folders_of flows)
    ∙ or_right (has_folder (folder_of first.origin) dir) (has_folder (folders_of flows) dir) (read_by_flows flows place flow dir found reads)

read_by_plan : (plan : List Part) (place : ℕ) (dataset : Part) (flows : List AppendFlow) (dir : List ℕ) → slice_get plan place ≡ Some dataset → dataset.body ≡ body.Append flows → has_folder (folders_of flows) dir ≡ true
    → has_folder (folders_read plan) dir ≡ true
read_by_plan [] place dataset flows dir found appends reads = absurd (cc found)
read_by_plan (first ∷ plan) zero dataset flows dir found appends reads =
    let same : first ≡ dataset = ap (λ o. unwrap_or o first) found in
    let here : folders_in first.body ≡ folders_of flows = ap (λ (d : Part). folders_in d.body) same ∙ ap folders_in appends in
    has_front (folders_in first.body) (folders_read plan) dir (ap (λ (dirs : List (List ℕ)). has_folder dirs dir) here ∙ reads)
read_by_plan (first ∷ plan) (suc place) dataset flows dir found appends reads =
    list_any-append (λ other. bytes_eq other dir) (folders_in first.body) (folders_read plan)
    ∙ or_right (has_folder (folders_in first.body) dir) (has_folder (folders_read plan) dir) (read_by_plan plan place dataset flows dir found appends reads)

-- ---- each folder that is read was listed

module _ (tells : Type 0) (files : List LandingFile) where
  listed_by : (first : FolderOf) (more : List FolderOf) (dir : List ℕ) (test : Bool) → bytes_eq first.dir dir ≡ test → IsListedAs tells first.dir files first.listing
      → (has_folder (folders_listed more) dir ≡ true → IsListedAs tells dir files (listing_in more dir))
      → (test || has_folder (folders_listed more) dir) ≡ true → IsListedAs tells dir files (cond test first.listing (listing_in more dir))
  listed_by first more dir true same is later has = subst (λ (d : List ℕ). IsListedAs tells d files first.listing) (same_dir first.dir dir same) is
  listed_by first more dir false same is later has = later has

  found_listed : (listings : List FolderOf) (dir : List ℕ) → AreListings tells files listings → has_folder (folders_listed listings) dir ≡ true → IsListedAs tells dir files (listing_in listings dir)
  found_listed [] dir whole has = absurd (cc has)
  found_listed (first ∷ more) dir whole has = listed_by first more dir (bytes_eq first.dir dir) refl whole.0 (found_listed more dir whole.1) has

  listed_for : (listings : List FolderOf) (from : Origin) → AreListings tells files listings → ((dir : List ℕ) → folder_of from ≡ dir ∷ [] → has_folder (folders_listed listings) dir ≡ true) → IsListedFor tells from files (listing_for listings from)
  listed_for listings (origin.Files dir shape) whole has = found_listed listings dir whole (has dir refl)
  listed_for listings (origin.Table name) whole has = tt

  pub all_listed : (plan : List Part) (listings : List FolderOf) → folders_listed listings ≡ with_folders [] (folders_read plan) → AreListings tells files listings → AllListed tells plan files listings
  all_listed plan listings folders whole id dataset flow at =
      listed_for listings flow.origin whole (λ dir reads.
      ap (λ (dirs : List (List ℕ)). has_folder dirs dir) folders
      ∙ there [] (folders_read plan) dir (read_by_plan plan id.dataset dataset at.flows dir at.dataset_is at.appends (read_by_flows at.flows id.flow flow dir at.flow_is reads)))

-- ---- what was listed stays listed

module _ (tells : Type 0) (files others : List LandingFile) (same : tells → files ≡ others) where
  pub listing_still : (dir : List ℕ) (listing : FolderListing) → IsListedAs tells dir files listing → IsListedAs tells dir others listing
  listing_still dir (folder.Files listing) is = record {
    ascending = is.ascending;
    listing_is = λ t. subst (λ (f : List LandingFile). listing ≡ listing_of dir f) (same t) (is.listing_is t);
    there = λ t. subst (λ (f : List LandingFile). AreThere dir f listing) (same t) (is.there t);
  }
  listing_still dir (folder.Failed before after) is = is
  listing_still dir folder.NoFolder is = is

  pub listings_still : (listings : List FolderOf) → AreListings tells files listings → AreListings tells others listings
  listings_still [] whole = tt
  listings_still (first ∷ more) whole = (listing_still first.dir first.listing whole.0, listings_still more whole.1)

  -- and can be read by
  readable_by : (dir : List ℕ) (listing : FolderListing) → IsListedAs tells dir files listing → IsListing tells dir others listing
  readable_by dir (folder.Files listing) is = (is.ascending, λ t. subst (λ (f : List LandingFile). AreThere dir f listing) (same t) (is.there t))
  readable_by dir (folder.Failed before after) is = tt
  readable_by dir folder.NoFolder is = is

  readable_for : (from : Origin) (listing : FolderListing) → IsListedFor tells from files listing → IsListingFor tells from others listing
  readable_for (origin.Files dir shape) listing is = readable_by dir listing is
  readable_for (origin.Table name) listing is = tt

  pub are_readable : (plan : List Part) (listings : List FolderOf) → AllListed tells plan files listings → AreListed tells plan others listings
  are_readable plan listings all id dataset flow at = readable_for flow.origin (listing_for listings flow.origin) (all id dataset flow at)

  still_by : (dir : List ℕ) (listing : FolderListing) → IsListing tells dir files listing → IsListing tells dir others listing
  still_by dir (folder.Files listing) is = (is.0, λ t. subst (λ (f : List LandingFile). AreThere dir f listing) (same t) (is.1 t))
  still_by dir (folder.Failed before after) is = tt
  still_by dir folder.NoFolder is = is

  still_for : (from : Origin) (listing : FolderListing) → IsListingFor tells from files listing → IsListingFor tells from others listing
  still_for (origin.Files dir shape) listing is = still_by dir listing is
  still_for (origin.Table name) listing is = tt

  pub still_readable : (plan : List Part) (listings : List FolderOf) → AreListed tells plan files listings → AreListed tells plan others listings
  still_readable plan listings all id dataset flow at = still_for flow.origin (listing_for listings flow.origin) (all id dataset flow at)

-- ---- one more

pub one_more : {X : Type 0} (P : X → Type 0) (xs : List X) (x : X) → AllByRecursion P xs → P x → AllByRecursion P (xs ++ x ∷ [])
one_more P [] x all last = (last, tt)
one_more P (first ∷ xs) x all last = (all.0, one_more P xs x all.1 last)

-- ---- whom failed listings blame

within_more : (was before now : ℕ) (listing : FolderListing) → before ≤ now → HasFailedWithin was before listing → HasFailedWithin was now listing
within_more was before now (folder.Failed first last) later is = (is.0, is.1, omega (arith, is.2))
within_more was before now (folder.Files listing) later is = tt
within_more was before now folder.NoFolder later is = tt

pub blamed_more : (was before now : ℕ) (listings : List FolderOf) → before ≤ now → AreBlamed was before listings → AreBlamed was now listings
blamed_more was before now [] later all = tt
blamed_more was before now (first ∷ more) later all = (within_more was before now first.listing later all.0, blamed_more was before now more later all.1)

pub within_less : (was before now : ℕ) (listing : FolderListing) → was ≤ before → HasFailedWithin before now listing → HasFailedWithin was now listing
within_less was before now (folder.Failed first last) later is = (omega (arith, is.0), is.1, is.2)
within_less was before now (folder.Files listing) later is = tt
within_less was before now folder.NoFolder later is = tt

pub fail_only_more : (before now : ℕ) (listings : List FolderOf) (one : FolderOf) → before ≤ now → HasFailedWithin before now one.listing → FailOnly before now listings (listings ++ one ∷ [])
fail_only_more before now listings one later is was from all =
    one_more (λ (known : FolderOf). HasFailedWithin was now known.listing) listings one (blamed_more was before now listings later all) (within_less was before now one.listing from is)
