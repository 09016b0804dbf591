use Rattle.std.proofs.Common.{◌≡◌, ◌+◌, [], ◌∷◌, List, drop, sym, ap, ◌∙◌, subst, arith}
use Rattle.std.proofs.lemmas.List.{drop_all, drop_more}
use Rattle.plan_core.specs.declared.plan.Dataset.{Dataset as Part}
use Rattle.update_run.specs.Folders.{Differ, folders_in, folders_listed, folders_read, with_folders}
use Rattle.update_run.proofs.ListingLemmas.{all_listed, differ_with, listings_still, with_more}
use Rattle.update_run.proofs.listing.list_all.Goals as goal

pub loop-dataset-preserved : goal.loop-dataset-preserved
loop-dataset-preserved g c =
    let f = g.L.Landing in
    let plan = c.as_slice-dataset-items.result.now in
    let at = c.loop-dataset.dataset-index in
    let dataset = c.dataset-item.result in
    let before = c.loop-dataset.invariant in
    let next = c.in_ok-list_body.ensures in
    let parts : drop at plan ≡ dataset ∷ drop (at + 1) plan =
    drop_more plan at dataset c.loop-dataset-test.true ∙ ap (λ (first : Part). first ∷ drop (at + 1) plan) (sym c.dataset-item.is) in
    record {
      folders = with_more (folders_listed c.loop-dataset.listings) (folders_listed c.list_body.new.listings) (folders_read (drop at plan)) (folders_in dataset.body) (folders_read (drop (at + 1) plan))
          (with_folders [] (folders_read plan)) next.folders (ap folders_read parts) before.folders;
      whole = next.whole;
      failed = next.failed (f.faults c.args.landing.now) before.later before.failed;
      present = λ t. next.present t ∙ before.present t;
      ever = λ t. next.ever t ∙ before.ever t;
      later = omega (arith, next.later, before.later);
    }

pub returns-clause-once : goal.returns-clause-once
returns-clause-once g c =
    let items = c.as_slice-dataset-items.result.now in
    let listed = folders_listed c.loop-dataset.listings in
    let folders : listed ≡ with_folders [] (folders_read items) =
    ap (λ (left : List Part). with_folders listed (folders_read left)) (sym (drop_all c.loop-dataset.dataset-index items c.loop-dataset-test.false)) ∙ c.loop-dataset.invariant.folders in
    subst Differ (sym folders) (differ_with [] (folders_read items) tt)

pub returns-clause-listed : goal.returns-clause-listed
returns-clause-listed g c =
    let f = g.L.Landing in
    let items = c.as_slice-dataset-items.result.now in
    let plan = c.args.plan.now in
    let listed = folders_listed c.loop-dataset.listings in
    let before = c.loop-dataset.invariant in
    let folders : listed ≡ with_folders [] (folders_read plan) =
    ap (λ (left : List Part). with_folders listed (folders_read left)) (sym (drop_all c.loop-dataset.dataset-index items c.loop-dataset-test.false)) ∙ before.folders
    ∙ ap (λ (p : List Part). with_folders [] (folders_read p)) c.as_slice-dataset-items.ensures in
    all_listed f.tells (f.present c.args.landing.now) plan c.loop-dataset.listings folders
    (listings_still f.tells (f.present c.loop-dataset.landing) (f.present c.args.landing.now) before.present c.loop-dataset.listings before.whole)
