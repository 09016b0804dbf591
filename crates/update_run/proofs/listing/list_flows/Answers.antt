use Rattle.std.proofs.Common.{◌≡◌, ◌≤◌, ◌+◌, ◌∷◌, drop, sym, ap, ◌∙◌, arith}
use Rattle.std.proofs.lemmas.List.{drop_more}
use Rattle.plan_core.specs.declared.flow.AppendFlow.{AppendFlow}
use Rattle.update_run.specs.Folders.{folder_of, folders_listed, folders_of, with_folders}
use Rattle.update_run.proofs.ListingLemmas.{with_more}
use Rattle.update_run.proofs.listing.list_flows.Goals as goal

pub loop-flow-preserved : goal.loop-flow-preserved
loop-flow-preserved g c =
    let f = g.L.Landing in
    let flows = c.args.flows.now in
    let at = c.loop-flow.flow-index in
    let flow = c.flow-item.result in
    let before = c.loop-flow.invariant in
    let next = c.in_ok-list_origin.ensures in
    let parts : drop at flows ≡ flow ∷ drop (at + 1) flows =
    drop_more flows at flow c.loop-flow-test.true ∙ ap (λ (first : AppendFlow). first ∷ drop (at + 1) flows) (sym c.flow-item.is) in
    record {
      folders = with_more (folders_listed c.loop-flow.listings) (folders_listed c.list_origin.new.listings) (folders_of (drop at flows)) (folder_of flow.origin) (folders_of (drop (at + 1) flows))
          (with_folders (folders_listed c.args.listings.now) (folders_of flows)) next.folders (ap folders_of parts) before.folders;
      whole = next.whole;
      failed = λ was from all.
          let later : was ≤ f.faults c.loop-flow.landing = omega (arith, from, before.later) in
          next.failed was later (before.failed was from all);
      present = λ t. next.present t ∙ before.present t;
      ever = λ t. next.ever t ∙ before.ever t;
      later = omega (arith, next.later, before.later);
    }
