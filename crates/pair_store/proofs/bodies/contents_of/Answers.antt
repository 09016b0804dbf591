use Rattle.std.proofs.Common.{rules, ◌≡◌, ◌<◌, ◌≤◌, ◌+◌, ◌^◌, true, length, ap, sym, subst, ◌∙◌, arith, refl}
use Rattle.commit_gate.specs.Log.{records}
use Rattle.pair_store.specs.Bodies.{TakesBody}
use Rattle.pair_state.specs.Leads.{IsUnfit}
use Rattle.pair_store.proofs.BodiesLemmas.{bodies_of, fits, next_place, leads_on, unfit_in}
use Rattle.pair_store.proofs.bodies.contents_of.Goals as goal

pub returns-then-not-branch : goal.returns-then-not-branch
returns-then-not-branch g c =
    let items = c.deref-body-items.result.now in
    let same : c.args.bodies ≡ bodies_of items = sym c.into_vec-bodies.ensures ∙ ap bodies_of (sym c.deref-body-items.ensures.value) in
    let within : c.loop-body.body-index < length items = search rules in
    let unfit : IsUnfit c.loop-body.contents c.body-item.result.items = search rules in
    (refl, unfit_in items c.loop-body.body-index c.body-item.result within c.body-item.is c.loop-body.at c.loop-body.contents c.args.bodies same c.loop-body.invariant.place c.loop-body.invariant.leads unfit)

pub overflow_add-at-in-loop-body : goal.overflow_add-at-in-loop-body
overflow_add-at-in-loop-body g c =
    let items = c.deref-body-items.result.now in
    let same : c.args.bodies ≡ bodies_of items = sym c.into_vec-bodies.ensures ∙ ap bodies_of (sym c.deref-body-items.ensures.value) in
    let within : c.loop-body.body-index < length items = search rules in
    let long : c.len.result ≡ length c.body-item.result.items = search rules in
    let short : 17 + length (records (bodies_of items)) ≤ 2 ^ 40 = subst (λ l. 17 + length (records l) ≤ 2 ^ 40) same c.requires in
    let small : c.loop-body.at + (9 + c.len.result) ≤ 2 ^ 40 = fits items c.loop-body.body-index c.body-item.result within c.body-item.is c.loop-body.at c.len.result c.loop-body.invariant.place long short in
    omega (arith, small)

pub loop-body-preserved : goal.loop-body-preserved
loop-body-preserved g c =
    let items = c.deref-body-items.result.now in
    let within : c.loop-body.body-index < length items = search rules in
    let long : c.len.result ≡ length c.body-item.result.items = search rules in
    let takes : TakesBody c.loop-body.contents c.take_body.new.contents c.body-item.result.items true = search rules in
    record {
      leads = leads_on items c.loop-body.body-index c.body-item.result within c.body-item.is c.loop-body.contents c.take_body.new.contents c.loop-body.invariant.leads takes;
      place = next_place items c.loop-body.body-index c.body-item.result within c.body-item.is c.loop-body.at c.len.result c.loop-body.invariant.place long;
    }
