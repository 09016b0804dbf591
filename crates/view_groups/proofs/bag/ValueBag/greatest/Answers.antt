use Rattle.std.proofs.Common.{◌≡◌, [], sym, ap, ◌∙◌}
use Rattle.flow_model.specs.Views as views
use Rattle.view_groups.proofs.CountLemmas.{greatest_found, no_values, found}
use Rattle.view_groups.proofs.bag.ValueBag.greatest.Goals as goal

pub returns-in-Some : goal.returns-in-Some
returns-in-Some c = found c.copy.result _ _ c.copy.ensures (λ a e values counts. e ∙ greatest_found c.args.self.now.times.entries c.in-Some.value.now _ c.in-Some.ensures.value c.in-Some.ensures.greatest values counts)

pub returns-in-None : goal.returns-in-None
returns-in-None c = λ values counts. let e : values ≡ [] = no_values c.args.self.now.times.entries (λ k. let f = c.in-None.ensures.variant.1 k in cc) values counts in sym (ap views.greatest e)
