use Rattle.std.proofs.Common.{◌≡◌, take, ap, ◌∙◌}
use Rattle.store_tables.proofs.NameLemmas.{distinct-take}
use Rattle.store_tables.proofs.PartLemmas.{take-long, take-sides}
use Rattle.store_tables.proofs.contents.Contents.cut.Goals as goal

pub invariant_of-self : goal.invariant_of-self
invariant_of-self c =
    let list : c.from_vec.result ≡ take c.args.before c.self.inside.definitions =
    c.from_vec.ensures ∙ c.truncate.ensures.items ∙ ap (take c.args.before) (c.into_vec-items.ensures ∙ c.replace-list.ensures.value)
    in
    rw (list, c.truncate-2.ensures.items) (record {
      long = take-long c.args.before c.self.inside.definitions c.self.inside.parts.items c.self.invariant.long;
      distinct = distinct-take c.args.before c.self.inside.definitions c.self.invariant.distinct;
    })

pub returns : goal.returns
returns c =
    let list : c.from_vec.result ≡ take c.args.before c.self.inside.definitions =
    c.from_vec.ensures ∙ c.truncate.ensures.items ∙ ap (take c.args.before) (c.into_vec-items.ensures ∙ c.replace-list.ensures.value)
    in
    rw (list, c.truncate-2.ensures.items) (take-sides c.args.before c.self.inside.definitions c.self.inside.parts.items ∙ ap (take c.args.before) c.self.view_is)
