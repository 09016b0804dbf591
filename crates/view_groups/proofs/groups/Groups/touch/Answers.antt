use Rattle.std.proofs.Common.{ap, ◌∙◌, subst}
use Rattle.std.specs.Prelude.{map}
use Rattle.plan_core.specs.Sound.{is_empty}
use Rattle.view_groups.specs.Shares.{seen}
use Rattle.view_groups.specs.AllGroups.{GroupFrom}
use Rattle.view_groups.proofs.TouchLemmas.{touched, is_alone}
use Rattle.view_groups.proofs.groups.Groups.touch.Goals as goal

pub returns : goal.returns
returns c = touched c.args.query.now c.args.key.now (map seen c.args.out.now) (map seen c.args.more.now) c.args.self.now.map.entries c.take_or_new.new.map.entries c.put_back.new.map.entries
    c.in_ok-group.group c.patch.new.self c.is_empty-alone.result c.in_ok-before.before c.in_ok-after.after
    (c.is_empty-alone.ensures ∙ is_alone c.as_slice.result.now ∙ ap is_empty c.as_slice.ensures) c.in_ok-group.ensures.without
    (subst (λ items. GroupFrom items c.args.key.now c.args.self.now.map.entries c.in_ok-group.group) c.as_slice-2.ensures c.in_ok-group.ensures.group)
    c.in_ok-patch.ensures c.in_ok-put_back.ensures c.in_ok-before.ensures c.in_ok-after.ensures
