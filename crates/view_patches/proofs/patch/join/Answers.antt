use Rattle.std.proofs.Common.{refl}
use Rattle.view_patches.proofs.PatchLemmas.{share_joined}
use Rattle.view_patches.proofs.patch.join.Goals as goal

pub returns : goal.returns
returns c = share_joined c.args.patches.now.entries c.take_or_new-patch.new.patches.entries c.insert.new.self.entries c.take_or_new-patch.result (record { out = c.take_or_new-patch.result.out; more = c.push.new.self }) c.in_ok-key.key c.args.share c.in_ok-key.ensures
    c.take_or_new-patch.ensures.without c.take_or_new-patch.ensures.patch refl c.in_ok-push.ensures.items c.in_ok-insert.ensures.updates.0
