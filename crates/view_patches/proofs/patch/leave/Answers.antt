use Rattle.std.proofs.Common.{refl}
use Rattle.view_patches.proofs.PatchLemmas.{share_left}
use Rattle.view_patches.proofs.patch.leave.Goals as goal

pub returns : goal.returns
returns c = share_left c.args.patches.now.entries c.take_or_new-patch.new.patches.entries c.insert.new.self.entries c.take_or_new-patch.result (record { out = c.push.new.self; more = c.take_or_new-patch.result.more }) c.in_ok-key.key c.args.share c.in_ok-key.ensures
    c.take_or_new-patch.ensures.without c.take_or_new-patch.ensures.patch c.in_ok-push.ensures.items refl c.in_ok-insert.ensures.updates.0
