use Rattle.std.proofs.Common.{◌≡◌, true, ◌∙◌, sym, arith}
use Rattle.std.proofs.lemmas.List.{get_or_default}
use Rattle.landing_core.specs.Folders.{is_at}
use Rattle.landing_core.proofs.KeepLemmas.{set_here}
use Rattle.landing_core.proofs.sure_landing.set_file.Goals as goal

pub returns-then-stands_at-clause-ok : goal.returns-then-stands_at-clause-ok
returns-then-stands_at-clause-ok c =
    let here : is_at c.args.dir.now c.args.name.now c.index.result.now ≡ true = sym c.if-stands_at.ensures in
    let same : c.index_mut.result.now ≡ c.index.result.now = c.index_mut.ensures.value ∙ get_or_default c.loop-i.files.items c.loop-i.i c.index_mut.result.now c.index.result.now (omega arith) ∙ sym c.index.ensures in
    rw same (set_here c.args.dir.now c.args.name.now c.args.bytes c.loop-i.files.items _ c.loop-i.i c.index.result.now (omega arith) c.index.ensures here c.loop-i.invariant.so_far)
