use Rattle.std.proofs.Common.{◌≡◌, ◌≤◌}
use Rattle.store_folding.proofs.ReaderLemmas.{due_is_kept}
use Rattle.store_folding.proofs.readers.base_of.Goals as goal

pub returns-clause-kept : goal.returns-clause-kept
returns-clause-kept c = rw (c.max.ensures, c.base.ensures.base, c.least_reader-least.ensures, c.now.ensures.now) (due_is_kept c.args.contents.now c.args.name.now c.args.table.now)
