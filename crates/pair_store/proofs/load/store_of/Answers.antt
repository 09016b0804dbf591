use Rattle.std.proofs.Common.{arith}
use Rattle.commit_gate.proofs.LoadLemmas.{log_length}
use Rattle.log_pair.specs.AtRest.{pair_epoch}
use Rattle.pair_store.proofs.load.store_of.Goals as goal

pub contents_of-requires : goal.contents_of-requires
contents_of-requires g c = omega (arith, c.requires, log_length (pair_epoch c.args.pair) c.args.bodies)
