use Rattle.pair_store.proofs.CompactLemmas.{base_writable, base_fits, folded_of}
use Rattle.pair_store.proofs.compact.folded.Goals as goal

pub framed-requires : goal.framed-requires
framed-requires g c = base_writable c.args.contents.now c.in_ok-base.base c.requires c.in_ok-base.ensures

pub put-requires-clause-fits : goal.put-requires-clause-fits
put-requires-clause-fits g c = base_fits c.args.contents.now c.new-anew.result c.in_ok-base.base c.requires c.in_ok-base.ensures c.new-anew.ensures

pub returns : goal.returns
returns g c = folded_of c.args.contents.now c.new-anew.result c.put.new.self c.in_ok-record.record c.in_ok-base.base c.in_ok-base.ensures c.in_ok-record.ensures.bytes c.in_ok-record.ensures.spelling c.in_ok-put.ensures.ok.0
