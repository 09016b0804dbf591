use Rattle.std.proofs.Common.{string_bytes, sym}
use Rattle.command_words.proofs.PartLemmas.{goes_on, is_cut, is_whole}
use Rattle.command_words.proofs.parts.count_before_then.Goals as goal

pub returns-then-eq-clause-cut : goal.returns-then-eq-clause-cut
returns-then-eq-clause-cut c within =
    (is_cut string_bytes c.args.words.now c.loop-i.i c.index-words-i.result c.loop-i-test.true c.index-words-i.is (sym (rw c.as_str.ensures.value at c.if-eq.ensures)) c.loop-i.invariant)

pub loop-i-preserved : goal.loop-i-preserved
loop-i-preserved c =
    (goes_on string_bytes c.args.words.now c.loop-i.i c.index-words-i.result c.loop-i-test.true c.index-words-i.is (sym (rw c.as_str.ensures.value at c.if-eq.ensures)) c.loop-i.invariant)

pub returns-clause-whole : goal.returns-clause-whole
returns-clause-whole c past = is_whole string_bytes c.args.words.now c.loop-i.i c.loop-i-test.false c.loop-i.invariant
