use Rattle.std.proofs.lemmas.Str.{is_utf8-from_IsUtf8}
use Rattle.segment_rows.proofs.TextLemmas.{if_ok}
use Rattle.segment_rows.proofs.text.put_bytes.Goals as goal

pub returns-clause-range : goal.returns-clause-range
returns-clause-range c = if_ok c.extend_from_slice.result ((rw c.as_bytes-bytes.ensures.value at c.in_ok-put.ensures.range), is_utf8-from_IsUtf8 c.args.text.now c.utf8.text)
