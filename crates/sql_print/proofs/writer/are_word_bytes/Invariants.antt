use Rattle.std.proofs.Common.{◌≡◌, ◌||◌, ◌==◌, length}
use Rattle.std.specs.Char.{is_ascii_alphanumeric}
use Rattle.std.specs.List.{list_all}
use Rattle.sql_print.proofs.writer.are_word_bytes.Given as goal

abbrev pub invariant-loop-bytes : goal.invariant-loop-bytes
invariant-loop-bytes l = list_all (λ c. is_ascii_alphanumeric c || c == 95) l.bytes ≡ list_all (λ c. is_ascii_alphanumeric c || c == 95) l.initial.bytes

abbrev pub decreases-loop-bytes : goal.decreases-loop-bytes
decreases-loop-bytes l = length l.bytes
