use Rattle.std.proofs.Common.{◌≡◌, ◌+◌, ◌-◌, ◌≤◌, ◌++◌, [], length, min}
use Rattle.std.specs.Prelude.{slice_range}
use Rattle.landing_core.specs.Folders.{bytes_of}
use Rattle.landing_core.specs.Lines.{rows_from, complete_len}
use Rattle.landing_core.specs.Pieces.{end_from}
use Rattle.landing_core.proofs.reading.read_lines.Given as goal

abbrev pub decreases-loop-at : goal.decreases-loop-at
decreases-loop-at g l = l.listed.size - l.at

abbrev pub invariant-loop-at : goal.invariant-loop-at
invariant-loop-at g l =
    let device = g.L.Landing in
    let bytes = bytes_of l.dir l.listed.file (device.present l.initial.landing) in
    let left = slice_range bytes l.at l.listed.size in
    let rows = rows_from l.reading.format l.reading.head l.reading.number in
    record {
      from : l.place ≤ l.at;
      to : l.at ≤ l.listed.size;
      buffer : length l.buffer ≡ min 65536 (l.listed.size - l.place);
      at : l.begun.start + length l.begun.bytes.items ≡ l.at;
      later : l.place ≤ l.begun.start;
      present : device.tells → device.present l.landing ≡ device.present l.initial.landing;
      ever : device.tells → device.ever l.landing ≡ device.ever l.initial.landing;
      lines : device.tells → l.lines ++ rows l.begun.start l.begun.bytes.items left ≡ l.initial.lines ++ rows l.place [] (slice_range bytes l.place l.listed.size);
      end : device.tells → end_from l.begun left ≡ l.place + complete_len (slice_range bytes l.place l.listed.size);
      faults : device.faults l.landing ≡ device.faults l.initial.landing;
    }
