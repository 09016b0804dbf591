use Rattle.std.proofs.Common.{◌≡◌, ◌+◌, ◌-◌, ◌≤◌, length, min, true}
use Rattle.std.specs.Prelude.{slice_range}
use Rattle.value_core.specs.declared.cursor.Format.TheVariants.{Csv}
use Rattle.landing_core.specs.Folders.{bytes_of}
use Rattle.landing_core.specs.Fresh.{head_in}
use Rattle.landing_core.specs.Pieces.{first_from}
use Rattle.landing_core.proofs.heads.read_head.Given as goal

abbrev pub decreases-loop-at : goal.decreases-loop-at
decreases-loop-at g l = l.listed.size - l.at

abbrev pub invariant-loop-at : goal.invariant-loop-at
invariant-loop-at g l =
    let device = g.L.Landing in
    let files = device.present l.initial.landing in
    let bytes = bytes_of l.dir l.listed.file files in
    record {
      to : l.at ≤ l.listed.size;
      buffer : length l.buffer ≡ min 4096 l.listed.size;
      at : l.begun.start + length l.begun.bytes.items ≡ l.at;
      present : device.tells → device.present l.landing ≡ files;
      ever : device.tells → device.ever l.landing ≡ device.ever l.initial.landing;
      head : device.tells → first_from l.begun (slice_range bytes l.at l.listed.size) ≡ head_in Csv true l.dir files l.listed;
      faults : device.faults l.landing ≡ device.faults l.initial.landing;
    }
