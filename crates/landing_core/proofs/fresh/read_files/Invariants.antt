use Rattle.std.proofs.Common.{◌≡◌, ◌++◌, drop, None}
use Rattle.landing_core.specs.Folders.{AreThere}
use Rattle.landing_core.specs.Fresh.{heads_of, new_lines, reach_from, reach, shrunk}
use Rattle.landing_core.specs.Names.{AreAscending}
use Rattle.landing_core.specs.Places.{AreAboveZero, NoneFalls, placed_names}
use Rattle.landing_core.proofs.fresh.read_files.Given as goal

abbrev pub invariant-loop-k : goal.invariant-loop-k
invariant-loop-k g l =
    let device = g.L.Landing in
    let files = device.present l.initial.landing in
    let behind = drop l.k l.listing in
    let format = l.form.format in
    let header = l.form.header in
    record {
      present : device.tells → device.present l.landing ≡ files;
      ever : device.tells → device.ever l.landing ≡ device.ever l.initial.landing;
      there : device.tells → AreThere l.dir files behind;
      unshrunk : shrunk l.cursor behind ≡ None;
      heads : device.tells → l.fresh.heads ++ heads_of format header l.dir files behind ≡ heads_of format header l.dir files l.listing;
      lines : device.tells → l.fresh.lines ++ new_lines format header l.dir files l.cursor l.k behind ≡ new_lines format header l.dir files l.cursor 0 l.listing;
      places : device.tells → reach_from l.dir files l.cursor l.fresh.places.items behind ≡ reach l.dir files l.cursor l.listing;
      ascending : AreAscending (placed_names l.fresh.places.items);
      above_zero : AreAboveZero l.fresh.places.items;
      later : NoneFalls l.cursor l.fresh.places.items;
      faults : device.faults l.landing ≡ device.faults l.initial.landing;
    }
