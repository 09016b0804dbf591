use Rattle.std.proofs.Common.{◌≡◌, ◌++◌, take, drop}
use Rattle.landing_core.specs.Folders.{with_file}
use Rattle.landing_core.proofs.sure_landing.set_file.Given as goal

abbrev pub invariant-loop-i : goal.invariant-loop-i
invariant-loop-i l =
    record {
      same : l.files.items ≡ l.initial.files.items;
      so_far : take l.i l.files.items ++ with_file l.dir l.name l.bytes (drop l.i l.files.items) ≡ with_file l.dir l.name l.bytes l.initial.files.items;
    }
