use Rattle.std.proofs.Common.{◌≡◌, ◌++◌, take, drop}
use Rattle.landing_core.specs.Folders.{without_file, found_file}
use Rattle.landing_core.proofs.sure_landing.take_away.Given as goal

abbrev pub invariant-loop-i : goal.invariant-loop-i
invariant-loop-i l =
    let behind = drop l.i l.files.items in
    (take l.i l.files.items ++ without_file l.dir l.name behind ≡ without_file l.dir l.name l.initial.files.items) × (found_file l.dir l.name behind ≡ found_file l.dir l.name l.initial.files.items)
