use Rattle.std.proofs.Common.{◌≡◌, ◌++◌, drop, flat_map}
use Rattle.pair_store.specs.Store.{store_state}
use Rattle.store_commands.specs.Counted.{lines_in}
use Rattle.store_commands.proofs.measuring.put_all.Given as goal

abbrev pub invariant-loop-definition : goal.invariant-loop-definition
invariant-loop-definition l =
    let lines = lines_in (store_state l.store) in
    l.text.items ++ flat_map lines (drop l.definition-index l.definitions) ≡ l.fn.text.items ++ flat_map lines l.definitions
