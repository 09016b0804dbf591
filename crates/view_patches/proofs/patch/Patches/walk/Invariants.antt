use Rattle.std.specs.Prelude.{◌≡◌, ◌+◌, length}
use Rattle.std.specs.Map.{keys_of}
use Rattle.view_patches.proofs.TouchLemmas.{Walks}
use Rattle.view_patches.proofs.patch.Patches.walk.Given as goal

abbrev pub invariant-loop-key : goal.invariant-loop-key
invariant-loop-key g l = record {
  walks : Walks l.query l.back l.self.map.entries l.key-iterator l.initial.groups l.groups l.sides;
  looks : l.steps + length (keys_of l.key-iterator) ≡ l.initial.steps + length (keys_of l.self.map.entries);
}
