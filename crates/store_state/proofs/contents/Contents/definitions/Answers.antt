use Rattle.std.proofs.Common.{sym, ◌∙◌, ap}
use Rattle.store_state.specs.Dataset.{definitions_of}
use Rattle.store_state.proofs.PartLemmas.{definitions-are}
use Rattle.store_state.proofs.contents.Contents.definitions.Goals as goal

pub returns : goal.returns
returns c = sym (definitions-are c.self.inside.definitions c.self.inside.parts.items c.self.invariant) ∙ ap definitions_of c.self.view_is
