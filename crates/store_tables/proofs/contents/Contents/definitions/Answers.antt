use Rattle.std.proofs.Common.{sym, ◌∙◌, ap}
use Rattle.state_model.specs.Dataset.{definitions_of}
use Rattle.store_tables.proofs.PartLemmas.{definitions-are}
use Rattle.store_tables.proofs.contents.Contents.definitions.Goals as goal

pub returns-clause-definitions : goal.returns-clause-definitions
returns-clause-definitions c = sym (definitions-are c.self.inside.definitions c.self.inside.parts.items c.self.invariant.long) ∙ ap definitions_of c.self.view_is

pub returns-clause-distinct : goal.returns-clause-distinct
returns-clause-distinct c = c.self.invariant.distinct
