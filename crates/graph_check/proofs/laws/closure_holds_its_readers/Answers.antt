use Rattle.graph_check.proofs.LawLemmas.{of_set, of_reader}
use Rattle.graph_check.proofs.laws.closure_holds_its_readers.Goals as goal

pub returns : goal.returns
returns c = record { set = of_set; readers = of_reader }
