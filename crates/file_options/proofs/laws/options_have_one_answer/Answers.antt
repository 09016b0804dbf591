use Rattle.file_options.specs.Rules.{begun_by}
use Rattle.file_options.proofs.Scans.{ends_once}
use Rattle.file_options.proofs.laws.options_have_one_answer.Goals as goal

pub returns : goal.returns
returns c = λ path options one other f g. ends_once c.scan_is_one.ensures options (begun_by path options) one other f.by_rules g.by_rules
