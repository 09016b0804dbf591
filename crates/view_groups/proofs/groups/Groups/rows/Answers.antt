use Rattle.view_groups.proofs.WalkLemmas.{all_answered}
use Rattle.view_groups.proofs.groups.Groups.rows.Goals as goal

pub returns : goal.returns
returns c = λ query shares keeps. all_answered query c.args.self.now.map.entries shares c.all_rows.result c.all_rows.ensures.ordered keeps c.all_rows.ensures.answers
