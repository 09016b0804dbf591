use Rattle.std.proofs.Common.{◌≡◌}
use Rattle.feed_checks.specs.Clauses.{given_columns}
use Rattle.feed_checks.proofs.Flows.{told_given, told_sound, told_kinds}
use Rattle.feed_checks.proofs.feed.check_feed.Goals as goal

pub returns-clause-parts : goal.returns-clause-parts
returns-clause-parts c =
    let is : c.in_ok-given.given ≡ given_columns c.args.feed.now c.args.source.now = cc (c.in_ok-given.ensures, c.as_slice.ensures, c.as_slice-2.ensures, c.as_slice-3.ensures, c.in_ok-outputs.ensures) in
    told_given c.args.feed.now c.args.source.now c.in_ok-given.given c.parts_over.result is c.parts_over.ensures.told

pub returns-clause-sound : goal.returns-clause-sound
returns-clause-sound c = told_sound c.args.feed.now c.args.source.now c.parts_over.result (returns-clause-parts c) c.parts_over.ensures.delete c.parts_over.ensures.truncate

pub returns-clause-kinds : goal.returns-clause-kinds
returns-clause-kinds c = told_kinds c.args.feed.now c.args.source.now c.parts_over.result (returns-clause-parts c)
