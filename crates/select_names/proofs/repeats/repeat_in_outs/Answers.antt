use Rattle.std.proofs.Common.{◌≡◌, ◌+◌, drop, ◌∙◌}
use Rattle.std.specs.Option.{option_copied}
use Rattle.statement_checks.specs.Repeats.{first_repeat}
use Rattle.select_names.specs.SelectNames.{out_names, select_names}
use Rattle.select_names.proofs.Seen.{copied_there, output_left, found_here, none_here}
use Rattle.select_names.proofs.repeats.repeat_in_outs.Goals as goal

pub returns-then-is_some : goal.returns-then-is_some
returns-then-is_some c =
    let source = c.args.source.now in
    let outs = c.args.outs.now in
    let whole = first_repeat (select_names source outs) in
    let left = output_left source c.loop-output.seen outs c.loop-output.output-index c.output-item.result whole c.loop-output-test.true c.output-item.is c.loop-output.invariant in
    found_here c.loop-output.seen (out_names source c.output-item.result) (select_names source (drop (c.loop-output.output-index + 1) outs)) (option_copied c.in_ok-found.found) whole
    left c.in_ok-found.ensures.found (copied_there c.in_ok-found.found c.is_some.result c.is_some.ensures ∙ c.if-is_some.true)

pub loop-output-preserved : goal.loop-output-preserved
loop-output-preserved c =
    let source = c.args.source.now in
    let outs = c.args.outs.now in
    let whole = first_repeat (select_names source outs) in
    let left = output_left source c.loop-output.seen outs c.loop-output.output-index c.output-item.result whole c.loop-output-test.true c.output-item.is c.loop-output.invariant in
    none_here c.loop-output.seen c.repeat_in_out.new.seen (out_names source c.output-item.result) (select_names source (drop (c.loop-output.output-index + 1) outs)) (option_copied c.in_ok-found.found) whole
    left c.in_ok-found.ensures.found (copied_there c.in_ok-found.found c.is_some.result c.is_some.ensures ∙ c.if-is_some.false) c.in_ok-found.ensures.seen
