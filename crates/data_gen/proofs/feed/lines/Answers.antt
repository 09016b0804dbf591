use Rattle.std.proofs.Common.{◌≡◌, ◌+◌, ◌++◌, suc, sym, ap, ◌∙◌, arith}
use Rattle.data_gen.specs.Generated.{generated_line, generated_lines}
use Rattle.data_gen.proofs.feed.lines.Goals as goal

pub loop-place-preserved : goal.loop-place-preserved
loop-place-preserved c =
    let next : c.loop-place.place + 1 ≡ suc c.loop-place.place = omega arith in
    c.in_ok-put_line.ensures ∙ ap (λ text. text ++ generated_line c.loop-place.place) c.loop-place.invariant ∙ sym (ap generated_lines next)

pub returns : goal.returns
returns c =
    let all : c.loop-place.place ≡ c.args.count = omega arith in
    c.loop-place.invariant ∙ ap generated_lines all
