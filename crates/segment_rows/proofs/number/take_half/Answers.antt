use Rattle.std.proofs.Common.{ℕ, List, drop, length, ap, subst, ◌∙◌, ◌≡◌, ◌≤◌, ◌+◌, Some, arith}
use Rattle.std.proofs.lemmas.List.{drop-drop, length-drop, take_rest}
use Rattle.segment_rows.specs.Reading.{half_at}
use Rattle.segment_rows.proofs.number.take_half.Goals as goal

pub returns-in-Some : goal.returns-in-Some
returns-in-Some c =
    let whole = take_rest c.args.bytes.now c.args.at in
    let number = subst (λ (front : List ℕ). half_at front ≡ Some (c.in-Some.number, drop 4 front)) whole c.in-Some.ensures.number in
    let long : c.args.at + 4 ≤ length c.args.bytes.now = omega (arith, c.in-Some.ensures.long, ap length whole, length-drop c.args.at c.args.bytes.now) in
    (omega arith, long, number ∙ ap (λ (rest : List ℕ). Some (c.in-Some.number, rest)) (drop-drop 4 c.args.at c.args.bytes.now))
