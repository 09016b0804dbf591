use Rattle.std.proofs.Common.{◌+◌, [], ◌∷◌, ◌++◌, arith, length, take, drop, length-drop, sym, ap, ◌∙◌, subst}
use Rattle.sql_tokens.specs.Lexical.{piece, after, is_too_large}
use Rattle.sql_tokens.specs.Scanning.{Scans}
use Rattle.sql_tokens.specs.Slices.{IsSliced}
use Rattle.sql_tokens.proofs.SliceLemmas.{sliced_further, sliced_more, token_of}
use Rattle.sql_tokens.proofs.Steps.{rest_is, blank_step, token_step, large_step, bad_step, end_step}
use Rattle.sql_tokens.proofs.scan.scan.Goals as goal

pub loop-at-preserved-in-Blank : goal.loop-at-preserved-in-Blank
loop-at-preserved-in-Blank c =
    let s = c.loop-at in
    let rest = rest_is s.at c.args.text.now in (
      λ r next. s.invariant.0 r (blank_step s.context s.at c.in-Blank.len c.args.text.now s.found r c.loop-at-test.true (sym (c.in-Blank.ensures.value ∙ ap piece rest)) next),
      omega (arith, length-drop s.at c.args.text.now, ap length rest, c.in-Blank.ensures.within),
      sliced_further c.args.text.now 0 s.at (s.at + c.in-Blank.len) s.found s.invariant.2 (omega arith),
    )

pub returns-then-is_too_large-clause-scanned : goal.returns-then-is_too_large-clause-scanned
returns-then-is_too_large-clause-scanned c _ =
    let s = c.loop-at in
    let rest = rest_is s.at c.args.text.now in
    s.invariant.0 _ (large_step s.context s.at c.in-Token.kind c.in-Token.len c.args.text.now s.found c.loop-at-test.true (sym (c.in-Token.ensures.value ∙ ap piece rest))
    (ap (λ z. is_too_large s.context c.in-Token.kind (take c.in-Token.len z)) (sym rest) ∙ sym c.is_too_large.ensures ∙ c.if-is_too_large.true))

pub loop-at-preserved : goal.loop-at-preserved
loop-at-preserved c =
    let s = c.loop-at in
    let rest = rest_is s.at c.args.text.now in (
      λ r next. s.invariant.0 r (token_step s.context s.at c.in-Token.kind c.in-Token.len c.args.text.now s.found r c.loop-at-test.true (sym (c.in-Token.ensures.value ∙ ap piece rest))
          (ap (λ z. is_too_large s.context c.in-Token.kind (take c.in-Token.len z)) (sym rest) ∙ sym c.is_too_large.ensures ∙ c.if-is_too_large.false)
          (subst (λ z. Scans z (s.at + c.in-Token.len) (drop (s.at + c.in-Token.len) c.args.text.now) (s.found ++ record { start = s.at; end = s.at + c.in-Token.len; kind = c.in-Token.kind } ∷ []) r)
          (c.after-context.ensures ∙ ap (λ z. after s.context c.in-Token.kind (take c.in-Token.len z)) rest)
          (subst (λ f. Scans c.after-context.result (s.at + c.in-Token.len) (drop (s.at + c.in-Token.len) c.args.text.now) f r) c.in_ok-push-in-Token.ensures.ok next))),
      omega (arith, length-drop s.at c.args.text.now, ap length rest, c.in-Token.ensures.within),
      subst (IsSliced c.args.text.now 0 (s.at + c.in-Token.len)) (sym c.in_ok-push-in-Token.ensures.ok)
          (sliced_more c.args.text.now 0 s.at _ s.found s.invariant.2 (omega arith)
          (token_of c.args.text.now s.context s.at c.in-Token.len c.in-Token.kind c.in-Token.ensures.within.0 (sym (c.in-Token.ensures.value ∙ ap piece rest))
          (ap (λ z. is_too_large s.context c.in-Token.kind (take c.in-Token.len z)) (sym rest) ∙ sym c.is_too_large.ensures ∙ c.if-is_too_large.false))),
    )

pub returns-in-Bad-clause-scanned : goal.returns-in-Bad-clause-scanned
returns-in-Bad-clause-scanned c _ =
    let s = c.loop-at in
    let rest = rest_is s.at c.args.text.now in
    s.invariant.0 _ (bad_step s.context s.at c.args.text.now s.found c.loop-at-test.true (sym (c.in-Bad.ensures.value ∙ ap piece rest)))

pub returns-clause-scanned : goal.returns-clause-scanned
returns-clause-scanned c _ =
    let s = c.loop-at in
    s.invariant.0 _ (end_step s.context s.at c.args.text.now s.found c.loop-at-test.false)

pub returns-clause-sliced : goal.returns-clause-sliced
returns-clause-sliced c =
    let s = c.loop-at in
    sliced_further c.args.text.now 0 s.at (length c.args.text.now) s.found s.invariant.2 s.invariant.1
