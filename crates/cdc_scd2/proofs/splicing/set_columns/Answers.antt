use Rattle.std.proofs.Common.{◌≡◌, ◌+◌, ◌++◌, length, take, drop, sym, ap, ◌∙◌, arith}
use Rattle.std.proofs.lemmas.List.{length_push}
use Rattle.event_history.specs.Histories.{with_effective}
use Rattle.cdc_scd2.specs.Cache.{recached}
use Rattle.cdc_scd2.proofs.WholeLemmas.{rows_end, with_length}
use Rattle.cdc_scd2.proofs.splicing.set_columns.Goals as goal

pub loop-row-preserved : goal.loop-row-preserved
loop-row-preserved c =
    let n : c.len.result ≡ length c.pop.new.self.items = omega (arith, c.pop.new.self.ok.0) in
    let s = c.set_effective.ensures ∙ ap (λ k. with_effective c.loop-row.history (c.args.from + k) c.in-Some.row) n in
    let m : length c.loop-row.left.items ≡ length c.pop.new.self.items + 1 = ap length c.in-Some.ensures.items ∙ length_push c.pop.new.self.items c.in-Some.row in
    let k : length c.set_effective.new.self ≡ length c.loop-row.history = ap length s ∙ with_length c.loop-row.history (c.args.from + length c.pop.new.self.items) c.in-Some.row in (
      (λ i. take c.args.from (s i) ++ recached (drop c.args.from (s i)) c.pop.new.self.items)
          ∙ sym (rows_end c.loop-row.history c.args.from c.pop.new.self.items c.in-Some.row)
          ∙ ap (λ rows. take c.args.from c.loop-row.history ++ recached (drop c.args.from c.loop-row.history) rows) (sym c.in-Some.ensures.items) ∙ c.loop-row.invariant.0,
      omega (arith, m, k, c.loop-row.invariant.1),
    )
