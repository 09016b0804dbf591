use Rattle.std.proofs.Common.{◌≡◌, ◌+◌, ◌*◌, ◌/◌, ◌%◌, ◌≤◌, ◌<◌, ◌∙◌, [], ◌∷◌, refl, subst, min, All, arith}
use Rattle.std.proofs.lemmas.List.{length-append}
use Rattle.std.proofs.lemmas.Nat.{le-div}
use Rattle.par_rows.specs.Pieces.{Covers, IsPieceOf}
use Rattle.par_rows.proofs.PieceLemmas.{all_more, covers_more, even_more, behind_longer, behind_other, at_end, not_past}
use Rattle.par_rows.proofs.piece.cut.Goals as goal
use Rattle.par_rows.proofs.piece.cut.Goals.{then-at-longer, else-at-longer}

-- src/piece.rt:28:5
pub loop-at-preserved : goal.loop-at-preserved
loop-at-preserved c =
    let least = c.args.rows / c.min-count.result in
    let longer = c.args.rows % c.min-count.result in
    let inv = c.loop-at.invariant in
    let sizes : (least ≤ c.if-at-longer.length) × (c.if-at-longer.length ≤ least + 1) × (c.loop-at.first + c.if-at-longer.length ≡ (c.loop-at.at + 1) * least + min (c.loop-at.at + 1) longer) =
    elim c.if-at-longer.branch [
      | then-at-longer w ↦ (omega (arith, w.length-is), omega (arith, w.length-is), behind_longer c.loop-at.at least longer c.loop-at.first c.if-at-longer.length inv.1 w.if-at-longer.true w.length-is)
      | else-at-longer w ↦ (omega (arith, w.length-is), omega (arith, w.length-is), behind_other c.loop-at.at least longer c.loop-at.first c.if-at-longer.length inv.1 w.if-at-longer.false w.length-is)
    ] in
    rw (c.in_ok-push.ensures).items (
      omega (arith, inv.0, length-append c.loop-at.pieces.items (record { number = c.loop-at.at; first = c.loop-at.first; rows = c.if-at-longer.length } ∷ [])),
      sizes.2,
      covers_more 0 0 c.loop-at.first c.loop-at.pieces.items _ inv.2 (omega (arith, inv.0)) refl,
      even_more least c.loop-at.pieces.items _ inv.3 sizes.0 sizes.1,
      all_more (IsPieceOf c.min-count.result c.args.rows) c.loop-at.pieces.items _ inv.4
          (record {
            begins = inv.1;
            ends = sizes.2;
            within = omega (arith, sizes.2, not_past c.min-count.result c.args.rows c.loop-at.at (omega arith));
          }),
    )

-- src/piece.rt:16:1
pub returns : goal.returns
returns c =
    let inv = c.loop-at.invariant in
    let some : 0 < c.min-count.result = omega (arith, c.if-count-eq0.false) in
    let full : c.loop-at.at ≡ c.min-count.result = omega (arith, c.loop-at.auto.at-end, c.loop-at-test.false) in
    let end : c.loop-at.first ≡ c.args.rows = inv.1 ∙ rw full (at_end c.min-count.result c.args.rows some) in
    record {
      count = omega (arith, inv.0, c.min-count.ensures, full);
      in_order = subst (λ e. Covers 0 0 e c.loop-at.pieces.items) end inv.2;
      even = (c.args.rows / c.min-count.result, le-div 1 c.args.rows c.min-count.result some (omega (arith, c.min-count.ensures)), inv.3);
      placed = subst (λ n. All (IsPieceOf n c.args.rows) c.loop-at.pieces.items) (omega (arith, c.min-count.ensures)) inv.4;
    }
