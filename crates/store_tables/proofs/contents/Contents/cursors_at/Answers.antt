use Rattle.std.proofs.Common.{rules, arith, ◌≡◌, ◌≤◌, ◌<◌, length, ap, sym, ◌∙◌, Some, refl}
use Rattle.store_tables.proofs.PartLemmas.{cursors-at, past-place}
use Rattle.store_tables.proofs.contents.Contents.cursors_at.Goals as goal

pub returns-then-place-len : goal.returns-then-place-len
returns-then-place-len c =
    let past : length c.self.inside.parts.items ≤ c.args.place = omega (arith, c.self.inside.parts.ok.0, c.len.ensures, c.if-place-len.true) in
    rw (sym c.self.view_is, past-place c.self.inside.definitions c.self.inside.parts.items c.args.place past) refl

pub returns : goal.returns
returns c =
    let within : c.args.place < length c.self.inside.parts.items = omega (arith, c.self.inside.parts.ok.0, c.len.ensures, c.if-place-len.false) in
    rw (sym c.self.view_is) (ap Some c.as_slice.ensures.value ∙ cursors-at c.self.inside.definitions c.self.inside.parts.items c.args.place c.index.result.now c.self.invariant.long within c.index.ensures)
