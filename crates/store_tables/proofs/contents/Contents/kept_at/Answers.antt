use Rattle.std.proofs.Common.{rules, arith, ◌≡◌, ◌≤◌, ◌<◌, length, ap, sym, ◌∙◌, Some}
use Rattle.store_tables.proofs.PartLemmas.{at-place, past-place}
use Rattle.store_tables.proofs.contents.Contents.kept_at.Goals as goal

pub returns-then-place-len-clause-kept : goal.returns-then-place-len-clause-kept
returns-then-place-len-clause-kept g c =
    let past : length c.self.inside.parts.items ≤ c.args.place = omega (arith, c.self.inside.parts.ok.0, c.len.ensures, c.if-place-len.true) in
    rw (sym c.self.view_is) (past-place c.self.inside.definitions c.self.inside.parts.items c.args.place past)

pub returns-clause-kept : goal.returns-clause-kept
returns-clause-kept g c =
    let within : c.args.place < length c.self.inside.parts.items = omega (arith, c.self.inside.parts.ok.0, c.len.ensures, c.if-place-len.false) in
    rw (sym c.self.view_is, c.as_slice-3.ensures.value) (at-place c.self.inside.definitions c.self.inside.parts.items c.args.place c.index-as_slice-place.result c.index-part.result.now c.self.invariant.long within (rw (sym c.as_slice-2.ensures) c.index-as_slice-place.is) c.index-part.ensures)
