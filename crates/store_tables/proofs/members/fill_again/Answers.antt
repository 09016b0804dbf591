use Rattle.std.proofs.Common.{◌≡◌, ◌<◌, ◌≤◌, length, ap, sym, ◌∙◌, arith}
use Rattle.std.proofs.lemmas.List.{length-set}
use Rattle.store_tables.specs.Parts.{side_by_side}
use Rattle.store_tables.specs.Undo.{all_restored}
use Rattle.store_tables.proofs.MemberLemmas.{fill-past, fill-step}
use Rattle.store_tables.proofs.members.fill_again.Goals as goal

pub loop-rest-preserved-then-place-len : goal.loop-rest-preserved-then-place-len
loop-rest-preserved-then-place-len c =
    let place : c.len-place.result ≡ length c.pop.new.self.items = omega (arith, c.len-place.ensures, c.pop.new.self.ok.0) in
    let within : c.len-place.result < length c.loop-rest.parts.items = omega (arith, c.if-place-len.true, c.len.ensures, c.loop-rest.parts.ok.0) in
    record {
      again = λ list.
          fill-step c.len-place.result c.pop.new.self.items c.in-Some.rest list c.loop-rest.parts.items c.index_mut.result.now c.restore_if.new.self place within c.index_mut.ensures.value c.restore_if.ensures
          ∙ ap (λ rests. all_restored rests (side_by_side list c.loop-rest.parts.items)) (sym c.in-Some.ensures.items)
          ∙ c.loop-rest.invariant.again list;
      long = length-set c.loop-rest.parts.items c.len-place.result c.restore_if.new.self ∙ c.loop-rest.invariant.long;
    }

past : (c : goal.After-enum_told-1) → length c.loop-rest.parts.items ≤ c.len-place.result
past c = omega (arith, c.if-place-len.false, c.len.ensures, c.loop-rest.parts.ok.0)

pub loop-rest-preserved-else-place-len : goal.loop-rest-preserved-else-place-len
loop-rest-preserved-else-place-len c =
    let place : c.len-place.result ≡ length c.pop.new.self.items = omega (arith, c.len-place.ensures, c.pop.new.self.ok.0) in
    let behind : length c.loop-rest.parts.items ≤ c.len-place.result = omega (arith, c.if-place-len.false, c.len.ensures, c.loop-rest.parts.ok.0) in
    record {
      again = λ list.
          fill-past c.len-place.result c.pop.new.self.items c.in-Some.rest list c.loop-rest.parts.items place behind
          ∙ ap (λ rests. all_restored rests (side_by_side list c.loop-rest.parts.items)) (sym c.in-Some.ensures.items)
          ∙ c.loop-rest.invariant.again list;
      long = c.loop-rest.invariant.long;
    }

pub loop-rest-preserved : goal.loop-rest-preserved
loop-rest-preserved c =
    let place : c.len-place.result ≡ length c.pop.new.self.items = omega (arith, c.len-place.ensures, c.pop.new.self.ok.0) in
    record {
      again = λ list.
          fill-past c.len-place.result c.pop.new.self.items c.in-Some.rest list c.loop-rest.parts.items place (past c)
          ∙ ap (λ rests. all_restored rests (side_by_side list c.loop-rest.parts.items)) (sym c.in-Some.ensures.items)
          ∙ c.loop-rest.invariant.again list;
      long = c.loop-rest.invariant.long;
    }
