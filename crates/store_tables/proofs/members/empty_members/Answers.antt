use Rattle.std.proofs.Common.{◌≡◌, ◌<◌, length, set, ap, sym, ◌∙◌, arith, add-one}
use Rattle.std.proofs.lemmas.List.{set-get_or}
use Rattle.store_tables.specs.Parts.{side_by_side}
use Rattle.store_tables.specs.Undo.{all_restored}
use Rattle.store_tables.proofs.MemberLemmas.{half-back, half-end, half-limit, half-long, half-next}
use Rattle.store_tables.proofs.members.empty_members.Goals as goal
use Rattle.store_tables.proofs.members.empty_members.Goals.{in-Some-1, in-None-1}

pub empty_member-requires : goal.empty_member-requires
empty_member-requires c = half-limit c.args.names.now c.loop-i.i c.args.list.now c.args.parts.now.items c.loop-i.rests.items c.loop-i.parts.items c.index-list-i.result c.index_mut.result.now c.loop-i.invariant c.requires.long c.loop-i-test.true c.index-list-i.is c.index_mut.ensures.value c.requires.limit

pub returns-in_err-rest-clause-back : goal.returns-in_err-rest-clause-back
returns-in_err-rest-clause-back c =
    let same : set c.loop-i.parts.items c.loop-i.i c.empty_member.new.part ≡ c.loop-i.parts.items =
    ap (set c.loop-i.parts.items c.loop-i.i) (c.in_err-rest.ensures.err ∙ c.index_mut.ensures.value) ∙ set-get_or c.loop-i.parts.items c.loop-i.i c.index_mut.result.now
    in
    ap (λ parts. all_restored c.loop-i.rests.items (side_by_side c.args.list.now parts)) same
    ∙ half-back c.args.names.now c.loop-i.i c.args.list.now c.args.parts.now.items c.loop-i.rests.items c.loop-i.parts.items c.loop-i.invariant

pub index_mut-requires-in-loop-i : goal.index_mut-requires-in-loop-i
index_mut-requires-in-loop-i c =
    let long = half-long c.args.names.now c.loop-i.i c.args.list.now c.args.parts.now.items c.loop-i.rests.items c.loop-i.parts.items c.loop-i.invariant in
    omega (arith, long.1, c.requires.long, c.loop-i-test.true, c.loop-i.rests.ok.0)

pub loop-i-preserved : goal.loop-i-preserved
loop-i-preserved c =
    let next = half-next c.args.names.now c.loop-i.i c.args.list.now c.args.parts.now.items c.loop-i.rests.items c.loop-i.parts.items c.index-list-i.result c.index_mut.result.now c.empty_member.new.part c.in_ok-rest.rest c.loop-i.invariant c.requires.long c.loop-i-test.true c.index-list-i.is c.index_mut.ensures.value c.in_ok-rest.ensures.emptied c.in_ok-rest.ensures.back in
    elim c.match-index_mut-rest.branch [ in-Some-1 w ↦ rw (add-one c.loop-i.i) next | in-None-1 w ↦ rw (add-one c.loop-i.i) next ]

pub returns-clause-emptied : goal.returns-clause-emptied
returns-clause-emptied c = half-end c.args.names.now c.loop-i.i c.args.list.now c.args.parts.now.items c.loop-i.rests.items c.loop-i.parts.items c.loop-i.invariant c.loop-i-test.false

pub returns-clause-back : goal.returns-clause-back
returns-clause-back c = half-back c.args.names.now c.loop-i.i c.args.list.now c.args.parts.now.items c.loop-i.rests.items c.loop-i.parts.items c.loop-i.invariant
