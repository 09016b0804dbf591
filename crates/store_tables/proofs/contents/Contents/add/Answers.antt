use Rattle.std.proofs.Common.{◌≡◌, ◌≤◌, ◌++◌, length, map, take, drop, subst, sym, ap, ◌∙◌, arith}
use Rattle.std.proofs.lemmas.List.{length-append, length-drop, take_at}
use Rattle.state_model.specs.After.{begun}
use Rattle.store_tables.specs.Parts.{side_by_side}
use Rattle.store_tables.proofs.PartLemmas.{prefix-kept, prefix-short, length-sides, sides-added}
use Rattle.store_tables.proofs.contents.Contents.add.Goals as goal

pub split_at-requires : goal.split_at-requires
split_at-requires c =
    let kept = prefix-kept c.self.inside.definitions c.args.list c.self.inside.parts.items c.args.self.now c.self.invariant.long c.self.view_is c.requires.kept in
    let short : length c.self.inside.parts.items ≤ length c.args.list = prefix-short c.args.list c.self.inside.definitions (length c.self.inside.parts.items) c.self.invariant.long kept in
    omega (arith, short, c.self.inside.parts.ok.0, c.len-before.ensures, ap length c.as_slice.ensures)

-- the definitions behind the old ones
behind : (c : goal.After-drop-more-2) → c.split_at.result.1.now ≡ drop (length c.self.inside.parts.items) c.args.list
behind c =
    let before : c.len-before.result ≡ length c.self.inside.parts.items = omega (arith, c.self.inside.parts.ok.0, c.len-before.ensures) in
    c.split_at.ensures.back ∙ ap (drop c.len-before.result) c.as_slice.ensures ∙ ap (λ n. drop n c.args.list) before

kept : (c : goal.After-drop-more-2) → take (length c.self.inside.parts.items) c.args.list ≡ c.self.inside.definitions
kept c = prefix-kept c.self.inside.definitions c.args.list c.self.inside.parts.items c.args.self.now c.self.invariant.long c.self.view_is c.requires.kept

pub invariant_of-self-2 : goal.invariant_of-self-2
invariant_of-self-2 c =
    let short : length c.self.inside.parts.items ≤ length c.args.list = prefix-short c.args.list c.self.inside.definitions (length c.self.inside.parts.items) c.self.invariant.long (kept c) in
    let long : length c.args.list ≡ length c.append.new.self.items = omega (arith, short, ap length c.in_ok-append.ensures.items, length-append c.self.inside.parts.items c.in_ok-more.more.items, c.in_ok-more.ensures.each, ap length (behind c), length-drop (length c.self.inside.parts.items) c.args.list) in
    record { long = long; distinct = c.requires.distinct }

result-is : (c : goal.After-drop-more-2) → side_by_side c.args.list c.append.new.self.items ≡ c.args.self.now ++ map begun (drop (length c.args.self.now) c.args.list)
result-is c =
    let list = c.args.list in
    let parts = c.self.inside.parts.items in
    let more : side_by_side (drop (length parts) list) c.in_ok-more.more.items ≡ map begun (drop (length parts) list) = subst (λ xs. side_by_side xs c.in_ok-more.more.items ≡ map begun xs) (behind c) c.in_ok-more.ensures.begun in
    let long : length parts ≡ length c.args.self.now = sym (ap length (sym c.self.view_is) ∙ length-sides c.self.inside.definitions parts c.self.invariant.long) in
    ap (side_by_side list) c.in_ok-append.ensures.items
    ∙ sides-added c.self.inside.definitions list parts c.in_ok-more.more.items c.self.invariant.long (kept c) more
    ∙ ap (λ state. state ++ map begun (drop (length parts) list)) c.self.view_is
    ∙ ap (λ n. c.args.self.now ++ map begun (drop n list)) long

pub returns-clause-ok : goal.returns-clause-ok
returns-clause-ok c = result-is c

pub returns-clause-back : goal.returns-clause-back
returns-clause-back c =
    let long : length c.args.self.now ≡ c.len-before.result =
    omega (arith, ap length c.self.view_is, length-sides c.self.inside.definitions c.self.inside.parts.items c.self.invariant.long, c.self.inside.parts.ok.0, c.len-before.ensures)
    in
    ap (take c.len-before.result) (result-is c) ∙ take_at c.args.self.now (map begun (drop (length c.args.self.now) c.args.list)) c.len-before.result long
