use Rattle.std.proofs.Common.{◌≡◌, ◌≢◌, ◌<◌, ◌∙◌, ℕ, length, replicate, get_or, ap, sym, subst, arith, rules}
use Rattle.std.proofs.lemmas.List.{length-replicate}
use Rattle.graph_check.specs.Levels.{AreLevels}
use Rattle.graph_check.specs.Rounds.{AreAtRound, ShowLevels}
use Rattle.graph_check.proofs.RoundLemmas.{at_first, shows_levels, least_without, are_levels, not_cyclic, high_cyclic}
use Rattle.graph_check.proofs.heights.levels.Goals as goal

pub loop-round-init : goal.loop-round-init
loop-round-init c =
    let made : c.in_ok-heights.heights.items ≡ replicate c.args.count 0 = search rules in
    record {
      complete = ap length made ∙ length-replicate c.args.count 0;
      before = subst (λ xs. AreAtRound c.args.edges.now 0 xs) (sym made) (at_first c.args.edges.now c.args.count);
    }

pub cycle_path-requires-clause-shown : goal.cycle_path-requires-clause-shown
cycle_path-requires-clause-shown c =
    let e : c.loop-round.round ≡ c.args.count = omega arith in
    let after : AreAtRound c.args.edges.now c.args.count c.loop-round.heights.items = subst (λ n. AreAtRound c.args.edges.now n c.loop-round.heights.items) e c.loop-round.invariant.before in
    subst (λ xs. ShowLevels c.args.count c.args.edges.now xs) (sym c.as_slice-in-Some.ensures.value) (shows_levels c.args.count c.args.edges.now c.loop-round.heights.items c.requires c.loop-round.invariant.complete after)

pub cycle_path-requires-clause-least : goal.cycle_path-requires-clause-least
cycle_path-requires-clause-least c =
    let e : c.loop-round.round ≡ c.args.count = omega arith in
    let after : AreAtRound c.args.edges.now c.args.count c.loop-round.heights.items = subst (λ n. AreAtRound c.args.edges.now n c.loop-round.heights.items) e c.loop-round.invariant.before in
    let found : (c.in-Some.start < length c.loop-round.heights.items) × (get_or c.loop-round.heights.items c.in-Some.start 0 ≡ c.args.count) × ((k : ℕ) → k < c.in-Some.start → get_or c.loop-round.heights.items k 0 ≢ c.args.count) = subst (λ xs. (c.in-Some.start < length xs) × (get_or xs c.in-Some.start 0 ≡ c.args.count) × ((k : ℕ) → k < c.in-Some.start → get_or xs k 0 ≢ c.args.count)) c.as_slice.ensures.value c.in-Some.ensures.some in
    least_without c.args.count c.args.edges.now c.loop-round.heights.items c.requires c.loop-round.invariant.complete after c.in-Some.start found.0 found.1 found.2

pub returns-in-None-clause-levels : goal.returns-in-None-clause-levels
returns-in-None-clause-levels c =
    let e : c.loop-round.round ≡ c.args.count = omega arith in
    let after : AreAtRound c.args.edges.now c.args.count c.loop-round.heights.items = subst (λ n. AreAtRound c.args.edges.now n c.loop-round.heights.items) e c.loop-round.invariant.before in
    let low : (k : ℕ) → k < length c.loop-round.heights.items → get_or c.loop-round.heights.items k 0 ≢ c.args.count = subst (λ xs. (k : ℕ) → k < length xs → get_or xs k 0 ≢ c.args.count) c.as_slice.ensures.value c.in-None.ensures.none in
    subst (λ xs. AreLevels c.args.count c.args.edges.now xs) (sym c.from_vec.ensures) (are_levels c.args.count c.args.edges.now c.loop-round.heights.items c.requires c.loop-round.invariant.complete after low)

pub returns-in-None-clause-no_cycle : goal.returns-in-None-clause-no_cycle
returns-in-None-clause-no_cycle c =
    let e : c.loop-round.round ≡ c.args.count = omega arith in
    let after : AreAtRound c.args.edges.now c.args.count c.loop-round.heights.items = subst (λ n. AreAtRound c.args.edges.now n c.loop-round.heights.items) e c.loop-round.invariant.before in
    let low : (k : ℕ) → k < length c.loop-round.heights.items → get_or c.loop-round.heights.items k 0 ≢ c.args.count = subst (λ xs. (k : ℕ) → k < length xs → get_or xs k 0 ≢ c.args.count) c.as_slice.ensures.value c.in-None.ensures.none in
    not_cyclic c.args.count c.args.edges.now c.loop-round.heights.items c.requires c.loop-round.invariant.complete after low

pub returns-in_ok-path-in-Some-clause-cycle : goal.returns-in_ok-path-in-Some-clause-cycle
returns-in_ok-path-in-Some-clause-cycle c =
    let e : c.loop-round.round ≡ c.args.count = omega arith in
    let after : AreAtRound c.args.edges.now c.args.count c.loop-round.heights.items = subst (λ n. AreAtRound c.args.edges.now n c.loop-round.heights.items) e c.loop-round.invariant.before in
    let found : (c.in-Some.start < length c.loop-round.heights.items) × (get_or c.loop-round.heights.items c.in-Some.start 0 ≡ c.args.count) × ((k : ℕ) → k < c.in-Some.start → get_or c.loop-round.heights.items k 0 ≢ c.args.count) = subst (λ xs. (c.in-Some.start < length xs) × (get_or xs c.in-Some.start 0 ≡ c.args.count) × ((k : ℕ) → k < c.in-Some.start → get_or xs k 0 ≢ c.args.count)) c.as_slice.ensures.value c.in-Some.ensures.some in
    high_cyclic c.args.count c.args.edges.now c.loop-round.heights.items c.requires c.loop-round.invariant.complete after c.in-Some.start (omega (arith, found.0, c.loop-round.invariant.complete)) found.1
