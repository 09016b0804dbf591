use Rattle.std.proofs.Common.{◌≡◌, ◌<◌, ℕ, List, Some, None, drop, length, arith, subst}
use Rattle.segment_rows.specs.Reading.{items_at}
use Rattle.commit_payloads.specs.Reading.{dataset_state_at}
use Rattle.commit_payloads.proofs.StateLemmas.{no_definitions, no_states, more_is_left, state_is}
use Rattle.commit_payloads.proofs.reading.read_state.Goals as goal

pub returns-in_default : goal.returns-in_default
returns-in_default c = no_definitions c.args.bytes.now (rw c.in_default.is at c.in_ok-list.ensures)

pub returns-in_default-2 : goal.returns-in_default-2
returns-in_default-2 c =
    let first = rw c.in-Some.is at c.in_ok-list.ensures in
    let none = rw c.in_default-2.is at c.in_ok-states.ensures in
    no_states c.args.bytes.now (drop c.in-Some.at c.args.bytes.now) c.in-Some.list first.2 (subst (λ n. items_at dataset_state_at n (drop c.in-Some.at c.args.bytes.now) ≡ None) c.len.ensures none)

pub returns-then-end-bytes : goal.returns-then-end-bytes
returns-then-end-bytes c =
    let first = rw c.in-Some.is at c.in_ok-list.ensures in
    let second = rw c.in-Some-2.is at c.in_ok-states.ensures in
    let short : c.in-Some-2.end < length c.args.bytes.now = omega (arith, second.1, c.if-end-bytes.true) in
    more_is_left c.args.bytes.now (drop c.in-Some.at c.args.bytes.now) c.in-Some-2.end c.in-Some.list c.in-Some-2.states first.2
    (subst (λ n. items_at dataset_state_at n (drop c.in-Some.at c.args.bytes.now) ≡ Some (c.in-Some-2.states, drop c.in-Some-2.end c.args.bytes.now)) c.len.ensures second.2) short

pub returns : goal.returns
returns c =
    let first = rw c.in-Some.is at c.in_ok-list.ensures in
    let second = rw c.in-Some-2.is at c.in_ok-states.ensures in
    state_is c.args.bytes.now (drop c.in-Some.at c.args.bytes.now) c.in-Some-2.end c.in-Some.list c.in-Some-2.states (λ i. omega (arith, c.type_inv.bytes i)) first.2
    (subst (λ n. items_at dataset_state_at n (drop c.in-Some.at c.args.bytes.now) ≡ Some (c.in-Some-2.states, drop c.in-Some-2.end c.args.bytes.now)) c.len.ensures second.2) c.if-end-bytes.false
