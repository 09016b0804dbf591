use Rattle.std.proofs.Common.{inl, inr, ◌++◌, ◌∷◌, ◌-◌, ◌+◌, drop, take, length, refl, sym, ap, subst, ◌∙◌, arith}
use Rattle.std.specs.Prelude.{option_copied, option_to_list}
use Rattle.cdc_runs.specs.Entries.{moments_of}
use Rattle.cdc_scd2.specs.Cache.{recached}
use Rattle.cdc_runs.specs.Runs.{left_open}
use Rattle.cdc_scd2.specs.Splices.{Turns, leaves_rows}
use Rattle.cdc_scd2.proofs.SpliceLemmas.{back_more, behind_more, later_code, leaves_code}
use Rattle.cdc_scd2.proofs.change.later_change.Goals as goal

pub returns-then-leaves_rows-clause-change : goal.returns-then-leaves_rows-clause-change
returns-then-leaves_rows-clause-change g c = (λ i. record { removed = c.new.ensures i; added = c.new-then-leaves_rows.ensures i })
    ∙ leaves_code c.args.tracked.now c.args.history.now c.in_ok-old.old.items c.in_ok-new.new.items c.args.entry.now c.args.rows.now (option_copied c.entry_at-next.result) c.args.place (c.args.place - 1) (c.args.place + length c.args.rows.now)
    (omega arith) refl c.requires.within c.in_ok-old.ensures.stretch.0 c.in_ok-old.ensures.stretch.1
    (c.in_ok-new.ensures ∙ ap (λ old. take 1 old ++ c.args.entry.now ∷ recached (drop 1 old) c.args.rows.now) c.as_slice.ensures.value) c.entry_at-next.ensures.entry
    ((λ i. leaves_rows c.args.tracked.now (sym c.as_slice-2.ensures.value i) (sym c.as_slice-3.ensures.value i) (option_to_list (option_copied c.entry_at-next.result))) ∙ sym c.if-leaves_rows.ensures)

pub returns-clause-change : goal.returns-clause-change
returns-clause-change g c = later_code c.args.tracked.now c.args.history.now c.in_ok-old.old.items c.in_ok-new.new.items c.args.entry.now c.args.rows.now c.args.place (c.args.place - 1) (c.args.place + length c.args.rows.now) c.in_ok-since.since c.in_ok-change.change
    (omega arith) refl c.requires.within c.in_ok-old.ensures.stretch.0 c.in_ok-old.ensures.stretch.1
    (c.in_ok-new.ensures ∙ ap (λ old. take 1 old ++ c.args.entry.now ∷ recached (drop 1 old) c.args.rows.now) c.as_slice.ensures.value) c.in_ok-since.ensures.begins
    (subst (λ since. Turns c.args.tracked.now since (moments_of c.in_ok-old.old.items) (moments_of c.in_ok-new.new.items) (moments_of (drop (c.args.place + length c.args.rows.now) c.args.history.now)) c.in_ok-change.change) c.as_ref.ensures.value
    (subst (λ new. Turns c.args.tracked.now (option_copied c.as_ref.result) (moments_of c.in_ok-old.old.items) (moments_of new) (moments_of (drop (c.args.place + length c.args.rows.now) c.args.history.now)) c.in_ok-change.change) c.as_slice-5.ensures.value
    (subst (λ old. Turns c.args.tracked.now (option_copied c.as_ref.result) (moments_of old) (moments_of c.as_slice-5.result.now) (moments_of (drop (c.args.place + length c.args.rows.now) c.args.history.now)) c.in_ok-change.change) c.as_slice-4.ensures.value c.in_ok-change.ensures.change)))

pub returns-then-leaves_rows-clause-looks : goal.returns-then-leaves_rows-clause-looks
returns-then-leaves_rows-clause-looks g c = record {
  old = c.in_ok-old.old.items;
  new = c.in_ok-new.new.items;
  next = option_copied c.entry_at-next.result;
  whole = c.in_ok-old.ensures.stretch.0;
  long = c.in_ok-old.ensures.stretch.1;
  spliced = c.in_ok-new.ensures ∙ ap (λ old. take 1 old ++ c.args.entry.now ∷ recached (drop 1 old) c.args.rows.now) c.as_slice.ensures.value;
  there = c.entry_at-next.ensures.entry;
  looks = inl (omega (arith, c.in_ok-old.ensures.looks, c.in_ok-old.ensures.stretch.1, c.entry_at-next.ensures.looks, c.requires.some));
}

pub returns-clause-looks : goal.returns-clause-looks
returns-clause-looks g c = record {
  old = c.in_ok-old.old.items;
  new = c.in_ok-new.new.items;
  next = option_copied c.entry_at-next.result;
  whole = c.in_ok-old.ensures.stretch.0;
  long = c.in_ok-old.ensures.stretch.1;
  spliced = c.in_ok-new.ensures ∙ ap (λ old. take 1 old ++ c.args.entry.now ∷ recached (drop 1 old) c.args.rows.now) c.as_slice.ensures.value;
  there = c.entry_at-next.ensures.entry;
  looks = inr (record {
    since = c.in_ok-since.since;
    begins = c.in_ok-since.ensures.begins;
    changes = (λ i. leaves_rows c.args.tracked.now (sym c.as_slice-2.ensures.value i) (sym c.as_slice-3.ensures.value i) (option_to_list (option_copied c.entry_at-next.result))) ∙ sym c.if-leaves_rows.ensures;
    middle = c.began.new.steps;
    back = back_more c.args.tracked.now c.args.history.now (c.args.place - 1) c.began.new.steps c.entry_at-next.new.steps (c.args.steps.now + length c.args.rows.now + 2) (omega (arith, c.in_ok-old.ensures.looks, c.in_ok-old.ensures.stretch.1, c.entry_at-next.ensures.looks, c.requires.some)) c.in_ok-since.ensures.looks;
    behind = behind_more c.args.tracked.now c.args.history.now (c.args.place + length c.args.rows.now)
        (left_open c.args.tracked.now (option_copied c.as_ref.result) (moments_of c.as_slice-4.result.now) (moments_of (drop (c.args.place + length c.args.rows.now) c.args.history.now)))
        (left_open c.args.tracked.now (option_copied c.as_ref.result) (moments_of c.as_slice-5.result.now) (moments_of (drop (c.args.place + length c.args.rows.now) c.args.history.now)))
        (left_open c.args.tracked.now c.in_ok-since.since (moments_of c.in_ok-old.old.items) (moments_of (drop (c.args.place + length c.args.rows.now) c.args.history.now)))
        (left_open c.args.tracked.now c.in_ok-since.since (moments_of c.in_ok-new.new.items) (moments_of (drop (c.args.place + length c.args.rows.now) c.args.history.now)))
        2 c.turn.new.steps c.began.new.steps c.began.new.steps
        (λ i. left_open c.args.tracked.now (c.as_ref.ensures.value i) (moments_of (c.as_slice-4.ensures.value i)) (moments_of (drop (c.args.place + length c.args.rows.now) c.args.history.now)))
        (λ i. left_open c.args.tracked.now (c.as_ref.ensures.value i) (moments_of (c.as_slice-5.ensures.value i)) (moments_of (drop (c.args.place + length c.args.rows.now) c.args.history.now)))
        (omega arith) c.in_ok-change.ensures.looks;
  });
}
