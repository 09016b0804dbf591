use Rattle.std.proofs.Common.{◌++◌, ◌∷◌, drop, take, length, refl, ap, subst, ◌∙◌, None, arith, ◌+◌}
use Rattle.cdc_runs.specs.Entries.{moments_of}
use Rattle.cdc_scd2.specs.Cache.{recached}
use Rattle.cdc_runs.specs.Runs.{left_open}
use Rattle.cdc_scd2.specs.Splices.{Turns}
use Rattle.cdc_scd2.proofs.SpliceLemmas.{behind_more, first_code}
use Rattle.cdc_scd2.proofs.change.first_change.Goals as goal

pub returns-clause-change : goal.returns-clause-change
returns-clause-change g c = first_code c.args.tracked.now c.args.history.now c.in_ok-old.old.items c.in_ok-new.new.items c.args.entry.now c.args.rows.now (length c.args.rows.now) c.in_ok-change.change refl c.in_ok-old.ensures.stretch.0 c.in_ok-old.ensures.stretch.1
    (c.in_ok-new.ensures ∙ ap (λ old. take 0 old ++ c.args.entry.now ∷ recached (drop 0 old) c.args.rows.now) c.as_slice.ensures.value)
    (subst (λ new. Turns c.args.tracked.now None (moments_of c.in_ok-old.old.items) (moments_of new) (moments_of (drop (length c.args.rows.now) c.args.history.now)) c.in_ok-change.change) c.as_slice-3.ensures.value
    (subst (λ old. Turns c.args.tracked.now None (moments_of old) (moments_of c.as_slice-3.result.now) (moments_of (drop (length c.args.rows.now) c.args.history.now)) c.in_ok-change.change) c.as_slice-2.ensures.value c.in_ok-change.ensures.change))

pub returns-clause-looks : goal.returns-clause-looks
returns-clause-looks g c = record {
  old = c.in_ok-old.old.items;
  whole = c.in_ok-old.ensures.stretch.0;
  long = c.in_ok-old.ensures.stretch.1;
  behind = behind_more c.args.tracked.now c.args.history.now (length c.args.rows.now) (left_open c.args.tracked.now None (moments_of c.as_slice-2.result.now) (moments_of (drop (length c.args.rows.now) c.args.history.now))) (left_open c.args.tracked.now None (moments_of c.as_slice-3.result.now) (moments_of (drop (length c.args.rows.now) c.args.history.now)))
      (left_open c.args.tracked.now None (moments_of c.in_ok-old.old.items) (moments_of (drop (length c.args.rows.now) c.args.history.now)))
      (left_open c.args.tracked.now None (moments_of (c.args.entry.now ∷ recached c.in_ok-old.old.items c.args.rows.now)) (moments_of (drop (length c.args.rows.now) c.args.history.now))) 2 c.turn.new.steps c.copy_stretch.new.steps (c.args.steps.now + length c.args.rows.now)
      (ap (λ old. left_open c.args.tracked.now None (moments_of old) (moments_of (drop (length c.args.rows.now) c.args.history.now))) c.as_slice-2.ensures.value)
      (ap (λ new. left_open c.args.tracked.now None (moments_of new) (moments_of (drop (length c.args.rows.now) c.args.history.now))) (c.as_slice-3.ensures.value ∙ c.in_ok-new.ensures ∙ ap (λ old. take 0 old ++ c.args.entry.now ∷ recached (drop 0 old) c.args.rows.now) c.as_slice.ensures.value))
      (omega (arith, c.in_ok-old.ensures.looks, c.in_ok-old.ensures.stretch.1)) c.in_ok-change.ensures.looks;
}
