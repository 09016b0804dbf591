-- What an offer says of counts and stops.
use Rattle.std.proofs.Common.{◌≡◌, ℕ, ◌^◌, Bool, true, false, List, [], ◌∷◌, length, Option, Some, None, refl, ap, pred}
use Rattle.std.specs.Prelude.{nat_lt}
use Rattle.std.specs.Option.{option_or}
use Rattle.value_core.specs.declared.change.Tally.{Tally}
use Rattle.value_core.specs.Order.{Row}
use Rattle.value_core.specs.Tallies.{both_tallies}
use Rattle.plan_core.specs.declared.expectation.Expectation.{Expectation}
use Rattle.plan_core.specs.declared.stop.Stop.{Stop}
use Rattle.flow_model.specs.Admission.{counts, tally}
use Rattle.flow_model.specs.Counts.{count_stop, past_limit, stop_by_total}
use Rattle.commit_payloads.specs.declared.take.Take.{Take}
use Rattle.state_model.specs.Follows.{counts_fit, tally_fits}
use Rattle.flow_news.specs.declared.offer.Offer.{Offer}
use Rattle.flow_news.specs.declared.offer.Offer.TheVariants.{Ready}
use Rattle.flow_news.specs.Made.{made}

-- a count that has no stop is within its limit
fits_by : (kept next : Tally) (passed failed : Bool) → nat_lt (both_tallies kept next).passed (2 ^ 63) ≡ passed → nat_lt (both_tallies kept next).failed (2 ^ 63) ≡ failed
    → past_limit (both_tallies kept next) ≡ None → tally_fits kept next ≡ true
fits_by kept next true true p f none = rw (p, f) refl
fits_by kept next true false p f none = let wrong : Some (both_tallies kept next).failed ≡ None = rw (p, f) at none in cc
fits_by kept next false failed p f none = let wrong : Some (both_tallies kept next).passed ≡ None = rw p at none in cc

none_of : (name : List ℕ) (total : Option ℕ) (later : Option Stop) → stop_by_total name total later ≡ None → (total ≡ None) × (later ≡ None)
none_of name None later e = (refl, e)
none_of name (Some total) later e = cc

-- counts of the same expectations fit where none passes its limit
pub counts_within : (xs ys : List Expectation) (was more : List Row) → count_stop xs (counts ys was) (counts ys more) ≡ None → length xs ≡ length ys → counts_fit (counts ys was) (counts ys more) ≡ true
counts_within [] [] was more none long = refl
counts_within [] (y ∷ ys) was more none long = cc
counts_within (x ∷ xs) [] was more none long = cc
counts_within (x ∷ xs) (y ∷ ys) was more none long =
    let parts = none_of x.name (past_limit (both_tallies (tally was y) (tally more y))) (count_stop xs (counts ys was) (counts ys more)) none in
    let here : tally_fits (tally was y) (tally more y) ≡ true = fits_by (tally was y) (tally more y) (nat_lt (both_tallies (tally was y) (tally more y)).passed (2 ^ 63)) (nat_lt (both_tallies (tally was y) (tally more y)).failed (2 ^ 63)) refl refl parts.0 in
    let behind : counts_fit (counts ys was) (counts ys more) ≡ true = counts_within xs ys was more parts.1 (ap pred long) in
    rw (here, behind) refl

-- so do counts of which there is one for each expectation
pub kept_within : (xs : List Expectation) (kept more : List Tally) → length kept ≡ length xs → length more ≡ length xs → count_stop xs kept more ≡ None → counts_fit kept more ≡ true
kept_within [] [] [] long other none = refl
kept_within [] [] (next ∷ more) long other none = cc
kept_within [] (old ∷ kept) more long other none = cc
kept_within (x ∷ xs) [] more long other none = cc
kept_within (x ∷ xs) (old ∷ kept) [] long other none = cc
kept_within (x ∷ xs) (old ∷ kept) (next ∷ more) long other none =
    let parts = none_of x.name (past_limit (both_tallies old next)) (count_stop xs kept more) none in
    let here : tally_fits old next ≡ true = fits_by old next (nat_lt (both_tallies old next).passed (2 ^ 63)) (nat_lt (both_tallies old next).failed (2 ^ 63)) refl refl parts.0 in
    let behind : counts_fit kept more ≡ true = kept_within xs kept more (ap pred long) (ap pred other) parts.1 in
    rw (here, behind) refl

-- rows have no stop where neither a row nor a count has one
pub stops_none : (first later : Option Stop) → option_or first later ≡ None → (first ≡ None) × (later ≡ None)
stops_none None later e = (refl, e)
stops_none (Some why) later e = cc

abbrev read_in : Offer → ℕ → ℕ
read_in (Ready read batch) other = read
read_in offer other = other

abbrev batch_in : Offer → Take → Take
batch_in (Ready read batch) other = batch
batch_in offer other = other

-- an offer with a batch is one that nothing stops
pub made_ready : (stop : Option Stop) (count read : ℕ) (wanted batch : Take) → Ready read batch ≡ made stop count wanted → (stop ≡ None) × (read ≡ count) × (batch ≡ wanted)
made_ready None count read wanted batch e = (refl, ap (λ offer. read_in offer 0) e, ap (λ offer. batch_in offer wanted) e)
made_ready (Some why) count read wanted batch e = cc
