use Rattle.std.proofs.Common.{refl}
use Rattle.state_model.specs.After.{refreshed, taken}
use Rattle.state_steps.proofs.EndLemmas.{end_stays}
use Rattle.state_steps.proofs.laws.a_commit_leaves_lesser_levels_at_their_ends.Goals as goal

pub returns : goal.returns
returns c = record {
  take = λ landed parts ever state batch part target level from cursor stands found h below ends. end_stays landed parts ever state stands (taken batch) (λ d. refl) batch.table part target found level h from cursor below ends;
  refresh = λ landed parts ever state renewal part target level from cursor stands found h below ends. end_stays landed parts ever state stands (refreshed renewal) (λ d. refl) renewal.view part target found level h from cursor below ends;
}
