use Rattle.pair_state.proofs.PairStateLemmas.{one_pair_state, state_not_foreign, state_not_same_epoch, state_not_refused, one_place, refused_not_foreign, refused_not_same_epoch, refused_not_begun}
use Rattle.pair_state.proofs.laws.a_pair_has_one_state.Goals as goal

pub returns : goal.returns
returns c = record {
  one = λ files a b left right one two. one_pair_state files left right a b one two;
  not_foreign = state_not_foreign;
  not_same_epoch = state_not_same_epoch;
  not_refused = λ files side at state left right has refused. state_not_refused files left right side at state has refused;
  one_place = λ files a b at place left right one two. one_place files left right a b at place one two;
  refused_not_foreign = refused_not_foreign;
  refused_not_same_epoch = refused_not_same_epoch;
  refused_not_begun = refused_not_begun;
}
