-- The refusals of a pair as those of the store.
use Rattle.log_pair.specs.declared.refusal.PairRefusal.{PairRefusal}
use Rattle.log_pair.specs.declared.refusal.PairRefusal.TheVariants as pair
use Rattle.pair_store.specs.declared.refusal.StoreRefusal.{StoreRefusal}
use Rattle.pair_store.specs.declared.refusal.StoreRefusal.TheVariants.{Foreign, Damaged, SameEpoch, Full, Failed, Memory}

abbrev pub refusal_of_pair : PairRefusal → StoreRefusal
refusal_of_pair (pair.Foreign side len) = Foreign side len
refusal_of_pair (pair.Damaged side at) = Damaged side at
refusal_of_pair (pair.SameEpoch epoch) = SameEpoch epoch
refusal_of_pair (pair.Full end room) = Full end room
refusal_of_pair pair.Failed = Failed
refusal_of_pair pair.Memory = Memory
