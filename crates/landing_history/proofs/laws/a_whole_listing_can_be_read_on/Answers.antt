use Rattle.landing_history.proofs.ListingLemmas.{listing_read_on}
use Rattle.landing_history.proofs.laws.a_whole_listing_can_be_read_on.Goals as goal

pub returns : goal.returns
returns c = listing_read_on
