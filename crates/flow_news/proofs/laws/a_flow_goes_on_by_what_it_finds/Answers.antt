use Rattle.flow_news.proofs.GoingLemmas.{finds_goes}
use Rattle.flow_news.proofs.laws.a_flow_goes_on_by_what_it_finds.Goals as goal

pub returns : goal.returns
returns g c = λ told was now files ever state listing from cursor found held stands there listed comes.
    finds_goes ever state g.L.Landing.tells told was now files held c.places_have_one_form.ensures c.reach_keeps_ends.ensures c.a_reading_finds_what_is_between.ensures from listing cursor found stands there listed comes
