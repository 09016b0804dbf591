-- What a store comes to.
use Rattle.commit_payloads.specs.Forms.{IsBase}
use Rattle.state_model.specs.Dataset.{State}
use Rattle.state_model.specs.Follows.{IsStore}
use Rattle.state_model.specs.Saved.{saved}

-- what a base may say, in the form in which it is written
pub record IsStored (state : State) : Type 0 where
  pub store : IsStore state
  pub form : IsBase (saved state)
