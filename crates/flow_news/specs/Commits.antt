-- What a flow of a store that stands comes to.
use Rattle.std.specs.Prelude.{◌≡◌, ⊤, List}
use Rattle.landing_core.specs.declared.landing.LandingFile.{LandingFile}
use Rattle.plan_core.specs.declared.plan.Dataset.{Dataset as Part}
use Rattle.commit_payloads.specs.declared.payload.Payload.TheVariants as payload
use Rattle.commit_payloads.specs.Payloads.{IsWritable}
use Rattle.state_model.specs.Dataset.{State}
use Rattle.state_model.specs.Follows.{Fits}
use Rattle.store_fitness.specs.Fitness.{EndsAtSource}
use Rattle.state_steps.specs.Steps.{Commits}
use Rattle.flow_news.specs.declared.offer.Offer.{Offer}
use Rattle.flow_news.specs.declared.offer.Offer.TheVariants.{Ready, Unfit}

-- an offer of a flow of a store that stands for these parts: its batch, if it has one, may be committed, and it isn't unfit
abbrev pub IsOfStanding : List Part → List LandingFile → State → Offer → Type 0
IsOfStanding parts ever state (Ready read batch) = Commits parts ever state (payload.Take batch) parts
IsOfStanding parts ever state Unfit = ⊥
IsOfStanding parts ever state other = ⊤

-- an offer of a flow of a store that is ready for its plan: its batch, if it has one, may be written and fits the store, but for
-- the limit of versions, and it isn't unfit
abbrev pub MayBeTaken : State → Part → Offer → Type 0
MayBeTaken state dataset (Ready read batch) = Fits state (payload.Take batch) × IsWritable (payload.Take batch) × EndsAtSource state batch × (batch.table ≡ dataset.name)
MayBeTaken state dataset Unfit = ⊥
MayBeTaken state dataset other = ⊤
