-- An offer of a batch, unless something stops it.
use Rattle.std.specs.Prelude.{ℕ, Option, Some, None}
use Rattle.plan_core.specs.declared.stop.Stop.{Stop}
use Rattle.commit_payloads.specs.declared.take.Take.{Take}
use Rattle.flow_news.specs.declared.offer.Offer.{Offer}
use Rattle.flow_news.specs.declared.offer.Offer.TheVariants.{Halted, Ready}

-- a batch of so many rows, unless something stops it
abbrev pub made : Option Stop → ℕ → Take → Offer
made (Some why) read batch = Halted why
made None read batch = Ready read batch
