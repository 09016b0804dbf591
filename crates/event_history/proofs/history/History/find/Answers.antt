use Rattle.std.proofs.Common.{◌≡◌, ◌+◌, ◌-◌, ◌/◌, ◌<◌, ℕ, refl, sym, arith, ◌∙◌}
use Rattle.event_history.proofs.Finds.{seek_up, seek_down, seek_ends, found_at, equal}
use Rattle.event_history.proofs.history.History.find.Goals as goal

pub loop-low-preserved-in-Less : goal.loop-low-preserved-in-Less
loop-low-preserved-in-Less g c = seek_up _ _ _ c.loop-low.high c.loop-low.steps _ _ _ c.look.result.now c.loop-low.invariant (omega arith) refl c.look.ensures.entry (sym c.in-Less.ensures) c.look.ensures.looks

pub loop-low-preserved : goal.loop-low-preserved
loop-low-preserved g c = seek_down _ _ _ c.loop-low.high c.loop-low.steps _ _ _ c.look.result.now c.loop-low.invariant (omega arith) refl c.look.ensures.entry (sym c.in-Greater.ensures) c.look.ensures.looks

pub returns-in-Equal-clause-place : goal.returns-in-Equal-clause-place
returns-in-Equal-clause-place g c = (omega arith, found_at c.args.self.now c.args.sequence.now (c.loop-low.low + (c.loop-low.high - c.loop-low.low) / 2) c.look.result.now (omega arith) c.look.ensures.entry (equal _ _ (sym c.in-Equal.ensures)))

pub returns-in-Equal-clause-looks : goal.returns-in-Equal-clause-looks
returns-in-Equal-clause-looks g c = seek_ends _ _ _ _ _ _ _ c.loop-low.invariant (omega arith) c.look.ensures.looks
