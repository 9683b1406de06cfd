-- What the check leaves open of `events::media::move_each`. Assumes nothing.
use Rattle.events.proofs.Prelude.{ascending_more}
use Rattle.events.proofs.media.move_each.Goals as goal

pub loop-i-preserved : goal.loop-i-preserved
loop-i-preserved c = ascending_more _ _ _ c.loop-i.invariant (rw (← c.from-n.ensures) (c.move_media.ensures _))
