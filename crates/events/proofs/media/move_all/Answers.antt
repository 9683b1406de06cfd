-- What the check leaves open of `events::media::move_all`. Assumes nothing.
use Rattle.events.proofs.Prelude.{ascending_more, when◌then◌else◌}
use Rattle.machine.specs.Events.{moved_below}
use Rattle.events.proofs.media.move_all.Goals as goal
use Rattle.events.proofs.media.move_all.Goals.{then-is_media_below, else-is_media_below}

pub loop-n-preserved : goal.loop-n-preserved
unfolding moved_below when◌then◌else◌
loop-n-preserved c =
    ascending_more _ _ _ c.loop-n.invariant
    (elim c.if-is_media_below.branch [
      | then-is_media_below w ↦ rw (w.w-is, w.log-is, ← c.is_media_below.ensures, w.if-is_media_below.true) (w.move_media.ensures _)
      | else-is_media_below w ↦ rw (w.w-is, w.log-is, ← c.is_media_below.ensures, w.if-is_media_below.false)
    ])
