-- What the check leaves open of `ticking::past_last_due`. Assumes nothing.
use Rattle.std.proofs.Common.{◌<◌, arith}
use Rattle.base.specs.Tests.{when◌then◌else◌}
use Rattle.base.specs.Marks.{found_none}
use Rattle.ticking.proofs.TickLaws.{found_due}
use Rattle.ticking.proofs.past_last_due.Goals as goal
use Rattle.ticking.proofs.past_last_due.Goals.{then-is_next, else-is_next}

pub loop-a-init : goal.loop-a-init
loop-a-init c = found_none _

pub loop-a-preserved : goal.loop-a-preserved
unfolding when◌then◌else◌
loop-a-preserved c =
    let low : c.from-n.result < 64 = omega (arith, c.args.d.now.sound.anchor_media _ c.loop-a-test.true, c.args.d.now.sound.nodes.few) in
    let due = found_due _ _ _ _ _ _ _ low c.from-n.ensures c.is_next.ensures c.loop-a.invariant in
    elim c.if-is_next.branch [
      | then-is_next w ↦ rw w.past-is (rw w.if-is_next.true at due)
      | else-is_next w ↦ rw w.past-is (rw w.if-is_next.false at due)
    ]
