-- What stays true in the loop of `state_check::anchors_right`.
use Rattle.std.proofs.Common.{◌≡◌}
use Rattle.base.specs.Loops.{every}
use Rattle.machine.specs.Broken.{anchor_right}
use Rattle.state_check.proofs.anchors_right.Given as goal

abbrev pub invariant-loop-a : goal.invariant-loop-a
invariant-loop-a l = l.right ≡ every (anchor_right l.d l.s) l.a
