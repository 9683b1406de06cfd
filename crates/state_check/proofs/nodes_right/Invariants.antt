-- What stays true in the loop of `state_check::nodes_right`.
use Rattle.std.proofs.Common.{◌≡◌}
use Rattle.base.specs.Loops.{every}
use Rattle.machine.specs.Broken.{node_right}
use Rattle.state_check.proofs.nodes_right.Given as goal

abbrev pub invariant-loop-n : goal.invariant-loop-n
invariant-loop-n l = l.right ≡ every (node_right l.d l.s) l.n
