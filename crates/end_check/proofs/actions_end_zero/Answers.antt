-- What the check leaves open of `end_check::actions_end_zero`. Assumes nothing.
use Rattle.std.proofs.Common.{arith}
use Rattle.base.specs.Loops.{every_done}
use Rattle.end_check.proofs.actions_end_zero.Goals as goal

pub returns : goal.returns
returns c = every_done _ _ _ (omega arith) c.loop-link.invariant
