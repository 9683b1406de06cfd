-- What the check leaves open of `end_check::used`. Assumes nothing.
use Rattle.std.proofs.Common.{arith}
use Rattle.base.specs.Loops.{every_done}
use Rattle.end_check.proofs.used.Goals as goal

pub returns : goal.returns
returns g c = every_done _ _ _ (omega arith) c.loop-i.invariant
