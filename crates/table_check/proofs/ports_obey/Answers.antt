-- What the check leaves open of `table_check::ports_obey`. Assumes nothing.
use Rattle.std.proofs.Common.{◌<◌, arith, refl}
use Rattle.std.proofs.Math.Bool.{or-true, and-true, true}
use Rattle.base.specs.Loops.{every}
use Rattle.base.specs.Marks.{marked_none, marked_more}
use Rattle.machine.specs.Broken.{port_obeys}
use Rattle.table_check.proofs.Passed.{passed}
use Rattle.table_check.proofs.SamePort.{same_port}
use Rattle.table_check.proofs.ports_obey.Goals as goal

pub loop-i-init : goal.loop-i-init
unfolding every
loop-i-init c = (marked_none _, refl)

pub loop-i-preserved : goal.loop-i-preserved
unfolding every port_obeys
loop-i-preserved c =
    let small : c.from-child.result < 256 = omega arith in
    let marked = c.loop-i.invariant.0.noted c.from-child.result small in (
      marked_more _ _ _ _ true _ small (λ n. rw (c.from-child.ensures, c.port_at-port.ensures, and-true)) (rw or-true) c.loop-i.invariant.0,
      grind (arith, passed, marked, same_port c.args.d.now c.port_at-port.result c.loop-i.i, c.check_port.ensures),
    )
