-- What the check leaves open of `table_check::binds_obey`. Assumes nothing.
use Rattle.std.proofs.Common.{◌<◌, arith, refl}
use Rattle.base.specs.Loops.{every}
use Rattle.base.specs.Marks.{marked_none, marked_more}
use Rattle.machine.specs.Broken.{bind_obeys}
use Rattle.table_check.proofs.Passed.{passed}
use Rattle.table_check.proofs.binds_obey.Goals as goal

pub loop-i-init : goal.loop-i-init
unfolding every
loop-i-init c = (marked_none _, refl)

pub loop-i-preserved : goal.loop-i-preserved
unfolding every bind_obeys
loop-i-preserved c =
    let small : c.from-switch.result < 256 = omega arith in
    let marked = c.loop-i.invariant.0.noted c.from-switch.result small in (
      marked_more _ _ _ _ _ _ small (λ n. rw (c.from-switch.ensures, c.bind_at-bind.ensures) refl) refl c.loop-i.invariant.0,
      grind (arith, passed, marked, c.check_bind.ensures),
    )
