-- What the check leaves open of `chain::run_actions`. Assumes nothing.
use Rattle.std.proofs.Common.{arith}
use Rattle.base.specs.Tests.{when◌then◌else◌}
use Rattle.base.specs.Loops.{ascending_none, ascending_more, ascending_done}
use Rattle.machine.specs.Chain.{goes_on, action_run, actions_run}
use Rattle.chain.proofs.run_actions.Goals as goal
use Rattle.chain.proofs.run_actions.Goals.{then-goes_on, else-goes_on}

pub loop-j-init : goal.loop-j-init
loop-j-init c = ascending_none _ _

pub loop-j-preserved : goal.loop-j-preserved
unfolding action_run goes_on when◌then◌else◌
loop-j-preserved c =
    elim c.if-goes_on.branch [
      | then-goes_on w ↦ rw (w.w-is, w.log-is) (ascending_more _ _ _ c.loop-j.invariant (rw (← c.goes_on.ensures, w.if-goes_on.true) (rw w.action_at-a.ensures at w.act.ensures)))
      | else-goes_on w ↦ rw (w.w-is, w.log-is) (ascending_more _ _ _ c.loop-j.invariant (rw (← c.goes_on.ensures, w.if-goes_on.false)))
    ]

pub returns : goal.returns
unfolding actions_run
returns c = ascending_done _ _ _ _ (omega arith) c.loop-j.invariant
