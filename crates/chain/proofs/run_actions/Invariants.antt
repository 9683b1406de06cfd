-- What stays true in the loop of `chain::run_actions`.
use Rattle.std.proofs.Common.{◌≡◌}
use Rattle.base.specs.Loops.{ascending}
use Rattle.machine.specs.Chain.{action_run}
use Rattle.events.specs.Running.{run}
use Rattle.chain.proofs.run_actions.Given as goal

abbrev pub invariant-loop-j : goal.invariant-loop-j
invariant-loop-j l = run l.w l.log ≡ ascending (action_run l.d.document l.l) l.j (run l.initial.w l.initial.log)
