-- What stays true in the loop of `ticking::advance_all`.
use Rattle.std.proofs.Common.{◌≡◌}
use Rattle.base.specs.Loops.{ascending}
use Rattle.machine.specs.Tick.{ticked_one}
use Rattle.events.specs.Running.{run}
use Rattle.ticking.proofs.advance_all.Given as goal

abbrev pub invariant-loop-n : goal.invariant-loop-n
invariant-loop-n l = run l.w l.log ≡ ascending (ticked_one l.d.document) l.n (run l.initial.w l.initial.log)
