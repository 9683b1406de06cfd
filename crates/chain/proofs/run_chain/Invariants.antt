-- What stays true in the loops of `chain::run_chain`.
use Rattle.std.proofs.Common.{◌≡◌, ◌-◌}
use Rattle.base.specs.Loops.{ascending}
use Rattle.machine.specs.Owners.{owner_chosen}
use Rattle.machine.specs.Chain.{link_tried, lines_taken, chained}
use Rattle.events.specs.Running.{run}
use Rattle.chain.proofs.run_chain.Given as goal

abbrev pub invariant-loop-k : goal.invariant-loop-k
invariant-loop-k l =
    lines_taken owner_chosen l.d.document (l.k-end - l.k) l.k (run l.w l.log)
    ≡ chained owner_chosen l.d.document (run l.initial.w l.initial.log)

abbrev pub invariant-loop-l : goal.invariant-loop-l
invariant-loop-l l = run l.w l.log ≡ ascending (link_tried owner_chosen l.d.document l.x) l.l (run l.initial.w l.initial.log)
