-- What stays true in the loop over the ports of a context, and what decreases: a child's id is above its parent's, so 64 less the id falls.
use Prim.Native.Nat.{◌-◌}
use Rattle.starting.specs.Reached.{Reached}
use Rattle.starting.proofs.ReachLaws.{ports_by}
use Rattle.starting.proofs.start.Start.+start_context_start_switch.Given as goal

abbrev pub decreases-start_context : goal.decreases-start_context
decreases-start_context l = 64 - l.n

abbrev pub decreases-start_switch : goal.decreases-start_switch
decreases-start_switch l = 64 - l.n

abbrev pub invariant-start_context-loop-p : goal.invariant-start_context-loop-p
invariant-start_context-loop-p l = Reached l.initial.self l.n (ports_by l.initial.self l.n l.p) l.self
