-- What stays true in the loop of `transitions::anchors::move_anchors`.
use mathlib.Core.Path.{◌≡◌}
use Rattle.base.specs.Loops.{ascending}
use Rattle.machine.specs.Events.{anchor_moved}
use Rattle.machine.specs.declared.NodeEvents.{NodeEvents}
use Rattle.call_log.specs.LogSlice.{log_of}
use Rattle.transitions.specs.Lent.{anchors_of}
use Rattle.transitions.specs.Lent.{Rest, run_with}
use Rattle.changes.specs.Moves.{moves}
use Rattle.transitions.proofs.anchors.move_anchors.Given as goal

abbrev pub invariant-loop-a : goal.invariant-loop-a
invariant-loop-a l = (nodes : NodeEvents) (rest : Rest) → run_with nodes l.events rest (log_of l.written l.log) ≡ ascending (anchor_moved (anchors_of l.end l.anchors.media l.anchors.begins l.anchors.ends) (moves l.moving) l.change.aborting l.change.node l.change.state) l.a (run_with nodes l.initial.events rest (log_of l.initial.written l.initial.log))
