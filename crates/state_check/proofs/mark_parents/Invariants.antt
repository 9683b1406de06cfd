-- What stays true in the loop of `state_check::mark_parents`.
use Rattle.base.specs.Marks.{Marked}
use Rattle.machine.specs.Terms.{occurring, paused}
use Rattle.machine.specs.Events.{child_in}
use Rattle.state_check.proofs.mark_parents.Given as goal

abbrev pub invariant-loop-n : goal.invariant-loop-n
invariant-loop-n l = record {
  occurs : Marked (child_in l.nodes l.states occurring) l.n l.marks.occurs;
  pauses : Marked (child_in l.nodes l.states paused) l.n l.marks.pauses;
}
