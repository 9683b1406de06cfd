-- What stays true in the loop of `ticking::past_last_due`.
use Rattle.base.specs.Marks.{LastFound}
use Rattle.ticking.specs.Advancing.{due_next}
use Rattle.ticking.proofs.past_last_due.Given as goal

abbrev pub invariant-loop-a : goal.invariant-loop-a
invariant-loop-a l = LastFound (due_next l.d.document.anchors.media l.times l.clocks) l.a l.past
