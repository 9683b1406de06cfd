-- What the check leaves open of `starting::start::Start::new`. Assumes nothing.
use native.Mathlib.Omega.{arith}
use Rattle.starting.proofs.QueueLaws.{room_none}
use Rattle.starting.proofs.ReachLaws.{later_choices}
use Rattle.starting.proofs.start.Start.new.Goals as goal

pub invariant_of-result-clause-later : goal.invariant_of-result-clause-later
invariant_of-result-clause-later c = later_choices _ c.args.document.now.sound _ _ c.found_children.ensures

pub invariant_of-result-clause-room : goal.invariant_of-result-clause-room
invariant_of-result-clause-room c = rw c.new.ensures (room_none _ (omega arith))
