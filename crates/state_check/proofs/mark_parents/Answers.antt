-- What the check leaves open of `state_check::mark_parents`. Assumes nothing.
use Rattle.std.proofs.Common.{refl, arith}
use Rattle.base.specs.Marks.{marked_none, marked_more}
use Rattle.machine.specs.Events.{child_in}
use Rattle.state_check.proofs.mark_parents.Goals as goal

pub loop-n-init : goal.loop-n-init
loop-n-init c = record { occurs = rw c.requires.1 (marked_none _); pauses = rw c.requires.2 (marked_none _) }

pub loop-n-preserved : goal.loop-n-preserved
unfolding child_in
loop-n-preserved c = record {
  occurs = marked_more _ _ _ _ _ _ (omega arith) (λ n. rw c.from-parent.ensures refl) refl c.loop-n.invariant.occurs;
  pauses = marked_more _ _ _ _ _ _ (omega arith) (λ n. rw c.from-parent.ensures refl) refl c.loop-n.invariant.pauses;
}
