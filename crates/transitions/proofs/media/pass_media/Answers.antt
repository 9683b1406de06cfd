-- What the check leaves open of `transitions::media::pass_media`. Assumes nothing.
use Rattle.transitions.proofs.AnchorLaws.{passes_end, passes_on}
use Rattle.transitions.proofs.media.pass_media.Goals as goal

pub returns-then-due : goal.returns-then-due
returns-then-due c = λ d rest of is. passes_end d _ _ _ _ _ _ _ of is (c.move_anchors.ensures _ _) (c.move_anchors-2.ensures _ _) c.if-due.true (c.move_media.ensures _)

pub returns-else-due : goal.returns-else-due
returns-else-due c = λ d rest of is. passes_on d _ _ _ _ _ _ _ of is (c.move_anchors.ensures _ _) (c.move_anchors-2.ensures _ _) c.if-due.false
