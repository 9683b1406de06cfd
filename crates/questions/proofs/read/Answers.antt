-- What the check leaves open of `questions::read`. Assumes nothing.
use Rattle.std.proofs.Common.{sym, ◌∙◌}
use Rattle.questions.proofs.ReadEvents.{within}
use Rattle.questions.proofs.read.Goals as goal

pub read_event-requires : goal.read_event-requires
read_event-requires c =
    rw c.from.ensures
    (within _ _ _ c.args.s.now.document.sound (sym c.class_is_read.ensures ∙ c.if-not-class_is_read.false)
    (sym (c.subject_given.ensures) ∙ c.if-not-subject_given.false))
