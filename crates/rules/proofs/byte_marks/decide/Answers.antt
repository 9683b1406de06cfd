-- What the check leaves open of `rules::byte_marks::decide`. Assumes nothing.
use Rattle.rules.proofs.ByteMarks.{decided_marks}
use Rattle.rules.proofs.byte_marks.decide.Goals as goal

pub returns : goal.returns
returns c = decided_marks (rw c.read_marks.ensures at c.decide-holds.ensures.decided) c.note_known.ensures
