-- What the check leaves open of `rules::byte_marks::simple_marks`. Assumes nothing.
use Rattle.rules.proofs.ByteMarks.{known_marks}
use Rattle.rules.proofs.byte_marks.simple_marks.Goals as goal

pub returns : goal.returns
returns c = known_marks c.new.ensures.known c.note_known.ensures
