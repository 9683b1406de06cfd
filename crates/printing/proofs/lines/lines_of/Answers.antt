-- What the check leaves open of `printing::lines::lines_of`. Assumes nothing.
use Rattle.std.proofs.Common.{refl}
use Rattle.printing.proofs.LogLines.{lines_as_groups}
use Rattle.printing.proofs.lines.lines_of.Goals as goal

pub returns : goal.returns
returns c = rw (c.line_count.ensures, c.as_chunks.ensures.front) (lines_as_groups _ _ refl)
