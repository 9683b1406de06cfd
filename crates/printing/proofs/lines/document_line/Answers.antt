-- What the check leaves open of `printing::lines::document_line`. Assumes nothing.
use Rattle.machine.specs.Text.{text}
use Rattle.printing.proofs.Writings.{then}
use Rattle.printing.proofs.lines.document_line.Goals as goal

pub returns : goal.returns
unfolding text
returns c = rw (← c.from.ensures, ← c.from-2.ensures) (then c.put_text.ensures (then c.put_number.ensures c.put.ensures))
