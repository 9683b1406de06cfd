-- What the check leaves open of `printing::lines::put_line`. Assumes nothing.
use Rattle.machine.specs.Text.{text}
use Rattle.printing.specs.Lines.{line_text}
use Rattle.printing.proofs.Writings.{then}
use Rattle.printing.proofs.lines.put_line.Goals as goal

pub returns : goal.returns
unfolding line_text text
returns c = rw (← c.from.ensures, ← c.from-2.ensures, ← c.from-3.ensures) (then (then c.put_number.ensures c.put_number-2.ensures) c.put_number-3.ensures)
