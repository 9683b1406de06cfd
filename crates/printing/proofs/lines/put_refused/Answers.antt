-- What the check leaves open of `printing::lines::put_refused`. Assumes nothing.
use Rattle.machine.specs.Text.{text}
use Rattle.printing.specs.Lines.{refused_text}
use Rattle.printing.proofs.Writings.{then}
use Rattle.printing.proofs.lines.put_refused.Goals as goal

pub returns : goal.returns
unfolding refused_text text
returns c = rw (← c.from.ensures, ← c.from-2.ensures) (then c.put_text.ensures c.put_number.ensures)
