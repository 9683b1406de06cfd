-- What the check leaves open of `printing::text::Text::put_number`. Assumes nothing.
use Rattle.printing.proofs.Writings.{then}
use Rattle.printing.proofs.text.Text.put_number.Goals as goal

pub returns : goal.returns
returns c = then c.put.ensures c.put_decimal.ensures
