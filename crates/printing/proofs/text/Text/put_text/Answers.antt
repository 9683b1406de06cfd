-- What the check leaves open of `printing::text::Text::put_text`. Assumes nothing.
use Rattle.std.proofs.Common.{rules}
use Rattle.std.proofs.lemmas.Slice.{take-put_mid, drop-put_mid}
use Rattle.printing.proofs.text.Text.put_text.Goals as goal

pub returns : goal.returns
returns c = search (rules, take-put_mid, drop-put_mid)
