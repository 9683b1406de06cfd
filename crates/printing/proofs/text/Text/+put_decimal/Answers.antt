-- What the check leaves open of `printing::text::Text::put_decimal`. Assumes nothing.
use Rattle.std.proofs.Common.{◌≡◌, ◌%◌, ap, arith, length}
use Rattle.printing.proofs.Decimals.{decimal_last, decimal_more, decimal_longer}
use Rattle.printing.proofs.Writings.{then}
use Rattle.printing.proofs.text.Text.+put_decimal.Goals as goal
use Rattle.printing.proofs.text.Text.+put_decimal.Goals.{then-n-ge10, else-n-ge10}

pub put_decimal-requires : goal.put_decimal-requires
put_decimal-requires t c = (omega arith, omega (arith, decimal_longer _ c.ranges.n.fits c.if-n-ge10.true))

pub put-requires : goal.put-requires
put-requires t c =
    elim c.if-n-ge10.branch [
      | then-n-ge10 w ↦ rw w.self-is (omega (arith, decimal_longer _ c.ranges.n.fits w.if-n-ge10.true))
      | else-n-ge10 w ↦ rw w.self-is (omega (arith, ap length (decimal_last _ w.if-n-ge10.false)))
    ]

pub returns : goal.returns
returns t c =
    elim c.if-n-ge10.branch [
      | then-n-ge10 w ↦ rw (decimal_more _ c.ranges.n.fits w.if-n-ge10.true, ← c.digit.ensures) (then w.put_decimal.ensures (rw w.self-is at c.put.ensures))
      | else-n-ge10 w ↦
          let last : c.args.n % 10 ≡ c.args.n = omega arith in
          rw (decimal_last _ w.if-n-ge10.false, ← last, ← c.digit.ensures) (rw w.self-is at c.put.ensures)
    ]
