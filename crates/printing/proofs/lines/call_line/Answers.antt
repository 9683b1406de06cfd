-- What the check leaves open of `printing::lines::call_line`. Assumes nothing.
use Rattle.std.proofs.Common.{arith}
use Rattle.machine.specs.Text.{text}
use Rattle.printing.proofs.Decimals.{word_length}
use Rattle.printing.proofs.Texts.{accepted_most, refused_most, accepted_call, refused_call}
use Rattle.printing.proofs.Writings.{then}
use Rattle.printing.proofs.lines.call_line.Goals as goal
use Rattle.printing.proofs.lines.call_line.Goals.{in-Ok, in-Err}

pub put_decimal-requires : goal.put_decimal-requires
put_decimal-requires c = omega (arith, word_length _ c.ranges.number.fits)

pub put_accepted-requires : goal.put_accepted-requires
put_accepted-requires c =
    let most = accepted_most c.in-Ok.firings c.args.log.now (omega arith) (omega arith) (λ i. omega (arith, c.type_inv.log i)) in
    omega (arith, word_length _ c.ranges.number.fits, most)

pub put_refused-requires : goal.put_refused-requires
put_refused-requires c = omega (arith, word_length _ c.ranges.number.fits, refused_most c.in-Err.refusal)

pub put-requires : goal.put-requires
put-requires c =
    elim c.match-answer.branch [
      | in-Ok w ↦
          let most = accepted_most w.in-Ok.firings c.args.log.now (omega arith) (omega arith) (λ i. omega (arith, c.type_inv.log i)) in
          rw w.text-is (omega (arith, word_length _ c.ranges.number.fits, most))
      | in-Err w ↦ rw w.text-is (omega (arith, word_length _ c.ranges.number.fits, refused_most w.in-Err.refusal))
    ]

pub returns : goal.returns
unfolding text
returns c = λ s.
    elim c.match-answer.branch [
      | in-Ok w ↦ rw (w.in-Ok.is, ← accepted_call c.args.number s c.args.log.now) (then (then c.put_decimal.ensures w.put_accepted.ensures) (rw w.text-is at c.put.ensures))
      | in-Err w ↦ rw (w.in-Err.is, ← refused_call c.args.number s c.args.log.now) (then (then c.put_decimal.ensures w.put_refused.ensures) (rw w.text-is at c.put.ensures))
    ]
