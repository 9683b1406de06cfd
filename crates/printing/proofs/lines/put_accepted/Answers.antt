-- What the check leaves open of `printing::lines::put_accepted`. Assumes nothing.
use Rattle.std.proofs.Common.{◌≡◌, ℕ, ◌∙◌, ap, arith, length}
use Rattle.std.proofs.lemmas.List.{length-map}
use Rattle.machine.specs.Log.{lines_of}
use Rattle.machine.specs.PrintedRun.{printed_lines}
use Rattle.machine.specs.Text.{text, decimal}
use Rattle.printing.specs.Lines.{accepted_text, groups_text}
use Rattle.printing.proofs.LogLines.{printed_as_groups}
use Rattle.printing.proofs.Texts.{accepted_length}
use Rattle.printing.proofs.Writings.{then}
use Rattle.printing.proofs.lines.put_accepted.Goals as goal

pub put_lines-requires : goal.put_lines-requires
unfolding text
put_lines-requires c =
    let count = simp length-map at (ap length c.lines_of-lines.ensures) in
    rw (c.lines_of-lines.ensures, printed_as_groups)
    (omega (arith, accepted_length c.args.firings c.args.log.now, ap (λ (n : ℕ). length (decimal n)) count, ap (λ (n : ℕ). length (decimal n)) c.from.ensures))

pub returns : goal.returns
unfolding accepted_text text
returns c =
    let groups : groups_text c.lines_of-lines.result.now ≡ printed_lines (lines_of c.args.log.now) = ap groups_text c.lines_of-lines.ensures ∙ printed_as_groups _ in
    let count : length c.lines_of-lines.result.now ≡ length (lines_of c.args.log.now) = simp length-map at (ap length c.lines_of-lines.ensures) in
    rw (← groups, ← count, ← c.from.ensures) (then (then (then c.put_text.ensures c.put_number.ensures) c.put_number-2.ensures) c.put_lines.ensures)
