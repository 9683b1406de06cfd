-- What the check leaves open of `printing::lines::put_lines`. Assumes nothing.
use Rattle.std.proofs.Common.{◌∙◌, ap, arith, append_assoc, append-nil, length, length-append, []}
use Rattle.std.proofs.lemmas.List.{at_drop_more, at_drop_all}
use Rattle.printing.specs.Lines.{groups_text}
use Rattle.printing.proofs.Writings.{then}
use Rattle.printing.proofs.lines.put_lines.Goals as goal

pub put_line-requires : goal.put_line-requires
unfolding groups_text
put_line-requires c =
    let (printed, adds, whole) = c.loop-class.invariant in
    let size = simp length-append at (ap length (rw (at_drop_more groups_text c.args.lines.now c.loop-class.class-index [] (omega arith)) at whole)) in
    omega arith

pub loop-class-preserved : goal.loop-class-preserved
unfolding groups_text
loop-class-preserved c =
    (_, then c.loop-class.invariant.1 c.put_line.ensures, append_assoc c.loop-class.invariant.0 _ _ ∙ (rw (at_drop_more groups_text c.args.lines.now c.loop-class.class-index [] (omega arith)) at c.loop-class.invariant.2))

pub returns : goal.returns
unfolding groups_text
returns c =
    let whole = rw (at_drop_all groups_text c.args.lines.now c.loop-class.class-index (omega arith)) at c.loop-class.invariant.2 in
    rw (← whole, append-nil) c.loop-class.invariant.1
