-- What stays true in the loop of `choosing::default_children`.
use Rattle.machine.specs.Records.{is_default}
use Rattle.choosing.specs.Choosing.{Chosen, no_child}
use Rattle.choosing.proofs.default_children.Given as goal

abbrev pub invariant-loop-b : goal.invariant-loop-b
invariant-loop-b l = Chosen l.binds (is_default l.binds) no_child l.b l.chosen
