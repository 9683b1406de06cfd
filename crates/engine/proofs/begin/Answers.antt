-- What the check leaves open of `engine::begin`. Assumes nothing.
use Rattle.machine.specs.Operations.{argument_fault}
use Rattle.machine.proofs.Calls.{command_applicable}
use Rattle.engine.proofs.begin.Goals as goal

pub act-requires : goal.act-requires
unfolding argument_fault
act-requires c = command_applicable _ _ (rw c.in-Command.is at c.requires)
