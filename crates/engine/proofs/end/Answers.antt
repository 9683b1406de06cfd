-- What the check leaves open of `engine::end`. Assumes nothing.
use Rattle.base.specs.Tests.{when◌then◌else◌}
use Rattle.machine.specs.Answers.{numbered}
use Rattle.machine.specs.Chain.{goes_on}
use Rattle.machine.specs.Operations.{ended}
use Rattle.engine.proofs.end.Goals as goal

pub set_state-requires : goal.set_state-requires
unfolding ended goes_on when◌then◌else◌
set_state-requires c = rw c.in-Ok.is at c.requires

pub returns-in-Ok : goal.returns-in-Ok
unfolding ended goes_on when◌then◌else◌
returns-in-Ok c = rw (c.in-Ok.is, c.clear.ensures, c.set_state.ensures)

pub returns-in-Err : goal.returns-in-Err
unfolding ended goes_on when◌then◌else◌
returns-in-Err c = rw (c.in-Err.is, numbered c.in-Err.refusal) (c.refuse.ensures _)
