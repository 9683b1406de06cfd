-- What the check leaves open of `choosing::choose`. Assumes nothing.
use Rattle.base.specs.Tests.{when◌then◌else◌}
use Rattle.choosing.proofs.choose.Goals as goal

pub returns-then-passes : goal.returns-then-passes
unfolding when◌then◌else◌
returns-then-passes c = rw (c.if-passes.true, ← c.from.ensures)

pub returns-else-passes : goal.returns-else-passes
unfolding when◌then◌else◌
returns-else-passes c = rw c.if-passes.false
