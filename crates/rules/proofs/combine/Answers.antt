-- What the check leaves open of `rules::combine`. Assumes nothing.
use Rattle.machine.specs.Deciding.{combined}
use Rattle.base.specs.Tests.{when◌then◌else◌}
use borrow.Author.Tests.{eq-eqb, ne_eqb}
use Rattle.rules.proofs.combine.Goals as goal

pub returns-then-x : goal.returns-then-x
unfolding combined when◌then◌else◌
returns-then-x c = rw (eq-eqb _ _ c.if-operator-eq0.true, c.if-x.true)

pub returns-else-x : goal.returns-else-x
unfolding combined when◌then◌else◌
returns-else-x c = rw (eq-eqb _ _ c.if-operator-eq0.true, c.if-x.false)

pub returns-then-x-2 : goal.returns-then-x-2
unfolding combined when◌then◌else◌
returns-then-x-2 c = rw (ne_eqb _ _ c.if-operator-eq0.false, c.if-x-2.true)

pub returns-else-x-2 : goal.returns-else-x-2
unfolding combined when◌then◌else◌
returns-else-x-2 c = rw (ne_eqb _ _ c.if-operator-eq0.false, c.if-x-2.false)
