-- What the check leaves open of `rules::compare`. Assumes nothing.
use Rattle.machine.specs.Deciding.{compared}
use Rattle.base.specs.Tests.{when◌then◌else◌}
use Rattle.base.specs.Bits.{same_bits}
use mir.ValLaws.{to_z-of_z}
use mir.Syntax.{w32}
use borrow.Author.Tests.{ne_eqb}
use mathlib.Core.Path.{ap}
use mathlib.Core.Bool.{not}
use native.Mathlib.Omega.{arith}
use Rattle.rules.proofs.compare.Goals as goal

pub returns-in-0 : goal.returns-in-0
unfolding compared when◌then◌else◌
returns-in-0 c = rw c.in-0.is (same_bits _ _ c.ranges.x c.ranges.y)

pub returns-in-1 : goal.returns-in-1
unfolding compared when◌then◌else◌
returns-in-1 c = rw c.in-1.is (ap not (same_bits _ _ c.ranges.x c.ranges.y))

pub returns-in-2 : goal.returns-in-2
unfolding compared when◌then◌else◌
returns-in-2 c = rw c.in-2.is (simp (to_z-of_z w32 _ c.ranges.x, to_z-of_z w32 _ c.ranges.y))

pub returns-in-3 : goal.returns-in-3
unfolding compared when◌then◌else◌
returns-in-3 c = simp (c.in-3.is, to_z-of_z w32 _ c.ranges.x, to_z-of_z w32 _ c.ranges.y)

pub returns-in-4 : goal.returns-in-4
unfolding compared when◌then◌else◌
returns-in-4 c = simp (c.in-4.is, to_z-of_z w32 _ c.ranges.x, to_z-of_z w32 _ c.ranges.y)

pub returns-in_default : goal.returns-in_default
unfolding compared when◌then◌else◌
returns-in_default c = simp (
  ne_eqb c.args.comparator 0 (λ e. omega arith),
  ne_eqb c.args.comparator 1 (λ e. omega arith),
  ne_eqb c.args.comparator 2 (λ e. omega arith),
  ne_eqb c.args.comparator 3 (λ e. omega arith),
  ne_eqb c.args.comparator 4 (λ e. omega arith),
  to_z-of_z w32 _ c.ranges.x,
  to_z-of_z w32 _ c.ranges.y,
)
