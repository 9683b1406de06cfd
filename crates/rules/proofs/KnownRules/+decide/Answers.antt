-- What the check leaves open of `rules::KnownRules::decide`. Assumes nothing.
use native.Mathlib.Omega.{arith}
use Rattle.rules.proofs.Marks.{from_two}
use Rattle.rules.proofs.KnownRules.+decide.Goals as goal

pub returns : goal.returns
returns t c =
    from_two c.from-left.ensures c.decide-first.ensures c.from-right.ensures c.decide-second.ensures
    c.requires.1 c.in_default.is (omega arith) c.combine-holds.ensures
