-- What stays true in the loop of `end_check::unused_zero`.
use Rattle.std.proofs.Common.{◌≡◌, ◌||◌, ◌+◌, ◌*◌, get_or}
use Rattle.base.specs.Tests.{◌=?◌, ◌<?◌}
use Rattle.base.specs.Loops.{every}
use Rattle.end_check.proofs.unused_zero.Given as goal

abbrev pub invariant-loop-j : goal.invariant-loop-j
invariant-loop-j l = l.zero ≡ every (λ j. j <? l.count || get_or l.actions (8 * l.link + j) 0 =? 0) l.j
