-- What stays true in the loop of `end_check::used`.
use Rattle.std.proofs.Common.{◌≡◌, not, ◌||◌, get_or}
use Rattle.base.specs.Tests.{◌=?◌}
use Rattle.base.specs.Loops.{every}
use Rattle.end_check.proofs.used.Given as goal

abbrev pub invariant-loop-i : goal.invariant-loop-i
invariant-loop-i g l = l.all_used ≡ every (λ i. not (get_or l.actions i 0 =? 0) || g.T.PartialEq.eq (get_or l.column i l.zero) l.zero) l.i
