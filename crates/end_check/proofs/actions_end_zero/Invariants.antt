-- What stays true in the loop of `end_check::actions_end_zero`.
use Rattle.std.proofs.Common.{◌≡◌, get_or}
use Rattle.base.specs.Loops.{every}
use Rattle.end_check.specs.Places.{unused_zero}
use Rattle.end_check.proofs.actions_end_zero.Given as goal

abbrev pub invariant-loop-link : goal.invariant-loop-link
invariant-loop-link l = l.zero ≡ every (λ k. unused_zero l.actions (get_or l.counts k 0) k) l.link
