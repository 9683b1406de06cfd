-- What stays true in the loop of `end_check::zero_from`.
use Rattle.std.proofs.Common.{◌≡◌, ◌&&◌, drop}
use Rattle.machine.specs.Broken.{all}
use Rattle.end_check.proofs.zero_from.Given as goal

abbrev pub invariant-loop-i : goal.invariant-loop-i
invariant-loop-i g l =
    (l.all_zero && all (λ x. g.T.PartialEq.eq x l.zero) (drop l.i l.table)) ≡ all (λ x. g.T.PartialEq.eq x l.zero) (drop l.end l.table)
