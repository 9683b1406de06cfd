-- What stays true in the loop of `counts::links::count_action`.
use Rattle.std.proofs.Common.{◌≡◌, ◌-◌}
use Rattle.base.specs.Loops.{first}
use Rattle.machine.specs.Counts.{sets_in}
use Rattle.counts.proofs.links.count_action.Given as goal

abbrev pub invariant-loop-j : goal.invariant-loop-j
invariant-loop-j l =
    first (sets_in l.d.document l.property l.link) l.count 0 ≡ first (sets_in l.d.document l.property l.link) (l.count - l.j) l.j
