-- What stays true in the loop of `counts::links::times_set`.
use Rattle.std.proofs.Common.{◌≡◌, ◌≤◌}
use Rattle.base.specs.Loops.{passing}
use Rattle.machine.specs.Counts.{sets_in}
use Rattle.counts.proofs.links.times_set.Given as goal

abbrev pub invariant-loop-j : goal.invariant-loop-j
invariant-loop-j l = (l.times ≤ l.j) × (l.times ≡ passing (sets_in l.d.document l.property l.link) l.j)
