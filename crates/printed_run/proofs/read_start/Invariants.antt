-- What stays true in the loop of `printed_run::read_start`, and what decreases.
use Rattle.std.proofs.Common.{length, ◌-◌, ◌≤◌}
use Rattle.printed_run.proofs.read_start.Given as goal

abbrev pub invariant-loop-at : goal.invariant-loop-at
invariant-loop-at g l = l.at ≤ length l.bytes

abbrev pub decreases-loop-at : goal.decreases-loop-at
decreases-loop-at g l = length l.initial.bytes - l.at
