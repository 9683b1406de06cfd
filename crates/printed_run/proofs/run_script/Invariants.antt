-- What stays true in the loop of `printed_run::run_script`.
use Rattle.std.proofs.Common.{◌≤◌, ◌+◌, ◌*◌, take}
use Rattle.machine.specs.Sessions.{session_of}
use Rattle.printed_run.specs.Held.{Reached}
use Rattle.printed_run.specs.declared.TheConstants.{PART_BYTES}
use Rattle.printed_run.proofs.run_script.Given as goal

abbrev pub invariant-loop : goal.invariant-loop
invariant-loop g l =
    Reached (session_of l.initial.session) (session_of l.session) l.ran (take l.script.held l.script.part)
    × (l.ran.number ≤ 1 + PART_BYTES * l.counter)
