-- What stays true in the loop of `script_run::run_part`, and what decreases.
use Rattle.std.proofs.Common.{◌≡◌, ◌+◌, ◌-◌, ◌<◌, ◌≤◌, length, take, drop}
use Rattle.machine.specs.Sessions.{session_of}
use Rattle.printing.specs.Writing.{HasRoom}
use Rattle.script_run.specs.Running.{GoesOn}
use Rattle.script_run.proofs.run_part.Given as goal

abbrev pub invariant-loop-c : goal.invariant-loop-c
invariant-loop-c l =
    (l.text.bytes.ghost_name ≡ l.initial.text.bytes.ghost_name)
    × (length l.text.bytes.now ≡ length l.initial.text.bytes.now)
    × HasRoom 0 l.text
    × (l.used ≤ length l.script) × (l.next ≤ l.number + l.used) × (length l.log ≡ length l.initial.log)
    × (0 < l.text.filled → l.number < l.next) × (l.number ≤ l.next)
    × GoesOn l.number (session_of l.initial.s) l.script (take l.text.filled l.text.bytes.now) l.next (session_of l.s) (drop l.used l.script)

abbrev pub decreases-loop-c : goal.decreases-loop-c
decreases-loop-c l = length l.script - l.used
