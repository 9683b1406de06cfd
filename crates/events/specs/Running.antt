-- The run that the working record of a call and its log slice stand for.
use Rattle.std.specs.Prelude.{ℕ, List}
use Rattle.machine.specs.Events.{Run}
use Rattle.call_log.specs.LogSlice.{log_of}
use Rattle.events.specs.declared.Work.{Work}

abbrev pub run : Work → List ℕ → Run
run w bytes = record { state = w.state; log = log_of w.written bytes; firings = w.firings }
