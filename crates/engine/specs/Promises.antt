-- What a call returns, in 01's terms: the answer, the session, and the bytes of the log slice as the call leaves them.
use Rattle.std.specs.Prelude.{ℕ, List, Result}
use Rattle.machine.specs.Answers.{call_answer}
use Rattle.machine.specs.Operations.{CallResult}
use Rattle.machine.specs.declared.Refusal.{Refusal}
use Rattle.machine.specs.declared.Session.{Session}
use Rattle.machine.specs.declared.Outcome.{Outcome}

-- of a call that changes its session in place
abbrev pub called_result : Result ℕ Refusal → Session → List ℕ → CallResult
called_result answer session bytes = record { answer = call_answer answer; session = session; log = bytes }

abbrev pub call_result : Outcome ℕ → List ℕ → CallResult
call_result r bytes = called_result r.answer r.session bytes
