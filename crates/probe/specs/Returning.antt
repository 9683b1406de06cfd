-- What another language gets, in 01's terms.
use Rattle.std.specs.Prelude.{ℕ, Bool, true, false, List, [], ◌∷◌, ℤ, pos}
use Rattle.machine.specs.Answers.{Answer, accepted, refused}
use Rattle.machine.specs.Load.{LoadResult}
use Rattle.machine.specs.Operations.{CallResult}
use Rattle.probe.specs.declared.ReturnedSession.{ReturnedSession}
use Rattle.probe.specs.declared.ReturnedReading.{ReturnedReading}
use Rattle.probe.specs.declared.ReturnedCheck.{ReturnedCheck}
use Rattle.probe.specs.declared.ReturnedCount.{ReturnedCount}

abbrev pub answer_of : Bool → ℕ → List ℤ → Answer
answer_of true refusal values = accepted values
answer_of false refusal values = refused refusal

abbrev pub load_in : ReturnedSession → LoadResult
load_in r = record { answer = answer_of r.accepted r.refusal []; session = r.session }

-- with the bytes of the log slice as the call leaves them
abbrev pub call_in : ReturnedSession → List ℕ → CallResult
call_in r bytes = record { answer = answer_of r.accepted r.refusal (pos r.firings ∷ []); session = r.session; log = bytes }

abbrev pub read_in : ReturnedReading → Answer
read_in r = answer_of r.accepted r.refusal (pos r.state ∷ r.value ∷ pos r.count ∷ [])

abbrev pub check_in : ReturnedCheck → Answer
check_in r = answer_of r.accepted r.refusal (pos r.condition ∷ [])

abbrev pub count_in : ReturnedCount → Answer
count_in r = answer_of r.accepted r.refusal (pos r.condition ∷ r.count ∷ [])
