-- What load returns, in 01's terms.
use Rattle.std.specs.Prelude.{⊤}
use Rattle.machine.specs.declared.Outcome.{Outcome}
use Rattle.machine.specs.Answers.{load_answer}
use Rattle.machine.specs.Load.{LoadResult}

abbrev pub load_result : Outcome ⊤ → LoadResult
load_result r = record { answer = load_answer r.answer; session = r.session }
