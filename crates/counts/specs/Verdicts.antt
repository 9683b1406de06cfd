-- The number of the condition that a check found to fail, 0 if all hold.
use Rattle.std.specs.Prelude.{ℕ, ⊤, Result, Ok, Err}
use Rattle.machine.specs.Answers.{condition_number}
use Rattle.machine.specs.declared.Condition.{Condition}

abbrev pub verdict_number : Result ⊤ Condition → ℕ
verdict_number (Ok _) = 0
verdict_number (Err c) = condition_number c
