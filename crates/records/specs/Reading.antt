-- What reading a record answers, in the definition's terms.
use Rattle.std.specs.Prelude.{ℕ, ◌+◌, List, get_or, drop, Result, Ok, Err}
use Rattle.machine.specs.Answers.{number_of}
use Rattle.machine.specs.Load.{OrFault, good, faulty, cut_at}
use Rattle.machine.specs.declared.Record.{Record}
use Rattle.machine.specs.declared.Refusal.{Refusal}

-- the record that begins at a place of the document
abbrev pub cut_from : List ℕ → ℕ → OrFault Record
cut_from document at = cut_at (get_or document at 0) (drop (at + 1) document)

-- of a reading, the record or the number of its first fault
abbrev pub reading_of : Result Record Refusal → OrFault Record
reading_of (Ok r) = good r
reading_of (Err refusal) = faulty (number_of refusal)
