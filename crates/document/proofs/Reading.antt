-- A record as it is checked: in a wrong place, with a fault, and without.
use Rattle.std.specs.Prelude.{◌≡◌, Result, Ok, Err}
use Rattle.std.specs.Result.{IsErrAnd}
use Rattle.std.proofs.Common.{◌∙◌}
use Rattle.base.specs.Tests.{when◌then◌else◌}
use Rattle.machine.specs.Answers.{number_of, numbered}
use Rattle.machine.specs.Records.{record_fault}
use Rattle.machine.specs.Load.{OrFault, good, faulty, and_then, unless, checked, place_fault}
use Rattle.machine.specs.declared.Document.{Document}
use Rattle.machine.specs.declared.Record.{Record}
use Rattle.machine.specs.declared.Refusal.{Refusal}
use Rattle.records.specs.Reading.{reading_of}

-- an early return hands on the refusal
refused : (x : Result Record Refusal) (refusal : Refusal) → IsErrAnd x (λ other. other ≡ refusal) → reading_of x ≡ faulty (number_of refusal)
refused (Ok r) refusal h = absurd h
refused (Err other) refusal h = rw h

module _ (d : Document) (r : Record) (read : OrFault Record) (cut : good r ≡ read) where
  pub misplaced : (refusal : Refusal) → number_of refusal ≡ place_fault d r
      → (x : Result Record Refusal) → IsErrAnd x (λ other. other ≡ refusal) → reading_of x ≡ checked place_fault d read
  unfolding checked and_then unless when◌then◌else◌
  misplaced refusal e x h = refused x refusal h ∙ rw (← cut, ← e, numbered refusal)

  pub faulted : 0 ≡ place_fault d r → (refusal : Refusal) → number_of refusal ≡ record_fault d r
      → (x : Result Record Refusal) → IsErrAnd x (λ other. other ≡ refusal) → reading_of x ≡ checked place_fault d read
  unfolding checked and_then unless when◌then◌else◌
  faulted p refusal e x h = refused x refusal h ∙ rw (← cut, ← p, ← e, numbered refusal)

  pub faultless : 0 ≡ place_fault d r → 0 ≡ record_fault d r → good r ≡ checked place_fault d read
  unfolding checked and_then unless when◌then◌else◌
  faultless p e = rw (← cut, ← p, ← e)
