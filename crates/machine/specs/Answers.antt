-- "Where an answer is an enum, a definition gives, for each of its cases, this paper's number and values."
-- Every operation's promise is stated through these.
use Rattle.std.specs.Prelude.{ℕ, ◌≡◌, refl, false, List, [], ◌∷◌, ℤ, pos, ⊤, Result, Ok, Err}
use Rattle.base.specs.Tests.{◌=?◌}
use Rattle.machine.specs.declared.Refusal.{Refusal}
use Rattle.machine.specs.declared.Refusal.TheVariants.{CutRecord, UnknownKind, MisplacedHead, TableFull, FieldOutOfRange, UnknownId, Conflict, NoNode, BadArgument, NoSuchId, LimitReached, LogFull, BrokenSession}
use Rattle.machine.specs.declared.Reading.{Reading}
use Rattle.machine.specs.declared.Condition.{Condition}
use Rattle.machine.specs.declared.Condition.TheVariants.{HasAnchor, AnchorsDisjoint, EachHasOneLink, EachSetsOnce, EachUnguarded, NoOtherAction, EachOutsideSwitches}

-- an answer as 01 gives it: the number of its refusal, 0 if it is accepted, and the values of an accepted one
pub record Answer : Type 0 where
  pub refusal : ℕ
  pub values : List ℤ

abbrev pub accepted : List ℤ → Answer
accepted values = record { refusal = 0; values = values }

abbrev pub refused : ℕ → Answer
refused number = record { refusal = number; values = [] }

abbrev pub number_of : Refusal → ℕ
number_of CutRecord = 1
number_of UnknownKind = 2
number_of MisplacedHead = 3
number_of TableFull = 4
number_of FieldOutOfRange = 5
number_of UnknownId = 6
number_of Conflict = 7
number_of NoNode = 8
number_of BadArgument = 9
number_of NoSuchId = 10
number_of LimitReached = 11
number_of LogFull = 12
number_of BrokenSession = 13

-- no refusal has the number 0, which stands for none
pub numbered : (r : Refusal) → number_of r =? 0 ≡ false
numbered CutRecord = refl
numbered UnknownKind = refl
numbered MisplacedHead = refl
numbered TableFull = refl
numbered FieldOutOfRange = refl
numbered UnknownId = refl
numbered Conflict = refl
numbered NoNode = refl
numbered BadArgument = refl
numbered NoSuchId = refl
numbered LimitReached = refl
numbered LogFull = refl
numbered BrokenSession = refl

-- the number of the refusal that a check answers, 0 if it passed
abbrev pub check_number : Result ⊤ Refusal → ℕ
check_number (Ok _) = 0
check_number (Err r) = number_of r

abbrev pub load_answer : Result ⊤ Refusal → Answer
load_answer (Ok _) = accepted []
load_answer (Err r) = refused (number_of r)

-- "the count comes back in the accepted answer"
abbrev pub call_answer : Result ℕ Refusal → Answer
call_answer (Ok firings) = accepted (pos firings ∷ [])
call_answer (Err r) = refused (number_of r)

-- "It returns state, value or 0, count"
abbrev pub read_answer : Result Reading Refusal → Answer
read_answer (Ok r) = accepted (pos r.state ∷ r.value ∷ pos r.count ∷ [])
read_answer (Err r) = refused (number_of r)

-- the conditions under which a document shows counts, by their numbers in `Counts`
abbrev pub condition_number : Condition → ℕ
condition_number HasAnchor = 1
condition_number AnchorsDisjoint = 2
condition_number EachHasOneLink = 3
condition_number EachSetsOnce = 4
condition_number EachUnguarded = 5
condition_number NoOtherAction = 6
condition_number EachOutsideSwitches = 7

-- no condition has the number 0, which stands for none
pub condition_numbered : (c : Condition) → condition_number c =? 0 ≡ false
condition_numbered HasAnchor = refl
condition_numbered AnchorsDisjoint = refl
condition_numbered EachHasOneLink = refl
condition_numbered EachSetsOnce = refl
condition_numbered EachUnguarded = refl
condition_numbered NoOtherAction = refl
condition_numbered EachOutsideSwitches = refl

-- "the first condition that fails, or that the document shows the counts": the condition's number, or 0
abbrev pub counts_answer : Result (Result ⊤ Condition) Refusal → Answer
counts_answer (Ok (Ok _)) = accepted (pos 0 ∷ [])
counts_answer (Ok (Err c)) = accepted (pos (condition_number c) ∷ [])
counts_answer (Err r) = refused (number_of r)

-- the same, and the count or 0
abbrev pub count_answer : Result (Result ℤ Condition) Refusal → Answer
count_answer (Ok (Ok count)) = accepted (pos 0 ∷ count ∷ [])
count_answer (Ok (Err c)) = accepted (pos (condition_number c) ∷ pos 0 ∷ [])
count_answer (Err r) = refused (number_of r)
