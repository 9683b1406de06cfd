-- Demand 3 and the theorem of counts, of what the operations return: of a list of calls that were made, each on the session that the one
-- before returned. What an operation promises of a call is read from its contract by the prover and is not written down again: `Post` of
-- the function's generated module `Reads` is the claim of its `ensures` lines.
use Rattle.std.specs.Prelude.{Ok}
use Prim.Native.Nat.{ℕ}
use mathlib.Core.List.{List, [], ◌∷◌}
use mathlib.Core.Bool.{false}
use mathlib.Core.Path.{◌≡◌}
use lib.IntN.{ℤ}
use lib.ListN.{length}
use contract.Lifetimes.{Lfts}
use denote.Triple.Clauses.{AtExit}
use borrow.Fn.Kinds.{ParamKind, ResultKind, Dens, res_t, ended_of, Out}
use Rattle.machine.specs.Terms.{of_property}
use Rattle.machine.specs.Tables.{anchor_at}
use Rattle.machine.specs.Answers.{load_answer}
use Rattle.machine.specs.Events.{node_state, node_clock}
use Rattle.machine.specs.Operations.{CallResult, command, command_sets, joined}
use Rattle.machine.specs.Demand3.{Holds, Awake, Inside}
use Rattle.machine.specs.Counts.{value_of, CountsShown}
use Rattle.machine.specs.declared.Session.{Session}
use Rattle.machine.specs.declared.Call.{Call}
use Rattle.machine.specs.declared.Reading.{Reading}
use Rattle.engine.specs.Promises.{call_result}
use Rattle.player.proofs.load.Kinds as load-kinds
use Rattle.player.proofs.load.Reads as load-reads
use Rattle.player.proofs.call.Kinds as call-kinds
use Rattle.player.proofs.call.Reads as call-reads
use Rattle.player.proofs.command.Kinds as command-kinds
use Rattle.player.proofs.command.Reads as command-reads
use Rattle.player.proofs.key.Kinds as key-kinds
use Rattle.player.proofs.key.Reads as key_reads
use Rattle.player.proofs.tick.Kinds as tick-kinds
use Rattle.player.proofs.tick.Reads as tick-reads
use Rattle.player.proofs.read.Kinds as read-kinds
use Rattle.player.proofs.read.Reads as read-reads
use Rattle.player.proofs.check_counts.Kinds as check-counts-kinds
use Rattle.player.proofs.check_counts.Reads as check-counts-reads
use Rattle.player.proofs.count_of.Kinds as count-of-kinds
use Rattle.player.proofs.count_of.Reads as count-of-reads

-- a call of a function that promises P: what it was handed, what it returned, its parameters as it left them, and that P holds of them
pub record CallOf (n : ℕ) (parameters : List (ParamKind n)) (result : ResultKind n) (P : Out n parameters result) : Type 0 where
  pub lifetimes : Lfts n
  pub handed : Dens lifetimes parameters
  pub returned : (res_t result lifetimes).Denot
  pub left : AtExit (ended_of n parameters result) lifetimes
  pub promised : P lifetimes handed returned left

-- a call that was made, by one of the four operations
pub data Made : Type 0 where
  by_call : CallOf 1 call-kinds.ps call-kinds.r call-reads.Post → Made
  by_command : CallOf 1 command-kinds.ps command-kinds.r command-reads.Post → Made
  by_key : CallOf 1 key-kinds.ps key-kinds.r key_reads.Post → Made
  by_tick : CallOf 1 tick-kinds.ps tick-kinds.r tick-reads.Post → Made

-- the session that it was handed
abbrev pub session_of : Made → Session
session_of (by_call m) = m.handed.0
session_of (by_command m) = m.handed.0
session_of (by_key m) = m.handed.0
session_of (by_tick m) = m.handed.0

-- which call it is
abbrev pub call_of : Made → Call
call_of (by_call m) = m.handed.1.0
call_of (by_command m) = command m.handed.1.0 m.handed.1.1.0 m.handed.1.1.1.0
call_of (by_key m) = Call.Key m.handed.1.0
call_of (by_tick m) = Call.Tick

-- the length of the slice that it was lent
abbrev pub bytes_of : Made → ℕ
bytes_of (by_call m) = length m.handed.1.1.0.now
bytes_of (by_command m) = length m.handed.1.1.1.1.0.now
bytes_of (by_key m) = length m.handed.1.1.0.now
bytes_of (by_tick m) = length m.handed.1.0.now

-- what it returned, with the bytes of the slice then
abbrev pub result_of : Made → CallResult
result_of (by_call m) = call_result m.returned m.left.1.1.0.now
result_of (by_command m) = call_result m.returned m.left.1.1.1.1.0.now
result_of (by_key m) = call_result m.returned m.left.1.1.0.now
result_of (by_tick m) = call_result m.returned m.left.1.0.now

abbrev pub results_of_made : List Made → List CallResult
results_of_made [] = []
results_of_made (m ∷ ms) = result_of m ∷ results_of_made ms

-- the session that the last one returned
abbrev pub session_after_made : Session → List Made → Session
session_after_made s [] = s
session_after_made s (m ∷ ms) = session_after_made (result_of m).session ms

-- each was made on the session that the one before returned, the first on s
abbrev pub MadeFrom : Session → List Made → Type 0
MadeFrom s [] = Unit {0}
MadeFrom s (m ∷ ms) = (session_of m ≡ s) × MadeFrom (result_of m).session ms

-- a document that the operation load accepted
pub record LoadedDocument : Type 0 where
  pub loading : CallOf 1 load-kinds.ps load-kinds.r load-reads.Post
  pub accepted : (load_answer loading.returned.answer).refusal ≡ 0

abbrev pub session_loaded : LoadedDocument → Session
session_loaded l = l.loading.returned.session

-- THE STATEMENT: every document that the operation load accepted, every list of commands, keys and ticks that were made from its session
abbrev pub ForEveryListMade : Type 0
ForEveryListMade =
    (loaded : LoadedDocument) (made : List Made)
    → MadeFrom (session_loaded loaded) made
    → Holds (session_loaded loaded) (session_after_made (session_loaded loaded) made) (results_of_made made)

-- no accepted one is a command that sets p
abbrev pub NeverSetsMade : ℕ → List Made → Type 0
NeverSetsMade p [] = Unit {0}
NeverSetsMade p (m ∷ ms) = ((result_of m).answer.refusal ≡ 0 → command_sets p (call_of m) ≡ false) × NeverSetsMade p ms

-- of the session the operation check_counts returned that its document shows the counts of media m in property p
pub record CheckedCounts (s : Session) (m p : ℕ) : Type 0 where
  pub checking : CallOf 0 check-counts-kinds.ps check-counts-kinds.r check-counts-reads.Post
  pub session : checking.handed.0 ≡ s
  pub media : checking.handed.1.0 ≡ m
  pub property : checking.handed.1.1.0 ≡ p
  pub shown : checking.returned ≡ Ok (Ok tt)

-- of the session the operation count_of returned this count of anchor a in property p
pub record CountGiven (s : Session) (a p : ℕ) (count : ℤ) : Type 0 where
  pub giving : CallOf 0 count-of-kinds.ps count-of-kinds.r count-of-reads.Post
  pub session : giving.handed.0 ≡ s
  pub anchor : giving.handed.1.0 ≡ a
  pub property : giving.handed.1.1.0 ≡ p
  pub gave : giving.returned ≡ Ok (Ok count)

-- of the session the operation read returned this of property p
pub record PropertyRead (s : Session) (p : ℕ) (reading : Reading) : Type 0 where
  pub reads : CallOf 0 read-kinds.ps read-kinds.r read-reads.Post
  pub session : reads.handed.0 ≡ s
  pub class : reads.handed.1.0 ≡ of_property
  pub id : reads.handed.1.1.0 ≡ p
  pub found : reads.returned ≡ Ok reading

-- while m is awake and its clock is in its anchor a, what read returns for p is what count_of returned for a
abbrev pub CountsRead : Session → Session → ℕ → ℕ → Type 0
CountsRead loaded s m p =
    (a : ℕ) (count : ℤ) (reading : Reading)
    → CountGiven loaded a p count
    → PropertyRead s p reading
    → (anchor_at loaded.document.anchors a).media ≡ m
    → Awake (node_state s.state m)
    → Inside (anchor_at loaded.document.anchors a).begin (node_clock s.state m) (anchor_at loaded.document.anchors a).end
    → reading.value ≡ count

-- THE STATEMENT OF COUNTS: of such a document the operation check_counts returned that it shows the counts of media m in property p
abbrev pub CountsForEveryListMade : Type 0
CountsForEveryListMade =
    (loaded : LoadedDocument) (m p : ℕ)
    → CheckedCounts (session_loaded loaded) m p
    → (made : List Made)
    → MadeFrom (session_loaded loaded) made
    → NeverSetsMade p made
    → CountsShown (session_loaded loaded).document m p (value_of (session_loaded loaded).state p)
    (session_after_made (session_loaded loaded) made).state (joined (results_of_made made))
    × CountsRead (session_loaded loaded) (session_after_made (session_loaded loaded) made) m p
