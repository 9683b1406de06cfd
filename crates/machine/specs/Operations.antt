-- The operations beside load: command, key, tick and read; and lists of calls.
use Rattle.std.specs.Prelude.{ℕ, Bool, false, not, ◌&&◌, List, [], ◌∷◌, ◌++◌, ℤ, pos, get_or}
use Rattle.base.specs.Tests.{when◌then◌else◌, ◌=?◌, ◌≤?◌}
use Rattle.machine.specs.Terms.{sleeping, to_set, of_node, of_anchor, of_property}
use Rattle.machine.specs.Answers.{Answer, accepted, refused}
use Rattle.machine.specs.Records.{action_right, target_given, subject_given}
use Rattle.machine.specs.Log.{empty_log, slice_with, lines_of}
use Rattle.machine.specs.Events.{Run, node_state, node_count, anchor_state, anchor_count, property_count, acted}
use Rattle.machine.specs.Tick.{ticked, keyed}
use Rattle.machine.specs.Owners.{OwnerTest, owner_chosen}
use Rattle.machine.specs.Chain.{goes_on, chained}
use Rattle.machine.specs.Broken.{broken}
use Rattle.machine.specs.declared.Document.{Document}
use Rattle.machine.specs.declared.State.{State}
use Rattle.machine.specs.declared.Session.{Session}
use Rattle.machine.specs.declared.ActionRecord.{ActionRecord}
use Rattle.machine.specs.declared.Call.{Call}
use Rattle.machine.specs.declared.Call.TheVariants.{Command, Key, Tick}
use Rattle.machine.specs.declared.Line.{Line}

-- ---- calls

-- a call's answer, the session that it returns, and every byte of its log slice
pub record CallResult : Type 0 where
  pub answer : Answer
  pub session : Session
  pub log : List ℕ

-- a command, by its fields
abbrev pub command : ℕ → ℕ → ℤ → Call
command action target value = Command (record { action = action; target = target; value = value })

-- the refusals of a command's action, 0 if there is none:
-- "9 action not 1 to 6, or value not 0 for 1 to 5; 10 no such target"
unfoldable pub command_fault : Document → ActionRecord → ℕ
command_fault d a =
    when not (action_right a.action a.value) then 9
    else when not (target_given d a.action a.target) then 10
    else 0

-- the refusals of a call's arguments
unfoldable pub argument_fault : Document → Call → ℕ
argument_fault d (Command a) = command_fault d a
argument_fault d (Key code) = 0
argument_fault d Tick = 0

-- what a call does before the chain
unfoldable pub begun : Document → Call → Run → Run
begun d (Command a) r = acted d a r
begun d (Key code) r = keyed code r
begun d Tick r = ticked d r

-- a command that sets p
unfoldable pub command_sets : ℕ → Call → Bool
command_sets p (Command a) = a.action =? to_set && a.target =? p
command_sets p (Key code) = false
command_sets p Tick = false

-- the run of a call that begins, on a state, in a slice of so many bytes
abbrev pub fresh_run : State → ℕ → Run
fresh_run state bytes = record { state = state; log = empty_log bytes; firings = 0 }

-- the whole run of a call on a session, by the owners that firing admits
unfoldable pub run_admitting : OwnerTest → Session → Call → ℕ → Run
run_admitting admits s call bytes = chained admits s.document (begun s.document call (fresh_run s.state bytes))

-- "after a refusal the session is the one handed in .. and the log slice is all zero"
unfoldable pub call_refused : ℕ → Session → ℕ → CallResult
call_refused number s bytes = record { answer = refused number; session = s; log = slice_with [] bytes }

-- how a call ends: it is accepted if nothing stopped it
unfoldable pub ended : Session → ℕ → Run → CallResult
ended s bytes r =
    when goes_on r
    then record {
      answer = accepted (pos r.firings ∷ []);
      session = record { document = s.document; state = r.state };
      log = slice_with r.log.lines bytes;
    }
    else call_refused r.log.stop s bytes

-- "Command. 13 broken session; 9 ..; 10 ..; then 11 or 12 as under Chain." "Key, tick. 13; then 11 or 12."
unfoldable pub call_admitting : OwnerTest → Session → Call → ℕ → CallResult
call_admitting admits s c bytes =
    when broken s then call_refused 13 s bytes
    else when not (argument_fault s.document c =? 0) then call_refused (argument_fault s.document c) s bytes
    else ended s bytes (run_admitting admits s c bytes)

-- the machine admits the owners that Req 01 does
abbrev pub run_of : Session → Call → ℕ → Run
run_of s c bytes = run_admitting owner_chosen s c bytes

abbrev pub call : Session → Call → ℕ → CallResult
call s c bytes = call_admitting owner_chosen s c bytes

-- ---- "Read (node, anchor or property by class and id). 13; 9 class not 1 to 3; 10 no such id."

-- "It returns state, value or 0, count; a property's state reads as sleeping."
abbrev pub reading : ℕ → ℤ → ℕ → Answer
reading state value count = accepted (pos state ∷ value ∷ pos count ∷ [])

unfoldable pub read_state : State → ℕ → ℕ → Answer
read_state s class id =
    when class =? of_node then reading (node_state s id) (pos 0) (node_count s id)
    else when class =? of_anchor then reading (anchor_state s id) (pos 0) (anchor_count s id)
    else reading sleeping (get_or s.properties.values id (pos 0)) (property_count s id)

unfoldable pub read : Session → ℕ → ℕ → Answer
read s class id =
    when broken s then refused 13
    else when not (of_node ≤? class && class ≤? of_property) then refused 9
    else when not (subject_given s.document class id) then refused 10
    else read_state s.state class id

-- ---- lists of calls, each with the length of its log slice

-- "Each later one gets the session that the call before it returned"
unfoldable pub session_after : Session → List (Call × ℕ) → Session
session_after s [] = s
session_after s ((c, bytes) ∷ calls) = session_after (call s c bytes).session calls

unfoldable pub results_of : Session → List (Call × ℕ) → List CallResult
results_of s [] = []
results_of s ((c, bytes) ∷ calls) = let r = call s c bytes in r ∷ results_of r.session calls

-- "The joined logs are the lines of the accepted calls, in the order of the calls."
unfoldable pub joined : List CallResult → List Line
joined [] = []
joined (r ∷ rs) = (when r.answer.refusal =? 0 then lines_of r.log else []) ++ joined rs
