-- A part of a script that was run, as a piece of the printed run.
use Rattle.std.specs.Prelude.{ℕ, ◌+◌, ◌<◌, ◌≤◌, List, ◌++◌, ◌≡◌, length, take, drop}
use Rattle.machine.specs.PrintedRun.{printed_script}
use Rattle.machine.specs.declared.Call.{Call}
use Rattle.machine.specs.declared.Call.TheVariants.{Command, Key, Tick}
use Rattle.machine.specs.declared.Session.{Session}
use Rattle.printing.specs.declared.script.ScriptRecord.{ScriptRecord}
use Rattle.printing.specs.Lines.{line_room}
use Rattle.printing.specs.Script.{script_record}
use Rattle.printing.specs.Writing.{Front}
use Rattle.script_run.specs.declared.Part.{Part}
use Rattle.script_run.specs.declared.Stop.{Stop}
use Rattle.script_run.specs.declared.Stop.TheVariants.{Full, Cut, Ended}

-- what a whole script prints, from the call of number n on
unfoldable pub printed_all : ℕ → List ℕ → Session → List ℕ
printed_all n script s = printed_script (length script) n script s

-- the bytes of a call's record
abbrev pub call_size : Call → ℕ
call_size (Command a) = 7
call_size (Key code) = 2
call_size Tick = 1

-- "the printed run": whatever bytes follow a script, all of it prints this text, and then what the bytes that are left print from
-- another number and session on
pub record GoesOn (number : ℕ) (s : Session) (script printed : List ℕ) (number' : ℕ) (s' : Session) (left : List ℕ) : Type 0 where
  pub prints : (rest : List ℕ) → printed_all number (script ++ rest) s ≡ printed ++ printed_all number' (left ++ rest) s'

-- whatever bytes follow, all of it prints this text
pub record Ends (number : ℕ) (s : Session) (script printed : List ℕ) : Type 0 where
  pub prints : (rest : List ℕ) → printed_all number (script ++ rest) s ≡ printed

-- what is known by why a part stopped: a call was made and there is no room for one line more; a cut record is left, or nothing; a wrong
-- record's line was written
abbrev pub Stopped : (number : ℕ) (s : Session) (script : List ℕ) (s' : Session) (out : List ℕ) (p : Part) → Stop → Type 0
Stopped number s script s' out p Full =
    GoesOn number s script (take p.filled out) p.number s' (drop p.used script)
    × (number < p.number)
    × (length out < p.filled + line_room 65_536)
Stopped number s script s' out p Cut =
    GoesOn number s script (take p.filled out) p.number s' (drop p.used script)
    × (script_record (drop p.used script) ≡ ScriptRecord.Cut)
Stopped number s script s' out p Ended = Ends number s script (take p.filled out)

-- the session before a part was run, and the one after it
pub record Ran (number : ℕ) (s : Session) (script : List ℕ) (s' : Session) (out : List ℕ) (p : Part) : Type 0 where
  pub front : Front p.filled out
  pub used : p.used ≤ length script
  pub next : p.number ≤ number + p.used
  pub stopped : Stopped number s script s' out p p.stop
