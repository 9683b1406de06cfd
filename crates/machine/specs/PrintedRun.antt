-- "The printed run": what the program prints for the bytes of its two files. Text is a list of character codes.
use Rattle.std.specs.Prelude.{ℕ, zero, suc, ◌+◌, Bool, ◌&&◌, List, [], ◌∷◌, ◌++◌, ℤ, pos, negsuc, length, get_or, take, drop}
use Rattle.base.specs.Tests.{when◌then◌else◌, ◌=?◌, ◌≤?◌}
use Rattle.machine.specs.Text.{text, decimal}
use Rattle.machine.specs.Fields.{byte}
use Rattle.machine.specs.Records.{action_of}
use Rattle.machine.specs.Log.{lines_of}
use Rattle.machine.specs.Load.{load}
use Rattle.machine.specs.Operations.{CallResult, call}
use Rattle.machine.specs.declared.Call.{Call}
use Rattle.machine.specs.declared.Call.TheVariants.{Command, Key, Tick}
use Rattle.machine.specs.declared.Line.{Line}
use Rattle.machine.specs.declared.Session.{Session}

-- ---- a line for each call

-- "each line as class.id.transition"
unfoldable pub printed_lines : List Line → List ℕ
printed_lines [] = []
printed_lines (l ∷ ls) =
    text " " ++ decimal l.class ++ text "." ++ decimal l.id ++ text "." ++ decimal l.transition ++ printed_lines ls

-- the firings of an accepted answer
unfoldable pub firings_of : List ℤ → ℕ
firings_of [] = 0
firings_of (pos n ∷ values) = n
firings_of (negsuc n ∷ values) = 0

-- "number from 1, then `ok`, lines, firings and each line .., or `no` and the refusal"
unfoldable pub printed_call : ℕ → CallResult → List ℕ
printed_call number r =
    decimal number
    ++ (when r.answer.refusal =? 0
    then text " ok " ++ decimal (length (lines_of r.log)) ++ text " " ++ decimal (firings_of r.answer.values) ++ printed_lines (lines_of r.log)
    else text " no " ++ decimal r.answer.refusal)
    ++ text "\n"

-- ---- "Script records: 1 command (action, target, i32), 2 key (code), 3 tick."

abbrev pub script_lengths : List ℕ
script_lengths = 0 ∷ 6 ∷ 1 ∷ 0 ∷ []

abbrev pub script_length : ℕ → ℕ
script_length kind = get_or script_lengths kind 0

abbrev pub is_script_kind : ℕ → Bool
is_script_kind kind = 1 ≤? kind && kind ≤? 3

-- a whole record of a known kind stands there
unfoldable pub is_call : ℕ → List ℕ → Bool
is_call kind rest = is_script_kind kind && script_length kind ≤? length rest

unfoldable pub call_of : ℕ → List ℕ → Call
call_of kind body =
    when kind =? 1 then Command (action_of body)
    else when kind =? 2 then Key (byte body 0)
    else Tick

-- ---- the run

-- the call of number n and those after it; "a wrong or cut script record prints `script` and ends the run"
unfoldable pub printed_script : ℕ → ℕ → List ℕ → Session → List ℕ
printed_script zero n script s = []
printed_script (suc most) n [] s = []
printed_script (suc most) n (kind ∷ rest) s =
    when is_call kind rest
    then (let r = call s (call_of kind (take (script_length kind) rest)) 65_536 in
    printed_call n r ++ printed_script most (n + 1) (drop (script_length kind) rest) r.session)
    else text "script\n"

-- "A program reads files `doc` and `script` and lends a log slice of 65,536 bytes."; "A refused document prints `doc` and the number"
unfoldable pub printed_run : List ℕ → List ℕ → List ℕ
printed_run doc script =
    let l = load doc in
    when l.answer.refusal =? 0
    then printed_script (length script) 1 script l.session
    else text "doc " ++ decimal l.answer.refusal ++ text "\n"
