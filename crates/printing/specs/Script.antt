-- What stands at the front of some bytes of a script.
use Rattle.std.specs.Prelude.{ℕ, List, [], ◌∷◌, take}
use Rattle.base.specs.Tests.{when◌then◌else◌}
use Rattle.machine.specs.PrintedRun.{script_length, is_script_kind, is_call, call_of}
use Rattle.printing.specs.declared.script.ScriptRecord.{ScriptRecord}

-- the bytes after one of kind
unfoldable pub record_after : ℕ → List ℕ → ScriptRecord
record_after kind rest =
    when is_call kind rest then ScriptRecord.Call (call_of kind (take (script_length kind) rest))
    else when is_script_kind kind then ScriptRecord.Cut
    else ScriptRecord.Wrong

unfoldable pub script_record : List ℕ → ScriptRecord
script_record [] = ScriptRecord.Cut
script_record (kind ∷ rest) = record_after kind rest
