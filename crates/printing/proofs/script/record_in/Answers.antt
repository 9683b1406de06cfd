-- What the check leaves open of `printing::script::record_in`. Assumes nothing.
use Rattle.std.proofs.Common.{◌≡◌, ℕ, List, [], ◌∷◌, ◌-◌, ◌<◌, ◌≤◌, arith, length, get_or, take, drop, refl, take_all}
use Rattle.printing.specs.declared.script.ScriptRecord.{ScriptRecord}
use Rattle.printing.specs.Script.{record_after, script_record}
use Rattle.printing.proofs.script.record_in.Goals as goal

record_cons : (b : List ℕ) → 1 ≤ length b → record_after (get_or b 0 0) (take (length b - 1) (drop 1 b)) ≡ script_record b
unfolding script_record
record_cons [] h = absurd (omega arith)
record_cons (kind ∷ rest) h = rw (take_all (length (kind ∷ rest) - 1) rest (omega arith))

pub returns-in-len1-up : goal.returns-in-len1-up
returns-in-len1-up c = rw c.record_after.ensures (record_cons _ c.in-len1-up.len_at_least)

record_none : (b : List ℕ) → length b < 1 → ScriptRecord.Cut ≡ script_record b
unfolding script_record
record_none [] h = refl
record_none (kind ∷ rest) h = absurd (omega arith)

pub returns-in-empty : goal.returns-in-empty
returns-in-empty c = record_none _ c.in-empty.len_below
