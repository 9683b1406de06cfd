-- The log of a call: its lines, the room for lines in the slice, and what stops the call.
use Rattle.std.specs.Prelude.{ℕ, zero, suc, ◌-◌, ◌*◌, ◌/◌, List, [], ◌∷◌, ◌++◌, length, replicate}
use Rattle.base.specs.Tests.{when◌then◌else◌, ◌=?◌, ◌<?◌}
use Rattle.machine.specs.declared.Line.{Line}

-- "A log line is 4 bytes: class, id, transition, 0."
abbrev pub line : ℕ → ℕ → ℕ → Line
line class id transition = record { class = class; id = id; transition = transition; zero = 0 }

-- what stops the call: 0, or the number of the refusal that was met first
pub record Log : Type 0 where
  pub lines : List Line
  pub room : ℕ
  pub stop : ℕ

-- the log of a call that begins, in a slice of so many bytes: lines go into "the whole groups of 4 bytes of the slice"
abbrev pub empty_log : ℕ → Log
empty_log bytes = record { lines = []; room = bytes / 4; stop = 0 }

-- a refusal is met: "The one met first is given"
abbrev pub met : ℕ → Log → Log
met number g = record { lines = g.lines; room = g.room; stop = when g.stop =? 0 then number else g.stop }

-- one line more; "12 when a line doesn't fit"
unfoldable pub logged : Line → Log → Log
logged l g =
    when length g.lines <? g.room
    then record { lines = g.lines ++ (l ∷ []); room = g.room; stop = g.stop }
    else met 12 g

-- ---- the slice

abbrev pub bytes_of : List Line → List ℕ
bytes_of [] = []
bytes_of (l ∷ ls) = l.class ∷ l.id ∷ l.transition ∷ l.zero ∷ bytes_of ls

-- "After acceptance the slice holds the lines, then zeros to its end." After a refusal there are no lines, and it is all zero.
unfoldable pub slice_with : List Line → ℕ → List ℕ
slice_with lines bytes = bytes_of lines ++ replicate (bytes - 4 * length lines) 0

-- "A call's lines are the whole groups of 4 bytes of its log slice .. before the first group whose class is 0, or all of them if there is none."
unfoldable pub lines_of : List ℕ → List Line
lines_of [] = []
lines_of (zero ∷ bs) = []
lines_of (suc c ∷ []) = []
lines_of (suc c ∷ i ∷ []) = []
lines_of (suc c ∷ i ∷ t ∷ []) = []
lines_of (suc c ∷ i ∷ t ∷ z ∷ bs) = record { class = suc c; id = i; transition = t; zero = z } ∷ lines_of bs
