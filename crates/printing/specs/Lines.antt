-- The parts of a printed line.
use Rattle.std.specs.Prelude.{ℕ, ◌+◌, ◌*◌, Bool, not, List, [], ◌∷◌, ◌++◌, length, get_or}
use Rattle.base.specs.Tests.{◌=?◌}
use Rattle.machine.specs.Log.{lines_of}
use Rattle.machine.specs.PrintedRun.{printed_lines}
use Rattle.machine.specs.Text.{text, decimal}
use Rattle.machine.specs.declared.Line.{Line}

-- a group of four bytes is a line, if none of class 0 is before it
abbrev pub is_line : List ℕ → Bool
is_line group = not (get_or group 0 0 =? 0)

-- the four bytes of a line
abbrev pub group_of : Line → List ℕ
group_of l = l.class ∷ l.id ∷ l.transition ∷ l.zero ∷ []

-- a log line, after a blank
unfoldable pub line_text : ℕ → ℕ → ℕ → List ℕ
line_text class id transition = text " " ++ decimal class ++ (text "." ++ decimal id) ++ (text "." ++ decimal transition)

-- the lines of some groups
unfoldable pub groups_text : List (List ℕ) → List ℕ
groups_text [] = []
groups_text (group ∷ groups) = line_text (get_or group 0 0) (get_or group 1 0) (get_or group 2 0) ++ groups_text groups

-- what is printed of an answer, after the number of the call
unfoldable pub accepted_text : ℕ → List ℕ → List ℕ
accepted_text firings log = text " ok " ++ decimal (length (lines_of log)) ++ (text " " ++ decimal firings) ++ printed_lines (lines_of log)

unfoldable pub refused_text : ℕ → List ℕ
refused_text number = text " no " ++ decimal number

-- room for a call's line, with a log of so many bytes: for each 4 bytes of it a line of at most 12 characters, and 50 for the rest
abbrev pub line_room : ℕ → ℕ
line_room size = 50 + 3 * size
