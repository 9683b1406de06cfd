-- The log that a slice and what is written of it stand for.
use Rattle.std.specs.Prelude.{ℕ, zero, suc, ◌+◌, ◌*◌, ◌/◌, List, [], ◌∷◌, ◌++◌, length, get_or}
use Rattle.base.specs.Tests.{when◌then◌else◌, ◌<?◌}
use Rattle.machine.specs.Answers.{check_number}
use Rattle.machine.specs.Log.{Log}
use Rattle.machine.specs.declared.Line.{Line}
use Rattle.call_log.specs.declared.Written.{Written}

-- the k-th group of 4 bytes, and the first groups
abbrev pub group : List ℕ → ℕ → Line
group bytes k = record {
  class = get_or bytes (4 * k) 0;
  id = get_or bytes (4 * k + 1) 0;
  transition = get_or bytes (4 * k + 2) 0;
  zero = get_or bytes (4 * k + 3) 0;
}

unfoldable pub groups : List ℕ → ℕ → List Line
groups bytes zero = []
groups bytes (suc k) = groups bytes k ++ (group bytes k ∷ [])

-- the first lines of a slice: so many, or as many as there is room for
unfoldable pub lines_in : List ℕ → ℕ → List Line
lines_in bytes lines = groups bytes (when length bytes / 4 <? lines then length bytes / 4 else lines)

-- the log of so many lines in a slice, and what stops the call
abbrev pub in_slice : List ℕ → ℕ → ℕ → Log
in_slice bytes lines stop = record { lines = lines_in bytes lines; room = length bytes / 4; stop = stop }

abbrev pub log_of : Written → List ℕ → Log
log_of w bytes = in_slice bytes w.lines (check_number w.stop)
