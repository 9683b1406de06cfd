-- What the contracts of inner functions name beside the definitions of `machine`.
use Rattle.std.specs.Prelude.{Bool, ◌&&◌, List, ℕ, ◌+◌, get_or}
use Rattle.base.specs.Tests.{◌=?◌, ◌<?◌}
use Rattle.machine.specs.Terms.{media, occurring}
use Rattle.transitions.specs.Due.{due_at}

-- a node of this type, state and clock adds one to its clock
unfoldable pub advancing : ℕ → ℕ → ℕ → Bool
advancing type state clock = type =? media && state =? occurring && clock <? 65_535

-- by the media of anchors, their begins or their ends, and the clocks of nodes: anchor a is one of media n, and is due at n's next clock
unfoldable pub due_next : List ℕ → List ℕ → List ℕ → ℕ → ℕ → Bool
due_next media times clocks n = due_at media times n (get_or clocks n 0 + 1)
