-- How a script goes on from part to part: the bytes that were read and are not run yet, the session and the number.
use Rattle.std.specs.Prelude.{ℕ, List, ◌++◌, ◌≡◌, Option, IfSome}
use Rattle.machine.specs.declared.Session.{Session}
use Rattle.script_run.specs.Running.{GoesOn}
use Rattle.script_run.specs.declared.Part.{Part}

-- the bytes that are held are those that were left of the last part, and more behind them
pub record HeldMore (left held : List ℕ) : Type 0 where
  pub more : List ℕ
  pub begins : held ≡ left ++ more

-- so it is, if the run goes on
abbrev pub HeldNext : (left held : List ℕ) → Option (Unit {0}) → Type 0
HeldNext left held next = IfSome next (λ _. HeldMore left held)

-- the session and the number after a part are those to which some bytes of a script lead from the first session, with what they print,
-- where these bytes are left
pub record Reached (s s' : Session) (p : Part) (left : List ℕ) : Type 0 where
  pub script : List ℕ
  pub printed : List ℕ
  pub goes_on : GoesOn 1 s script printed p.number s' left
