-- Which anchors of a media move.
use Rattle.std.specs.Prelude.{ℕ, Bool}
use Rattle.machine.specs.Events.{begins_at, ends_at, is_awake}
use Rattle.changes.specs.declared.Moving.{Moving}
use Rattle.changes.specs.declared.Moving.TheVariants.{BeginningAt, EndingAt, Awake}

abbrev pub moves : Moving → ℕ → ℕ → ℕ → Bool
moves (BeginningAt clock) = begins_at clock
moves (EndingAt clock) = ends_at clock
moves Awake = is_awake
