-- What the contracts of this crate name beside the definitions of `machine`.
use Rattle.std.specs.Prelude.{Bool, not, ◌&&◌, ℕ, Option, Some, None}
use Rattle.base.specs.Tests.{when◌then◌else◌, ◌=?◌}
use Rattle.machine.specs.Terms.{media, sleeping, occurring, paused, no_action}
use Rattle.machine.specs.Events.{awake}

-- a node of this type and state takes the state that its children give it: it is a composite, and in another one
unfoldable pub resettled : ℕ → ℕ → ℕ → Bool
resettled type state children = not (type =? media) && not (state =? children)

-- the state that some children give a composite, with one child more
unfoldable pub with_child : ℕ → ℕ → ℕ
with_child state child =
    when child =? occurring then occurring
    else when awake state then state
    else when child =? paused then paused
    else sleeping

-- the action that settling goes by: that of its cause, or none, as in a tick; and its target, 0 where there is none
abbrev pub action_of : Option (ℕ × ℕ) → ℕ
action_of (Some cause) = cause.0
action_of None = no_action

abbrev pub target_of : Option (ℕ × ℕ) → ℕ
target_of (Some cause) = cause.1
target_of None = 0
