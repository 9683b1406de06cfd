-- A start first puts the media that it reaches in a queue, and then they start in the queue's order. Until then composites and
-- values stay as they are, and a media in the queue counts as awake.
use Rattle.std.specs.Prelude.{ℕ, ◌+◌, ◌≤◌, ◌<◌, List, ◌≡◌, length, get_or, Option, Some, None}
use Rattle.std.specs.List.{count_by}
use Rattle.base.specs.Tests.{when◌then◌else◌, ◌=?◌}
use Rattle.machine.specs.Terms.{context, media, sleeping}
use Rattle.machine.specs.Events.{awake}
use Rattle.starting.specs.declared.Queue.{Queue}
use Rattle.starting.specs.declared.start.Found.{Found}

-- what is found at a node of this type and state: "Start of an awake composite does nothing", nor does that of an awake media
unfoldable pub found_at : ℕ → ℕ → Option Found
found_at type state =
    when awake state then None
    else when type =? media then Some Found.Media
    else when type =? context then Some Found.Context
    else Some Found.Switch

pub record LaterChild (n child : ℕ) : Type 0 where
  pub later : n < child
  pub below : child < 64

-- switches have later nodes as children
pub record LaterChoices (chosen : List ℕ) : Type 0 where
  pub choice : (n : ℕ) → n < 64 → (get_or chosen n 0 ≡ 0 → ⊥) → LaterChild n (get_or chosen n 0)

-- ---- the queue

-- how many of these states are sleeping
abbrev pub sleepers : List ℕ → ℕ
sleepers states = count_by (λ (state : ℕ). state =? sleeping) states

-- the queue has room for all that sleep
pub record Room (states : List ℕ) (q : Queue) : Type 0 where
  pub state_places : length states ≡ 64
  pub queue_places : length q.media ≡ 64
  pub most : q.count + sleepers states ≤ 64
  pub ids : (i : ℕ) → i < q.count → get_or q.media i 0 < 64
