-- A queue of media and the choices with it, and when they are what a start reaches.
use Rattle.std.specs.Prelude.{ℕ, ◌≤◌, ◌<◌, List, ◌≡◌, ℤ, get_or}
use Rattle.base.specs.Loops.{ascending}
use Rattle.machine.specs.Terms.{to_start}
use Rattle.machine.specs.Events.{Run, choices_set, media_moved, started}
use Rattle.machine.specs.declared.Anchors.{Anchors}
use Rattle.machine.specs.declared.Document.{Document}
use Rattle.starting.specs.declared.Queue.{Queue}
use Rattle.starting.specs.declared.Reach.{Reach}

abbrev pub queue_of : List ℕ → ℕ → Queue
queue_of media count = record { media = media; count = count }

-- there is place for its media, and they are nodes
pub record Places (q : Queue) : Type 0 where
  pub few : q.count ≤ 64
  pub ids : (i : ℕ) → i < q.count → get_or q.media i 0 < 64

-- an action on its media, one after the other
unfoldable pub queue_moved : Anchors → ℕ → Queue → Run → Run
queue_moved anchors action q r = ascending (λ (i : ℕ). media_moved anchors action (get_or q.media i 0)) q.count r

abbrev pub reach_of : List ℕ → ℕ → List ℕ → Reach
reach_of media count choices = record { queue = queue_of media count; choices = choices }

-- the start of what is reached
unfoldable pub reach_started : Anchors → Reach → Run → Run
reach_started anchors q r = choices_set q.choices (queue_moved anchors to_start q.queue r)

-- from every run with these states, values and choices the start of node n is that of what it reaches
pub record MediaOfStart (d : Document) (states : List ℕ) (values : List ℤ) (choices : List ℕ) (n : ℕ) (q : Reach) : Type 0 where
  pub places : Places q.queue
  pub run : (r : Run) → r.state.nodes.states ≡ states → r.state.properties.values ≡ values → r.state.choices ≡ choices
      → started d 64 n r ≡ reach_started d.anchors q r
