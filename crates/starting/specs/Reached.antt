-- What the steps of a start make of it: the start of what is reached then is what the step makes of the start of what was reached before.
use Rattle.std.specs.Prelude.{ℕ, ◌+◌, ◌≤◌, List, ◌≡◌, ℤ, replicate}
use Rattle.machine.specs.Terms.{to_start}
use Rattle.machine.specs.Events.{Run, media_moved, context_started, switch_started, started}
use Rattle.machine.specs.declared.Document.{Document}
use Rattle.choosing.specs.Choosing.{FoundChildren}
use Rattle.starting.specs.Queues.{reach_of, reach_started}
use Rattle.starting.specs.declared.start.Start.{Start}

-- a start on these values where nothing is reached yet
pub record Begun (d : Document) (node_states : List ℕ) (values : List ℤ) (choices : List ℕ) (s : Start) : Type 0 where
  pub document : s.document.now.document ≡ d
  pub chosen : FoundChildren d.binds d.rules values s.chosen
  pub states : s.states ≡ node_states
  pub reach : s.reach ≡ reach_of (replicate 64 0) 0 choices

-- the start of what s has reached makes run x of run r, and x has the states of s
pub record ReachRun (s : Start) (r x : Run) : Type 0 where
  pub run : x ≡ reach_started s.document.now.document.anchors s.reach r
  pub states : x.state.nodes.states ≡ s.states
  pub values : x.state.properties.values ≡ r.state.properties.values

-- s became s' by a step on node n: what it goes by stays, and the run that s' makes is the step, of so many levels, of the run that s makes
pub record Reached (s : Start) (n : ℕ) (step : ℕ → Run → Run) (s' : Start) : Type 0 where
  pub document : s'.document ≡ s.document
  pub chosen : s'.chosen ≡ s.chosen
  pub run : (r x : Run) → FoundChildren s.document.now.document.binds s.document.now.document.rules r.state.properties.values s.chosen → ReachRun s r x
      → (levels : ℕ) → 64 ≤ n + (levels + 1) → ReachRun s' r (step levels x)

abbrev pub media_by : Start → ℕ → ℕ → Run → Run
media_by s n levels x = media_moved s.document.now.document.anchors to_start n x

abbrev pub context_by : Start → ℕ → ℕ → Run → Run
context_by s n levels x = context_started s.document.now.document (started s.document.now.document levels) n x

abbrev pub switch_by : Start → ℕ → ℕ → Run → Run
switch_by s n levels x = switch_started s.document.now.document (started s.document.now.document levels) n x
