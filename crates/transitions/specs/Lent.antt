-- The run in which lent tables stand, with the rest of it, which no node and no anchor changes.
use Rattle.std.specs.Prelude.{ℕ, List}
use Rattle.machine.specs.Log.{Log}
use Rattle.machine.specs.Events.{Run}
use Rattle.machine.specs.declared.Anchors.{Anchors}
use Rattle.machine.specs.declared.NodeEvents.{NodeEvents}
use Rattle.machine.specs.declared.AnchorEvents.{AnchorEvents}
use Rattle.machine.specs.declared.PropertyEvents.{PropertyEvents}

pub record Rest : Type 0 where
  pub properties : PropertyEvents
  pub choices : List ℕ
  pub firings : ℕ

abbrev pub run_with : NodeEvents → AnchorEvents → Rest → Log → Run
run_with nodes anchors rest log = record {
  state = record { nodes = nodes; anchors = anchors; properties = rest.properties; choices = rest.choices };
  log = log;
  firings = rest.firings;
}

-- so many anchors, of these columns
abbrev pub anchors_of : ℕ → List ℕ → List ℕ → List ℕ → Anchors
anchors_of count media begins ends = record { count = count; media = media; begins = begins; ends = ends }
