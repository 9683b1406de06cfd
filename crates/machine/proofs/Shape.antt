-- The tables of a state keep their lengths, past their ends they stay zero, and choices stay right: kept by the smallest steps.
use mathlib.Core.Bool.{true}
use mathlib.Core.Path.{◌≡◌}
use Prim.Native.Nat.{ℕ, ◌<◌}
use lib.ListN.{get_or}
use Rattle.base.specs.Tests.{both_pass, pass_both}
use Rattle.base.specs.Loops.{every_each, each_every}
use Rattle.machine.specs.Tables.{node_event_table, anchor_event_table, property_event_table}
use Rattle.machine.specs.Events.{Run, node_changed, node_to, anchor_changed, anchor_to, set_property, choice_made}
use Rattle.machine.specs.Tick.{keyed}
use Rattle.machine.specs.Chain.{firing_logged, limit_met}
use Rattle.machine.specs.Broken.{state_ends_zero, choice_right, choices_right}
use Rattle.machine.specs.declared.Document.{Document}
use Rattle.machine.specs.declared.State.{State}
use Rattle.machine.proofs.Keep.{Primitives, chosen}
use Rattle.machine.proofs.Columns.{Whole, HasPlaces, stored, stored_entry, whole_ends, ends_whole}

pub record Shaped (d : Document) (s : State) : Type 0 where
  pub nodes : Whole (node_event_table d.nodes.count s.nodes)
  pub anchors : Whole (anchor_event_table d.anchors.count s.anchors)
  pub properties : Whole (property_event_table d.properties s.properties)
  pub choices : (n : ℕ) → n < 64 → choice_right d.nodes n (get_or s.choices n 0) ≡ true

pub state_ends : (d : Document) (s : State) → Shaped d s → state_ends_zero d s ≡ true
unfolding state_ends_zero
state_ends d s p = search (pass_both, whole_ends)

pub choices_right_lem : (d : Document) (s : State) → Shaped d s → choices_right d.nodes s.choices ≡ true
unfolding choices_right
choices_right_lem d s p = each_every _ _ p.choices

-- the arrays of a state, of any document, have their lengths
pub record HasArrays (s : State) : Type 0 where
  pub nodes : HasPlaces (node_event_table 0 s.nodes)
  pub anchors : HasPlaces (anchor_event_table 0 s.anchors)
  pub properties : HasPlaces (property_event_table 0 s.properties)

pub ends_shaped : (d : Document) (s : State) → HasArrays s → state_ends_zero d s ≡ true → choices_right d.nodes s.choices ≡ true → Shaped d s
unfolding state_ends_zero choices_right
ends_shaped d s a e c =
    let k = both_pass _ _ e in
    let l = both_pass _ _ k.0 in
    record {
      nodes = ends_whole (node_event_table d.nodes.count s.nodes) a.nodes l.0;
      anchors = ends_whole (anchor_event_table d.anchors.count s.anchors) a.anchors l.1;
      properties = ends_whole (property_event_table d.properties s.properties) a.properties k.1;
      choices = every_each _ _ c;
    }

module _ (d : Document) where
  abbrev pub ShapedRun : Run → Type 0
  ShapedRun r = Shaped d r.state

  pub shapes : Primitives d ShapedRun
  unfolding node_to node_changed anchor_to anchor_changed set_property choice_made keyed firing_logged limit_met
  shapes = record {
    moves = record {
      node = λ aborting n new r h p. chosen ShapedRun _ (λ _. p) (λ _. search stored);
      anchor = λ aborting a new r h p. chosen ShapedRun _ (λ _. p) (λ _. search stored);
      clock = λ n clock r h p. search stored;
      choice = λ n c r right p. search (stored_entry (choice_right d.nodes) r.state.choices n c, p.choices);
    };
    property = λ i value r h p. search stored;
    lines = search;
  }
