-- Lines counted against states and counts: starts are stops and aborts, and one more where awake; counts are stops.
-- Kept by the smallest steps, because a state changes and its line is logged together.
use Prim.Native.Nat.{ℕ, ◌+◌, ◌%◌, ◌<◌}
use native.Mathlib.Omega.{arith}
use mathlib.Core.Bool.{Bool}
use mathlib.Core.List.{List, [], ◌∷◌, ◌++◌, append_assoc}
use mathlib.Core.Path.{◌≡◌}
use lib.IntN.{ℤ}
use Rattle.base.specs.Tests.{when◌then◌else◌, ◌=?◌}
use Rattle.machine.specs.Terms.{sleeping, starts, stops, aborts, of_node, of_anchor, of_property}
use Rattle.machine.specs.Log.{line}
use Rattle.machine.specs.Events.{Run, node_state, node_count, anchor_state, anchor_count, property_count, transition, counted, with_node, with_anchor, with_value, node_changed, node_to, anchor_changed, anchor_to, set_property, choice_made}
use Rattle.machine.specs.Tick.{keyed}
use Rattle.machine.specs.Chain.{firing_logged, limit_met}
use Rattle.machine.specs.Demand3.{number, is_line, starts_of, stops_of, aborts_of, CountsStops}
use Rattle.machine.specs.Sound.{Sound}
use Rattle.machine.specs.declared.Document.{Document}
use Rattle.machine.specs.declared.State.{State}
use Rattle.machine.specs.declared.Line.{Line}
use Rattle.machine.proofs.Keep.{Primitives}
use Rattle.machine.proofs.Shape.{Shaped, shapes}
use Rattle.machine.proofs.Growing.{line_logged}
use Rattle.machine.proofs.Effects.{get_d_set}

unfoldable pub one_if : Bool → ℕ
one_if b = when b then 1 else 0

pub number_more : (test : Line → Bool) (ls : List Line) (l : Line) → number test (ls ++ (l ∷ [])) ≡ number test ls + one_if (test l)
unfolding number one_if
number_more test [] l = omega arith
number_more test (x ∷ ls) l = omega (arith, number_more test ls l)

-- ---- each transition keeps the balance

unfoldable pub one_if_awake : ℕ → ℕ
one_if_awake state = when state =? sleeping then 0 else 1

balance : (aborting : Bool) (old new : ℕ) → let u = transition aborting old new in
    one_if (u =? starts) + one_if_awake old ≡ one_if (u =? stops) + one_if (u =? aborts) + one_if_awake new
unfolding transition one_if one_if_awake when◌then◌else◌
balance aborting old new = grind arith

-- ---- an event's state and count, against lines

pub record EventTallied (class id state count : ℕ) (ls : List Line) : Type 0 where
  pub balances : starts_of class id ls ≡ stops_of class id ls + aborts_of class id ls + one_if_awake state
  pub counts : CountsStops class id count ls

count_more : (u count x : ℕ) → count ≡ x % 4_294_967_296 → counted u count ≡ (x + one_if (u =? stops)) % 4_294_967_296
unfolding counted one_if when◌then◌else◌
count_more u count x e = grind arith

-- ---- a state against all lines so far; a property is an event that sleeps again after each set

pub record Tallied (d : Document) (s : State) (ls : List Line) : Type 0 where
  pub nodes : (n : ℕ) → n < d.nodes.count → EventTallied of_node n (node_state s n) (node_count s n) ls
  pub anchors : (a : ℕ) → a < d.anchors.count → EventTallied of_anchor a (anchor_state s a) (anchor_count s a) ls
  pub properties : (p : ℕ) → p < d.properties → EventTallied of_property p sleeping (property_count s p) ls

-- after the lines h of the calls before
module _ (h : List Line) (d : Document) (sound : Sound d) where
  -- if nothing stops the run
  abbrev pub TalliedRun : Run → Type 0
  TalliedRun r = Shaped d r.state × (r.log.stop ≡ 0 → Tallied d r.state (h ++ r.log.lines))

  -- the line of a key or of a firing
  tallied_still : (class id u : ℕ) (s : State) → (class ≡ of_node → ⊥) → (class ≡ of_anchor → ⊥) → (class ≡ of_property → ⊥)
      → (ls : List Line) → Tallied d s ls → Tallied d s (ls ++ (line class id u ∷ []))
  unfolding is_line one_if when◌then◌else◌
  tallied_still class id u s n a p ls t = grind (arith, number_more)

  node_moved : (aborting : Bool) (n new clock : ℕ) (s : State) → n < d.nodes.count → Shaped d s → let u = transition aborting (node_state s n) new in
      (ls : List Line) → Tallied d s ls → Tallied d (with_node n new clock (counted u (node_count s n)) s) (ls ++ (line of_node n u ∷ []))
  unfolding is_line one_if when◌then◌else◌
  node_moved aborting n new clock s k p ls t = let kept = balance aborting (node_state s n) new in grind (arith, sound.nodes, number_more, count_more, get_d_set)

  anchor_moved_lem : (aborting : Bool) (a new : ℕ) (s : State) → a < d.anchors.count → Shaped d s → let u = transition aborting (anchor_state s a) new in
      (ls : List Line) → Tallied d s ls → Tallied d (with_anchor a new (counted u (anchor_count s a)) s) (ls ++ (line of_anchor a u ∷ []))
  unfolding is_line one_if when◌then◌else◌
  anchor_moved_lem aborting a new s k p ls t = let kept = balance aborting (anchor_state s a) new in grind (arith, number_more, count_more, get_d_set)

  -- a set starts a property and stops it
  property_set : (p : ℕ) (value : ℤ) (s : State) → p < d.properties → Shaped d s
      → (ls : List Line) → Tallied d s ls → Tallied d (with_value p value (counted stops (property_count s p)) s) ((ls ++ (line of_property p starts ∷ [])) ++ (line of_property p stops ∷ []))
  unfolding is_line one_if when◌then◌else◌
  property_set p value s k w ls t = grind (arith, number_more, count_more, get_d_set)

  pub tallies : Primitives d TalliedRun
  unfolding node_to node_changed anchor_to anchor_changed set_property choice_made keyed firing_logged limit_met when◌then◌else◌
  tallies = record {
    moves = record {
      node = grind (arith, (shapes d).moves.node, node_moved, line_logged, append_assoc);
      anchor = grind (arith, (shapes d).moves.anchor, anchor_moved_lem, line_logged, append_assoc);
      clock = grind (arith, (shapes d).moves.clock);
      choice = grind (arith, (shapes d).moves.choice);
    };
    property = λ i value r k p. ((shapes d).property i value r k p.0, grind (arith, property_set i value r.state k p.0, line_logged, append_assoc));
    lines = grind (arith, line_logged, tallied_still, append_assoc);
  }
