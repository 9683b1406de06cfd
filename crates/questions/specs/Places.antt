-- The place of an event in its table.
use Rattle.std.specs.Prelude.{ℕ, ◌<◌, ◌≡◌}
use Rattle.machine.specs.Terms.{of_node, of_anchor}

-- the id is a place in the table of its class: of nodes, of anchors, or else of properties
pub record Within (class id : ℕ) : Type 0 where
  pub node : class ≡ of_node → id < 64
  pub anchor : class ≡ of_anchor → id < 128
  pub property : (class ≡ of_node → ⊥) → (class ≡ of_anchor → ⊥) → id < 32
