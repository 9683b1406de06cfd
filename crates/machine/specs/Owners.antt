-- What firing asks of a link's owner. Req 01: "A link's owner now matters."
use Rattle.std.specs.Prelude.{ℕ, zero, suc, Bool, true, not, ◌&&◌, ◌||◌, List, get_or}
use Rattle.base.specs.Tests.{when◌then◌else◌, ◌=?◌}
use Rattle.machine.specs.Terms.{switch}
use Rattle.machine.specs.Tables.{type_of, parent_of}
use Rattle.machine.specs.declared.Nodes.{Nodes}
use Rattle.machine.specs.declared.Document.{Document}
use Rattle.machine.specs.declared.State.{State}

-- a test of each node on the path up from n, node 0 left out: a parent's id is below its child's, so n steps are enough
unfoldable pub each_up : Nodes → (ℕ → Bool) → ℕ → ℕ → Bool
each_up nodes test zero n = true
each_up nodes test (suc steps) n = when n =? 0 then true else test n && each_up nodes test steps (parent_of nodes n)

abbrev pub on_path : Nodes → (ℕ → Bool) → ℕ → Bool
on_path nodes test n = each_up nodes test n n

abbrev pub is_switch : Nodes → ℕ → Bool
is_switch nodes n = type_of nodes n =? switch

-- n is no child of a switch, or the one that the switch chose
unfoldable pub is_chosen : Nodes → List ℕ → ℕ → Bool
is_chosen nodes choices n = not (is_switch nodes (parent_of nodes n)) || get_or choices (parent_of nodes n) 0 =? n

-- "For every switch above the owner, the child on the path must be the one last chosen by a start of that switch."
unfoldable pub path_chosen : Nodes → List ℕ → ℕ → Bool
path_chosen nodes choices owner = on_path nodes (is_chosen nodes choices) owner

-- which owners firing admits in a state: those that Req 01 does, or any, as 01 alone ("The owner is checked and has no effect.")
abbrev pub OwnerTest : Type 0
OwnerTest = Document → State → ℕ → Bool

unfoldable pub owner_chosen : OwnerTest
owner_chosen d s owner = path_chosen d.nodes s.choices owner

unfoldable pub any_owner : OwnerTest
any_owner d s owner = true

-- no switch lies above n
unfoldable pub outside_switches : Nodes → ℕ → Bool
outside_switches nodes n = on_path nodes (λ k. not (is_switch nodes (parent_of nodes k))) n
