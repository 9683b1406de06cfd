-- What is asked of the columns of the actions: the actions of the links, in 8 places for each.
use Rattle.std.specs.Prelude.{ℕ, ◌+◌, ◌*◌, ◌<◌, ◌≤◌, Bool, not, ◌||◌, List, ℤ, pos, get_or}
use Rattle.base.specs.Tests.{◌=?◌, ◌<?◌, equal_ints}
use Rattle.base.specs.Loops.{every}

-- each link has at most 8 actions, and none of them is 0
pub record Used (counts actions : List ℕ) : Type 0 where
  pub few : (l : ℕ) → get_or counts l 0 ≤ 8
  pub some : (l j : ℕ) → j < get_or counts l 0 → 0 < get_or actions (8 * l + j) 0

-- no action stands in the places of link l past so many
unfoldable pub unused_zero : List ℕ → ℕ → ℕ → Bool
unused_zero actions count l = every (λ j. j <? count || get_or actions (8 * l + j) 0 =? 0) 8

-- a place has an action, or no target; or no value
abbrev pub target_used : List ℕ → List ℕ → ℕ → Bool
target_used actions targets i = not (get_or actions i 0 =? 0) || get_or targets i 0 =? 0

abbrev pub value_used : List ℕ → List ℤ → ℕ → Bool
value_used actions values i = not (get_or actions i 0 =? 0) || equal_ints (get_or values i (pos 0)) (pos 0)
