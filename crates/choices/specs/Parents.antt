-- A column of parents in which the path up from a node ends.
use Rattle.std.specs.Prelude.{ℕ, ◌<◌, ◌≤◌, List, get_or}

-- the nodes up to `last` but node 0 have a parent with an earlier id
pub record Earlier (parents : List ℕ) (last : ℕ) : Type 0 where
  pub parent : (n : ℕ) → 0 < n → n ≤ last → get_or parents n 0 < n
