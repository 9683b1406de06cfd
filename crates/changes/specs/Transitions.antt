-- The transition that a number stands for.
use Rattle.std.specs.Prelude.{ℕ, zero, suc, Option, Some, None}

-- 0, `no_transition`, stands for none, and every other number for itself
unfoldable pub transition_or_none : ℕ → Option ℕ
transition_or_none zero = None
transition_or_none (suc number) = Some (suc number)
