-- The constant table of next states is the definition's: at the three states and five actions, and past them the state stays.
use mathlib.Core.Path.{◌≡◌, refl}
use mathlib.Core.List.{[]}
use Prim.Native.Nat.{ℕ, zero, suc, ◌-◌, ◌<◌}
use native.Mathlib.Omega.{arith}
use lib.ListN.{length, get_or}
use Rattle.std.proofs.lemmas.List.{get_or_default}
use Rattle.machine.specs.Events.{next_states, next_state}

pub no_row : (state action : ℕ) → 2 < state → state ≡ next_state state action
unfolding next_state
no_row zero action h = absurd (omega arith)
no_row (suc zero) action h = absurd (omega arith)
no_row (suc (suc zero)) action h = absurd (omega arith)
no_row (suc (suc (suc s))) action h = refl

rows : (state : ℕ) → state < 3 → length (get_or next_states state []) ≡ 5
rows zero h = refl
rows (suc zero) h = refl
rows (suc (suc zero)) h = refl
rows (suc (suc (suc s))) h = absurd (omega arith)

pub in_row : (state action : ℕ) → state < 3 → action - 1 < 5 → get_or (get_or next_states state []) (action - 1) 0 ≡ next_state state action
unfolding next_state
in_row state action h k = get_or_default (get_or next_states state []) (action - 1) 0 state (omega (arith, rows state h))
