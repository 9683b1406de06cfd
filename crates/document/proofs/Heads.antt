-- The fault of a head by its place and its limit: only the first, with a limit above 0, has none.
use Prim.Native.Nat.{ℕ}
use mathlib.Core.Path.{◌≡◌}
use borrow.Author.Tests.{eq-eqb, ne_eqb}
use Rattle.base.specs.Tests.{when◌then◌else◌}
use Rattle.machine.specs.Load.{head_fault}
use Rattle.machine.specs.declared.Document.{Document}

module _ (d : Document) (limit : ℕ) where
  pub head_later : (d.limit ≡ 0 → ⊥) → 3 ≡ head_fault d limit
  unfolding when◌then◌else◌
  head_later e = rw (ne_eqb _ _ e)

  pub head_unlimited : d.limit ≡ 0 → limit ≡ 0 → 3 ≡ head_fault d limit
  unfolding when◌then◌else◌
  head_unlimited e z = rw (eq-eqb _ _ z, eq-eqb _ _ e)

  pub head_right : d.limit ≡ 0 → (limit ≡ 0 → ⊥) → 0 ≡ head_fault d limit
  unfolding when◌then◌else◌
  head_right e z = rw (ne_eqb _ _ z, eq-eqb _ _ e)
