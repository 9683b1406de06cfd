-- What is found at a node: by its state and its type.
use Prim.Native.Nat.{ℕ}
use mathlib.Core.Path.{◌≡◌, sym, ◌∙◌}
use borrow.Author.Tests.{eqb-true, eq-eqb, ne_eqb}
use Rattle.std.specs.Prelude.{Some, None}
use Rattle.std.proofs.lemmas.Option.{none-some}
use Rattle.base.specs.Tests.{when◌then◌else◌, ◌=?◌, by_test}
use Rattle.machine.specs.Terms.{sleeping, media, context}
use Rattle.starting.specs.Reaching.{found_at}
use Rattle.starting.specs.declared.start.Found.{Found}

module _ (type state : ℕ) where
  pub found_awake : (state ≡ sleeping → ⊥) → None ≡ found_at type state
  unfolding when◌then◌else◌ found_at
  found_awake a = rw (ne_eqb _ _ a)

  pub found_media : state ≡ sleeping → type ≡ media → Some Found.Media ≡ found_at type state
  unfolding when◌then◌else◌ found_at
  found_media s m = rw (eq-eqb _ _ s, eq-eqb _ _ m)

  pub found_context : state ≡ sleeping → (type ≡ media → ⊥) → type ≡ context → Some Found.Context ≡ found_at type state
  unfolding when◌then◌else◌ found_at
  found_context s m c = rw (eq-eqb _ _ s, ne_eqb _ _ m, eq-eqb _ _ c)

  pub found_switch : state ≡ sleeping → (type ≡ media → ⊥) → (type ≡ context → ⊥) → Some Found.Switch ≡ found_at type state
  unfolding when◌then◌else◌ found_at
  found_switch s m c = rw (eq-eqb _ _ s, ne_eqb _ _ m, ne_eqb _ _ c)

  -- and a media that is found sleeps
  pub media_sleeps : Some Found.Media ≡ found_at type state → state ≡ sleeping
  unfolding when◌then◌else◌ found_at
  media_sleeps e = by_test (state =? sleeping) (λ q. eqb-true _ _ q) (λ q. absurd (none-some _ (sym (e ∙ rw q))))
