-- Laws of the way up from a node.
use mathlib.Core.Path.{◌≡◌, refl, sym, ◌∙◌}
use Prim.Native.Nat.{ℕ, zero, suc, ◌≤◌, ◌<◌}
use native.Mathlib.Omega.{arith}
use borrow.Author.Tests.{lt-ltb, le-ltb, ltb-true}
use lib.Dec.{eqb, ltb}
use Rattle.base.specs.Tests.{when◌then◌else◌, by_test}
use Rattle.machine.specs.Tables.{parent_of}
use Rattle.machine.specs.Events.{leads_to}
use Rattle.machine.specs.Sound.{SoundNodes}
use Rattle.machine.specs.declared.Nodes.{Nodes}

module _ (nodes : Nodes) (target : ℕ) where
  -- at the target or before it no step is taken
  pub leads_end : (steps k : ℕ) → k ≤ target → leads_to nodes target steps k ≡ eqb k target
  unfolding leads_to when◌then◌else◌
  leads_end zero k h = refl
  leads_end (suc steps) k h = rw (le-ltb target k h)

  module _ (sound : SoundNodes nodes) where
    -- more steps than the id change nothing
    leads_steps : (f g k : ℕ) → k < nodes.count → k ≤ f → k ≤ g → leads_to nodes target f k ≡ leads_to nodes target g k
    unfolding leads_to when◌then◌else◌
    leads_steps zero g k b hf hg = leads_end zero k (omega arith) ∙ sym (leads_end g k (omega arith))
    leads_steps (suc f) zero k b hf hg = leads_end (suc f) k (omega arith) ∙ sym (leads_end zero k (omega arith))
    leads_steps (suc f) (suc g) k b hf hg =
        by_test (ltb target k)
        (λ h.
        let p : parent_of nodes k < k = sound.earlier k (omega (arith, ltb-true target k h)) b in
        rw h (leads_steps f g (parent_of nodes k) (omega arith) (omega arith) (omega arith)))
        (λ h. rw h)

    -- one step up
    pub leads_more : (k : ℕ) → k < nodes.count → target < k → leads_to nodes target k k ≡ leads_to nodes target (parent_of nodes k) (parent_of nodes k)
    unfolding leads_to when◌then◌else◌
    leads_more zero b h = elim h [ ]
    leads_more (suc k) b h =
        let p : parent_of nodes (suc k) < suc k = sound.earlier (suc k) (omega arith) b in
        rw (lt-ltb target (suc k) h) (leads_steps k (parent_of nodes (suc k)) (parent_of nodes (suc k)) (omega arith) (omega arith) (omega arith))
