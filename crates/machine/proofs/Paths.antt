-- A test on the path up from a node, and a weaker one; so a path without a switch is chosen.
use Prim.Native.Nat.{ℕ, zero, suc, ◌<◌}
use native.Mathlib.Omega.{arith}
use mathlib.Core.Bool.{Bool, true}
use mathlib.Core.List.{List}
use mathlib.Core.Path.{◌≡◌, refl}
use borrow.Author.Tests.{eqb-false}
use Rattle.base.specs.Tests.{when◌then◌else◌, ◌=?◌, by_test, both_pass, pass_both}
use Rattle.machine.specs.Tables.{parent_of}
use Rattle.machine.specs.Owners.{each_up, is_chosen, outside_switches, path_chosen}
use Rattle.machine.specs.declared.Nodes.{Nodes}

-- what a test passes on the path, one that is weaker on all nodes but 0 does
pub weaker_up : (nodes : Nodes) (test other : ℕ → Bool) → ((n : ℕ) → 0 < n → test n ≡ true → other n ≡ true) → (steps n : ℕ) → each_up nodes test steps n ≡ true → each_up nodes other steps n ≡ true
unfolding each_up when◌then◌else◌
weaker_up nodes test other weaker zero n e = refl
weaker_up nodes test other weaker (suc steps) n e =
    by_test (n =? 0) (λ z. rw z)
    (λ z.
    let p = both_pass (test n) _ (rw z at e) in
    rw z (pass_both _ _ (weaker n (omega (arith, eqb-false n 0 z)) p.0) (weaker_up nodes test other weaker steps (parent_of nodes n) p.1)))

-- where no switch lies above, the path is chosen, whatever the choices
pub outside_chosen : (nodes : Nodes) (n : ℕ) → outside_switches nodes n ≡ true → (choices : List ℕ) → path_chosen nodes choices n ≡ true
unfolding outside_switches path_chosen is_chosen
outside_chosen nodes n e choices = weaker_up nodes _ _ (λ k _ o. rw o) n n e
