-- Laws of the children that switches find.
use mathlib.Core.Path.{◌≡◌, ◌∙◌}
use mathlib.Core.Bool.{Bool, ◌&&◌, and-false}
use mathlib.Core.List.{List}
use Prim.Native.Nat.{ℕ, suc, ◌+◌, ◌-◌, ◌≤◌, ◌<◌}
use native.Mathlib.Nat.{sub-zero}
use native.Mathlib.Omega.{arith}
use borrow.Author.Tests.{eqb-true, eqb-false, lt-ltb, le-ltb}
use lib.IntN.{ℤ}
use lib.ListN.{length, length-set, get_or, set}
use Rattle.base.specs.Tests.{when◌then◌else◌, by_test, ◌=?◌, ◌<?◌}
use Rattle.base.specs.Loops.{first}
use Rattle.machine.specs.Terms.{no_id}
use Rattle.machine.specs.Tables.{bind_at}
use Rattle.machine.specs.Records.{is_default}
use Rattle.machine.specs.Events.{bind_holds, found_bind}
use Rattle.machine.specs.Sound.{Sound, SoundRules}
use Rattle.machine.specs.declared.Rules.{Rules}
use Rattle.machine.specs.declared.Binds.{Binds}
use Rattle.machine.specs.declared.Document.{Document}
use Rattle.rules.specs.declared.KnownRules.{KnownRules}
use Rattle.rules.specs.Memo.{KnownIn}
use Rattle.rules.proofs.Facts.{decided_right}
use Rattle.machine.proofs.Effects.{get_d_set}
use Rattle.choosing.specs.Choosing.{child_found, child_from, Chosen, no_child, FoundChildren, SoundBinds, BindDecided}

-- ---- a sweep from the last bind on: before it, and one bind more, which is of one switch alone

module _ (binds : Binds) (test : ℕ → ℕ → Bool) (other : ℕ → ℕ) where
  pub chosen_end : (xs : List ℕ) → length xs ≡ 64 → ((n : ℕ) → n < 64 → get_or xs n 0 ≡ other n) → Chosen binds test other binds.count xs
  unfolding child_from first when◌then◌else◌
  chosen_end xs places same =
      let e : binds.count - binds.count ≡ 0 = omega arith in
      record { places = places; child = λ n h. same n h ∙ rw (e, le-ltb binds.count binds.count (omega arith)) }

  pub chosen_more : (k : ℕ) (passes : Bool) (xs ys : List ℕ) → 0 < k → k ≤ binds.count → (bind_at binds (k - 1)).switch < 64
      → ((n : ℕ) → test n (k - 1) ≡ ((bind_at binds (k - 1)).switch =? n && passes))
      → ys ≡ (when passes then set xs (bind_at binds (k - 1)).switch (bind_at binds (k - 1)).child else xs)
      → Chosen binds test other k xs → Chosen binds test other (k - 1) ys
  unfolding child_from first when◌then◌else◌
  chosen_more k passes xs ys some h low own is c =
      let switch = (bind_at binds (k - 1)).switch in
      let child = (bind_at binds (k - 1)).child in
      let left : binds.count - (k - 1) ≡ suc (binds.count - k) = omega arith in
      let next : k - 1 + 1 ≡ k = omega arith in
      rw is
      (by_test passes
      (λ p. rw p
      (record {
        places = length-set xs switch child ∙ c.places;
        child = λ n l.
            get_d_set xs switch n child 0 (omega (arith, c.places))
            ∙ rw (left, own n, next, p) (by_test (switch =? n) (λ e. rw (e, lt-ltb (k - 1) binds.count (omega arith))) (λ e. rw e (c.child n l)));
      }))
      (λ p. rw p (record { places = c.places; child = λ n l. c.child n l ∙ rw (left, own n, next, p, and-false) })))

-- ---- the first bind whose rule holds, else the default

unfoldable pub default_child : Binds → ℕ → ℕ
default_child binds n = child_from binds (is_default binds n) 0 0

module _ (binds : Binds) (rules : Rules) (values : List ℤ) where
  pub default_chosen : (xs : List ℕ) → Chosen binds (is_default binds) no_child 0 xs → Chosen binds (bind_holds binds rules values) (default_child binds) binds.count xs
  unfolding default_child
  default_chosen xs c = chosen_end binds (bind_holds binds rules values) (default_child binds) xs c.places c.child

  -- bind b was decided: whether it is of a switch and holds, and what is known then
  module _ (sound : SoundRules 32 rules) (b : ℕ) (below : ((bind_at binds b).rule ≡ no_id → ⊥) → (bind_at binds b).rule < rules.count)
      {k after : KnownRules} {holds : Bool} (known : KnownIn k rules values) (decided : BindDecided k (bind_at binds b).rule holds after) where
    pub bind_decided : ((n : ℕ) → bind_holds binds rules values n b ≡ ((bind_at binds b).switch =? n && holds)) × KnownIn after rules values
    unfolding bind_holds
    bind_decided =
        by_test ((bind_at binds b).rule =? no_id)
        (λ e.
        let none = decided.default (eqb-true _ _ e) in
        (λ n. rw (none.0, e) (by_test ((bind_at binds b).switch =? n) (λ q. rw q) (λ q. rw q)), rw none.1 known))
        (λ e.
        let one = eqb-false _ _ e in
        let right = decided_right sound known (below one) (decided.ruled one) in
        (λ n. rw (right.0, e) (by_test ((bind_at binds b).switch =? n) (λ q. rw q) (λ q. rw q)), right.1))

  pub found_children : (xs : List ℕ) → Chosen binds (bind_holds binds rules values) (default_child binds) 0 xs → FoundChildren binds rules values xs
  unfolding child_from child_found found_bind default_child when◌then◌else◌
  found_children xs c = record {
    found = λ n h.
        let i = first (bind_holds binds rules values n) binds.count 0 in
        c.child n h ∙ rw sub-zero (by_test (i <? binds.count) (λ e. rw (e, e)) (λ e. rw e));
  }

pub sound_binds : {d : Document} → Sound d → SoundBinds d.binds d.rules
sound_binds s = record {
  low = record { few = s.binds; switch = λ b h. omega (arith, s.bind_later b h, s.bind_child b h, s.nodes.few) };
  rule = s.bind_rule;
}
