-- What the library's `any` and `all` over the ids below an end give is `some` and `every`.
use Rattle.std.specs.Prelude.{◌≡◌, ℕ, zero, suc, ◌+◌, Bool, ◌&&◌, ◌||◌, ⊤}
use Rattle.std.specs.List.{list_any, list_all, range_with_len}
use Rattle.std.specs.Fn.{Called}
use Rattle.std.specs.Iterator.{ChecksAny, ChecksAll}
use Rattle.std.specs.declared.ops.Range.{Range}
use Rattle.std.proofs.Common.{sym, ◌∙◌, refl, arith, add-one, add-zero}
use Rattle.std.proofs.Math.Bool.{or-false, or_assoc, and-true, and_assoc}
use Rattle.std.proofs.Math.Nat.{zero-add, sub-zero}
use Rattle.std.proofs.iter.Yields.{nat_range_steps}
use Rattle.std.proofs.lemmas.Iterator.{YieldsList-from_range}
use Rattle.std.proofs.lemmas.Iterator.Search.{any_from_yields_List, all_from_yields_List}
use Rattle.base.specs.Loops.{some, every}
use denote.Param.Members.{Mut}

module _ (test : ℕ → Bool) where
  some_joined : (a n : ℕ) → some test (a + n) ≡ (some test a || list_any test (range_with_len a n))
  unfolding some
  some_joined a zero = rw (add-zero, or-false)
  some_joined a (suc n) =
      let e : a + suc n ≡ a + 1 + n = omega arith in
      rw (e, some_joined (a + 1) n, add-one) (or_assoc (some test a) (test a) (list_any test (range_with_len (suc a) n)))

  some_below : (n : ℕ) → list_any test (range_with_len 0 n) ≡ some test n
  unfolding some
  some_below n = sym (rw zero-add at (some_joined 0 n))

  every_joined : (a n : ℕ) → every test (a + n) ≡ (every test a && list_all test (range_with_len a n))
  unfolding every
  every_joined a zero = rw (add-zero, and-true)
  every_joined a (suc n) =
      let e : a + suc n ≡ a + 1 + n = omega arith in
      rw (e, every_joined (a + 1) n, add-one) (and_assoc (every test a) (test a) (list_all test (range_with_len (suc a) n)))

  every_below : (n : ℕ) → list_all test (range_with_len 0 n) ≡ every test n
  unfolding every
  every_below n = sym (rw zero-add at (every_joined 0 n))

  -- of a closure that answers the test and stays as it was
  module _ {F : Type 0} {g : Mut F (ℕ × ⊤) Bool} (n : ℕ) {u : Range ℕ} {f : F} {r : Bool} where
    pub any_some : ChecksAny nat_range_steps g (record { start = 0; end = n }) f r u
        → ((i : ℕ) (b : Bool) (h : F) → Called g f (i, tt) b h → (h ≡ f) × (b ≡ test i)) → r ≡ some test n
    any_some ran calls = any_from_yields_List test _ _ _ ran (YieldsList-from_range 0 n n refl (sub-zero n)) calls ∙ some_below n

    pub all_every : ChecksAll nat_range_steps g (record { start = 0; end = n }) f r u
        → ((i : ℕ) (b : Bool) (h : F) → Called g f (i, tt) b h → (h ≡ f) × (b ≡ test i)) → r ≡ every test n
    all_every ran calls = all_from_yields_List test _ _ _ ran (YieldsList-from_range 0 n n refl (sub-zero n)) calls ∙ every_below n
