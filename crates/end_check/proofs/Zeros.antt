-- Zeros to a table's end: in a loop that joins the tests of the entries, and entry by entry.
use Rattle.std.specs.Prelude.{Bool, true, ◌&&◌, List, [], ◌∷◌, ◌≡◌, refl, ℕ, zero, suc, ◌+◌, ◌<◌, ◌≤◌, length, get_or, drop}
use Rattle.std.proofs.Math.Bool.{and_assoc, and-true}
use Rattle.std.proofs.Math.ListN.{drop_of_length-le}
use Rattle.std.proofs.lemmas.List.{drop_more}
use Rattle.base.specs.Tests.{both_pass, pass_both}
use Rattle.machine.specs.Broken.{all}

-- one turn of the loop, and its end
module _ {A : Type 0} (test : A → Bool) (l : List A) (i : ℕ) (b : Bool) {x : Bool} (e : (b && all test (drop i l)) ≡ x) where
  pub zeros_more : (z : A) → i < length l → (b && test (get_or l i z) && all test (drop (i + 1) l)) ≡ x
  unfolding all
  zeros_more z h = rw and_assoc (rw (drop_more l i z h) at e)

  pub zeros_done : length l ≤ i → b ≡ x
  unfolding all
  zeros_done h = rw (drop_of_length-le l h, and-true) at e

module _ {A : Type 0} (test : A → Bool) (z : A) where
  pub all_each : test z ≡ true → (l : List A) → all test l ≡ true → (i : ℕ) → test (get_or l i z) ≡ true
  unfolding all
  all_each t [] e i = t
  all_each t (x ∷ xs) e zero = (both_pass (test x) (all test xs) e).0
  all_each t (x ∷ xs) e (suc i) = all_each t xs (both_pass (test x) (all test xs) e).1 i

  pub each_all : (l : List A) → ((i : ℕ) → test (get_or l i z) ≡ true) → all test l ≡ true
  unfolding all
  each_all [] h = refl
  each_all (x ∷ xs) h = pass_both (test x) (all test xs) (h 0) (each_all xs (λ i. h (suc i)))
